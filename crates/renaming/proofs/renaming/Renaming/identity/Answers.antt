use Rattle.std.proofs.Common.{◌≡◌, true, List, ℤ, sym, subst, rules}
use Rattle.action.specs.Action.{internal}
use Rattle.renaming.specs.Renaming.{full}
use Rattle.renaming.proofs.Laws.{itself_full, itself_made}
use Rattle.renaming.proofs.renaming.Renaming.identity.Goals as goal

pub invariant_of-result : goal.invariant_of-result
invariant_of-result c = record { full = subst (λ (f : List ℤ). full f ≡ true) (sym (itself_made c.from_fn.result c.from_fn.ensures.items.long (λ k l. (let h = c.from_fn.ensures.items.at k internal l in search rules)))) itself_full }

pub returns-clause-value : goal.returns-clause-value
returns-clause-value c = itself_made c.from_fn.result c.from_fn.ensures.items.long (λ k l. (let h = c.from_fn.ensures.items.at k internal l in search rules))
