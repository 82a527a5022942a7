-- A catalogue that keeps the laws, and a line that can be drawn from it. Assumes nothing.
use Rattle.std.proofs.Common.{◌≡◌, ℕ, zero, suc, ◌<◌, ◌≤◌, true, not, T, [], ◌∷◌, length, ℤ, pos, nat_abs, is_some, Some, None, sym, refl, ap, subst, inl, inr, arith}
use Rattle.action.specs.Lists.{◌∈◌}
use Rattle.action.specs.Action.{internal, last_port, same}
use Rattle.action.specs.Sets.{has, packed, set_of, ◌∋◌}
use Rattle.action.proofs.Sets.{same_eq, set_passes, none_has}
use Rattle.renaming.specs.Renaming.{first_wrong, first_shared}
use Rattle.renaming.specs.Faults.{fault}
use Rattle.catalogue.specs.declared.Move.{Move}
use Rattle.catalogue.specs.Catalogue.{Sound, Module, codes, state, module_in, move, most_moves}
use Rattle.line_rules.specs.Drawing.{slot_fault, draw_fault}
use Rattle.line_rules.specs.Cases.{small_shop, plain, CanBeMet}
use Rattle.line_rules.proofs.Drawn.{plan_drawn}

abbrev m₀ : Module
m₀ = module_in small_shop 0

calm : not (has (set_of (same (pos 1))) internal) ≡ true
unfolding has packed set_of
calm = refl

moves_few : (c : ℕ) → length (state m₀ c).moves ≤ most_moves
moves_few zero = omega arith
moves_few (suc c) = omega arith

near : (c : ℕ) (s : Move) → s ∈ (state m₀ c).moves → nat_abs s.action ≤ last_port
near zero s (inl e) = subst (λ (x : Move). nat_abs x.action ≤ last_port) (sym e) (omega arith)
near zero s (inr i) = absurd i
near (suc c) s i = absurd i

lead : (c : ℕ) (s : Move) → s ∈ (state m₀ c).moves → s.target < codes m₀
lead zero s (inl e) = subst (λ (x : Move). x.target < codes m₀) (sym e) (omega arith)
lead zero s (inr i) = absurd i
lead (suc c) s i = absurd i

pass : (c d : ℕ) → (state m₀ c).tick ≡ Some d → d < codes m₀
pass zero d e = let q : 0 ≡ d = cc in omega arith
pass (suc c) d e = let q : ◌≡◌ {A = ℕ} 0 1 = cc in absurd (omega arith)

tick : (c : ℕ) → c < codes m₀ → is_some (state m₀ c).tick ≡ not (has (state m₀ c).urgent internal)
tick zero l = sym calm
tick (suc c) l = absurd (omega arith)

offer : (c : ℕ) (a : ℤ) → (state m₀ c).urgent ∋ a → (d : ℕ) × (move a d ∈ (state m₀ c).moves)
offer zero a u = (0, inl (ap (λ x. move x 0) (sym (same_eq (pos 1) a (set_passes (same (pos 1)) a u)))))
offer (suc c) a u = absurd (subst T (none_has a) u)

sound : (k : ℕ) → k < length small_shop → Sound (module_in small_shop k)
sound zero h = record { some_code = omega arith; few_codes = omega arith; few_moves = moves_few; ported = near; starts = omega arith; leads = lead; passes = pass; ticks = tick; offers = offer }
sound (suc k) h = absurd (omega arith)

no_fault : draw_fault small_shop (plain 0 ∷ []) [] ≡ None
unfolding first_wrong first_shared fault slot_fault draw_fault
no_fault = refl

pub can_be_met : CanBeMet
can_be_met = record { laws = record { few = omega arith; sound = sound }; fault = no_fault; line = plan_drawn small_shop (plain 0 ∷ []) [] no_fault }
