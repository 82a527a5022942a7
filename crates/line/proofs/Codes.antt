-- How many codes a module of a catalogue has, and none where there is no module. Assumes nothing.
use Rattle.std.proofs.Common.{◌≡◌, ℕ, zero, suc, false, ltb, Bool, [], ◌∷◌, Some, None, Option, MatchOption, sym, ap, ◌∙◌, arith}
use Rattle.std.proofs.lemmas.Bool.{le-ltb}
use Rattle.std.specs.Option.{option_map}
use Rattle.action.specs.Lists.{nth}
use Rattle.catalogue.specs.Catalogue.{Catalogue, codes, module_in}

pub codes_some : (ms : Catalogue) (k n : ℕ) → Some n ≡ option_map codes (nth ms k) → n ≡ codes (module_in ms k)
codes_some [] k n e = let z : ◌≡◌ {A = ℕ} 0 1 = cc in absurd (omega arith)
codes_some (m ∷ ms) zero n e = cc
codes_some (m ∷ ms) (suc k) n e = codes_some ms k n e

pub codes_none : (ms : Catalogue) (k c : ℕ) → None ≡ option_map codes (nth ms k) → false ≡ ltb c (codes (module_in ms k))
codes_none [] k c e = sym (le-ltb c 0 (omega arith))
codes_none (m ∷ ms) zero c e = let z : ◌≡◌ {A = ℕ} 0 1 = cc in absurd (omega arith)
codes_none (m ∷ ms) (suc k) c e = codes_none ms k c e

-- the test of a code against a number of codes that is asked for
pub code_told : (ms : Catalogue) (k c : ℕ) (o : Option ℕ) (r : Bool) → o ≡ option_map codes (nth ms k) → MatchOption o (r ≡ false) (λ n. r ≡ ltb c n) → r ≡ ltb c (codes (module_in ms k))
code_told ms k c None r e m = m ∙ codes_none ms k c e
code_told ms k c (Some n) r e m = m ∙ ap (λ x. ltb c x) (codes_some ms k n e)
