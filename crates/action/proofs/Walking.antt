-- Steps of a walk over a set. Assumes nothing.
use Rattle.std.proofs.Common.{◌≡◌, ℕ, zero, suc, ◌+◌, ◌-◌, ◌<◌, ◌≤◌, Bool, true, false, leb, List, [], ◌∷◌, ℤ, pos, negsuc, ◌-ℤ◌, sym, refl, ap, ◌∙◌, arith}
use Rattle.std.proofs.lemmas.Bool.{leb-true, leb-false}
use Rattle.std.proofs.lemmas.Int.{ints}
use Rattle.action.specs.declared.set.ActionSet.{ActionSet}
use Rattle.action.specs.Lists.{kept}
use Rattle.action.specs.Sets.{has, signed, rising}

abbrev pub from : ActionSet → ℕ → List ℤ
from s k = kept (has s) (rising (63 - k) k)

-- the action of the next bit is held, or it is passed over
pub from_held : (s : ActionSet) (k j : ℕ) (a : ℤ) → k < 63 → j ≡ suc k → a ≡ signed k → has s a ≡ true → from s k ≡ a ∷ from s j
from_held s k j a h p e t = go (63 - k) (omega arith)
  where
    held : (n : ℕ) (b : Bool) → has s (signed k) ≡ b → b ≡ true → n ≡ 63 - j → ◌≡◌ {A = List ℤ} (elim b [ true ↦ signed k ∷ kept (has s) (rising n (suc k)) | false ↦ kept (has s) (rising n (suc k)) ]) (a ∷ from s j)
    held n true q u m = ap (λ (x : ℤ). x ∷ kept (has s) (rising n (suc k))) (sym e) ∙ ap (λ (x : ℕ). a ∷ kept (has s) (rising x (suc k))) m ∙ ap (λ (x : ℕ). a ∷ kept (has s) (rising (63 - j) x)) (sym p)
    held n false q u m = let z : ◌≡◌ {A = ℕ} 0 1 = cc in absurd (omega arith)

    go : (n : ℕ) → n ≡ suc (62 - k) → kept (has s) (rising n k) ≡ a ∷ from s j
    go zero m = absurd (omega arith)
    go (suc n) m = held n (has s (signed k)) refl (ap (has s) (sym e) ∙ t) (omega arith)

pub from_passed : (s : ActionSet) (k j : ℕ) (a : ℤ) → k < 63 → j ≡ suc k → a ≡ signed k → has s a ≡ false → from s k ≡ from s j
from_passed s k j a h p e t = go (63 - k) (omega arith)
  where
    passed : (n : ℕ) (b : Bool) → has s (signed k) ≡ b → b ≡ false → n ≡ 63 - j → ◌≡◌ {A = List ℤ} (elim b [ true ↦ signed k ∷ kept (has s) (rising n (suc k)) | false ↦ kept (has s) (rising n (suc k)) ]) (from s j)
    passed n true q u m = let z : ◌≡◌ {A = ℕ} 0 1 = cc in absurd (omega arith)
    passed n false q u m = ap (λ (x : ℕ). kept (has s) (rising x (suc k))) m ∙ ap (λ (x : ℕ). kept (has s) (rising (63 - j) x)) (sym p)

    go : (n : ℕ) → n ≡ suc (62 - k) → kept (has s) (rising n k) ≡ from s j
    go zero m = absurd (omega arith)
    go (suc n) m = passed n (has s (signed k)) refl (ap (has s) (sym e) ∙ t) (omega arith)

pub from_end : (s : ActionSet) (k : ℕ) → 63 ≤ k → from s k ≡ []
from_end s k h = ap (λ (n : ℕ). kept (has s) (rising n k)) none
  where
    none : 63 - k ≡ 0
    none = omega arith

-- what is not held is passed over, up to a bit; up to the end
pub skipped : (s : ActionSet) (n k : ℕ) → k + n ≤ 63 → ((i : ℕ) → k ≤ i → i < k + n → has s (signed i) ≡ false) → from s k ≡ from s (k + n)
skipped s zero k b f = ap (from s) (omega arith)
skipped s (suc n) k b f =
    let step : from s k ≡ from s (suc k) = from_passed s k (suc k) (signed k) (omega (arith, b)) refl refl (f k (omega arith) (omega arith)) in
    let more : from s (suc k) ≡ from s (suc k + n) = skipped s n (suc k) (omega (arith, b)) (λ i l h. f i (omega (arith, l)) (omega (arith, h))) in
    step ∙ more ∙ ap (from s) (omega arith)

pub none_left : (s : ActionSet) (n k : ℕ) → n ≡ 63 - k → ((i : ℕ) → k ≤ i → i < 63 → has s (signed i) ≡ false) → from s k ≡ []
none_left s zero k e f = from_end s k (omega (arith, e))
none_left s (suc n) k e f =
    from_passed s k (suc k) (signed k) (omega (arith, e)) refl refl (f k (omega arith) (omega (arith, e)))
    ∙ none_left s n (suc k) (omega (arith, e)) (λ i l h. f i (omega (arith, l)) h)
