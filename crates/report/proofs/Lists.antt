-- Lists, asked by number and written one after the other. Assumes nothing.
use Rattle.std.proofs.Common.{◌≡◌, ℕ, zero, suc, ◌+◌, ◌<◌, ◌≤◌, List, [], ◌∷◌, ◌++◌, length, get_or, drop, codes as ascii, decimal, unwrap_or, sym, refl, ap, ◌∙◌, arith}
use Rattle.std.specs.Option.{option_map}
use Rattle.std.proofs.lemmas.List.{append_assoc, append-nil, drop_all}
use Rattle.action.specs.Lists.{nth}
use Rattle.report.specs.Text.{numbered, refused_line, fault_line}

module _ {A : Type 0} where
  pub drop_at : (xs : List A) (k : ℕ) (d : A) → k < length xs → drop k xs ≡ get_or xs k d ∷ drop (suc k) xs
  drop_at [] k d h = absurd (omega arith)
  drop_at (y ∷ ys) zero d h = refl
  drop_at (y ∷ ys) (suc k) d h = drop_at ys k d (omega arith)

  pub numbered_on : (f : ℕ → A → List ℕ) (xs : List A) (k : ℕ) (d : A) (out more z : List ℕ) → k < length xs → more ≡ out ++ f k (get_or xs k d) → out ++ numbered f k (drop k xs) ≡ z → more ++ numbered f (k + 1) (drop (k + 1) xs) ≡ z
  numbered_on f xs k d out more z l p h =
      let q : k + 1 ≡ suc k = omega arith in
      ap (λ j. more ++ numbered f j (drop j xs)) q ∙ ap (λ (w : List ℕ). w ++ numbered f (suc k) (drop (suc k) xs)) p
      ∙ append_assoc out (f k (get_or xs k d)) (numbered f (suc k) (drop (suc k) xs))
      ∙ ap (λ (w : List A). out ++ numbered f k w) (sym (drop_at xs k d l)) ∙ h

  pub numbered_end : (f : ℕ → A → List ℕ) (xs : List A) (k : ℕ) (out z : List ℕ) → length xs ≤ k → out ++ numbered f k (drop k xs) ≡ z → out ≡ z
  numbered_end f xs k out z l h = sym (append-nil out) ∙ ap (λ (w : List A). out ++ numbered f k w) (sym (drop_all k xs l)) ∙ h

-- what is asked of an element, or of what stands for one that is not there
pub asked : {A : Type 0} (f : A → ℕ) (xs : List A) (k : ℕ) (d : A) → unwrap_or (option_map f (nth xs k)) (f d) ≡ f (get_or xs k d)
asked f [] k d = refl
asked f (x ∷ xs) zero d = refl
asked f (x ∷ xs) (suc k) d = asked f xs k d

-- one piece after another
pub two : (a b s₀ s₁ s₂ : List ℕ) → s₁ ≡ s₀ ++ a → s₂ ≡ s₁ ++ b → s₂ ≡ s₀ ++ (a ++ b)
two a b s₀ s₁ s₂ p q = q ∙ ap (λ (z : List ℕ). z ++ b) p ∙ append_assoc s₀ a b

-- the line of a module, and what follows it
abbrev pub module_head : ℕ → ℕ → ℕ → List ℕ
module_head part n b = ascii "module " ++ (decimal part ++ (ascii ": codes " ++ (decimal n ++ (ascii ", start " ++ (decimal b ++ ascii "\n")))))

pub module_then : (part n b n' b' : ℕ) (r : List ℕ) → n ≡ n' → b ≡ b' → module_head part n b ++ r ≡ ascii "module " ++ (decimal part ++ (ascii ": codes " ++ (decimal n' ++ (ascii ", start " ++ (decimal b' ++ (ascii "\n" ++ r))))))
module_then part n b n' b' r p q = ap (λ k. module_head part k b ++ r) p ∙ ap (λ k. module_head part n' k ++ r) q ∙ simp append_assoc

-- a fault that prints as its number and its place
pub told_line : (name : List ℕ) (n k : ℕ) → refused_line name (decimal n ++ (ascii " " ++ decimal k)) ≡ fault_line name n k
told_line name n k = ap (λ (w : List ℕ). name ++ (ascii " " ++ w)) (append_assoc (decimal n) (ascii " " ++ decimal k) (ascii "\n") ∙ ap (λ (w : List ℕ). decimal n ++ w) (append_assoc (ascii " ") (decimal k) (ascii "\n")))
