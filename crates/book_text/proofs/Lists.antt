-- Parts of lists.
use Rattle.std.proofs.Common.{◌≡◌, ℕ, List, length, take, sym, ap, ◌∙◌, inl, inr, arith}
use Rattle.std.proofs.lemmas.List.{take_all, length-take-le}
use Rattle.std.proofs.lemmas.Bool.{cases_lt}

-- a front of its own length
pub front_again : {A : Type 0} (x ys : List A) (k : ℕ) → x ≡ take k ys → x ≡ take (length x) ys
front_again x ys k e =
    elim (cases_lt (length ys) k) [
      | inl h ↦ (let a = take_all k ys (omega arith) in let n = ap length (e ∙ a) in e ∙ a ∙ sym (take_all (length x) ys (omega arith)))
      | inr h ↦ (let n : length x ≡ k = ap length e ∙ length-take-le k ys h in e ∙ ap (λ (i : ℕ). take i ys) (sym n))
    ]
