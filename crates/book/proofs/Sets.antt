-- Sets of actions from what the operations say of their members. Assumes nothing.
use Rattle.std.proofs.Common.{◌≡◌, Bool, true, false, ◌&&◌, ◌||◌, ◌⊎◌, ℤ, sym, refl, ap, ◌∙◌, inl, inr}
use Rattle.std.proofs.lemmas.Bool.{cases_Bool}
use Rattle.action.specs.declared.set.ActionSet.{ActionSet}
use Rattle.action.specs.Action.{is_action, same}
use Rattle.action.specs.Sets.{has, set_of}
use Rattle.action.proofs.Basics.{T_true}
use Rattle.action.proofs.Sets.{and_false, same_eq, set_of_has, set_ext}

module _ (f : ℤ → Bool) (s : ActionSet) where
  set_is : ((a : ℤ) → has s a ≡ (is_action a && f a)) → s ≡ set_of f
  set_is h = set_ext s (set_of f) (λ a. h a ∙ sym (set_of_has f a))

  pub empty_is : ((a : ℤ) → has s a ≡ false) → ((a : ℤ) → f a ≡ false) → s ≡ set_of f
  empty_is h q = set_is (λ a. h a ∙ sym (ap (λ b. is_action a && b) (q a) ∙ and_false (is_action a)))

  pub only_is : (b : ℤ) → ((a : ℤ) → has s a ≡ (is_action b && same b a)) → ((a : ℤ) → f a ≡ same b a) → s ≡ set_of f
  only_is b h q = set_is (λ a. h a ∙ turned a (cases_Bool (same b a)) ∙ ap (λ x. is_action a && x) (sym (q a)))
    where
      turned : (a : ℤ) → (same b a ≡ true) ⊎ (same b a ≡ false) → (is_action b && same b a) ≡ (is_action a && same b a)
      turned a (inl t) = ap (λ x. is_action x && same b a) (same_eq b a (T_true (same b a) t))
      turned a (inr t) = ap (λ x. is_action b && x) t ∙ and_false (is_action b) ∙ sym (ap (λ x. is_action a && x) t ∙ and_false (is_action a))

  pub union_is : (g h : ℤ → Bool) (t u : ActionSet) → t ≡ set_of g → u ≡ set_of h → ((a : ℤ) → has s a ≡ (has t a || has u a)) → ((a : ℤ) → f a ≡ (g a || h a)) → s ≡ set_of f
  union_is g h t u p q e k = set_is (λ a. e a ∙ ap (λ x. has x a || has u a) p ∙ ap (λ x. has (set_of g) a || has x a) q ∙ ap (λ x. x || has (set_of h) a) (set_of_has g a) ∙ ap (λ x. (is_action a && g a) || x) (set_of_has h a) ∙ shared (is_action a) (g a) (h a) ∙ ap (λ x. is_action a && x) (sym (k a)))
    where
      shared : (a b c : Bool) → ((a && b) || (a && c)) ≡ (a && (b || c))
      shared true b c = refl
      shared false b c = refl

pub alike : (f g : ℤ → Bool) → ((a : ℤ) → f a ≡ g a) → set_of f ≡ set_of g
alike f g h = set_ext (set_of f) (set_of g) (λ a. set_of_has f a ∙ ap (λ b. is_action a && b) (h a) ∙ sym (set_of_has g a))
