-- Laws of renamings: what becomes of an action, and which actions are in the image of a set. Nothing here asks for
-- different ports to stay different. Assumes nothing.
use Rattle.std.proofs.Common.{◌≡◌, ℕ, zero, suc, ◌+◌, ◌<◌, ◌≤◌, Bool, true, false, not, ◌&&◌, ◌||◌, T, eqb, ◌≢◌, ◌⊎◌, ◌↔◌, List, [], ◌∷◌, length, get_or, ℤ, pos, negsuc, neg_ℤ, nat_abs, sym, refl, ap, ◌∙◌, subst, inl, inr, arith, eqb→eq, leb→le, T_not, w8, SFits, to_z, of_z}
use Rattle.std.proofs.lemmas.Int.{to_z-of_z}
use Rattle.std.proofs.lemmas.List.{get_or_past, ext_get_or}
use Rattle.std.specs.Option.{unwrap_or}
use Rattle.std.proofs.lemmas.Option.{unwrap_or-slice_get}
use Rattle.std.proofs.lemmas.Bool.{cases_lt}
use Rattle.action.specs.Lists.{all, any, kept}
use Rattle.action.specs.Action.{internal, last_port, is_action, same}
use Rattle.action.specs.declared.set.ActionSet.{ActionSet}
use Rattle.action.specs.Sets.{has, ◌∋◌, actions, no_actions, members}
use Rattle.action.proofs.Basics.{and_l, and_r, and_i, any_some, some_any, T_true}
use Rattle.action.proofs.Sets.{same_eq, same_refl, set_of_has, set_passes, passes_set, has_near, none_has, set_ext}
use Rattle.action.proofs.Relations.{both_true, in_actions}
use Rattle.renaming.specs.Renaming.{renamed, sent, image, is_signal, full, kept_from, each_to_itself}

-- ── entries ──

all_at : {A : Type 0} (f : A → Bool) (xs : List A) (n : ℕ) (d : A) → T (all f xs) → n < length xs → T (f (get_or xs n d))
all_at f [] n d h l = absurd (omega arith)
all_at f (x ∷ xs) zero d h l = and_l (f x) (all f xs) h
all_at f (x ∷ xs) (suc n) d h l = all_at f xs n d (and_r (f x) (all f xs) h) (omega arith)

pub signal_is : (a : ℤ) → T (is_signal a) → (a ≢ internal) × (nat_abs a ≤ last_port)
signal_is a h = ((λ e. T_not (same a internal) (and_l (not (same a internal)) (is_action a) h) (subst (λ x. T (same x internal)) (sym e) tt)), leb→le (nat_abs a) last_port (and_r (not (same a internal)) (is_action a) h))

pub full_length : (f : List ℤ) → full f ≡ true → length f ≡ last_port
full_length f e = eqb→eq (length f) last_port (and_l (eqb (length f) last_port) (all is_signal f) (T_true (full f) e))

pub full_signal : (f : List ℤ) → full f ≡ true → (n : ℕ) → n < last_port → (get_or f n internal ≢ internal) × (nat_abs (get_or f n internal) ≤ last_port)
full_signal f e n l = signal_is (get_or f n internal) (all_at is_signal f n internal (and_r (eqb (length f) last_port) (all is_signal f) (T_true (full f) e)) (omega (arith, full_length f e)))

pub entry_near : (f : List ℤ) → full f ≡ true → (n : ℕ) → nat_abs (get_or f n internal) ≤ last_port
entry_near f e n = go (cases_lt n last_port)
  where
    go : (n < last_port) ⊎ (last_port ≤ n) → nat_abs (get_or f n internal) ≤ last_port
    go (inl l) = (full_signal f e n l).1
    go (inr l) = let past : nat_abs (get_or f n internal) ≡ 0 = ap nat_abs (get_or_past f n internal (omega (arith, full_length f e))) in omega arith

-- what a port is sent to
pub sent_or : (f : List ℤ) (n : ℕ) → unwrap_or (sent f n) internal ≡ renamed f (pos n)
sent_or f zero = refl
sent_or f (suc n) = unwrap_or-slice_get f n internal

-- ── actions ──

pub neg_abs : (a : ℤ) → nat_abs (neg_ℤ a) ≡ nat_abs a
neg_abs (pos zero) = refl
neg_abs (pos (suc n)) = refl
neg_abs (negsuc n) = refl

neg_neg : (a : ℤ) → neg_ℤ (neg_ℤ a) ≡ a
neg_neg (pos zero) = refl
neg_neg (pos (suc n)) = refl
neg_neg (negsuc n) = refl

neg_internal : (a : ℤ) → neg_ℤ a ≡ internal → a ≡ internal
neg_internal a e = sym (neg_neg a) ∙ ap neg_ℤ e

pub renamed_near : (f : List ℤ) → full f ≡ true → (a : ℤ) → nat_abs (renamed f a) ≤ last_port
renamed_near f e (pos zero) = omega arith
renamed_near f e (pos (suc n)) = entry_near f e n
renamed_near f e (negsuc n) = omega (arith, neg_abs (get_or f n internal), entry_near f e n)

-- a number and what it becomes, as the code holds them
pub told_renamed : (f : List ℤ) (b r : ℤ) → SFits w8 b → SFits w8 r → r ≡ renamed f (to_z w8 (of_z w8 b)) → to_z w8 (of_z w8 r) ≡ renamed f b
told_renamed f b r p q e = to_z-of_z w8 r q ∙ e ∙ ap (renamed f) (to_z-of_z w8 b p)

-- only the internal event becomes internal
pub renamed_internal : (f : List ℤ) → full f ≡ true → (a : ℤ) → nat_abs a ≤ last_port → (renamed f a ≡ internal) ↔ (a ≡ internal)
renamed_internal f e a h = (back a h, (λ p. ap (renamed f) p))
  where
    back : (b : ℤ) → nat_abs b ≤ last_port → renamed f b ≡ internal → b ≡ internal
    back (pos zero) l p = refl
    back (pos (suc n)) l p = absurd ((full_signal f e n (omega arith)).0 p)
    back (negsuc n) l p = absurd ((full_signal f e n (omega arith)).0 (neg_internal (get_or f n internal) p))

-- opposites become opposites
pub renamed_neg : (f : List ℤ) (a : ℤ) → renamed f (neg_ℤ a) ≡ neg_ℤ (renamed f a)
renamed_neg f (pos zero) = refl
renamed_neg f (pos (suc n)) = refl
renamed_neg f (negsuc n) = sym (neg_neg (get_or f n internal))

-- each port sent to itself
kept_at : (n k i : ℕ) → i < n → get_or (kept_from n k) i internal ≡ pos (k + i)
kept_at zero k i l = absurd (omega arith)
kept_at (suc n) k zero l = ap pos (omega arith)
kept_at (suc n) k (suc i) l = kept_at n (suc k) i (omega arith) ∙ ap pos (omega arith)

pub itself_made : (f : List ℤ) → length f ≡ last_port → ((k : ℕ) → k < last_port → get_or f k internal ≡ pos (k + 1)) → f ≡ each_to_itself
itself_made f l h = ext_get_or internal f each_to_itself l (λ k m. (let q : k + 1 ≡ 1 + k = omega arith in h k (omega (arith, l)) ∙ ap pos q ∙ sym (kept_at last_port 1 k (omega (arith, l)))))

pub itself_full : full each_to_itself ≡ true
itself_full = refl

-- ── images ──

abbrev becomes : List ℤ → ActionSet → ℤ → ℤ → Bool
becomes f s a b = has s b && same (renamed f b) a

pub image_has : (f : List ℤ) (s : ActionSet) (a : ℤ) → image f s ∋ a → (b : ℤ) × (s ∋ b) × (renamed f b ≡ a)
unfolding image
image_has f s a h =
    let w = any_some (becomes f s a) actions (set_passes (λ x. any (becomes f s x) actions) a h) in
    (w.0, and_l (has s w.0) (same (renamed f w.0) a) w.2, same_eq (renamed f w.0) a (and_r (has s w.0) (same (renamed f w.0) a) w.2))

pub has_image : (f : List ℤ) → full f ≡ true → (s : ActionSet) (b : ℤ) → s ∋ b → image f s ∋ renamed f b
unfolding image
has_image f e s b h =
    passes_set (λ x. any (becomes f s x) actions) (renamed f b) (renamed_near f e b)
    (some_any (becomes f s (renamed f b)) actions b (in_actions b (has_near s b h)) (and_i (has s b) (same (renamed f b) (renamed f b)) h (same_refl (renamed f b))))

pub image_means : (f : List ℤ) → full f ≡ true → (s : ActionSet) (a : ℤ) → (image f s ∋ a) ↔ ((b : ℤ) × (s ∋ b) × (renamed f b ≡ a))
image_means f e s a = (image_has f s a, (λ w. subst (λ x. image f s ∋ x) w.2 (has_image f e s w.0 w.1)))

pub image_internal : (f : List ℤ) → full f ≡ true → (s : ActionSet) → has (image f s) internal ≡ has s internal
image_internal f e s =
    both_true (has (image f s) internal) (has s internal)
    (λ h. (let w = image_has f s internal h in subst (λ b. T (has s b)) ((renamed_internal f e w.0 (has_near s w.0 w.1)).0 w.2) w.1))
    (λ h. has_image f e s internal h)

pub image_none : (f : List ℤ) → image f no_actions ≡ no_actions
image_none f = set_ext (image f no_actions) no_actions (λ a. both_true (has (image f no_actions) a) (has no_actions a) (λ h. absurd (none f a h)) (λ h. absurd (subst T (none_has a) h)))
  where
    none : (g : List ℤ) (a : ℤ) → image g no_actions ∋ a → ⊥
    none g a h = let w = image_has g no_actions a h in subst T (none_has w.0) w.1

-- ── the image, one action after another ──

-- a is in what was gathered, or comes of an action that is still to come
abbrev pub gathers : List ℤ → ActionSet → List ℤ → ℤ → Bool
gathers f out rest a = has out a || (is_action a && any (λ b. same (renamed f b) a) rest)

any_kept : {A : Type 0} (f g : A → Bool) (xs : List A) → any g (kept f xs) ≡ any (λ x. f x && g x) xs
any_kept f g [] = refl
any_kept f g (x ∷ xs) = go (f x) (any_kept f g xs)
  where
    go : (b : Bool) → any g (kept f xs) ≡ any (λ y. f y && g y) xs → any g (elim b [ true ↦ x ∷ kept f xs | false ↦ kept f xs ]) ≡ ((b && g x) || any (λ y. f y && g y) xs)
    go true e = ap (λ t. g x || t) e
    go false e = e

-- nothing was gathered yet
pub gathers_none : (f : List ℤ) (s out : ActionSet) → ((a : ℤ) → has out a ≡ false) → (a : ℤ) → gathers f out (members s) a ≡ has (image f s) a
unfolding image members
gathers_none f s out h a =
    ap (λ t. t || (is_action a && any (λ b. same (renamed f b) a) (kept (has s) actions))) (h a)
    ∙ ap (λ t. is_action a && t) (any_kept (has s) (λ b. same (renamed f b) a) actions)
    ∙ sym (set_of_has (λ x. any (becomes f s x) actions) a)

-- nothing is left
pub gathers_all : (f : List ℤ) (s out : ActionSet) → ((a : ℤ) → gathers f out [] a ≡ has (image f s) a) → out ≡ image f s
gathers_all f s out h = set_ext out (image f s) (λ a. sym (plain (has out a) (is_action a)) ∙ h a)
  where
    plain : (b c : Bool) → (b || (c && false)) ≡ b
    plain true c = refl
    plain false true = refl
    plain false false = refl
