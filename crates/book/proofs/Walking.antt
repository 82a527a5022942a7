-- What a walk finds at a place, from what it finds at the places that the place leads to. Assumes nothing.
use Rattle.std.proofs.Common.{◌≡◌, ℕ, zero, suc, ◌-◌, ◌<◌, ◌≤◌, min, Bool, true, false, ◌&&◌, ◌||◌, eqb, ◌⊎◌, inl, inr, List, [], ◌∷◌, ◌++◌, length, get_or, ℤ, None, sym, refl, ap, ◌∙◌, subst, arith, length-append}
use Rattle.std.specs.Bool.{then_some}
use Rattle.std.proofs.lemmas.Bool.{ne_eqb, or_from}
use Rattle.action.specs.declared.set.ActionSet.{ActionSet}
use Rattle.action.specs.Lists.{nth}
use Rattle.action.specs.Action.{is_action, same}
use Rattle.action.specs.Sets.{has}
use Rattle.catalogue.specs.Catalogue.{most_moves, move}
use Rattle.rows.specs.declared.row.Place.{Place}
use Rattle.rows.specs.declared.row.Place.TheVariants.{Nil, Act, Wait, Sum, Name}
use Rattle.rows.specs.Places.{ages, code, row, ends, moves_by, urgent_by, depth_of, moves_of, is_urgent, urgent_of}
use Rattle.rows.specs.Opening.{WellFormed}
use Rattle.rows.proofs.Fuel.{not_zero}
use Rattle.rows.proofs.Derived.{Nexts, nexts, moves_is, urgent_is}
use Rattle.trial.specs.declared.summary.Summary.{Summary}
use Rattle.trial.specs.Summaries.{unknown}
use Rattle.book.specs.Keeping.{Known}
use Rattle.book.proofs.Sets.{empty_is, only_is, union_is, alike}

nth_left : {A : Type 0} (xs ys : List A) (k : ℕ) → k < length xs → nth (xs ++ ys) k ≡ nth xs k
nth_left [] ys k l = absurd (omega arith)
nth_left (x ∷ xs) ys zero l = refl
nth_left (x ∷ xs) ys (suc k) l = nth_left xs ys k (omega arith)

nth_right : {A : Type 0} (xs ys : List A) (k : ℕ) → length xs ≤ k → nth (xs ++ ys) k ≡ nth ys (k - length xs)
nth_right [] ys k l = let e : k ≡ k - 0 = omega arith in ap (λ n. nth ys n) e
nth_right (x ∷ xs) ys zero l = absurd (omega arith)
nth_right (x ∷ xs) ys (suc k) l = let e : k - length xs ≡ suc k - suc (length xs) = omega arith in nth_right xs ys k (omega arith) ∙ ap (λ n. nth ys n) e

pub nth_past : {A : Type 0} (xs : List A) (k : ℕ) → length xs ≤ k → nth xs k ≡ None
nth_past [] k l = refl
nth_past (x ∷ xs) zero l = absurd (omega arith)
nth_past (x ∷ xs) (suc k) l = nth_past xs k (omega arith)

no_append : {A : Type 0} (xs ys : List A) → length (xs ++ ys) ≡ 0 → (length xs ≡ 0) × (length ys ≡ 0)
no_append xs ys e = (omega (arith, length-append xs ys), omega (arith, length-append xs ys))

-- ── the walk goes on ──

-- the least number up to n that passes a test, and n where none below it does
least : (ℕ → Bool) → ℕ → ℕ
least t zero = zero
least t (suc n) = elim (t zero) [ true ↦ zero | false ↦ suc (least (λ k. t (suc k)) n) ]

least_passes : (t : ℕ → Bool) (n : ℕ) → t n ≡ true → t (least t n) ≡ true
unfolding least
least_passes t zero h = h
least_passes t (suc n) h = go (t zero) refl (least_passes (λ k. t (suc k)) n h)
  where
    go : (b : Bool) → t zero ≡ b → t (suc (least (λ k. t (suc k)) n)) ≡ true → t (elim b [ true ↦ zero | false ↦ suc (least (λ k. t (suc k)) n) ]) ≡ true
    go true q r = q
    go false q r = r

least_first : (t : ℕ → Bool) (n k : ℕ) → t k ≡ true → least t n ≤ k
unfolding least
least_first t zero k h = omega arith
least_first t (suc n) zero h = rw (h, least) (omega arith)
least_first t (suc n) (suc k) h = go (t zero) (least_first (λ m. t (suc m)) n k h)
  where
    go : (b : Bool) → least (λ m. t (suc m)) n ≤ k → elim b [ true ↦ zero | false ↦ suc (least (λ m. t (suc m)) n) ] ≤ suc k
    go true r = omega arith
    go false r = omega arith

-- how many places a walk from place i goes through
pub left : List Place → ℕ → ℕ
left ps i = least (λ f. ends ps f i) (length ps)

module _ (ps : List Place) (ok : WellFormed ps) where
  pub next_of : (f i : ℕ) (p : Place) → i < length ps → ends ps f i ≡ true → row ps i ≡ p → Nexts ps ok (f - 1) p
  next_of zero i p l e q = absurd (not_zero ps i e)
  next_of (suc f) i p l e q =
      let z : f ≡ suc f - 1 = omega arith in
      subst (λ n. Nexts ps ok n p) z (subst (λ x. Nexts ps ok f x) q (nexts ps ok f i l e))

  -- a follower is a place, and less of the walk is left there
  abbrev pub Follows : ℕ → ℕ → Type 0
  Follows i j = (j < length ps) × (left ps j < left ps i)

  abbrev pub Followed : ℕ → Place → Type 0
  Followed i Nil = Unit {0}
  Followed i (Act a j) = Unit {0}
  Followed i (Wait j) = Follows i j
  Followed i (Sum m o) = Follows i m × Follows i o
  Followed i (Name j) = Follows i j

  pub followed : (i : ℕ) → i < length ps → Followed i (row ps i)
  unfolding left ends
  followed i l = go (left ps i) refl (least_passes (λ f. ends ps f i) (length ps) (ok.no_return i l))
    where
      go : (f : ℕ) → left ps i ≡ f → ends ps f i ≡ true → Followed i (row ps i)
      go zero q e = absurd (not_zero ps i e)
      go (suc f) q e = each (row ps i) (nexts ps ok f i l e)
        where
          one : (j : ℕ) → (j < length ps) × (ends ps f j ≡ true) → Follows i j
          one j h = let n = least_first (λ g. ends ps g j) (length ps) f h.1 in (h.0, omega (arith, n, q))

          each : (p : Place) → Nexts ps ok f p → Followed i p
          each Nil h = tt
          each (Act a j) h = tt
          each (Wait j) h = one j h
          each (Sum m o) h = (one m h.0, one o h.1)
          each (Name j) h = one j h

  pub followed_row : (i : ℕ) (p : Place) → i < length ps → row ps i ≡ p → Followed i p
  followed_row i p l q = subst (λ x. Followed i x) q (followed i l)

  pub next_on : (i j : ℕ) → i < length ps → (row ps i ≡ Wait j) ⊎ (row ps i ≡ Name j) → Follows i j
  next_on i j l (inl q) = followed_row i (Wait j) l q
  next_on i j l (inr q) = followed_row i (Name j) l q

  -- a place without moves has no urgent action
  quiet_by : (f i k : ℕ) (a : ℤ) → i < length ps → ends ps f i ≡ true → length (moves_of ps i) ≡ 0 → is_urgent ps i k a ≡ false
  quiet_by zero i k a l e z = absurd (not_zero ps i e)
  quiet_by (suc f) i k a l e z = urgent_is ps ok i k a l ∙ go (row ps i) k (nexts ps ok f i l e) (sym (ap length (moves_is ps ok i l)) ∙ z) (λ j n. quiet_by f j n a)
    where
      go : (p : Place) (n : ℕ) → Nexts ps ok f p → length (moves_by p (λ j. moves_of ps j)) ≡ 0 → ((j n : ℕ) → j < length ps → ends ps f j ≡ true → length (moves_of ps j) ≡ 0 → is_urgent ps j n a ≡ false) → urgent_by p n a (λ j n. is_urgent ps j n a) ≡ false
      go Nil n h z rec = refl
      go (Act b j) n h z rec = absurd (omega arith)
      go (Wait j) zero h z rec = refl
      go (Wait j) (suc n) h z rec = rec j n h.0 h.1 z
      go (Sum m o) n h z rec =
          let b = no_append (moves_of ps m) (moves_of ps o) z in
          or_from (is_urgent ps m n a) (is_urgent ps o n a) (rec m n h.0.0 h.0.1 b.0) (rec o n h.1.0 h.1.1 b.1)
      go (Name j) n h z rec = rec j n h.0 h.1 z

  moves_at : (i : ℕ) (p : Place) → i < length ps → row ps i ≡ p → moves_of ps i ≡ moves_by p (λ j. moves_of ps j)
  moves_at i p l q = moves_is ps ok i l ∙ ap (λ x. moves_by x (λ j. moves_of ps j)) q

  urgent_at : (i k : ℕ) (p : Place) → i < length ps → row ps i ≡ p → (a : ℤ) → is_urgent ps i k a ≡ urgent_by p k a (λ j n. is_urgent ps j n a)
  urgent_at i k p l q a = urgent_is ps ok i k a l ∙ ap (λ x. urgent_by x k a (λ j n. is_urgent ps j n a)) q

  -- ── urgent sets, by the kind of the place ──

  module _ (s : ActionSet) (i : ℕ) (l : i < length ps) where
    pub urgent_nil : (k : ℕ) → row ps i ≡ Nil → ((a : ℤ) → has s a ≡ false) → s ≡ urgent_of ps i k
    urgent_nil k q h = empty_is (is_urgent ps i k) s h (urgent_at i k Nil l q)

    pub urgent_act : (k j : ℕ) (b : ℤ) → row ps i ≡ Act b j → ((a : ℤ) → has s a ≡ (is_action b && same b a)) → s ≡ urgent_of ps i k
    urgent_act k j b q h = only_is (is_urgent ps i k) s b h (urgent_at i k (Act b j) l q)

    pub urgent_early : (k j : ℕ) → row ps i ≡ Wait j → k ≡ 0 → ((a : ℤ) → has s a ≡ false) → s ≡ urgent_of ps i k
    urgent_early zero j q z h = empty_is (is_urgent ps i 0) s h (urgent_at i 0 (Wait j) l q)
    urgent_early (suc k) j q z h = absurd (omega arith)

    pub urgent_waited : (k j : ℕ) → row ps i ≡ Wait j → (k ≡ 0 → ⊥) → s ≡ urgent_of ps j (k - 1) → s ≡ urgent_of ps i k
    urgent_waited zero j q z h = absurd (z refl)
    urgent_waited (suc k) j q z h =
        let e : suc k - 1 ≡ k = omega arith in
        h ∙ ap (λ n. urgent_of ps j n) e ∙ alike (is_urgent ps j k) (is_urgent ps i (suc k)) (λ a. sym (urgent_at i (suc k) (Wait j) l q a))

    pub urgent_sum : (k m o : ℕ) (t u : ActionSet) → row ps i ≡ Sum m o → t ≡ urgent_of ps m k → u ≡ urgent_of ps o k → ((a : ℤ) → has s a ≡ (has t a || has u a)) → s ≡ urgent_of ps i k
    urgent_sum k m o t u q p r h = union_is (is_urgent ps i k) s (is_urgent ps m k) (is_urgent ps o k) t u p r h (urgent_at i k (Sum m o) l q)

    pub urgent_name : (k j : ℕ) → row ps i ≡ Name j → s ≡ urgent_of ps j k → s ≡ urgent_of ps i k
    urgent_name k j q h = h ∙ alike (is_urgent ps j k) (is_urgent ps i k) (λ a. sym (urgent_at i k (Name j) l q a))

-- ── with summaries ──

module _ (ps : List Place) (ss : List Summary) (known : Known ps ss) where
  pub count_is : (i : ℕ) → i < length ps → (get_or ss i unknown).moves ≡ length (moves_of ps i)
  count_is i l = let e : (get_or ss i unknown).moves ≡ min (suc most_moves) (length (moves_of ps i)) = ap (λ (x : Summary). x.moves) (known.summarized i l) in omega (arith, known.well_formed.few i l)

  pub depth_is : (i : ℕ) → i < length ps → (get_or ss i unknown).depth ≡ depth_of ps i
  depth_is i l = let e : (get_or ss i unknown).depth ≡ min ages (depth_of ps i) = ap (λ (x : Summary). x.depth) (known.summarized i l) in omega (arith, known.well_formed.shallow i l)

  module _ (i : ℕ) (l : i < length ps) where
    pub urgent_quiet : (s : ActionSet) (k : ℕ) → (get_or ss i unknown).moves ≡ 0 → ((a : ℤ) → has s a ≡ false) → s ≡ urgent_of ps i k
    urgent_quiet s k z h = empty_is (is_urgent ps i k) s h (λ a. quiet_by ps known.well_formed (length ps) i k a l (known.well_formed.no_return i l) (sym (count_is i l) ∙ z))

    -- ── moves, by the kind of the place ──

    nth_of : (p : Place) (n : ℕ) → row ps i ≡ p → nth (moves_of ps i) n ≡ nth (moves_by p (λ j. moves_of ps j)) n
    nth_of p n q = ap (λ ms. nth ms n) (moves_at ps known.well_formed i p l q)

    pub move_none : (n : ℕ) → (get_or ss i unknown).moves ≤ n → None ≡ nth (moves_of ps i) n
    move_none n b = sym (nth_past (moves_of ps i) n (omega (arith, count_is i l)))

    pub move_nil : (n : ℕ) → row ps i ≡ Nil → None ≡ nth (moves_of ps i) n
    move_nil n q = sym (nth_of Nil n q)

    pub move_act : (n j d : ℕ) (a b : ℤ) → row ps i ≡ Act a j → b ≡ a → d ≡ code j 0 → then_some (eqb n 0) (move b d) ≡ nth (moves_of ps i) n
    move_act n j d a b q e z = rw (e, z) (go n ∙ sym (nth_of (Act a j) n q))
      where
        go : (k : ℕ) → then_some (eqb k 0) (move a (code j 0)) ≡ nth (move a (code j 0) ∷ []) k
        go zero = refl
        go (suc k) = ap (λ x. then_some x (move a (code j 0))) (ne_eqb (suc k) 0 (λ h. absurd (omega arith)))

    pub move_on : (n j : ℕ) → (row ps i ≡ Wait j) ⊎ (row ps i ≡ Name j) → nth (moves_of ps j) n ≡ nth (moves_of ps i) n
    move_on n j (inl q) = sym (nth_of (Wait j) n q)
    move_on n j (inr q) = sym (nth_of (Name j) n q)

    pub move_left : (n m o : ℕ) → row ps i ≡ Sum m o → m < length ps → n < (get_or ss m unknown).moves → nth (moves_of ps m) n ≡ nth (moves_of ps i) n
    move_left n m o q h b = sym (nth_of (Sum m o) n q ∙ nth_left (moves_of ps m) (moves_of ps o) n (omega (arith, count_is m h)))

    pub move_right : (n m o : ℕ) → row ps i ≡ Sum m o → m < length ps → (get_or ss m unknown).moves ≤ n → nth (moves_of ps o) (n - (get_or ss m unknown).moves) ≡ nth (moves_of ps i) n
    move_right n m o q h b = sym (nth_of (Sum m o) n q ∙ nth_right (moves_of ps m) (moves_of ps o) n (omega (arith, count_is m h)) ∙ ap (λ k. nth (moves_of ps o) (n - k)) (sym (count_is m h)))
