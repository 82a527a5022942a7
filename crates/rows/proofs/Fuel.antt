-- Where a walk ends, what is followed through more places is the same; so the rules hold as equations. Assumes nothing.
use Rattle.std.proofs.Common.{◌≡◌, ℕ, zero, suc, ◌≤◌, max, Bool, true, false, ◌&&◌, ◌||◌, List, ◌++◌, ℤ, sym, refl, ap, ◌∙◌, arith}
use Rattle.std.proofs.lemmas.Bool.{and_parts, and_from}
use Rattle.rows.specs.declared.row.Place.{Place}
use Rattle.rows.specs.declared.row.Place.TheVariants.{Nil, Act, Wait, Sum, Name}
use Rattle.rows.specs.Places.{row, ends_by, depth_by, moves_by, urgent_by, ends, depth, moves, urgent}

pub both_l : (a b : Bool) → (a && b) ≡ true → a ≡ true
both_l a b e = (and_parts a b e).0

pub both_r : (a b : Bool) → (a && b) ≡ true → b ≡ true
both_r a b e = (and_parts a b e).1

never : false ≡ true → ⊥
never e = let z : ◌≡◌ {A = ℕ} 0 1 = cc in omega arith

module _ (ps : List Place) where
  pub not_zero : (i : ℕ) → ends ps 0 i ≡ true → ⊥
  unfolding ends
  not_zero i e = never e

  pub ends_more : (f g i : ℕ) → f ≤ g → ends ps f i ≡ true → ends ps g i ≡ true
  unfolding ends
  ends_more zero g i l e = absurd (never e)
  ends_more (suc f) zero i l e = absurd (omega arith)
  ends_more (suc f) (suc g) i l e = go (row ps i) e (λ j. ends_more f g j (omega arith))
    where
      go : (p : Place) → ends_by p (λ j. ends ps f j) ≡ true → ((j : ℕ) → ends ps f j ≡ true → ends ps g j ≡ true) → ends_by p (λ j. ends ps g j) ≡ true
      go Nil h r = refl
      go (Act a j) h r = refl
      go (Wait j) h r = r j h
      go (Sum m n) h r = and_from (ends ps g m) (ends ps g n) (r m (both_l (ends ps f m) (ends ps f n) h)) (r n (both_r (ends ps f m) (ends ps f n) h))
      go (Name j) h r = r j h

  -- the places that a place names end sooner
  pub ends_next : (f i : ℕ) → ends ps (suc f) i ≡ true → ends_by (row ps i) (λ j. ends ps f j) ≡ true
  unfolding ends
  ends_next f i e = e

  depth_more : (f g i : ℕ) → f ≤ g → ends ps f i ≡ true → depth ps g i ≡ depth ps f i
  unfolding ends depth
  depth_more zero g i l e = absurd (never e)
  depth_more (suc f) zero i l e = absurd (omega arith)
  depth_more (suc f) (suc g) i l e = go (row ps i) e (λ j. depth_more f g j (omega arith))
    where
      go : (p : Place) → ends_by p (λ j. ends ps f j) ≡ true → ((j : ℕ) → ends ps f j ≡ true → depth ps g j ≡ depth ps f j) → depth_by p (λ j. depth ps g j) ≡ depth_by p (λ j. depth ps f j)
      go Nil h r = refl
      go (Act a j) h r = refl
      go (Wait j) h r = ap suc (r j h)
      go (Sum m n) h r = ap (λ x. max x (depth ps g n)) (r m (both_l (ends ps f m) (ends ps f n) h)) ∙ ap (λ x. max (depth ps f m) x) (r n (both_r (ends ps f m) (ends ps f n) h))
      go (Name j) h r = r j h

  moves_more : (f g i : ℕ) → f ≤ g → ends ps f i ≡ true → moves ps g i ≡ moves ps f i
  unfolding ends moves
  moves_more zero g i l e = absurd (never e)
  moves_more (suc f) zero i l e = absurd (omega arith)
  moves_more (suc f) (suc g) i l e = go (row ps i) e (λ j. moves_more f g j (omega arith))
    where
      go : (p : Place) → ends_by p (λ j. ends ps f j) ≡ true → ((j : ℕ) → ends ps f j ≡ true → moves ps g j ≡ moves ps f j) → moves_by p (λ j. moves ps g j) ≡ moves_by p (λ j. moves ps f j)
      go Nil h r = refl
      go (Act a j) h r = refl
      go (Wait j) h r = r j h
      go (Sum m n) h r = ap (λ x. x ++ moves ps g n) (r m (both_l (ends ps f m) (ends ps f n) h)) ∙ ap (λ x. moves ps f m ++ x) (r n (both_r (ends ps f m) (ends ps f n) h))
      go (Name j) h r = r j h

  urgent_more : (f g i k : ℕ) (a : ℤ) → f ≤ g → ends ps f i ≡ true → urgent ps g i k a ≡ urgent ps f i k a
  unfolding ends urgent
  urgent_more zero g i k a l e = absurd (never e)
  urgent_more (suc f) zero i k a l e = absurd (omega arith)
  urgent_more (suc f) (suc g) i k a l e = go (row ps i) k e (λ j n. urgent_more f g j n a (omega arith))
    where
      go : (p : Place) (n : ℕ) → ends_by p (λ j. ends ps f j) ≡ true → ((j n : ℕ) → ends ps f j ≡ true → urgent ps g j n a ≡ urgent ps f j n a) → urgent_by p n a (λ j n. urgent ps g j n a) ≡ urgent_by p n a (λ j n. urgent ps f j n a)
      go Nil n h r = refl
      go (Act b j) n h r = refl
      go (Wait j) zero h r = refl
      go (Wait j) (suc n) h r = r j n h
      go (Sum m o) n h r = ap (λ x. x || urgent ps g o n a) (r m n (both_l (ends ps f m) (ends ps f o) h)) ∙ ap (λ x. urgent ps f m n a || x) (r o n (both_r (ends ps f m) (ends ps f o) h))
      go (Name j) n h r = r j n h

  -- the rules, with no count
  pub ends_rule : (f i : ℕ) → ends ps f i ≡ true → ends_by (row ps i) (λ j. ends ps f j) ≡ true
  unfolding ends
  ends_rule f i e = ends_more f (suc f) i (omega arith) e

  pub depth_rule : (f i : ℕ) → ends ps f i ≡ true → depth ps f i ≡ depth_by (row ps i) (λ j. depth ps f j)
  unfolding depth
  depth_rule f i e = sym (depth_more f (suc f) i (omega arith) e)

  pub moves_rule : (f i : ℕ) → ends ps f i ≡ true → moves ps f i ≡ moves_by (row ps i) (λ j. moves ps f j)
  unfolding moves
  moves_rule f i e = sym (moves_more f (suc f) i (omega arith) e)

  pub urgent_rule : (f i k : ℕ) (a : ℤ) → ends ps f i ≡ true → urgent ps f i k a ≡ urgent_by (row ps i) k a (λ j n. urgent ps f j n a)
  unfolding urgent
  urgent_rule f i k a e = sym (urgent_more f (suc f) i k a (omega arith) e)
