-- A walk as long as the module's places comes back; one that ends does not. Assumes nothing.
use Rattle.std.proofs.Common.{◌≡◌, ℕ, zero, suc, ◌<◌, ◌≤◌, Bool, true, false, ◌&&◌, ◌||◌, T, eqb, ltb, ◌⊎◌, List, length, sym, refl, ap, ◌∙◌, subst, inl, inr, arith, eqb→eq}
use lib.Dec.{eqb_refl}
use Rattle.std.proofs.lemmas.Bool.{cases_eq, ltb-true}
use Rattle.action.proofs.Basics.{or_cases}
use Rattle.rows.specs.declared.row.Place.{Place}
use Rattle.rows.specs.declared.row.Place.TheVariants.{Nil, Act, Wait, Sum, Name}
use Rattle.rows.specs.Places.{row, ends, ends_by, guarded}
use Rattle.rows.specs.Opening.{inside}
use Rattle.rows.specs.Walks.{Onward, Walk, here, on, ComesBack}
use Rattle.rows.proofs.Fuel.{both_l, both_r, not_zero, ends_more, ends_next}

never : true ≡ false → ⊥
never e = let z : ◌≡◌ {A = ℕ} 0 1 = cc in omega arith

module _ (ps : List Place) where
  -- ── a walk that ends ──

  ends_on : (f i j : ℕ) → ends ps (suc f) i ≡ true → Onward (row ps i) j → ends ps f j ≡ true
  ends_on f i j e o = go (row ps i) (ends_next ps f i e) o
    where
      go : (p : Place) → ends_by p (λ k. ends ps f k) ≡ true → Onward p j → ends ps f j ≡ true
      go Nil h o = absurd o
      go (Act a k) h o = absurd o
      go (Wait k) h o = subst (λ x. ends ps f x ≡ true) (sym o) h
      go (Sum l r) h (inl o) = subst (λ x. ends ps f x ≡ true) (sym o) (both_l (ends ps f l) (ends ps f r) h)
      go (Sum l r) h (inr o) = subst (λ x. ends ps f x ≡ true) (sym o) (both_r (ends ps f l) (ends ps f r) h)
      go (Name k) h o = subst (λ x. ends ps f x ≡ true) (sym o) h

  ends_step : (f i j : ℕ) → ends ps f i ≡ true → Onward (row ps i) j → ends ps f j ≡ true
  ends_step zero i j e o = absurd (not_zero ps i e)
  ends_step (suc f) i j e o = ends_more ps f (suc f) j (omega arith) (ends_on f i j e o)

  ends_along : (f : ℕ) {i j : ℕ} → ends ps f i ≡ true → Walk ps i j → ends ps f j ≡ true
  ends_along f e here = e
  ends_along f e (on {i = i} {j = j} o w) = ends_along f (ends_step f i j e o) w

  no_return : (f j k : ℕ) → ends ps f j ≡ true → Onward (row ps j) k → Walk ps k j → ⊥
  no_return zero j k e o w = not_zero ps j e
  no_return (suc f) j k e o w = no_return f j k (ends_along f (ends_on f j k e o) w) o w

  -- ── a walk that does not ──

  walk_on : {i j k : ℕ} → Walk ps i j → Onward (row ps j) k → Walk ps i k
  walk_on here o = on o here
  walk_on (on p w) o = on p (walk_on w o)

  fails_on : (f i : ℕ) → ends ps (suc f) i ≡ false → (j : ℕ) × Onward (row ps i) j × (ends ps f j ≡ false)
  unfolding ends
  fails_on f i e = go (row ps i) e
    where
      side : (l r : ℕ) (b : Bool) → ends ps f l ≡ b → (b && ends ps f r) ≡ false → (j : ℕ) × ((j ≡ l) ⊎ (j ≡ r)) × (ends ps f j ≡ false)
      side l r true q h = (r, inr refl, h)
      side l r false q h = (l, inl refl, q)

      go : (p : Place) → ends_by p (λ k. ends ps f k) ≡ false → (j : ℕ) × Onward p j × (ends ps f j ≡ false)
      go Nil h = absurd (never h)
      go (Act a k) h = absurd (never h)
      go (Wait k) h = (k, refl, h)
      go (Sum l r) h = side l r (ends ps f l) refl h
      go (Name k) h = (k, refl, h)

  onward_inside : (n : ℕ) (p : Place) (j : ℕ) → inside n p ≡ true → Onward p j → j < n
  onward_inside n Nil j h o = absurd o
  onward_inside n (Act a k) j h o = absurd o
  onward_inside n (Wait k) j h o = subst (λ x. x < n) (sym o) (ltb-true k n h)
  onward_inside n (Sum l r) j h (inl o) = subst (λ x. x < n) (sym o) (ltb-true l n (both_l (ltb l n) (ltb r n) h))
  onward_inside n (Sum l r) j h (inr o) = subst (λ x. x < n) (sym o) (ltb-true r n (both_r (ltb l n) (ltb r n) h))
  onward_inside n (Name k) j h o = subst (λ x. x < n) (sym o) (ltb-true k n h)

-- how many of the numbers below n are not marked
abbrev unseen : ℕ → (ℕ → Bool) → ℕ
unseen zero s = 0
unseen (suc n) s = elim (s n) [ true ↦ unseen n s | false ↦ suc (unseen n s) ]

abbrev marked : (ℕ → Bool) → ℕ → ℕ → Bool
marked s i j = eqb i j || s j

unseen_none : (n : ℕ) → unseen n (λ _. false) ≡ n
unseen_none zero = refl
unseen_none (suc n) = ap suc (unseen_none n)

not_eqb : (i j : ℕ) → (i ≡ j → ⊥) → eqb i j ≡ false
not_eqb i j h = go (eqb i j) refl
  where
    go : (b : Bool) → eqb i j ≡ b → b ≡ false
    go true e = absurd (h (eqb→eq i j (subst T (sym e) tt)))
    go false e = refl

other : (s : ℕ → Bool) (i j : ℕ) → (i ≡ j → ⊥) → marked s i j ≡ s j
other s i j h = ap (λ b. b || s j) (not_eqb i j h)

self : (s : ℕ → Bool) (i : ℕ) → marked s i i ≡ true
self s i = go (eqb i i) (eqb_refl i)
  where
    go : (b : Bool) → T b → (b || s i) ≡ true
    go true t = refl
    go false t = absurd t

untouched : (s : ℕ → Bool) (i n : ℕ) → n ≤ i → unseen n (marked s i) ≡ unseen n s
untouched s i zero l = refl
untouched s i (suc n) l =
    ap {B = ℕ} (λ (b : Bool). elim b [ true ↦ unseen n (marked s i) | false ↦ suc (unseen n (marked s i)) ]) (other s i n (λ e. absurd (omega arith)))
    ∙ ap {B = ℕ} (λ (k : ℕ). elim (s n) [ true ↦ k | false ↦ suc k ]) (untouched s i n (omega arith))

fewer : (s : ℕ → Bool) (i n : ℕ) → i < n → s i ≡ false → suc (unseen n (marked s i)) ≡ unseen n s
fewer s i zero l q = absurd (omega arith)
fewer s i (suc n) l q = go (cases_eq i n) (fewer s i n)
  where
    step : (b : Bool) (k m : ℕ) → suc k ≡ m → ◌≡◌ {A = ℕ} (suc (elim b [ true ↦ k | false ↦ suc k ])) (elim b [ true ↦ m | false ↦ suc m ])
    step true k m e = e
    step false k m e = ap suc e

    go : (i ≡ n) ⊎ (i ≡ n → ⊥) → (i < n → s i ≡ false → suc (unseen n (marked s i)) ≡ unseen n s) → suc (unseen (suc n) (marked s i)) ≡ unseen (suc n) s
    go (inl e) rec =
        ap {B = ℕ} (λ (b : Bool). suc (elim b [ true ↦ unseen n (marked s i) | false ↦ suc (unseen n (marked s i)) ])) (ap (λ x. marked s i x) (sym e) ∙ self s i)
        ∙ ap suc (untouched s i n (omega arith))
        ∙ ap {B = ℕ} (λ (b : Bool). elim b [ true ↦ unseen n s | false ↦ suc (unseen n s) ]) (sym (ap s (sym e) ∙ q))
    go (inr h) rec =
        ap {B = ℕ} (λ (b : Bool). suc (elim b [ true ↦ unseen n (marked s i) | false ↦ suc (unseen n (marked s i)) ])) (other s i n h)
        ∙ step (s n) (unseen n (marked s i)) (unseen n s) (rec (omega (arith, h)) q)

module _ (ps : List Place) (ok : (i : ℕ) → i < length ps → inside (length ps) (row ps i) ≡ true) (start : ℕ) where
  abbrev Passed : ℕ → ℕ → Type 0
  Passed v i = (w : ℕ) × Onward (row ps v) w × Walk ps w i

  returns : (f i : ℕ) (s : ℕ → Bool) → i < length ps → unseen (length ps) s ≤ f → ends ps f i ≡ false → Walk ps start i → ((v : ℕ) → T (s v) → Passed v i) → ComesBack ps start
  returns zero i s l u e w h = go (s i) refl
    where
      go : (b : Bool) → s i ≡ b → ComesBack ps start
      go true q = let r = h i (subst T (sym q) tt) in record { place = i; next = r.0; comes = w; goes_on = r.1; back = r.2 }
      go false q = absurd (omega (arith, fewer s i (length ps) l q))
  returns (suc f) i s l u e w h = go (s i) refl (λ j t. returns f j t)
    where
      go : (b : Bool) → s i ≡ b → ((j : ℕ) (t : ℕ → Bool) → j < length ps → unseen (length ps) t ≤ f → ends ps f j ≡ false → Walk ps start j → ((v : ℕ) → T (t v) → Passed v j) → ComesBack ps start) → ComesBack ps start
      go true q rec = let r = h i (subst T (sym q) tt) in record { place = i; next = r.0; comes = w; goes_on = r.1; back = r.2 }
      go false q rec =
          let n = fails_on ps f i e in
          rec n.0 (marked s i) (onward_inside ps (length ps) (row ps i) n.0 (ok i l) n.1) (omega (arith, fewer s i (length ps) l q)) n.2 (walk_on ps w n.1) (λ v t. passed n.0 n.1 v (or_cases (eqb i v) (s v) t))
        where
          passed : (j : ℕ) → Onward (row ps i) j → (v : ℕ) → T (eqb i v) ⊎ T (s v) → Passed v j
          passed j o v (inl t) = subst (λ x. Passed x j) (eqb→eq i v t) (j, o, here)
          passed j o v (inr t) = let r = h v t in (r.0, r.1, walk_on ps r.2 o)

-- where places lead into their module, those that are not guarded are just those whose walk comes back
pub guarded_ends : (ps : List Place) (i : ℕ) → guarded ps i ≡ true → ComesBack ps i → ⊥
guarded_ends ps i e c = no_return ps (length ps) c.place c.next (ends_along ps (length ps) e c.comes) c.goes_on c.back

pub unguarded_returns : (ps : List Place) → ((i : ℕ) → i < length ps → inside (length ps) (row ps i) ≡ true) → (i : ℕ) → i < length ps → guarded ps i ≡ false → ComesBack ps i
unguarded_returns ps ok i l e = returns ps ok i (length ps) i (λ _. false) l (omega (arith, unseen_none (length ps))) e here (λ v t. absurd t)
