-- Passing over records, one after the other, by a `try_fold` over 0..count. Assumes nothing.
use Rattle.std.proofs.Common.{◌≡◌, ℕ, suc, ◌+◌, ◌-◌, ◌≤◌, List, [], ◌∷◌, length, Some, None, Ok, Err, Option, Result, sym, refl, ap, ◌∙◌, subst, arith}
use Rattle.std.specs.Iterator.{Yields, YieldsThen}
use Rattle.std.specs.List.{FoldsTo}
use Rattle.std.specs.Option.{MatchOption}
use Rattle.std.specs.declared.ops.Range.{Range}
use Rattle.std.proofs.iter.Yields.{nat_range_steps}
use Rattle.table_format.specs.declared.fault.TableFault.{TableFault}
use Rattle.table_format.specs.Told.{Gives, Passes}

-- a step that gives a value, and one that breaks off
pub gives_ok : (o : Option TableFault) (n a : ℕ) (v : Result ℕ TableFault) → Gives o n v → v ≡ Ok a → (o ≡ None) × (a ≡ n)
gives_ok o n a (Ok x) g e = let p : x ≡ a = cc in (g.0, sym p ∙ g.1)
gives_ok o n a (Err f) g e = let z : ◌≡◌ {A = ℕ} 0 1 = cc in absurd (omega arith)

pub gives_err : (o : Option TableFault) (n : ℕ) (f : TableFault) (v : Result ℕ TableFault) → Gives o n v → v ≡ Err f → o ≡ Some f
gives_err o n f (Ok x) g e = let z : ◌≡◌ {A = ℕ} 0 1 = cc in absurd (omega arith)
gives_err o n f (Err h) g e = cc

-- what the range has given so far
counted : (xs : List ℕ) (s t : Range ℕ) → s.start ≤ s.end → Yields nat_range_steps s xs t → (t.end ≡ s.end) × (t.start ≡ s.start + length xs) × (t.start ≤ t.end)
counted [] s t l y = (sym (ap (λ (k : Range ℕ). k.end) y), omega (arith, ap (λ (k : Range ℕ). k.start) y), omega (arith, ap (λ (k : Range ℕ). k.start) y, ap (λ (k : Range ℕ). k.end) y))
counted (x ∷ xs) s t l y = let h = counted xs y.0 t (omega (arith, y.1.0, y.1.1.0, y.1.1.2)) y.2 in (h.0 ∙ y.1.0, omega (arith, h.1, y.1.1.2), h.2)

module _ (step : ℕ → Option TableFault) (next : ℕ → ℕ) (run : ℕ → ℕ → Option TableFault)
    (on : (j i s t : ℕ) → j ≡ suc i → t ≡ next s → step s ≡ None → run j s ≡ run i t)
    (stop : (j i s : ℕ) (e : TableFault) → j ≡ suc i → step s ≡ Some e → run j s ≡ Some e) where
  module _ {F : Type 0} (f : F) (R : F × ℕ → ℕ → F × ℕ → Type 0) (turn : (s x : ℕ) (q : F × ℕ) → R (f, s) x q → (q.0 ≡ f) × (step s ≡ None) × (q.1 ≡ next s)) where
    passed : (xs : List ℕ) (j i s : ℕ) (q : F × ℕ) → j ≡ length xs + i → FoldsTo R (f, s) xs q → (q.0 ≡ f) × (run j s ≡ run i q.1)
    passed [] j i s q p e =
        let l : j ≡ i = omega arith in
        (sym (ap (λ (v : F × ℕ). v.0) e), ap (λ x. run x s) l ∙ ap (λ (v : F × ℕ). run i v.1) e)
    passed (x ∷ xs) j i s q p c =
        let t = turn s x c.0 c.1 in
        let rest = passed xs (length xs + i) i c.0.1 q refl (subst (λ (v : F × ℕ). FoldsTo R v xs q) {x = c.0} {y = (f, c.0.1)} (λ k. (t.0 k, c.0.1)) c.2) in
        (rest.0, on j (length xs + i) s c.0.1 (omega arith) t.2 t.1 ∙ rest.1)

    module _ (Stop : F → ℕ → ℕ → Type 0) (r : Result ℕ TableFault) (stops : (s x : ℕ) → Stop f s x → (e : TableFault) × (r ≡ Err e) × (step s ≡ Some e)) where
      ended : (n s : ℕ) (xs : List ℕ) (o : Option ℕ) (j : F) (a : ℕ) (t u : Range ℕ) → (t.end ≡ n) × (t.start ≡ length xs) × (t.start ≤ t.end) → nat_range_steps t o u → FoldsTo R (f, s) xs (j, a) → MatchOption o (r ≡ Ok a) (λ x. Stop j a x) → Passes run n s r
      ended n s xs None j a t u k y c m =
          subst (Passes run n s) (sym m) (passed xs n 0 s (j, a) (omega (arith, k.0, k.1, k.2, y.1.0)) c).1
      ended n s xs (Some x) j a t u k y c m =
          let w = passed xs n (n - length xs) s (j, a) (omega (arith, k.0, k.1, k.2)) c in
          let h = stops a x (subst (λ i. Stop i a x) w.0 m) in
          subst (Passes run n s) (sym h.1) (w.1 ∙ stop (n - length xs) (n - length xs - 1) a h.0 (omega (arith, k.0, k.1, y.1.0)) h.2)

  pub walked : {F : Type 0} {f : F} {R : F × ℕ → ℕ → F × ℕ → Type 0} {Stop : F → ℕ → ℕ → Type 0} (r : Result ℕ TableFault) (n s : ℕ) {u : Range ℕ}
      → (xs : List ℕ) × (o : Option ℕ) × (j : F) × (a : ℕ) × YieldsThen nat_range_steps (record { start = 0; end = n }) xs o u × FoldsTo R (f, s) xs (j, a) × MatchOption o (r ≡ Ok a) (λ x. Stop j a x)
      → ((s x : ℕ) (q : F × ℕ) → R (f, s) x q → (q.0 ≡ f) × (step s ≡ None) × (q.1 ≡ next s))
      → ((s x : ℕ) → Stop f s x → (e : TableFault) × (r ≡ Err e) × (step s ≡ Some e))
      → Passes run n s r
  walked {F} {f} {R} {Stop} r n s {u} d turn stops =
      let k = counted d.0 (record { start = 0; end = n }) d.4.0 (omega arith) d.4.1 in
      ended f R turn Stop r stops n s d.0 d.1 d.2 d.3 d.4.0 u (k.0, omega (arith, k.1), k.2) d.4.2 d.5 d.6
