-- One module after the other: the verdict so far, and what the table keeps. Assumes nothing.
use Rattle.std.proofs.Common.{◌≡◌, ℕ, suc, ◌+◌, ◌<◌, ◌≤◌, ◌⊎◌, List, [], length, drop, set, IsErrAnd, Some, None, Err, Option, Result, sym, ap, ◌∙◌, inl, inr, arith, get_or-set_other, get_or-set_same}
use Rattle.std.proofs.lemmas.List.{drop_more, drop_all}
use Rattle.std.proofs.lemmas.Result.{err_from_is_err_and}
use Rattle.std.proofs.lemmas.Bool.{cases_eq}
use Rattle.rows.specs.declared.row.Place.{Place}
use Rattle.rows.specs.declared.row.ModuleRow.{ModuleRow}
use Rattle.rows.specs.declared.fault.RowsFault.{RowsFault}
use Rattle.rows.specs.Opening.{module_fault, fault_from, fault, verdict_of, row_of, places_in}
use Rattle.trial.specs.declared.summary.Summary.{Summary}
use Rattle.trial.specs.Summaries.{Summarizes}
use Rattle.book.specs.Keeping.{Keeps}

module _ (rows : List Place) (ms : List ModuleRow) where
  -- nothing is wrong with the modules before number m
  abbrev pub SoFar : ℕ → Type 0
  SoFar m = fault_from rows 0 ms ≡ fault_from rows m (drop m ms)

  at_hand : (m : ℕ) (o : Option RowsFault) → m < length ms → module_fault rows m (row_of ms m) ≡ o → fault_from rows m (drop m ms) ≡ elim o [ None ↦ fault_from rows (suc m) (drop (m + 1) ms) | Some e ↦ Some e ]
  at_hand m o l q =
      ap (λ x. fault_from rows m x) (drop_more ms m (row_of [] 0) l)
      ∙ ap {B = Option RowsFault} (λ (x : Option RowsFault). elim x [ None ↦ fault_from rows (suc m) (drop (m + 1) ms) | Some e ↦ Some e ]) q

  pub fault_here : (m : ℕ) (e : RowsFault) → m < length ms → SoFar m → module_fault rows m (row_of ms m) ≡ Some e → Some e ≡ fault rows ms
  unfolding fault
  fault_here m e l so q = sym (so ∙ at_hand m (Some e) l q)

  pub fault_later : (m : ℕ) → m < length ms → SoFar m → module_fault rows m (row_of ms m) ≡ None → SoFar (m + 1)
  fault_later m l so q = let s : suc m ≡ m + 1 = omega arith in so ∙ at_hand m None l q ∙ ap (λ x. fault_from rows x (drop (m + 1) ms)) s

  pub fault_none : (m : ℕ) → length ms ≤ m → SoFar m → None ≡ fault rows ms
  unfolding fault
  fault_none m l so = sym (so ∙ ap (λ x. fault_from rows m x) (drop_all m ms l))

  pub keeps_more : (m : ℕ) (table : List (List Summary)) (ss : List Summary) → m < length table → ((k : ℕ) → k < m → Keeps rows ms table k) → Summarizes (places_in rows ms m) (length (places_in rows ms m)) ss → (k : ℕ) → k < m + 1 → Keeps rows ms (set table m ss) k
  keeps_more m table ss room old new k l = go (cases_eq k m)
    where
      go : (k ≡ m) ⊎ (k ≡ m → ⊥) → Keeps rows ms (set table m ss) k
      go (inl e) = rw (e, get_or-set_same table m ss [] room) new
      go (inr ne) = rw (get_or-set_other table m k ss [] ne) (old k (omega (arith, ne)))

  -- what `?` hands on
  pub handed_on : (e : RowsFault) (r : Result (Unit {0}) RowsFault) → IsErrAnd r (λ x. x ≡ e) → Some e ≡ fault rows ms → r ≡ verdict_of (fault rows ms)
  handed_on e r same h = let p = err_from_is_err_and r same in p.1 ∙ ap (λ (x : RowsFault). Err x) p.2 ∙ ap (λ (x : Option RowsFault). verdict_of x) h
