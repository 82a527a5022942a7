-- The words, and then the rows that they make.
use Rattle.std.proofs.Common.{◌≡◌, ℕ, List, length, take, IsErrAnd, Some, None, Ok, Err, Option, Result, sym, refl, ap, ◌∙◌, subst, arith}
use Rattle.std.proofs.lemmas.Result.{err_from_is_err_and}
use Rattle.rows.specs.declared.row.Place.{Place}
use Rattle.rows.specs.declared.row.ModuleRow.{ModuleRow}
use Rattle.rows.specs.declared.fault.RowsFault.{RowsFault}
use Rattle.rows.specs.Opening.{fault, verdict_of}
use Rattle.rows.specs.Faults.{refusal_number, part_of, place_of}
use Rattle.book_grammar.specs.Reading.{reading}
use Rattle.book_text.specs.declared.fault.BookFault.{BookFault}
use Rattle.book_text.specs.declared.fault.BookFault.TheVariants.{Rows}
use Rattle.book_text.specs.declared.steps.reading.Used.{Used}
use Rattle.book_text.specs.Faults.{number_of, where_of}
use Rattle.book_text.specs.Faults.Where.{place_at}
use Rattle.book_text.specs.Outcomes.{Outcome, judged, judged_read, outcome, ReadsWords, ReadsRows}
use Rattle.book_text.specs.Outcomes.Outcome.{turned_away, accepted}

verdict_none : (o : Option RowsFault) (u : Unit {0}) → Ok u ≡ verdict_of o → o ≡ None
verdict_none None u e = refl
verdict_none (Some f) u e = let z : ◌≡◌ {A = ℕ} 0 1 = cc in absurd (omega arith)

verdict_some : (o : Option RowsFault) (f : RowsFault) → Err f ≡ verdict_of o → o ≡ Some f
verdict_some None f e = let z : ◌≡◌ {A = ℕ} 0 1 = cc in absurd (omega arith)
verdict_some (Some g) f e = let z : f ≡ g = cc in ap Some (sym z)

judged_by : (X : List Place) (Y : List ModuleRow) (o : Option RowsFault) → fault X Y ≡ o
    → judged X Y ≡ elim o [ None ↦ accepted X Y | Some e ↦ turned_away (refusal_number e) (place_at (part_of e) (place_of e)) ]
judged_by X Y o e = ap {B = Outcome} (λ (x : Option RowsFault). elim x [ None ↦ accepted X Y | Some f ↦ turned_away (refusal_number f) (place_at (part_of f) (place_of f)) ]) e

module _ (text : List ℕ) (P : List Place) (M : List ModuleRow) (P' : List Place) (M' : List ModuleRow) where
  pub words_leave : (r : Result Used BookFault) (f : BookFault) → IsErrAnd r (λ (y : BookFault). y ≡ f) → ReadsWords text P M P' M' (Err f) → ReadsRows text P M P' M' r
  unfolding outcome
  words_leave r f b h =
      let p = err_from_is_err_and r b in
      subst (λ (y : Result Used BookFault). ReadsRows text P M P' M' y) (sym p.1)
      (subst (λ (y : BookFault). judged_read (reading (length P) (length M) text) ≡ turned_away (number_of y) (where_of y)) (sym p.2) h)

  pub rows_leave : (r : Result Used BookFault) (u : Used) (f : RowsFault) → IsErrAnd r (λ (y : BookFault). y ≡ Rows f) → ReadsWords text P M P' M' (Ok u)
      → Err f ≡ verdict_of (fault (take u.places P') (take u.modules M')) → ReadsRows text P M P' M' r
  unfolding outcome
  rows_leave r u f b h v =
      let p = err_from_is_err_and r b in
      let X = take u.places P' in
      let Y = take u.modules M' in
      let v' : fault X Y ≡ Some f = verdict_some (fault X Y) f v in
      subst (λ (y : Result Used BookFault). ReadsRows text P M P' M' y) (sym p.1)
      (subst (λ (y : BookFault). judged_read (reading (length P) (length M) text) ≡ turned_away (number_of y) (where_of y)) (sym p.2)
      (ap judged_read h.0 ∙ judged_by X Y (Some f) v'))

  pub rows_pass : (u : Used) (t : Unit {0}) → ReadsWords text P M P' M' (Ok u) → Ok t ≡ verdict_of (fault (take u.places P') (take u.modules M'))
      → ReadsRows text P M P' M' (Ok u)
  unfolding outcome
  rows_pass u t h v =
      let X = take u.places P' in
      let Y = take u.modules M' in
      let v' : fault X Y ≡ None = verdict_none (fault X Y) t v in
      (ap judged_read h.0 ∙ judged_by X Y None v', h.1, h.2)
