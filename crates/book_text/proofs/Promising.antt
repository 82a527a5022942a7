-- What the outcome of a reading tells of the text.
use Rattle.std.proofs.Common.{◌≡◌, ℕ, ◌⊎◌, List, length, take, Some, None, Ok, Err, Option, Result, sym, refl, ap, ◌∙◌, inl, inr, arith}
use Rattle.rows.specs.declared.row.Place.{Place}
use Rattle.rows.specs.declared.row.ModuleRow.{ModuleRow}
use Rattle.rows.specs.declared.fault.RowsFault.{RowsFault}
use Rattle.rows.specs.Opening.{fault}
use Rattle.rows.specs.Faults.{refusal_number, part_of, place_of}
use Rattle.book_words.specs.Words.{words}
use Rattle.book_grammar.specs.Reading.{Read, reading}
use Rattle.book_grammar.specs.Reading.Read.{refused, taken}
use Rattle.book_grammar.specs.Limits.{IsBook}
use Rattle.book_grammar.specs.Laws.{FirstOut, Unfinished}
use Rattle.book_grammar.proofs.Exact.{taken_derived, derived_taken}
use Rattle.book_grammar.proofs.Openable.{rows_last}
use Rattle.book_grammar.proofs.Viable.{refusal_two}
use Rattle.book_text.specs.declared.fault.BookFault.{BookFault}
use Rattle.book_text.specs.declared.steps.reading.Used.{Used}
use Rattle.book_text.specs.Faults.{number_of, Where, where_of}
use Rattle.book_text.specs.Faults.Where.{offset_at, place_at}
use Rattle.book_text.specs.Outcomes.{Outcome, judged_read, outcome, ReadsRows}
use Rattle.book_text.specs.Outcomes.Outcome.{turned_away, accepted}
use Rattle.book_text.specs.Promises.{RowsRefuse, Unopened, RefusedText, Promises}

-- what an accepted reading was
accepted_tells : (r : Read) (X : List Place) (Y : List ModuleRow) → judged_read r ≡ accepted X Y → (r ≡ taken X Y) × (fault X Y ≡ None)
accepted_tells (refused n k) X Y e = let z : ◌≡◌ {A = ℕ} 0 1 = cc in absurd (omega arith)
accepted_tells (taken A B) X Y e = go (fault A B) refl e
  where
    go : (o : Option RowsFault) → fault A B ≡ o
        → ◌≡◌ {A = Outcome} (elim o [ None ↦ accepted A B | Some f ↦ turned_away (refusal_number f) (place_at (part_of f) (place_of f)) ]) (accepted X Y)
        → (taken A B ≡ taken X Y) × (fault X Y ≡ None)
    go None h i =
        let x : A ≡ X = cc in
        let y : B ≡ Y = cc in (
          ap (λ (a : List Place). taken a B) x ∙ ap (λ (b : List ModuleRow). taken X b) y,
          ap (λ (b : List ModuleRow). fault X b) (sym y) ∙ ap (λ (a : List Place). fault a B) (sym x) ∙ h,
        )
    go (Some f) h i = let z : ◌≡◌ {A = ℕ} 0 1 = cc in absurd (omega arith)

-- what a refused one was: refused by a word, or by its rows
record ByWord (r : Read) (n : ℕ) (w : Where) : Type 0 where
  at : ℕ
  was : r ≡ refused n at
  there : w ≡ offset_at at

record ByRows (r : Read) (n : ℕ) (w : Where) : Type 0 where
  places : List Place
  modules : List ModuleRow
  was : r ≡ taken places modules
  reason : RowsFault
  found : fault places modules ≡ Some reason
  number : n ≡ refusal_number reason
  there : w ≡ place_at (part_of reason) (place_of reason)

turned_tells : (r : Read) (n : ℕ) (w : Where) → judged_read r ≡ turned_away n w → ByWord r n w ⊎ ByRows r n w
turned_tells (refused n' k) n w e =
    let a : n' ≡ n = cc in
    let b : offset_at k ≡ w = cc in
    inl (record { at = k; was = ap (λ (x : ℕ). refused x k) a; there = sym b })
turned_tells (taken A B) n w e = go (fault A B) refl e
  where
    go : (o : Option RowsFault) → fault A B ≡ o
        → ◌≡◌ {A = Outcome} (elim o [ None ↦ accepted A B | Some f ↦ turned_away (refusal_number f) (place_at (part_of f) (place_of f)) ]) (turned_away n w)
        → ByWord (taken A B) n w ⊎ ByRows (taken A B) n w
    go None h i = let z : ◌≡◌ {A = ℕ} 0 1 = cc in absurd (omega arith)
    go (Some f) h i =
        let a : refusal_number f ≡ n = cc in
        let b : place_at (part_of f) (place_of f) ≡ w = cc in
        inr (record { places = A; modules = B; was = refl; reason = f; found = h; number = sym a; there = sym b })

module _ (text : List ℕ) (p m : ℕ) (f : BookFault) where
  books_refuse : (r : Read) → reading p m text ≡ r → ByWord r (number_of f) (where_of f) ⊎ ByRows r (number_of f) (where_of f)
      → (X : List Place) (Y : List ModuleRow) → IsBook p m text X Y → RowsRefuse X Y f
  books_refuse r e (inl g) X Y b =
      let t = derived_taken p m text X Y b in
      let q : refused (number_of f) g.at ≡ taken X Y = sym g.was ∙ sym e ∙ t in
      let z : ◌≡◌ {A = ℕ} 0 1 = cc in absurd (omega arith)
  books_refuse r e (inr g) X Y b =
      let q : taken g.places g.modules ≡ taken X Y = sym g.was ∙ sym e ∙ derived_taken p m text X Y b in
      let x : g.places ≡ X = cc in
      let y : g.modules ≡ Y = cc in
      record {
        reason = g.reason;
        found = ap (λ (b' : List ModuleRow). fault X b') (sym y) ∙ ap (λ (a : List Place). fault a g.modules) (sym x) ∙ g.found;
        last = rows_last p m text g.places g.modules g.reason (e ∙ g.was) g.found;
        number = g.number;
        place = g.there;
      }

  refuses : (r : Read) → reading p m text ≡ r → ByWord r (number_of f) (where_of f) ⊎ ByRows r (number_of f) (where_of f) → RefusedText p m text f
  refuses r e g = record {
    by_words = λ at h X Y b. (let k = books_refuse r e g X Y b in
        let q : offset_at at ≡ place_at (part_of k.reason) (place_of k.reason) = sym h ∙ k.place in
        let z : ◌≡◌ {A = ℕ} 0 1 = cc in omega arith);
    by_rows = λ a b h. rows a b h g;
    books = books_refuse r e g;
    first_out = λ at n h. out at n h g;
  }
    where
      rows : (a b : ℕ) → where_of f ≡ place_at a b → ByWord r (number_of f) (where_of f) ⊎ ByRows r (number_of f) (where_of f) → Unopened p m text f
      rows a b h (inl k) =
          let q : offset_at k.at ≡ place_at a b = sym k.there ∙ h in
          let z : ◌≡◌ {A = ℕ} 0 1 = cc in absurd (omega arith)
      rows a b h (inr k) = record {
        places = k.places;
        modules = k.modules;
        book = taken_derived p m text k.places k.modules (e ∙ k.was);
        refuses = record { reason = k.reason; found = k.found; last = rows_last p m text k.places k.modules k.reason (e ∙ k.was) k.found; number = k.number; place = k.there };
      }

      out : (at : ℕ) → number_of f ≡ 2 → where_of f ≡ offset_at at → ByWord r (number_of f) (where_of f) ⊎ ByRows r (number_of f) (where_of f)
          → FirstOut (words text) at ⊎ ((at ≡ length text) × Unfinished (words text))
      out at n h (inl k) =
          let q : offset_at k.at ≡ offset_at at = sym k.there ∙ h in
          let s : k.at ≡ at = cc in
          refusal_two p m text at (e ∙ k.was ∙ ap (λ (x : ℕ). refused x k.at) n ∙ ap (λ (x : ℕ). refused 2 x) s)
      out at n h (inr k) =
          let q : offset_at at ≡ place_at (part_of k.reason) (place_of k.reason) = sym h ∙ k.there in
          let z : ◌≡◌ {A = ℕ} 0 1 = cc in absurd (omega arith)

pub promised : (text : List ℕ) (P : List Place) (M : List ModuleRow) (P' : List Place) (M' : List ModuleRow) (r : Result Used BookFault)
    → ReadsRows text P M P' M' r → Promises text P M P' M' r
unfolding outcome
promised text P M P' M' (Ok u) h =
    let a = accepted_tells (reading (length P) (length M) text) (take u.places P') (take u.modules M') h.0 in
    record { book = taken_derived (length P) (length M) text (take u.places P') (take u.modules M') a.0; opens = a.1 }
promised text P M P' M' (Err f) h =
    refuses text (length P) (length M) f (reading (length P) (length M) text) refl (turned_tells (reading (length P) (length M) text) (number_of f) (where_of f) h)
