-- Words that only change the state, and `module`.
use Rattle.std.proofs.Common.{◌≡◌, ℕ, ◌+◌, ◌<◌, ◌≤◌, true, false, ◌⊎◌, List, length, Ok, Err, Result, sym, refl, subst, inl, inr, arith}
use Rattle.rows.specs.declared.row.Place.{Place}
use Rattle.rows.specs.declared.row.ModuleRow.{ModuleRow}
use Rattle.book_words.specs.Words.{Kind}
use Rattle.book_words.specs.Words.Kind.{begins, enter, equals, dot, bad}
use Rattle.book_grammar.specs.Reading.{tried, moved}
use Rattle.book_grammar.specs.Reading.Step.{stops}
use Rattle.book_text.specs.declared.fault.BookFault.{BookFault}
use Rattle.book_text.specs.declared.parser.Parser.{Parser}
use Rattle.book_text.specs.declared.parser.State.{State}
use Rattle.book_text.specs.declared.parser.State.TheVariants.{Outside, Title, Brace, Left, Equal, Term, Point}
use Rattle.book_text.specs.Faults.{number_of, where_of}
use Rattle.book_text.specs.Faults.Where.{offset_at}
use Rattle.book_text.specs.Parsers.{view}
use Rattle.book_text.specs.Changes.{is_at, in_state, Passes}
use Rattle.book_text.specs.Steps.{Steady, Leads}
use Rattle.book_text.proofs.Trying.{stop_2, stop_3, stop_7, go_to, leads_to, over_modules, over_lent}
use Rattle.book_text.proofs.Viewing.{known, titles_long, not_over, steady_in, poised_at, modules_at, lent_at, told_at}

module _ (text : List ℕ) (d : Parser) (P : List Place) (M : List ModuleRow) (at : ℕ) (st : Steady at d (length P) (length M)) where
  pub module_no : is_at d.state Outside ≡ false → tried (length P) (length M) (view text d P M) begins ≡ stops 2
  unfolding view
  module_no h = stop_2 (length P) (length M) (view text d P M) begins refl h

  pub module_many : is_at d.state Outside ≡ true → (64 ≤ length d.titles.items) ⊎ (length M ≤ length d.titles.items) → tried (length P) (length M) (view text d P M) begins ≡ stops 7
  unfolding view
  module_many h g =
      let t = titles_long text at d P M st in
      stop_7 (length P) (length M) (view text d P M) begins refl h refl refl refl refl
      (elim g [
        | inl i ↦ over_modules (length P) (length M) (moved (view text d P M) begins) (omega arith)
        | inr i ↦ over_lent (length P) (length M) (moved (view text d P M) begins) (omega arith)
      ])

  pub module_ok : is_at d.state Outside ≡ true → length d.titles.items < 64 → length d.titles.items < length M
      → Leads (length P) (length M) (length text) (view text d P M) begins at (view text (in_state Title d) P M) (in_state Title d) (Ok tt)
  unfolding view
  module_ok h i j =
      let e = known d.state Outside h in
      let t = told_at text at d P M st Outside e in
      let s = steady_in text at d P M st (at + 1) Title (omega arith) (poised_at text at d P M st Outside e) (omega arith) (omega arith) (omega arith) in
      leads_to (length P) (length M) (view text d P M) begins (length text) at (view text (in_state Title d) P M) (in_state Title d)
      (go_to (length P) (length M) (view text d P M) begins (view text (in_state Title d) P M) refl h refl refl refl refl refl
      (not_over text (at + 1) (in_state Title d) P M s)) s

  enter_ok : is_at d.state Brace ≡ true → Leads (length P) (length M) (length text) (view text d P M) enter at (view text (in_state Left d) P M) (in_state Left d) (Ok tt)
  unfolding view
  enter_ok h =
      let e = known d.state Brace h in
      let s = steady_in text at d P M st (at + 1) Left (omega arith) (poised_at text at d P M st Brace e) (modules_at text at d P M st Brace e) (lent_at text at d P M st Brace e) (told_at text at d P M st Brace e) in
      leads_to (length P) (length M) (view text d P M) enter (length text) at (view text (in_state Left d) P M) (in_state Left d)
      (go_to (length P) (length M) (view text d P M) enter (view text (in_state Left d) P M) refl h refl refl refl refl refl
      (not_over text (at + 1) (in_state Left d) P M s)) s

  equals_ok : is_at d.state Equal ≡ true → Leads (length P) (length M) (length text) (view text d P M) equals at (view text (in_state Term d) P M) (in_state Term d) (Ok tt)
  unfolding view
  equals_ok h =
      let e = known d.state Equal h in
      let s = steady_in text at d P M st (at + 1) Term (omega arith) (poised_at text at d P M st Equal e) (modules_at text at d P M st Equal e) (lent_at text at d P M st Equal e) (told_at text at d P M st Equal e) in
      leads_to (length P) (length M) (view text d P M) equals (length text) at (view text (in_state Term d) P M) (in_state Term d)
      (go_to (length P) (length M) (view text d P M) equals (view text (in_state Term d) P M) refl h refl refl refl refl refl
      (not_over text (at + 1) (in_state Term d) P M s)) s

  dot_ok : is_at d.state Point ≡ true → Leads (length P) (length M) (length text) (view text d P M) dot at (view text (in_state Term d) P M) (in_state Term d) (Ok tt)
  unfolding view
  dot_ok h =
      let e = known d.state Point h in
      let s = steady_in text at d P M st (at + 1) Term (omega arith) (poised_at text at d P M st Point e) (modules_at text at d P M st Point e) (lent_at text at d P M st Point e) (told_at text at d P M st Point e) in
      leads_to (length P) (length M) (view text d P M) dot (length text) at (view text (in_state Term d) P M) (in_state Term d)
      (go_to (length P) (length M) (view text d P M) dot (view text (in_state Term d) P M) refl h refl refl refl refl refl
      (not_over text (at + 1) (in_state Term d) P M s)) s

  -- a word that leads from one state to the next
  passes : (k : Kind) (q q' : State) (d' : Parser) (r : Result (Unit {0}) BookFault)
      → (is_at d.state q ≡ false → tried (length P) (length M) (view text d P M) k ≡ stops 2)
      → (is_at d.state q ≡ true → Leads (length P) (length M) (length text) (view text d P M) k at (view text (in_state q' d) P M) (in_state q' d) (Ok tt))
      → Passes d q q' at d' r → Leads (length P) (length M) (length text) (view text d P M) k at (view text d' P M) d' r
  passes k q q' d' (Ok done) n y g =
      subst (λ (x : Parser). Leads (length P) (length M) (length text) (view text d P M) k at (view text x P M) x (Ok tt)) (sym g.1) (y g.0)
  passes k q q' d' (Err f) n y g =
      subst (λ (x : BookFault). (tried (length P) (length M) (view text d P M) k ≡ stops (number_of x)) × (where_of x ≡ offset_at at)) (sym g.1) (n g.0, refl)

  pub enter_does : (d' : Parser) (r : Result (Unit {0}) BookFault) → Passes d Brace Left at d' r
      → Leads (length P) (length M) (length text) (view text d P M) enter at (view text d' P M) d' r
  unfolding view
  enter_does d' r g = passes enter Brace Left d' r (λ h. stop_2 (length P) (length M) (view text d P M) enter refl h) enter_ok g

  pub equals_does : (d' : Parser) (r : Result (Unit {0}) BookFault) → Passes d Equal Term at d' r
      → Leads (length P) (length M) (length text) (view text d P M) equals at (view text d' P M) d' r
  unfolding view
  equals_does d' r g = passes equals Equal Term d' r (λ h. stop_2 (length P) (length M) (view text d P M) equals refl h) equals_ok g

  pub dot_does : (d' : Parser) (r : Result (Unit {0}) BookFault) → Passes d Point Term at d' r
      → Leads (length P) (length M) (length text) (view text d P M) dot at (view text d' P M) d' r
  unfolding view
  dot_does d' r g = passes dot Point Term d' r (λ h. stop_2 (length P) (length M) (view text d P M) dot refl h) dot_ok g

  -- a `?` or `!` with no port, and a run that is no word
  pub bad_no : is_at d.state Term ≡ false → tried (length P) (length M) (view text d P M) bad ≡ stops 2
  unfolding view
  bad_no h = stop_2 (length P) (length M) (view text d P M) bad refl h

  pub port_fails : is_at d.state Term ≡ true → tried (length P) (length M) (view text d P M) bad ≡ stops 3
  unfolding view
  port_fails h = stop_3 (length P) (length M) (view text d P M) bad refl h refl
