-- Words that open something: a wait, an action, a sum.
use Rattle.std.proofs.Common.{◌≡◌, ℕ, zero, suc, ◌+◌, ◌-◌, ◌≤◌, true, false, ◌||◌, eqb, List, ◌∷◌, length, set, ◌^◌, ◌<◌, ℤ, Ok, Err, Result, sym, refl, ap, ◌∙◌, subst, inl, inr, arith}
use Rattle.std.proofs.lemmas.List.{length-set}
use Rattle.std.proofs.lemmas.Bool.{cases_lt}
use Rattle.rows.specs.declared.row.Place.{Place}
use Rattle.rows.specs.declared.row.ModuleRow.{ModuleRow}
use Rattle.book_words.specs.Words.{Kind, Word}
use Rattle.book_words.specs.Words.Kind.{alien, bad, wait, act, plus}
use Rattle.book_grammar.specs.Reading.{Reading, Step, Open as Entry, on, state_number, is, allowed, moved, long, given, lacking, over, tried, run}
use Rattle.book_grammar.specs.Reading.Open.{adding}
use Rattle.book_grammar.specs.Reading.State.{term}
use Rattle.book_grammar.specs.Reading.Step.{stops}
use Rattle.book_grammar.proofs.Overfull.{shape, over_alike, overfull_run}
use Rattle.book_text.specs.declared.fault.BookFault.{BookFault}
use Rattle.book_text.specs.declared.parser.Parser.{Parser}
use Rattle.book_text.specs.declared.parser.Open.{Open}
use Rattle.book_text.specs.declared.parser.Open.TheVariants.{Waiting, Acting, Adding}
use Rattle.book_text.specs.declared.parser.State.{State}
use Rattle.book_text.specs.declared.parser.State.TheVariants.{Term, Point, After}
use Rattle.book_text.specs.Parsers.{state_of_stage, open_in, op_at, opened_in, view}
use Rattle.book_text.specs.Faults.{number_of, where_of}
use Rattle.book_text.specs.Faults.Where.{offset_at}
use Rattle.book_text.specs.Stacks.{pushed}
use Rattle.book_text.specs.Changes.{is_at, with_stack, Opens}
use Rattle.book_text.specs.Steps.{Tidy, Poised, unnamed, unfinished, Steady, going_on, Leads}
use Rattle.book_text.proofs.Opened.{opened_push, op_kept, count_op, count_opened}
use Rattle.book_text.proofs.Trying.{stop_2, go_to}
use Rattle.book_text.proofs.Viewing.{known, rows_long, not_over, poised_at, modules_at, lent_at, told_at}

tidy_more : (floors : List ℕ) (k n n' : ℕ) → n ≤ n' → Tidy floors k n → Tidy floors k n'
tidy_more floors zero n n' h t = tt
tidy_more floors (suc k) n n' h t = (let a = t.0 in omega arith, t.1)

shape_op : (o : Open) (es : List Entry) → shape (open_in o ∷ es) ≡ false ∷ shape es
shape_op Waiting es = refl
shape_op (Acting a) es = refl
shape_op (Adding k) es = refl

module _ (text : List ℕ) (d : Parser) (P : List Place) (M : List ModuleRow) (at : ℕ) (st : Steady at d (length P) (length M)) where
  steady_pushed : (q : State) (o : Open) → Poised q (pushed d.stack o) (length d.lefts.items) → length d.titles.items + unnamed q ≤ 64 → length d.titles.items + unnamed q ≤ length M
      → d.done + unfinished q ≡ length d.titles.items → Steady (at + 1) (with_stack q (pushed d.stack o) d) (length P) (length M)
  steady_pushed q o po fm le to =
      let s = st.sound in
      let sh = s.short in
      record {
        room = st.room;
        lent = le;
        sound = record {
          ops_kept = length-set d.stack.ops d.stack.pending o ∙ s.ops_kept;
          names_kept = s.names_kept;
          short = omega arith;
          nested = s.nested;
          tidy = tidy_more d.stack.floors.items (length d.stack.floors.items) d.stack.pending (d.stack.pending + 1) (omega arith) s.tidy;
          poised = po;
          few_rows = s.few_rows;
          few_equations = s.few_equations;
          few_modules = fm;
          told = to;
        };
      }

  pushes : (k : Kind) (q : State) (o : Open) → is k alien ≡ false → allowed (view text d P M) k ≡ true → is k bad ≡ false → long k ≡ false
      → given (view text d P M) k ≡ false → lacking (view text d P M) k ≡ false
      → moved (view text d P M) k ≡ on (view text d P M) (state_of_stage q) (open_in o ∷ (view text d P M).opened) (view text d P M).rows
      → (eqb (state_number (state_of_stage q)) 5 || (eqb (state_number (state_of_stage q)) 6 || eqb (state_number (state_of_stage q)) 7)) ≡ true
      → Steady (at + 1) (with_stack q (pushed d.stack o) d) (length P) (length M)
      → Leads (length P) (length M) (length text) (view text d P M) k at (view text (with_stack q (pushed d.stack o) d) P M) (with_stack q (pushed d.stack o) d) (Ok tt)
  unfolding view
  pushes k q o a b c l g f mv there s' =
      let v = view text d P M in
      let d' = with_stack q (pushed d.stack o) d in
      let n = d.stack.pending in
      let o' = op_at (set d.stack.ops n o) n in
      let os = opened_in d.stack.ops d.stack.floors.items (length d.stack.floors.items) n in
      let R = v.rows in
      let alike : shape (open_in o ∷ os) ≡ shape (open_in o' ∷ os) = shape_op o os ∙ sym (shape_op o' os) in
      let e : view text d' P M ≡ on v (state_of_stage q) (open_in o' ∷ os) R =
      ap (λ (es : List Entry). on v (state_of_stage q) es R) (opened_push d.stack.ops o d.stack.floors.items (length d.stack.floors.items) n st.sound.tidy) in
      let ov : over (length P) (length M) (on v (state_of_stage q) (open_in o ∷ os) R) ≡ false =
      over_alike (length P) (length M) (length text) v (state_of_stage q) (open_in o ∷ os) (open_in o' ∷ os) R R alike refl
      ∙ ap (λ (s : Reading). over (length P) (length M) s) (sym e) ∙ not_over text (at + 1) d' P M s' in
      let tr = go_to (length P) (length M) v k (on v (state_of_stage q) (open_in o ∷ os) R) a b c l g f mv ov in
      let same : (ws : List Word) → run (length P) (length M) (length text) (on v (state_of_stage q) (open_in o ∷ os) R) ws
      ≡ run (length P) (length M) (length text) (on v (state_of_stage q) (open_in o' ∷ os) R) ws = λ ws.
      elim (cases_lt n (length d.stack.ops)) [
        | inl h ↦ ap (λ (x : Open). run (length P) (length M) (length text) (on v (state_of_stage q) (open_in x ∷ os) R) ws) (sym (op_kept d.stack.ops n o h))
        | inr h ↦
            (let x = count_op o os in
            let y = count_opened d.stack.ops d.stack.floors.items (length d.stack.floors.items) n st.sound.tidy in
            let z = st.sound.ops_kept in
            overfull_run (length P) (length M) (length text) ws (state_of_stage q) v (open_in o ∷ os) (open_in o' ∷ os) R R alike refl (inl (omega arith)) there)
      ] in (
        λ ws. ap (λ (x : Step). going_on (length P) (length M) (length text) at ws x) tr ∙ same ws
            ∙ ap (λ (x : Reading). run (length P) (length M) (length text) x ws) (sym e),
        s',
      )

  pub wait_no : is_at d.state Term ≡ false → tried (length P) (length M) (view text d P M) wait ≡ stops 2
  unfolding view
  wait_no h = stop_2 (length P) (length M) (view text d P M) wait refl h

  pub act_no : (a : ℤ) → is_at d.state Term ≡ false → tried (length P) (length M) (view text d P M) (act a) ≡ stops 2
  unfolding view
  act_no a h = stop_2 (length P) (length M) (view text d P M) (act a) refl h

  pub plus_no : is_at d.state After ≡ false → tried (length P) (length M) (view text d P M) plus ≡ stops 2
  unfolding view
  plus_no h = stop_2 (length P) (length M) (view text d P M) plus refl h

  pub wait_ok : is_at d.state Term ≡ true
      → Leads (length P) (length M) (length text) (view text d P M) wait at (view text (with_stack Point (pushed d.stack Waiting) d) P M) (with_stack Point (pushed d.stack Waiting) d) (Ok tt)
  unfolding view
  wait_ok h =
      let e = known d.state Term h in
      pushes wait Point Waiting refl h refl refl refl refl refl refl
      (steady_pushed Point Waiting (poised_at text at d P M st Term e) (modules_at text at d P M st Term e) (lent_at text at d P M st Term e) (told_at text at d P M st Term e))

  pub act_ok : (a : ℤ) → is_at d.state Term ≡ true
      → Leads (length P) (length M) (length text) (view text d P M) (act a) at (view text (with_stack Point (pushed d.stack (Acting a)) d) P M) (with_stack Point (pushed d.stack (Acting a)) d) (Ok tt)
  unfolding view
  act_ok a h =
      let e = known d.state Term h in
      pushes (act a) Point (Acting a) refl h refl refl refl refl refl refl
      (steady_pushed Point (Acting a) (poised_at text at d P M st Term e) (modules_at text at d P M st Term e) (lent_at text at d P M st Term e) (told_at text at d P M st Term e))

  pub plus_ok : (j : ℕ) → j ≡ d.rows - 1 → is_at d.state After ≡ true
      → Leads (length P) (length M) (length text) (view text d P M) plus at (view text (with_stack Term (pushed d.stack (Adding j)) d) P M) (with_stack Term (pushed d.stack (Adding j)) d) (Ok tt)
  unfolding view
  plus_ok j i h =
      let e = known d.state After h in
      let r = rows_long text at d P M st in
      let v = view text d P M in
      let n : length v.rows - 1 ≡ j = omega arith in
      pushes plus Term (Adding j) refl h refl refl refl refl (ap (λ (x : ℕ). on v term (adding x ∷ v.opened) v.rows) n) refl
      (steady_pushed Term (Adding j) (poised_at text at d P M st After e).0 (modules_at text at d P M st After e) (lent_at text at d P M st After e) (told_at text at d P M st After e))

  -- a word behind which a term must follow
  does : (k : Kind) (q q' : State) (o : Open) (d' : Parser) (r : Result (Unit {0}) BookFault) → at + 1 < 2 ^ 64
      → (is_at d.state q ≡ false → tried (length P) (length M) (view text d P M) k ≡ stops 2)
      → (is_at d.state q ≡ true → Leads (length P) (length M) (length text) (view text d P M) k at (view text (with_stack q' (pushed d.stack o) d) P M) (with_stack q' (pushed d.stack o) d) (Ok tt))
      → Opens d q o q' at d' r → Leads (length P) (length M) (length text) (view text d P M) k at (view text d' P M) d' r
  does k q q' o d' (Ok done) fits n y g =
      let sh = st.sound.short in
      subst (λ (x : Parser). Leads (length P) (length M) (length text) (view text d P M) k at (view text x P M) x (Ok tt)) (sym (g.1 (omega arith))) (y g.0)
  does k q q' o d' (Err f) fits n y g =
      subst (λ (x : BookFault). (tried (length P) (length M) (view text d P M) k ≡ stops (number_of x)) × (where_of x ≡ offset_at at)) (sym g.1) (n g.0, refl)

  pub wait_does : at + 1 < 2 ^ 64 → (d' : Parser) (r : Result (Unit {0}) BookFault) → Opens d Term Waiting Point at d' r
      → Leads (length P) (length M) (length text) (view text d P M) wait at (view text d' P M) d' r
  wait_does fits d' r g = does wait Term Point Waiting d' r fits wait_no wait_ok g

  pub act_does : at + 1 < 2 ^ 64 → (d' : Parser) (r : Result (Unit {0}) BookFault) (a : ℤ) → Opens d Term (Acting a) Point at d' r
      → Leads (length P) (length M) (length text) (view text d P M) (act a) at (view text d' P M) d' r
  act_does fits d' r a g = does (act a) Term Point (Acting a) d' r fits (act_no a) (act_ok a) g

  pub plus_does : at + 1 < 2 ^ 64 → (d' : Parser) (r : Result (Unit {0}) BookFault) (j : ℕ) → j ≡ d.rows - 1 → Opens d After (Adding j) Term at d' r
      → Leads (length P) (length M) (length text) (view text d P M) plus at (view text d' P M) d' r
  plus_does fits d' r j e g = does plus After Term (Adding j) d' r fits plus_no (plus_ok j e) g
