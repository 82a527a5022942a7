-- `}`: the module at hand is complete.
use Rattle.std.proofs.Common.{◌≡◌, ℕ, ◌+◌, ◌<◌, true, false, List, [], ◌∷◌, ◌++◌, map, length, get_or, take, set, Ok, sym, refl, ap, ◌∙◌, subst, arith}
use Rattle.std.proofs.lemmas.List.{length-set, take_more_set}
use Rattle.std.proofs.lemmas.Bool.{and_from, and_left, and_right}
use Rattle.action.specs.Lists.{any}
use Rattle.rows.specs.declared.row.Place.{Place}
use Rattle.rows.specs.declared.row.ModuleRow.{ModuleRow}
use Rattle.book_words.specs.Words.Kind.{leave}
use Rattle.book_grammar.specs.Rows.{start_of, module_row}
use Rattle.book_grammar.specs.Reading.{Reading, Open as Entry, lost, some, allowed, moved, over, tried}
use Rattle.book_grammar.specs.Reading.State.{outside}
use Rattle.book_grammar.specs.Reading.Step.{stops}
use Rattle.book_text.specs.declared.parser.Parser.{Parser}
use Rattle.book_text.specs.declared.parser.Label.{Label}
use Rattle.book_text.specs.declared.parser.State.TheVariants.{Outside, Left}
use Rattle.book_text.specs.Parsers.{floor_of, opened_on, side_in, view}
use Rattle.book_text.specs.Stacks.{floor}
use Rattle.book_text.specs.Changes.{is_at}
use Rattle.book_text.specs.Settling.{sides_of, rows_of, Settled}
use Rattle.book_text.specs.Steps.{Steady, Leads}
use Rattle.book_text.proofs.Finding.{no_label}
use Rattle.book_text.proofs.Opened.{opened_none}
use Rattle.book_text.proofs.Trying.{stop_2, stop_6, go_to, leads_to}
use Rattle.book_text.proofs.Viewing.{known, rows_long, front_long, not_over, poised_at, modules_at, lent_at, told_at}

some_sides : (text : List ℕ) (ls : List Label) → 0 < length ls → some (map (side_in text) ls) ≡ true
some_sides text [] h = absurd (omega arith)
some_sides text (l ∷ ls) h = refl

no_sides : (text : List ℕ) (ls : List Label) → length ls ≡ 0 → some (map (side_in text) ls) ≡ false
no_sides text [] h = refl
no_sides text (l ∷ ls) h = absurd (omega arith)

start_is : (text : List ℕ) (ls : List Label) → 0 < length ls → start_of (map (side_in text) ls) ≡ (get_or ls 0 no_label).place
start_is text [] h = absurd (omega arith)
start_is text (l ∷ ls) h = refl

module _ (text : List ℕ) (d : Parser) (P : List Place) (M : List ModuleRow) (at : ℕ) (st : Steady at d (length P) (length M)) where
  pub leave_no : is_at d.state Left ≡ false → tried (length P) (length M) (view text d P M) leave ≡ stops 2
  unfolding view
  leave_no h = stop_2 (length P) (length M) (view text d P M) leave refl (and_left _ _ h)

  pub leave_empty : is_at d.state Left ≡ true → length d.lefts.items ≡ 0 → tried (length P) (length M) (view text d P M) leave ≡ stops 2
  unfolding view
  leave_empty h z = stop_2 (length P) (length M) (view text d P M) leave refl (and_right (is_at d.state Left) _ (no_sides text d.lefts.items z))

  leave_allowed : is_at d.state Left ≡ true → 0 < length d.lefts.items → allowed (view text d P M) leave ≡ true
  unfolding view
  leave_allowed h z =
      and_from (is_at d.state Left) _ h (some_sides text d.lefts.items z)

  pub leave_lost : is_at d.state Left ≡ true → 0 < length d.lefts.items → any (lost (sides_of text d)) (rows_of text d P) ≡ true → tried (length P) (length M) (view text d P M) leave ≡ stops 6
  unfolding view
  leave_lost h z g = stop_6 (length P) (length M) (view text d P M) leave refl (leave_allowed h z) refl refl refl g

  -- the row of the module, and what the parser becomes
  abbrev pub row_of : ModuleRow
  row_of = record { first = d.first; places = d.rows; start = (get_or d.lefts.items 0 no_label).place }

  abbrev pub left_behind : Parser
  left_behind = record {
    state = Outside;
    at = d.at;
    stack = d.stack;
    first = d.first + d.rows;
    rows = 0;
    names = d.names;
    lefts = record { items = [] };
    titles = d.titles;
    done = d.done + 1;
  }

  pub leave_ok : (P' : List Place) → length P' ≡ length P → is_at d.state Left ≡ true → 0 < length d.lefts.items → Settled text d P P'
      → Leads (length P) (length M) (length text) (view text d P M) leave at (view text left_behind P' (set M d.done row_of)) left_behind (Ok tt)
  unfolding view
  leave_ok P' size h z g =
      let v = view text d P M in
      let so = st.sound in
      let sh = so.short in
      let qe = known d.state Left h in
      let q = poised_at text at d P M st Left qe in
      let mo = modules_at text at d P M st Left qe in
      let le = lent_at text at d P M st Left qe in
      let to = told_at text at d P M st Left qe in
      let ro = st.room in
      let M' = set M d.done row_of in
      let ml : length M' ≡ length M = length-set M d.done row_of in
      let f0 : floor d.stack ≡ 0 = ap (λ (x : ℕ). floor_of d.stack.floors.items x) q.1 in
      let none : opened_on d.stack ≡ [] =
      opened_none d.stack.ops d.stack.floors.items d.stack.pending q.1 (q.0 ∙ sym f0) in
      let F : List Entry → List Place → List ModuleRow → Reading = λ (es : List Entry) (ps : List Place) (ms : List ModuleRow). record {
        state = outside;
        opened = es;
        rows = [];
        sides = [];
        titles = v.titles;
        places = ps;
        modules = ms;
      } in
      let row : module_row (length v.places) v.rows v.sides ≡ row_of =
      ap {B = ModuleRow} (λ (k : ℕ). record { first = k; places = length v.rows; start = start_of v.sides }) (front_long text at d P M st)
      ∙ ap {B = ModuleRow} (λ (k : ℕ). record { first = d.first; places = k; start = start_of v.sides }) (rows_long text at d P M st)
      ∙ ap {B = ModuleRow} (λ (k : ℕ). record { first = d.first; places = d.rows; start = k }) (start_is text d.lefts.items z) in
      let e : moved v leave ≡ view text left_behind P' M' =
      ap (λ (x : List Place). F [] x (v.modules ++ module_row (length v.places) v.rows v.sides ∷ [])) (sym g.1)
      ∙ ap (λ (x : ModuleRow). F [] (take (d.first + d.rows) P') (v.modules ++ x ∷ [])) row
      ∙ ap (λ (x : List ModuleRow). F [] (take (d.first + d.rows) P') x) (sym (take_more_set M d.done row_of (omega arith)))
      ∙ ap (λ (x : List Entry). F x (take (d.first + d.rows) P') (take (d.done + 1) M')) (sym none) in
      let s' : Steady (at + 1) left_behind (length P) (length M) = record {
        room = omega arith;
        lent = le;
        sound = record {
          ops_kept = so.ops_kept;
          names_kept = so.names_kept;
          short = omega arith;
          nested = so.nested;
          tidy = so.tidy;
          poised = q;
          few_rows = omega arith;
          few_equations = omega arith;
          few_modules = mo;
          told = omega arith;
        };
      } in
      let ov : over (length P) (length M) (view text left_behind P' M') ≡ false =
      subst (λ (k : ℕ). over k (length M) (view text left_behind P' M') ≡ false) size
      (subst (λ (k : ℕ). over (length P') k (view text left_behind P' M') ≡ false) ml
      (not_over text (at + 1) left_behind P' M'
      (subst (λ (k : ℕ). Steady (at + 1) left_behind k (length M')) (sym size) (subst (λ (k : ℕ). Steady (at + 1) left_behind (length P) k) (sym ml) s')))) in
      leads_to (length P) (length M) v leave (length text) at (view text left_behind P' M') left_behind
      (go_to (length P) (length M) v leave (view text left_behind P' M') refl (leave_allowed h z) refl refl refl g.0 e ov) s'

  abbrev pub left_with : ℕ → List Label → Parser
  left_with first ls = record {
    state = Outside;
    at = d.at;
    stack = d.stack;
    first = first;
    rows = 0;
    names = d.names;
    lefts = record { items = ls };
    titles = d.titles;
    done = d.done + 1;
  }

  pub leave_does : (P' : List Place) (first : ℕ) (ls : List Label) (w : ModuleRow) → length P' ≡ length P → is_at d.state Left ≡ true → 0 < length d.lefts.items → Settled text d P P'
      → first ≡ d.first + d.rows → ls ≡ [] → w ≡ row_of
      → Leads (length P) (length M) (length text) (view text d P M) leave at (view text (left_with first ls) P' (set M d.done w)) (left_with first ls) (Ok tt)
  leave_does P' first ls w size h z g f l r =
      let L : ℕ → List Label → ModuleRow → Type 0 = λ (f : ℕ) (l : List Label) (r : ModuleRow).
      Leads (length P) (length M) (length text) (view text d P M) leave at (view text (left_with f l) P' (set M d.done r)) (left_with f l) (Ok tt) in
      subst (λ (x : ℕ). L x ls w) (sym f) (subst (λ (x : List Label). L (d.first + d.rows) x w) (sym l) (subst (λ (x : ModuleRow). L (d.first + d.rows) [] x) (sym r) (leave_ok P' size h z g)))
