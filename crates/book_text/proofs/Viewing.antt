-- What a steady parser stands for.
use Rattle.std.proofs.Common.{◌≡◌, ℕ, ◌+◌, ◌≤◌, true, false, eqb, List, [], map, length, take, sym, refl, ap, ◌∙◌, subst, arith}
use Rattle.std.proofs.lemmas.List.{length-map, length-take-le}
use Rattle.rows.specs.declared.row.Place.{Place}
use Rattle.rows.specs.declared.row.ModuleRow.{ModuleRow}
use Rattle.book_grammar.specs.Reading.{Reading, Open as Entry, State as Stage, state_number, over, begun}
use Rattle.book_grammar.specs.Rows.{Row, Side}
use Rattle.book_grammar.specs.Reading.State.{outside, title, brace, left, equal, term, point, after}
use Rattle.book_grammar.proofs.Bounds.{Bounds, within_bounds}
use Rattle.book_grammar.proofs.Viable.{state_is}
use Rattle.book_text.specs.declared.parser.Label.{Label}
use Rattle.book_text.specs.declared.parser.Parser.{Parser}
use Rattle.book_text.specs.declared.parser.State.{State}
use Rattle.book_text.specs.declared.parser.State.TheVariants.{Outside, Title, Brace, Left, Equal, Term, Point, After}
use Rattle.book_text.specs.Parsers.{state_of_stage, above, opened_in, opened_on, label_in, side_in, rows_view, rows_in, view}
use Rattle.book_text.specs.Changes.{is_at, in_state}
use Rattle.book_text.specs.Steps.{Tidy, Poised, unnamed, unfinished, Steady, Blank}
use Rattle.book_text.proofs.Opened.{parens_opened}
use Rattle.book_text.proofs.Rowing.{rows_length, length_rows}

state_at : Stage → State
state_at outside = Outside
state_at title = Title
state_at brace = Brace
state_at left = Left
state_at equal = Equal
state_at term = Term
state_at point = Point
state_at after = After

state_at_in : (q : State) → state_at (state_of_stage q) ≡ q
unfolding state_at
state_at_in Outside = refl
state_at_in Title = refl
state_at_in Brace = refl
state_at_in Left = refl
state_at_in Equal = refl
state_at_in Term = refl
state_at_in Point = refl
state_at_in After = refl

-- the test of a state tells which it is
pub known : (a b : State) → is_at a b ≡ true → a ≡ b
known a b e = sym (state_at_in a) ∙ ap state_at (state_is (state_of_stage a) (state_of_stage b) e) ∙ state_at_in b

awaiting : (q : State) → ◌≡◌ {A = ℕ} (elim (eqb (state_number (state_of_stage q)) 1) [ true ↦ 1 | false ↦ 0 ]) (unnamed q)
awaiting Outside = refl
awaiting Title = refl
awaiting Brace = refl
awaiting Left = refl
awaiting Equal = refl
awaiting Term = refl
awaiting Point = refl
awaiting After = refl

module _ (text : List ℕ) (n : ℕ) (d : Parser) (P : List Place) (M : List ModuleRow) (st : Steady n d (length P) (length M)) where
  pub titles_long : length (map (label_in text) d.titles.items) ≡ length d.titles.items
  titles_long = length-map d.titles.items (label_in text)

  pub sides_long : length (map (side_in text) d.lefts.items) ≡ length d.lefts.items
  sides_long = length-map d.lefts.items (side_in text)

  pub places_long : length (rows_in d.first d.rows P) ≡ d.rows
  places_long = length_rows P d.first d.rows st.room

  pub rows_long : length (rows_view text d.names (rows_in d.first d.rows P)) ≡ d.rows
  rows_long =
      let few = st.sound.few_rows in
      let kept = st.sound.names_kept in
      let l = places_long in
      rows_length text d.names (rows_in d.first d.rows P) (omega arith) ∙ l

  pub front_long : length (take d.first P) ≡ d.first
  front_long = let r = st.room in length-take-le d.first P (omega arith)

  pub begun_is : begun (view text d P M) ≡ length d.titles.items + unnamed d.state
  unfolding view
  begun_is =
      ap {B = ℕ} (λ (k : ℕ). k + elim (eqb (state_number (state_of_stage d.state)) 1) [ true ↦ 1 | false ↦ 0 ]) titles_long
      ∙ ap (λ (k : ℕ). length d.titles.items + k) (awaiting d.state)

  -- it is over no limit
  pub within : Bounds (length P) (length M) (view text d P M)
  unfolding view
  within = record {
    titles = subst (λ (k : ℕ). k ≤ 64) (sym begun_is) st.sound.few_modules;
    lent = subst (λ (k : ℕ). k ≤ length M) (sym begun_is) st.lent;
    sides = subst (λ (k : ℕ). k ≤ 64) (sym sides_long) st.sound.few_equations;
    rows = subst (λ (k : ℕ). k ≤ 256) (sym rows_long) st.sound.few_rows;
    room = (let a = front_long in let b = rows_long in let r = st.room in omega arith);
    nested = subst (λ (k : ℕ). k ≤ 32) (sym (parens_opened d.stack.ops d.stack.floors.items (length d.stack.floors.items) d.stack.pending)) st.sound.nested;
  }

  pub not_over : over (length P) (length M) (view text d P M) ≡ false
  not_over = within_bounds (length P) (length M) (view text d P M) within

  -- another state
  pub steady_in : (k : ℕ) (q : State) → n ≤ k → Poised q d.stack (length d.lefts.items) → length d.titles.items + unnamed q ≤ 64 → length d.titles.items + unnamed q ≤ length M → d.done + unfinished q ≡ length d.titles.items
      → Steady k (in_state q d) (length P) (length M)
  steady_in k q le po fm le' to =
      let s = st.sound in
      let sh = s.short in
      record {
        room = st.room;
        lent = le';
        sound = record {
          ops_kept = s.ops_kept;
          names_kept = s.names_kept;
          short = omega arith;
          nested = s.nested;
          tidy = s.tidy;
          poised = po;
          few_rows = s.few_rows;
          few_equations = s.few_equations;
          few_modules = fm;
          told = to;
        };
      }

  -- what is known in a known state
  pub poised_at : (q : State) → d.state ≡ q → Poised q d.stack (length d.lefts.items)
  poised_at q e = subst (λ (x : State). Poised x d.stack (length d.lefts.items)) e st.sound.poised

  pub modules_at : (q : State) → d.state ≡ q → length d.titles.items + unnamed q ≤ 64
  modules_at q e = subst (λ (x : State). length d.titles.items + unnamed x ≤ 64) e st.sound.few_modules

  pub lent_at : (q : State) → d.state ≡ q → length d.titles.items + unnamed q ≤ length M
  lent_at q e = subst (λ (x : State). length d.titles.items + unnamed x ≤ length M) e st.lent

  pub told_at : (q : State) → d.state ≡ q → d.done + unfinished q ≡ length d.titles.items
  told_at q e = subst (λ (x : State). d.done + unfinished x ≡ length d.titles.items) e st.sound.told

-- a parser that begins
pub begins : (d : Parser) → d.state ≡ Outside → length d.stack.ops ≡ 256 → d.stack.pending ≡ 0 → d.stack.floors.items ≡ [] → d.first ≡ 0 → d.rows ≡ 0 → length d.names ≡ 256
    → d.lefts.items ≡ [] → d.titles.items ≡ [] → d.done ≡ 0 → Blank d
unfolding view
begins d q o p f a r names l t e =
    let no_floor : length d.stack.floors.items ≡ 0 = ap length f in
    let no_title : length d.titles.items ≡ 0 = ap length t in
    let no_left : length d.lefts.items ≡ 0 = ap length l in
    let idle : unnamed d.state ≡ 0 = ap unnamed q in
    let ready : unfinished d.state ≡ 0 = ap unfinished q in
    record {
      steady = λ n m. record {
        room = omega arith;
        lent = omega arith;
        sound = record {
          ops_kept = o;
          names_kept = names;
          short = omega arith;
          nested = omega arith;
          tidy = subst (λ (fs : List ℕ). Tidy fs (length fs) d.stack.pending) (sym f) tt;
          poised = subst (λ (x : State). Poised x d.stack (length d.lefts.items)) (sym q) (p, no_floor);
          few_rows = omega arith;
          few_equations = omega arith;
          few_modules = omega arith;
          told = omega arith;
        };
      };
      shows = λ text P M.
          let F : Stage → List Entry → List Row → List Side → List (List ℕ) → List Place → List ModuleRow → Reading = λ (q : Stage) (es : List Entry) (rs : List Row) (ss : List Side) (ts : List (List ℕ)) (ps : List Place) (ms : List ModuleRow). record {
            state = q;
            opened = es;
            rows = rs;
            sides = ss;
            titles = ts;
            places = ps;
            modules = ms;
          } in
          let R = rows_view text d.names (rows_in d.first d.rows P) in
          let S = map (side_in text) d.lefts.items in
          let T = map (label_in text) d.titles.items in
          ap (λ (x : State). F (state_of_stage x) (opened_on d.stack) R S T (take d.first P) (take d.done M)) q
          ∙ ap (λ (x : List ℕ). F outside (opened_in d.stack.ops x (length x) d.stack.pending) R S T (take d.first P) (take d.done M)) f
          ∙ ap (λ (x : ℕ). F outside (above d.stack.ops 0 x) R S T (take d.first P) (take d.done M)) p
          ∙ ap (λ (x : ℕ). F outside [] (rows_view text d.names (rows_in d.first x P)) S T (take d.first P) (take d.done M)) r
          ∙ ap (λ (x : List Label). F outside [] [] (map (side_in text) x) T (take d.first P) (take d.done M)) l
          ∙ ap (λ (x : List Label). F outside [] [] [] (map (label_in text) x) (take d.first P) (take d.done M)) t
          ∙ ap (λ (x : ℕ). F outside [] [] [] [] (take x P) (take d.done M)) a
          ∙ ap (λ (x : ℕ). F outside [] [] [] [] [] (take x M)) e;
    }
