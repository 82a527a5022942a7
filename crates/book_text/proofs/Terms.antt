-- Words that complete a term, and parentheses.
use Rattle.std.proofs.Common.{◌≡◌, ℕ, ◌+◌, ◌-◌, ◌<◌, ◌≤◌, true, false, not, List, [], ◌∷◌, ◌++◌, map, length, get_or, take, set, Ok, Err, Result, sym, refl, ap, ◌∙◌, subst, inl, inr, arith}
use Rattle.std.proofs.lemmas.List.{length-set, length_push, take_all, take_more, take_more_set, take-set-le, map_push, length-take-le}
use Rattle.std.proofs.lemmas.Bool.{and_from, and_right, and_left}
use Rattle.book_text.specs.declared.fault.BookFault.{BookFault}
use Rattle.rows.specs.declared.row.Place.{Place}
use Rattle.rows.specs.declared.row.Place.TheVariants.{Nil}
use Rattle.rows.specs.declared.row.ModuleRow.{ModuleRow}
use Rattle.book_words.specs.Words.{Kind}
use Rattle.book_words.specs.Words.Kind.{alien, bad, nil, opens, closes, ends}
use Rattle.book_grammar.specs.Rows.{Row, Side}
use Rattle.book_grammar.specs.Rows.Row.{plain}
use Rattle.book_grammar.specs.Reading.{Reading, Open as Entry, on, complete, around, finished, inside, some, behind, sided, is, allowed, moved, long, given, lacking, over, tried}
use Rattle.book_grammar.specs.Reading.State.{left, term, after}
use Rattle.book_grammar.specs.Reading.Step.{stops}
use Rattle.book_grammar.proofs.Free.{sided_last}
use Rattle.book_text.specs.declared.parser.Parser.{Parser}
use Rattle.book_text.specs.declared.parser.Stack.{Stack}
use Rattle.book_text.specs.declared.parser.Span.{Span}
use Rattle.book_text.specs.declared.parser.Label.{Label}
use Rattle.book_text.specs.declared.parser.State.{State}
use Rattle.book_text.specs.declared.parser.State.TheVariants.{Left, Term, After}
use Rattle.book_text.specs.Faults.{number_of, where_of}
use Rattle.book_text.specs.Faults.Where.{offset_at}
use Rattle.book_text.specs.Parsers.{floor_of, opened_on, label_in, side_in, rows_view, rows_in, view}
use Rattle.book_text.specs.Stacks.{floor, waiting_on, closed_rows}
use Rattle.book_text.specs.Changes.{is_at, with_stack, with_floors, closed, Finished, Finishes, TooManyRows}
use Rattle.book_text.specs.Steps.{Tidy, Sound, Steady, Leads}
use Rattle.book_text.proofs.Opened.{opened_open, opened_none, opened_closes, tidy_open, tidy_closes, tidy_floor, floor_below, around_opened, parens_opened}
use Rattle.book_text.proofs.Rowing.{rows_push, finished_opened, length_opened, put_rows}
use Rattle.book_text.proofs.Trying.{stop_2, stop_7, go_to, leads_to, over_places, over_room, over_parens}
use Rattle.book_text.proofs.Viewing.{known, places_long, rows_long, front_long, not_over, poised_at, modules_at, lent_at, told_at}

-- a parser with other names
abbrev pub with_names : List Span → Parser → Parser
with_names names d = record {
  state = d.state;
  at = d.at;
  stack = d.stack;
  first = d.first;
  rows = d.rows;
  names = names;
  lefts = d.lefts;
  titles = d.titles;
  done = d.done;
}

-- what a parser behind a complete term stands for
finished_view : (text : List ℕ) (d : Parser) (s : Stack) (P P' : List Place) (M : List ModuleRow) (R : List Place) (n : ℕ) (d' : Parser)
    → length R + waiting_on s ≤ length d.names → Finished d s P R d' P' n
    → view text d' P' M ≡ complete (view text d P M) (opened_on s) (rows_view text d.names R)
unfolding view
finished_view text d s P P' M R n d' fit f =
    let F : List Entry → List Row → List Place → Reading = λ (es : List Entry) (rs : List Row) (ps : List Place). record {
      state = after;
      opened = es;
      rows = rs;
      sides = map (side_in text) d.lefts.items;
      titles = map (label_in text) d.titles.items;
      places = ps;
      modules = take d.done M;
    } in
    let low = floor s in
    let es = opened_on s in
    ap (λ (x : Parser). view text x P' M) f.parser
    ∙ ap (λ (x : List Entry). F x (rows_view text d.names (rows_in d.first n P')) (take d.first P')) (sym (around_opened s.ops s.floors.items (length s.floors.items) s.pending))
    ∙ ap (λ (x : List Place). F (around es) (rows_view text d.names x) (take d.first P')) f.table
    ∙ ap (λ (x : List Row). F (around es) x (take d.first P')) (sym (finished_opened text d.names s.ops s.floors.items (length s.floors.items) s.pending R fit))
    ∙ ap (λ (x : List Place). F (around es) (finished es (rows_view text d.names R)) x) f.front

-- and that it is steady
finished_steady : (at : ℕ) (d : Parser) (s : Stack) (P P' : List Place) (M : List ModuleRow) (R : List Place) (n : ℕ) (d' : Parser) → Sound at d
    → length s.ops ≡ 256 → length s.floors.items ≤ 32 → s.pending ≤ at → Tidy s.floors.items (length s.floors.items) s.pending
    → 0 < length d.lefts.items → length d.titles.items + 0 ≤ 64 → length d.titles.items + 0 ≤ length M → d.done + 1 ≡ length d.titles.items
    → Finished d s P R d' P' n → Steady (at + 1) d' (length P) (length M)
finished_steady at d s P P' M R n d' so ok ne sh ti eq fm le to f =
    let below = floor_below s.floors.items (length s.floors.items) s.pending ti in
    subst (λ (x : Parser). Steady (at + 1) x (length P) (length M)) (sym f.parser)
    (record {
      room = f.room;
      lent = le;
      sound = record {
        ops_kept = ok;
        names_kept = so.names_kept;
        short = omega arith;
        nested = ne;
        tidy = tidy_floor s.floors.items (length s.floors.items) s.pending ti;
        poised = (eq, refl);
        few_rows = f.few;
        few_equations = so.few_equations;
        few_modules = fm;
        told = to;
      };
    })

still_within : (text : List ℕ) (at : ℕ) (d' : Parser) (P P' : List Place) (M : List ModuleRow) → length P' ≡ length P → Steady at d' (length P) (length M)
    → over (length P) (length M) (view text d' P' M) ≡ false
still_within text at d' P P' M e s =
    subst (λ (k : ℕ). over k (length M) (view text d' P' M) ≡ false) e (not_over text at d' P' M (subst (λ (k : ℕ). Steady at d' k (length M)) (sym e) s))

module _ (text : List ℕ) (d : Parser) (P : List Place) (M : List ModuleRow) (at : ℕ) (st : Steady at d (length P) (length M)) where
  -- a leaf that passes a limit
  pub leaf_many : (k : Kind) (row : Row) → is k alien ≡ false → allowed (view text d P M) k ≡ true → is k bad ≡ false → long k ≡ false
      → given (view text d P M) k ≡ false → lacking (view text d P M) k ≡ false
      → moved (view text d P M) k ≡ complete (view text d P M) (view text d P M).opened ((view text d P M).rows ++ row ∷ [])
      → TooManyRows (d.rows + 1 + waiting_on d.stack) d.first (length P) → tried (length P) (length M) (view text d P M) k ≡ stops 7
  unfolding view
  leaf_many k row a b c l g f mv h =
      let v = view text d P M in
      let t = complete v v.opened (v.rows ++ row ∷ []) in
      let n = length_opened d.stack.ops d.stack.floors.items (length d.stack.floors.items) d.stack.pending (v.rows ++ row ∷ []) in
      let u = length_push v.rows row in
      let r = rows_long text at d P M st in
      let w = front_long text at d P M st in
      stop_7 (length P) (length M) v k a b c l g f (ap (λ (s : Reading). over (length P) (length M) s) mv
      ∙ elim h [ inl i ↦ over_places (length P) (length M) t (omega arith) | inr i ↦ over_room (length P) (length M) t (omega arith) ])

  -- a leaf that is taken, and where its name is kept
  pub leaf_ok : (k : Kind) (row : Row) (leaf : Place) (names : List Span) (d' : Parser) (P' : List Place)
      → is k alien ≡ false → allowed (view text d P M) k ≡ true → is k bad ≡ false → long k ≡ false
      → given (view text d P M) k ≡ false → lacking (view text d P M) k ≡ false → d.state ≡ Term
      → moved (view text d P M) k ≡ complete (view text d P M) (view text d P M).opened ((view text d P M).rows ++ row ∷ [])
      → length names ≡ 256
      → rows_view text names (rows_in d.first d.rows P ++ leaf ∷ []) ≡ rows_view text d.names (rows_in d.first d.rows P) ++ row ∷ []
      → Finished (with_names names d) d.stack P (rows_in d.first d.rows P ++ leaf ∷ []) d' P' (d.rows + 1 + waiting_on d.stack)
      → Leads (length P) (length M) (length text) (view text d P M) k at (view text d' P' M) d' (Ok tt)
  unfolding view
  leaf_ok k row leaf names d' P' a b c l g f q mv kept named fin =
      let v = view text d P M in
      let R = rows_in d.first d.rows P in
      let so = st.sound in
      let few = fin.few in
      let u = length_push R leaf in
      let w = places_long text at d P M st in
      let e : moved v k ≡ view text d' P' M = mv ∙ ap (λ (x : List Row). complete v v.opened x) (sym named)
      ∙ sym (finished_view text (with_names names d) d.stack P P' M (R ++ leaf ∷ []) (d.rows + 1 + waiting_on d.stack) d' (omega arith) fin) in
      let s' = finished_steady at (with_names names d) d.stack P P' M (R ++ leaf ∷ []) (d.rows + 1 + waiting_on d.stack) d'
      (record {
        ops_kept = so.ops_kept;
        names_kept = kept;
        short = so.short;
        nested = so.nested;
        tidy = so.tidy;
        poised = so.poised;
        few_rows = so.few_rows;
        few_equations = so.few_equations;
        few_modules = so.few_modules;
        told = so.told;
      })
      so.ops_kept so.nested so.short so.tidy (poised_at text at d P M st Term q) (modules_at text at d P M st Term q)
      (lent_at text at d P M st Term q) (told_at text at d P M st Term q) fin in
      leads_to (length P) (length M) v k (length text) at (view text d' P' M) d'
      (go_to (length P) (length M) v k (view text d' P' M) a b c l g f e (still_within text (at + 1) d' P P' M fin.size s')) s'

  pub nil_no : is_at d.state Term ≡ false → tried (length P) (length M) (view text d P M) nil ≡ stops 2
  unfolding view
  nil_no h = stop_2 (length P) (length M) (view text d P M) nil refl h

  pub nil_many : is_at d.state Term ≡ true → TooManyRows (d.rows + 1 + waiting_on d.stack) d.first (length P) → tried (length P) (length M) (view text d P M) nil ≡ stops 7
  unfolding view
  nil_many h g = leaf_many nil (plain Nil) refl h refl refl refl refl refl g

  pub nil_ok : (d' : Parser) (P' : List Place) → is_at d.state Term ≡ true
      → Finished d d.stack P (rows_in d.first d.rows P ++ Nil ∷ []) d' P' (d.rows + 1 + waiting_on d.stack)
      → Leads (length P) (length M) (length text) (view text d P M) nil at (view text d' P' M) d' (Ok tt)
  unfolding view
  nil_ok d' P' h fin =
      let w = places_long text at d P M st in
      let few = fin.few in
      let kept = st.sound.names_kept in
      leaf_ok nil (plain Nil) Nil d.names d' P' refl h refl refl refl refl (known d.state Term h) refl st.sound.names_kept
      (rows_push text d.names (rows_in d.first d.rows P) Nil (omega arith)) fin

  -- `(`
  pub opens_no : is_at d.state Term ≡ false → tried (length P) (length M) (view text d P M) opens ≡ stops 2
  unfolding view
  opens_no h = stop_2 (length P) (length M) (view text d P M) opens refl h

  pub opens_many : is_at d.state Term ≡ true → 32 ≤ length d.stack.floors.items → tried (length P) (length M) (view text d P M) opens ≡ stops 7
  unfolding view
  opens_many h g =
      let e = parens_opened d.stack.ops d.stack.floors.items (length d.stack.floors.items) d.stack.pending in
      stop_7 (length P) (length M) (view text d P M) opens refl h refl refl refl refl
      (over_parens (length P) (length M) (moved (view text d P M) opens) (omega arith))

  abbrev pub opened_with : List ℕ → Parser
  opened_with floors = with_stack d.state (with_floors floors d.stack) d

  pub opens_ok : (floors : List ℕ) → is_at d.state Term ≡ true → length d.stack.floors.items < 32 → floors ≡ d.stack.floors.items ++ d.stack.pending ∷ []
      → Leads (length P) (length M) (length text) (view text d P M) opens at (view text (opened_with floors) P M) (opened_with floors) (Ok tt)
  unfolding view
  opens_ok floors h g i =
      let v = view text d P M in
      let so = st.sound in
      let sh = so.short in
      let n = d.stack.pending in
      let fs = d.stack.floors.items ++ n ∷ [] in
      let q = known d.state Term h in
      let s₁ : Stack = with_floors fs d.stack in
      let d₁ = with_stack Term s₁ d in
      let st₁ : Steady (at + 1) d₁ (length P) (length M) = record {
        room = st.room;
        lent = lent_at text at d P M st Term q;
        sound = record {
          ops_kept = so.ops_kept;
          names_kept = so.names_kept;
          short = omega arith;
          nested = omega (arith, length_push d.stack.floors.items n);
          tidy = tidy_open d.stack.floors.items n so.tidy;
          poised = poised_at text at d P M st Term q;
          few_rows = so.few_rows;
          few_equations = so.few_equations;
          few_modules = modules_at text at d P M st Term q;
          told = told_at text at d P M st Term q;
        };
      } in
      let e : moved v opens ≡ view text d₁ P M = ap (λ (es : List Entry). on v term es v.rows) (sym (opened_open d.stack.ops d.stack.floors.items n)) in
      let r = leads_to (length P) (length M) v opens (length text) at (view text d₁ P M) d₁
      (go_to (length P) (length M) v opens (view text d₁ P M) refl h refl refl refl refl e (not_over text (at + 1) d₁ P M st₁)) st₁ in
      let same : d₁ ≡ opened_with floors = ap (λ (x : List ℕ). with_stack Term (with_floors x d.stack) d) (sym i)
      ∙ ap (λ (x : State). with_stack x (with_floors floors d.stack) d) (sym q) in
      subst (λ (x : Parser). Leads (length P) (length M) (length text) v opens at (view text x P M) x (Ok tt)) same r

  -- `)`
  pub closes_no : is_at d.state After ≡ false → tried (length P) (length M) (view text d P M) closes ≡ stops 2
  unfolding view
  closes_no h = stop_2 (length P) (length M) (view text d P M) closes refl (and_left _ _ h)

  pub closes_none : is_at d.state After ≡ true → length d.stack.floors.items ≡ 0 → tried (length P) (length M) (view text d P M) closes ≡ stops 2
  unfolding view
  closes_none h z =
      let q = poised_at text at d P M st After (known d.state After h) in
      stop_2 (length P) (length M) (view text d P M) closes refl
      (and_right (is_at d.state After) _ (ap inside (opened_none d.stack.ops d.stack.floors.items d.stack.pending z q.1)))

  closes_allowed : is_at d.state After ≡ true → 0 < length d.stack.floors.items → allowed (view text d P M) closes ≡ true
  unfolding view
  closes_allowed h z =
      let q = poised_at text at d P M st After (known d.state After h) in
      and_from (is_at d.state After) _ h (ap inside (opened_closes d.stack.floors.items d.stack.pending z q.1 d.stack.ops))

  closes_moved : is_at d.state After ≡ true → 0 < length d.stack.floors.items
      → moved (view text d P M) closes ≡ complete (view text d P M) (opened_on (closed d.stack)) (view text d P M).rows
  unfolding view
  closes_moved h z =
      let q = poised_at text at d P M st After (known d.state After h) in
      let v = view text d P M in
      ap (λ (es : List Entry). complete v (behind es) v.rows) (opened_closes d.stack.floors.items d.stack.pending z q.1 d.stack.ops)

  pub closes_many : is_at d.state After ≡ true → 0 < length d.stack.floors.items → TooManyRows (d.rows + waiting_on (closed d.stack)) d.first (length P)
      → tried (length P) (length M) (view text d P M) closes ≡ stops 7
  unfolding view
  closes_many h z g =
      let v = view text d P M in
      let es = opened_on (closed d.stack) in
      let t = complete v es v.rows in
      let n = length_opened d.stack.ops (closed d.stack).floors.items (length (closed d.stack).floors.items) d.stack.pending v.rows in
      let r = rows_long text at d P M st in
      let w = front_long text at d P M st in
      stop_7 (length P) (length M) v closes refl (closes_allowed h z) refl refl refl refl (ap (λ (s : Reading). over (length P) (length M) s) (closes_moved h z)
      ∙ elim g [ inl i ↦ over_places (length P) (length M) t (omega arith) | inr i ↦ over_room (length P) (length M) t (omega arith) ])

  pub closes_ok : (d' : Parser) (P' : List Place) → is_at d.state After ≡ true → 0 < length d.stack.floors.items
      → Finished (with_stack d.state (closed d.stack) d) (closed d.stack) P (rows_in d.first d.rows P) d' P' (d.rows + waiting_on (closed d.stack))
      → Leads (length P) (length M) (length text) (view text d P M) closes at (view text d' P' M) d' (Ok tt)
  unfolding view
  closes_ok d' P' h z fin =
      let v = view text d P M in
      let R = rows_in d.first d.rows P in
      let so = st.sound in
      let few = fin.few in
      let ne = so.nested in
      let w = places_long text at d P M st in
      let kept = so.names_kept in
      let qe = known d.state After h in
      let q = poised_at text at d P M st After qe in
      let s₁ = closed d.stack in
      let d₁ = with_stack d.state s₁ d in
      let ti = tidy_closes d.stack.floors.items d.stack.pending z q.1 so.tidy in
      let e : moved v closes ≡ view text d' P' M = closes_moved h z
      ∙ sym (finished_view text d₁ s₁ P P' M R (d.rows + waiting_on s₁) d' (omega arith) fin) in
      let s' : Steady (at + 1) d' (length P) (length M) =
      subst (λ (x : Parser). Steady (at + 1) x (length P) (length M)) (sym fin.parser)
      (let below = floor_below s₁.floors.items (length s₁.floors.items) d.stack.pending ti in
      let sh = so.short in
      record {
        room = fin.room;
        lent = lent_at text at d P M st After qe;
        sound = record {
          ops_kept = so.ops_kept;
          names_kept = so.names_kept;
          short = omega arith;
          nested = omega (arith, length-take-le (length d.stack.floors.items - 1) d.stack.floors.items);
          tidy = tidy_floor s₁.floors.items (length s₁.floors.items) d.stack.pending ti;
          poised = (q.0, refl);
          few_rows = fin.few;
          few_equations = so.few_equations;
          few_modules = modules_at text at d P M st After qe;
          told = told_at text at d P M st After qe;
        };
      }) in
      leads_to (length P) (length M) v closes (length text) at (view text d' P' M) d'
      (go_to (length P) (length M) v closes (view text d' P' M) refl (closes_allowed h z) refl refl refl refl e (still_within text (at + 1) d' P P' M fin.size s')) s'

  -- `;`
  pub ends_no : is_at d.state After ≡ false → tried (length P) (length M) (view text d P M) ends ≡ stops 2
  unfolding view
  ends_no h = stop_2 (length P) (length M) (view text d P M) ends refl (and_left _ _ h)

  pub ends_inside : is_at d.state After ≡ true → 0 < length d.stack.floors.items → tried (length P) (length M) (view text d P M) ends ≡ stops 2
  unfolding view
  ends_inside h z =
      let q = poised_at text at d P M st After (known d.state After h) in
      stop_2 (length P) (length M) (view text d P M) ends refl
      (and_right (is_at d.state After) _ (ap (λ (es : List Entry). not (some es)) (opened_closes d.stack.floors.items d.stack.pending z q.1 d.stack.ops)))

  -- a parser whose newest left side has its right side
  abbrev pub sided_in : List Label → Parser
  sided_in ls = record {
    state = Left;
    at = d.at;
    stack = d.stack;
    first = d.first;
    rows = d.rows;
    names = d.names;
    lefts = record { items = ls };
    titles = d.titles;
    done = d.done;
  }

  pub some_left : is_at d.state After ≡ true → 0 < length d.lefts.items
  some_left h = (poised_at text at d P M st After (known d.state After h)).0

  pub ends_ok : (k : ℕ) (ls : List Label) (l : Label) → k ≡ d.rows - 1 → is_at d.state After ≡ true → length d.stack.floors.items ≡ 0 → d.lefts.items ≡ ls ++ l ∷ []
      → Leads (length P) (length M) (length text) (view text d P M) ends at
      (view text (sided_in (ls ++ record { name = l.name; place = k } ∷ [])) P M) (sided_in (ls ++ record { name = l.name; place = k } ∷ [])) (Ok tt)
  unfolding view
  ends_ok k ls l i h z split =
      let v = view text d P M in
      let so = st.sound in
      let qe = known d.state After h in
      let q = poised_at text at d P M st After qe in
      let fe = so.few_equations in
      let r = rows_long text at d P M st in
      let sh = so.short in
      let l' : Label = record { name = l.name; place = k } in
      let d' = sided_in (ls ++ l' ∷ []) in
      let a = length_push ls l in
      let b = length_push ls l' in
      let long : length (ls ++ l' ∷ []) ≡ length d.lefts.items = omega (arith, ap length split) in
      let was : map (side_in text) d.lefts.items ≡ map (side_in text) ls ++ side_in text l ∷ [] = ap (map (side_in text)) split ∙ map_push (side_in text) ls l in
      let none = opened_none d.stack.ops d.stack.floors.items d.stack.pending z q.1 in
      let f0 : floor d.stack ≡ 0 = ap (λ (x : ℕ). floor_of d.stack.floors.items x) z in
      let nw : length v.rows - 1 ≡ k = omega arith in
      let F : List Entry → List Side → Reading = λ (es : List Entry) (ss : List Side). record {
        state = left;
        opened = es;
        rows = v.rows;
        sides = ss;
        titles = v.titles;
        places = v.places;
        modules = v.modules;
      } in
      let e : moved v ends ≡ view text d' P M =
      ap (λ (x : ℕ). F [] (sided v.sides x)) nw
      ∙ ap (λ (x : List Side). F [] (sided x k)) was
      ∙ ap (λ (x : List Side). F [] x) (sided_last (map (side_in text) ls) (label_in text l) l.place k ∙ sym (map_push (side_in text) ls l'))
      ∙ ap (λ (x : List Entry). F x (map (side_in text) (ls ++ l' ∷ []))) (sym none) in
      let s' : Steady (at + 1) d' (length P) (length M) = record {
        room = st.room;
        lent = lent_at text at d P M st After qe;
        sound = record {
          ops_kept = so.ops_kept;
          names_kept = so.names_kept;
          short = omega arith;
          nested = so.nested;
          tidy = so.tidy;
          poised = (q.1 ∙ f0, z);
          few_rows = so.few_rows;
          few_equations = omega arith;
          few_modules = modules_at text at d P M st After qe;
          told = told_at text at d P M st After qe;
        };
      } in
      leads_to (length P) (length M) v ends (length text) at (view text d' P M) d'
      (go_to (length P) (length M) v ends (view text d' P M) refl
      (and_from (is_at d.state After) _ h (ap (λ (es : List Entry). not (some es)) none)) refl refl refl refl e (not_over text (at + 1) d' P M s')) s'

  -- the newest left side is the last
  pub ends_at : (k n : ℕ) (l : Label) → k ≡ d.rows - 1 → n ≡ length d.lefts.items - 1 → is_at d.state After ≡ true → length d.stack.floors.items ≡ 0 → l ≡ get_or d.lefts.items n l
      → Leads (length P) (length M) (length text) (view text d P M) ends at
      (view text (sided_in (set d.lefts.items n (record { name = l.name; place = k }))) P M) (sided_in (set d.lefts.items n (record { name = l.name; place = k }))) (Ok tt)
  ends_at k n l i j h z e =
      let ls = d.lefts.items in
      let l' : Label = record { name = l.name; place = k } in
      let some = some_left h in
      let was : ls ≡ take n ls ++ l ∷ [] = sym (take_all (n + 1) ls (omega arith)) ∙ take_more ls n l (omega arith) ∙ ap (λ (x : Label). take n ls ++ x ∷ []) (sym e) in
      let now : set ls n l' ≡ take n ls ++ l' ∷ [] =
      sym (take_all (n + 1) (set ls n l') (omega (arith, length-set ls n l'))) ∙ take_more_set ls n l' (omega arith) in
      subst (λ (x : List Label). Leads (length P) (length M) (length text) (view text d P M) ends at (view text (sided_in x) P M) (sided_in x) (Ok tt)) (sym now)
      (ends_ok k (take n ls) l i h z was)

  -- what the end of a term leads to
  pub nil_does : (d' : Parser) (P' : List Place) (r : Result (Unit {0}) BookFault) → is_at d.state Term ≡ true
      → Finishes d d.stack P (rows_in d.first d.rows P ++ Nil ∷ []) at d' P' (d.rows + 1 + waiting_on d.stack) r
      → Leads (length P) (length M) (length text) (view text d P M) nil at (view text d' P' M) d' r
  nil_does d' P' (Ok done) h g = nil_ok d' P' h g
  nil_does d' P' (Err f) h g =
      subst (λ (x : BookFault). (tried (length P) (length M) (view text d P M) nil ≡ stops (number_of x)) × (where_of x ≡ offset_at at)) (sym g.0) (nil_many h g.1, refl)

  pub closes_does : (d' : Parser) (P' : List Place) (r : Result (Unit {0}) BookFault) → is_at d.state After ≡ true → 0 < length d.stack.floors.items
      → Finishes (with_stack d.state (closed d.stack) d) (closed d.stack) P (rows_in d.first d.rows P) at d' P' (d.rows + waiting_on (closed d.stack)) r
      → Leads (length P) (length M) (length text) (view text d P M) closes at (view text d' P' M) d' r
  closes_does d' P' (Ok done) h z g = closes_ok d' P' h z g
  closes_does d' P' (Err f) h z g =
      subst (λ (x : BookFault). (tried (length P) (length M) (view text d P M) closes ≡ stops (number_of x)) × (where_of x ≡ offset_at at)) (sym g.0) (closes_many h z g.1, refl)

-- a parser with more rows
abbrev pub with_rows : ℕ → Parser → Parser
with_rows rows d = record {
  state = d.state;
  at = d.at;
  stack = d.stack;
  first = d.first;
  rows = rows;
  names = d.names;
  lefts = d.lefts;
  titles = d.titles;
  done = d.done;
}

-- a leaf that is written, and then finished
pub leaf_put : (d : Parser) (P : List Place) (leaf : Place) (at : ℕ) (d' : Parser) (P' : List Place) (n : ℕ) (r : Result (Unit {0}) BookFault)
    → d.first + d.rows < length P
    → Finishes (with_rows (d.rows + 1) d) d.stack (set P (d.first + d.rows) leaf) (rows_in d.first (d.rows + 1) (set P (d.first + d.rows) leaf)) at d' P' n r
    → Finishes d d.stack P (rows_in d.first d.rows P ++ leaf ∷ []) at d' P' n r
leaf_put d P leaf at d' P' n (Ok done) h g =
    let l = length-set P (d.first + d.rows) leaf in
    record {
      parser = g.parser;
      few = g.few;
      room = (let r = g.room in omega arith);
      table = g.table ∙ ap (λ (R : List Place). closed_rows d.stack.ops (floor d.stack) (waiting_on d.stack) R) (put_rows P d.first d.rows leaf h);
      front = g.front ∙ take-set-le d.first P (d.first + d.rows) leaf (omega arith);
      size = g.size ∙ l;
    }
leaf_put d P leaf at d' P' n (Err f) h g =
    let l = length-set P (d.first + d.rows) leaf in
    (g.0, elim g.1 [ inl i ↦ inl i | inr i ↦ inr (omega arith) ])
