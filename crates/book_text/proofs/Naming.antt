-- Names: a module's, a left side, a term.
use Rattle.std.proofs.Common.{◌≡◌, ℕ, ◌+◌, ◌<◌, ◌≤◌, true, false, ◌||◌, ◌⊎◌, List, [], ◌∷◌, ◌++◌, map, length, get_or, take, drop, set, is_some, Ok, Err, Result, sym, refl, ap, ◌∙◌, subst, inl, inr, arith, length-append}
use Rattle.std.proofs.lemmas.List.{length-set, length_push, map_push, get_or-set_same}
use Rattle.std.proofs.lemmas.Bool.{lt-ltb, le-ltb}
use Rattle.book_text.specs.declared.fault.BookFault.{BookFault}
use Rattle.book_text.specs.declared.fault.BookFault.TheVariants.{Word}
use Rattle.book_text.specs.declared.fault.WordFault.{WordFault}
use Rattle.book_text.specs.declared.fault.WordFault.TheVariants.{Long}
use Rattle.rows.specs.declared.row.Place.{Place}
use Rattle.rows.specs.declared.row.Place.TheVariants.{Name}
use Rattle.rows.specs.declared.row.ModuleRow.{ModuleRow}
use Rattle.action.specs.Lists.{any}
use Rattle.book_words.specs.Words.{same}
use Rattle.book_words.specs.Words.Kind.{name}
use Rattle.book_grammar.specs.Rows.{Row, Side, side}
use Rattle.book_grammar.specs.Rows.Row.{named}
use Rattle.book_grammar.specs.Reading.{Reading, complete, on_name, lefts, taken_names, moved, given, over, tried}
use Rattle.book_grammar.specs.Reading.State.{brace, left, equal}
use Rattle.book_grammar.specs.Reading.Step.{stops}
use Rattle.book_text.specs.declared.parser.Parser.{Parser}
use Rattle.book_text.specs.declared.parser.Span.{Span}
use Rattle.book_text.specs.declared.parser.Label.{Label}
use Rattle.book_text.specs.declared.parser.State.{State}
use Rattle.book_text.specs.declared.parser.State.TheVariants.{Outside, Title, Brace, Left, Equal, Term, Point, After}
use Rattle.book_text.specs.Parsers.{state_of_stage, part_in, label_in, side_in, rows_view, rows_in, view}
use Rattle.book_text.specs.Faults.{number_of, where_of}
use Rattle.book_text.specs.Faults.Where.{offset_at}
use Rattle.book_text.specs.Names.{label_at, Added, Unfit}
use Rattle.book_text.specs.Changes.{is_at, Finished, Finishes, TooManyRows}
use Rattle.book_text.specs.Stacks.{waiting_on}
use Rattle.book_text.specs.Steps.{Steady, Leads}
use Rattle.book_text.proofs.Finding.{any_found}
use Rattle.book_text.proofs.Rowing.{nowhere, rows_push, rows_set}
use Rattle.book_text.proofs.Trying.{stop_2, stop_4, stop_5, stop_7, go_to, leads_to, over_equations}
use Rattle.book_text.proofs.Viewing.{sides_long, places_long, not_over, poised_at, modules_at, lent_at, told_at}
use Rattle.book_text.proofs.Terms.{with_names, leaf_many, leaf_ok}

pub lefts_in : (text : List ℕ) (ls : List Label) → lefts (map (side_in text) ls) ≡ map (label_in text) ls
lefts_in text [] = refl
lefts_in text (l ∷ ls) = ap (λ (xs : List (List ℕ)). label_in text l ∷ xs) (lefts_in text ls)

no_name_there : (q : State) → (q ≡ Title → ⊥) → (q ≡ Left → ⊥) → (q ≡ Term → ⊥) → (is_at q Title || (is_at q Left || is_at q Term)) ≡ false
no_name_there Outside a b c = refl
no_name_there Title a b c = absurd (a refl)
no_name_there Brace a b c = refl
no_name_there Left a b c = absurd (b refl)
no_name_there Equal a b c = refl
no_name_there Term a b c = absurd (c refl)
no_name_there Point a b c = refl
no_name_there After a b c = refl

name_there : (q r : State) → q ≡ r → (r ≡ Title) ⊎ ((r ≡ Left) ⊎ (r ≡ Term)) → (is_at q Title || (is_at q Left || is_at q Term)) ≡ true
name_there q r e (inl h) = ap (λ (x : State). is_at x Title || (is_at x Left || is_at x Term)) (e ∙ h)
name_there q r e (inr (inl h)) = ap (λ (x : State). is_at x Title || (is_at x Left || is_at x Term)) (e ∙ h)
name_there q r e (inr (inr h)) = ap (λ (x : State). is_at x Title || (is_at x Left || is_at x Term)) (e ∙ h)

module _ (text : List ℕ) (d : Parser) (P : List Place) (M : List ModuleRow) (at : ℕ) (st : Steady at d (length P) (length M)) (x : List ℕ) where
  pub name_no : (d.state ≡ Title → ⊥) → (d.state ≡ Left → ⊥) → (d.state ≡ Term → ⊥) → tried (length P) (length M) (view text d P M) (name x) ≡ stops 2
  unfolding view
  name_no a b c = stop_2 (length P) (length M) (view text d P M) (name x) refl (no_name_there d.state a b c)

  pub name_long : (q : State) → d.state ≡ q → (q ≡ Title) ⊎ ((q ≡ Left) ⊎ (q ≡ Term)) → 16 < length x → tried (length P) (length M) (view text d P M) (name x) ≡ stops 4
  unfolding view
  name_long q e f h = stop_4 (length P) (length M) (view text d P M) (name x) refl (name_there d.state q e f) refl (lt-ltb 16 (length x) h)

  abbrev pub Fails : BookFault → Type 0
  Fails f = (tried (length P) (length M) (view text d P M) (name x) ≡ stops (number_of f)) × (where_of f ≡ offset_at at)

  -- a name that cannot be added to the names that were given
  unfit : (q : State) (ls : List Label) (f : BookFault) → d.state ≡ q → (q ≡ Title) ⊎ ((q ≡ Left) ⊎ (q ≡ Term))
      → given (view text d P M) (name x) ≡ any (same x) (map (label_in text) ls)
      → (length x ≤ 16 → given (view text d P M) (name x) ≡ false → 64 ≤ length ls → tried (length P) (length M) (view text d P M) (name x) ≡ stops 7)
      → Unfit 64 text x at ls f → Fails f
  unfolding view
  unfit q ls f e there g many (inl h) = subst Fails (sym h.1) (name_long q e there h.0, refl)
  unfit q ls f e there g many (inr (inl h)) = subst Fails (sym h.2) (
    stop_5 (length P) (length M) (view text d P M) (name x) refl (name_there d.state q e there) refl (le-ltb 16 (length x) h.0) (g ∙ any_found text x ls ∙ h.1),
    refl,
  )
  unfit q ls f e there g many (inr (inr h)) = subst Fails (sym h.3) (many h.0 (g ∙ any_found text x ls ∙ ap is_some h.1) h.2, refl)

  -- a module's name
  title_given : d.state ≡ Title → given (view text d P M) (name x) ≡ any (same x) (map (label_in text) d.titles.items)
  unfolding view
  title_given e = ap (λ (q : State). any (same x) (taken_names (state_of_stage q) (view text d P M))) e

  pub title_fails : (f : BookFault) → d.state ≡ Title → Unfit 64 text x at d.titles.items f → Fails f
  title_fails f e h =
      let few = modules_at text at d P M st Title e in
      unfit Title d.titles.items f e (inl refl) (title_given e) (λ s n many. absurd (omega arith)) h

  abbrev pub titled_in : List Label → Parser
  titled_in ts = record {
    state = Brace;
    at = d.at;
    stack = d.stack;
    first = d.first;
    rows = d.rows;
    names = d.names;
    lefts = d.lefts;
    titles = record { items = ts };
    done = d.done;
  }

  pub title_ok : (ts : List Label) → d.state ≡ Title → x ≡ take (length x) (drop at text) → Added 64 text x at d.titles.items ts
      → Leads (length P) (length M) (length text) (view text d P M) (name x) at (view text (titled_in ts) P M) (titled_in ts) (Ok tt)
  unfolding view
  title_ok ts e sp a =
      let v = view text d P M in
      let so = st.sound in
      let sh = so.short in
      let few = modules_at text at d P M st Title e in
      let le = lent_at text at d P M st Title e in
      let to = told_at text at d P M st Title e in
      let l = label_at at (length x) in
      let long : length ts ≡ length d.titles.items + 1 = ap length a.last ∙ length_push d.titles.items l in
      let F : List (List ℕ) → Reading = λ (ns : List (List ℕ)). record {
        state = brace;
        opened = v.opened;
        rows = v.rows;
        sides = v.sides;
        titles = ns;
        places = v.places;
        modules = v.modules;
      } in
      let ns : map (label_in text) ts ≡ map (label_in text) d.titles.items ++ x ∷ [] =
      ap (map (label_in text)) a.last ∙ map_push (label_in text) d.titles.items l
      ∙ ap (λ (y : List ℕ). map (label_in text) d.titles.items ++ y ∷ []) (sym sp) in
      let m' : moved v (name x) ≡ view text (titled_in ts) P M = ap (λ (q : State). on_name (state_of_stage q) x v) e ∙ ap F (sym ns) in
      let s' : Steady (at + 1) (titled_in ts) (length P) (length M) = record {
        room = st.room;
        lent = omega arith;
        sound = record {
          ops_kept = so.ops_kept;
          names_kept = so.names_kept;
          short = omega arith;
          nested = so.nested;
          tidy = so.tidy;
          poised = poised_at text at d P M st Title e;
          few_rows = so.few_rows;
          few_equations = so.few_equations;
          few_modules = omega arith;
          told = omega arith;
        };
      } in
      leads_to (length P) (length M) v (name x) (length text) at (view text (titled_in ts) P M) (titled_in ts)
      (go_to (length P) (length M) v (name x) (view text (titled_in ts) P M) refl (name_there d.state Title e (inl refl)) refl (le-ltb 16 (length x) a.short)
      (title_given e ∙ any_found text x d.titles.items ∙ ap is_some a.fresh) refl m' (not_over text (at + 1) (titled_in ts) P M s')) s'

  -- a left side
  left_given : d.state ≡ Left → given (view text d P M) (name x) ≡ any (same x) (map (label_in text) d.lefts.items)
  unfolding view
  left_given e = ap (λ (q : State). any (same x) (taken_names (state_of_stage q) (view text d P M))) e ∙ ap (any (same x)) (lefts_in text d.lefts.items)

  pub left_many : d.state ≡ Left → length x ≤ 16 → given (view text d P M) (name x) ≡ false → 64 ≤ length d.lefts.items
      → tried (length P) (length M) (view text d P M) (name x) ≡ stops 7
  unfolding view
  left_many e h f g =
      let v = view text d P M in
      let l = sides_long text at d P M st in
      let t : Reading = on_name left x v in
      stop_7 (length P) (length M) v (name x) refl (name_there d.state Left e (inr (inl refl))) refl (le-ltb 16 (length x) h) f refl
      (ap (λ (q : State). over (length P) (length M) (on_name (state_of_stage q) x v)) e
      ∙ over_equations (length P) (length M) t (let n = length-append v.sides (side x 0 ∷ []) in omega arith))

  pub left_fails : (f : BookFault) → d.state ≡ Left → Unfit 64 text x at d.lefts.items f → Fails f
  left_fails f e h = unfit Left d.lefts.items f e (inr (inl refl)) (left_given e) (left_many e) h

  abbrev pub left_in : List Label → Parser
  left_in ls = record {
    state = Equal;
    at = d.at;
    stack = d.stack;
    first = d.first;
    rows = d.rows;
    names = d.names;
    lefts = record { items = ls };
    titles = d.titles;
    done = d.done;
  }

  pub left_ok : (ls : List Label) → d.state ≡ Left → x ≡ take (length x) (drop at text) → Added 64 text x at d.lefts.items ls
      → Leads (length P) (length M) (length text) (view text d P M) (name x) at (view text (left_in ls) P M) (left_in ls) (Ok tt)
  unfolding view
  left_ok ls e sp a =
      let v = view text d P M in
      let so = st.sound in
      let sh = so.short in
      let few = modules_at text at d P M st Left e in
      let le = lent_at text at d P M st Left e in
      let to = told_at text at d P M st Left e in
      let less = a.few in
      let l = label_at at (length x) in
      let long : length ls ≡ length d.lefts.items + 1 = ap length a.last ∙ length_push d.lefts.items l in
      let F : List Side → Reading = λ (ss : List Side). record {
        state = equal;
        opened = v.opened;
        rows = v.rows;
        sides = ss;
        titles = v.titles;
        places = v.places;
        modules = v.modules;
      } in
      let ss : map (side_in text) ls ≡ map (side_in text) d.lefts.items ++ side x 0 ∷ [] =
      ap (map (side_in text)) a.last ∙ map_push (side_in text) d.lefts.items l
      ∙ ap (λ (y : List ℕ). map (side_in text) d.lefts.items ++ side y 0 ∷ []) (sym sp) in
      let m' : moved v (name x) ≡ view text (left_in ls) P M = ap (λ (q : State). on_name (state_of_stage q) x v) e ∙ ap F (sym ss) in
      let s' : Steady (at + 1) (left_in ls) (length P) (length M) = record {
        room = st.room;
        lent = le;
        sound = record {
          ops_kept = so.ops_kept;
          names_kept = so.names_kept;
          short = omega arith;
          nested = so.nested;
          tidy = so.tidy;
          poised = omega arith;
          few_rows = so.few_rows;
          few_equations = omega arith;
          few_modules = few;
          told = to;
        };
      } in
      leads_to (length P) (length M) v (name x) (length text) at (view text (left_in ls) P M) (left_in ls)
      (go_to (length P) (length M) v (name x) (view text (left_in ls) P M) refl (name_there d.state Left e (inr (inl refl))) refl (le-ltb 16 (length x) a.short)
      (left_given e ∙ any_found text x d.lefts.items ∙ ap is_some a.fresh) refl m' (not_over text (at + 1) (left_in ls) P M s')) s'

  -- a term
  call_given : d.state ≡ Term → given (view text d P M) (name x) ≡ false
  unfolding view
  call_given e = ap (λ (q : State). any (same x) (taken_names (state_of_stage q) (view text d P M))) e

  call_moved : d.state ≡ Term → moved (view text d P M) (name x) ≡ complete (view text d P M) (view text d P M).opened ((view text d P M).rows ++ named x ∷ [])
  unfolding view
  call_moved e = ap (λ (q : State). on_name (state_of_stage q) x (view text d P M)) e

  pub call_many : d.state ≡ Term → length x ≤ 16 → TooManyRows (d.rows + 1 + waiting_on d.stack) d.first (length P) → tried (length P) (length M) (view text d P M) (name x) ≡ stops 7
  unfolding view
  call_many e h g = leaf_many text d P M at st (name x) (named x) refl (name_there d.state Term e (inr (inr refl))) refl (le-ltb 16 (length x) h) (call_given e) refl (call_moved e) g

  abbrev pub spanned : List Span
  spanned = set d.names d.rows (record { at = at; size = length x })

  pub call_ok : (d' : Parser) (P' : List Place) (j : ℕ) → d.state ≡ Term → length x ≤ 16 → x ≡ take (length x) (drop at text) → d.rows < 256
      → Finished (with_names spanned d) d.stack P (rows_in d.first d.rows P ++ Name j ∷ []) d' P' (d.rows + 1 + waiting_on d.stack)
      → Leads (length P) (length M) (length text) (view text d P M) (name x) at (view text d' P' M) d' (Ok tt)
  unfolding view
  call_ok d' P' j e h sp few fin =
      let so = st.sound in
      let kept = so.names_kept in
      let R = rows_in d.first d.rows P in
      let w = places_long text at d P M st in
      let s : Span = record { at = at; size = length x } in
      let there : get_or spanned (length R) nowhere ≡ s = ap (λ (i : ℕ). get_or spanned i nowhere) w ∙ get_or-set_same d.names d.rows s nowhere (omega arith) in
      let n = length-set d.names d.rows s in
      leaf_ok text d P M at st (name x) (named x) (Name j) spanned d' P' refl (name_there d.state Term e (inr (inr refl))) refl (le-ltb 16 (length x) h) (call_given e) refl e (call_moved e)
      (n ∙ kept)
      (rows_push text spanned R (Name j) (omega arith)
      ∙ ap (λ (y : Span). rows_view text spanned R ++ named (part_in text y) ∷ []) there
      ∙ ap (λ (y : List ℕ). rows_view text spanned R ++ named y ∷ []) (sym sp)
      ∙ ap (λ (y : List Row). y ++ named x ∷ []) (rows_set text d.names d.rows s R (omega arith)))
      fin

  pub call_does : (d' : Parser) (P' : List Place) (j : ℕ) (r : Result (Unit {0}) BookFault) → d.state ≡ Term → length x ≤ 16 → x ≡ take (length x) (drop at text) → d.rows < 256
      → Finishes (with_names spanned d) d.stack P (rows_in d.first d.rows P ++ Name j ∷ []) at d' P' (d.rows + 1 + waiting_on d.stack) r
      → Leads (length P) (length M) (length text) (view text d P M) (name x) at (view text d' P' M) d' r
  call_does d' P' j (Ok done) e h sp few g = call_ok d' P' j e h sp few g
  call_does d' P' j (Err f) e h sp few g = subst Fails (sym g.0) (call_many e h g.1, refl)

  -- a long name leaves by its own fault
  pub long_fails : (q : State) (f : WordFault) → d.state ≡ q → (q ≡ Title) ⊎ ((q ≡ Left) ⊎ (q ≡ Term)) → (16 < length x) × (f ≡ Long at) → Fails (Word f)
  long_fails q f e there g = subst (λ (y : WordFault). Fails (Word y)) (sym g.1) (name_long q e there g.0, refl)
