-- How steps make a reading: what is left gives it.
use Rattle.std.proofs.Common.{◌≡◌, ℕ, ◌+◌, ◌≤◌, Bool, true, false, List, [], length, take, IsErrAnd, Ok, Result, sym, refl, ap, ◌∙◌, subst, arith}
use Rattle.rows.specs.declared.row.Place.{Place}
use Rattle.rows.specs.declared.row.ModuleRow.{ModuleRow}
use Rattle.book_words.specs.Words.{Kind, Word, words}
use Rattle.book_words.specs.Shown.{kind_of, words_at, Cut}
use Rattle.book_words.specs.declared.word.Found.{Found}
use Rattle.book_grammar.specs.Reading.{Reading, Read, run, reading, tried}
use Rattle.book_grammar.specs.Reading.Read.{refused, taken}
use Rattle.std.proofs.lemmas.Result.{err_from_is_err_and}
use Rattle.book_text.specs.declared.fault.BookFault.{BookFault}
use Rattle.book_text.specs.declared.fault.BookFault.TheVariants.{NotAllowed}
use Rattle.book_text.specs.declared.steps.reading.Used.{Used}
use Rattle.book_text.specs.declared.parser.Parser.{Parser}
use Rattle.book_text.specs.declared.parser.State.TheVariants.{Outside}
use Rattle.book_text.specs.Faults.{number_of, where_of}
use Rattle.book_text.specs.Faults.Where.{offset_at}
use Rattle.book_text.specs.Parsers.{view}
use Rattle.book_text.specs.Changes.{is_at}
use Rattle.book_text.specs.Steps.{Steady, going_on, Leads, Blank}
use Rattle.book_text.specs.Outcomes.{judged_read, ReadsWords}
use Rattle.book_text.specs.Outcomes.Outcome.{turned_away}
use Rattle.book_text.proofs.Viewing.{known, told_at}

-- a parser at another word
abbrev pub at_word : ℕ → Parser → Parser
at_word n d = record {
  state = d.state;
  at = n;
  stack = d.stack;
  first = d.first;
  rows = d.rows;
  names = d.names;
  lefts = d.lefts;
  titles = d.titles;
  done = d.done;
}

-- What a parser at the word leads to is what the word leads to.
pub at_kind : (text : List ℕ) (d : Parser) (P : List Place) (M : List ModuleRow) (k k' : Kind) (at : ℕ) (d' : Parser) (P' : List Place) (M' : List ModuleRow)
    (r : Result (Unit {0}) BookFault) → k' ≡ k → Leads (length P) (length M) (length text) (view text (at_word at d) P M) k at (view text d' P' M') d' r
    → Leads (length P) (length M) (length text) (view text d P M) k' at (view text d' P' M') d' r
unfolding view
at_kind text d P M k k' at d' P' M' r e h =
    subst (λ (x : Kind). Leads (length P) (length M) (length text) (view text d P M) x at (view text d' P' M') d' r) (sym e) h

-- what is steady stays so at a later offset
pub steady_later : (n n' : ℕ) (d : Parser) (p m : ℕ) → n ≤ n' → Steady n d p m → Steady n' d p m
steady_later n n' d p m h st =
    let s = st.sound in
    let sh = s.short in
    record {
      room = st.room;
      lent = st.lent;
      sound = record {
        ops_kept = s.ops_kept;
        names_kept = s.names_kept;
        short = omega arith;
        nested = s.nested;
        tidy = s.tidy;
        poised = s.poised;
        few_rows = s.few_rows;
        few_equations = s.few_equations;
        few_modules = s.few_modules;
        told = s.told;
      };
    }

-- and at any word
pub steady_word : (n k : ℕ) (d : Parser) (p m : ℕ) → Steady n d p m → Steady n (at_word k d) p m
steady_word n k d p m st =
    let s = st.sound in
    record {
      room = st.room;
      lent = st.lent;
      sound = record {
        ops_kept = s.ops_kept;
        names_kept = s.names_kept;
        short = s.short;
        nested = s.nested;
        tidy = s.tidy;
        poised = s.poised;
        few_rows = s.few_rows;
        few_equations = s.few_equations;
        few_modules = s.few_modules;
        told = s.told;
      };
    }

module _ (text : List ℕ) (P₀ : List Place) (M₀ : List ModuleRow) where
  -- the words from an offset on lead to what the whole text leads to
  pub record Going (d : Parser) (P : List Place) (M : List ModuleRow) (from : ℕ) : Type 0 where
    pub steady : Steady from d (length P₀) (length M₀)
    pub left : run (length P₀) (length M₀) (length text) (view text d P M) (words_at text from) ≡ reading (length P₀) (length M₀) text
    pub within : from ≤ length text
    pub places_size : length P ≡ length P₀
    pub modules_size : length M ≡ length M₀

  pub going_first : (d : Parser) → Blank d → Going d P₀ M₀ 0
  unfolding reading words words_at
  going_first d b = record {
    steady = b.steady (length P₀) (length M₀);
    left = ap (λ (v : Reading). run (length P₀) (length M₀) (length text) v (words_at text 0)) (b.shows text P₀ M₀);
    within = omega arith;
    places_size = refl;
    modules_size = refl;
  }

  going_led : (d : Parser) (P : List Place) (M : List ModuleRow) (from : ℕ) (f : Found) → Cut text from f → Going d P M from
      → going_on (length P₀) (length M₀) (length text) f.at (words_at text f.end) (tried (length P₀) (length M₀) (view text d P M) (kind_of f.word))
      ≡ reading (length P₀) (length M₀) text
  going_led d P M from f c g = sym (ap (λ (l : List Word). run (length P₀) (length M₀) (length text) (view text d P M) l) c.words) ∙ g.left

  pub going_more : (d : Parser) (P : List Place) (M : List ModuleRow) (from : ℕ) (f : Found) (d' : Parser) (P' : List Place) (M' : List ModuleRow)
      → Cut text from f → Going d P M from → length P' ≡ length P → length M' ≡ length M
      → Leads (length P) (length M) (length text) (view text d P M) (kind_of f.word) f.at (view text d' P' M') d' (Ok tt) → Going d' P' M' f.end
  going_more d P M from f d' P' M' c g sp sm h =
      let h' : Leads (length P₀) (length M₀) (length text) (view text d P M) (kind_of f.word) f.at (view text d' P' M') d' (Ok tt) =
      subst (λ (p : ℕ). Leads p (length M₀) (length text) (view text d P M) (kind_of f.word) f.at (view text d' P' M') d' (Ok tt)) g.places_size
      (subst (λ (m : ℕ). Leads (length P) m (length text) (view text d P M) (kind_of f.word) f.at (view text d' P' M') d' (Ok tt)) g.modules_size h) in
      record {
        steady = steady_later (f.at + 1) f.end d' (length P₀) (length M₀) (let e = c.ends in omega arith) h'.1;
        left = sym (h'.0 (words_at text f.end)) ∙ going_led d P M from f c g;
        within = c.within;
        places_size = sp ∙ g.places_size;
        modules_size = sm ∙ g.modules_size;
      }

  -- at the end
  at_end : (d : Parser) (P : List Place) (M : List ModuleRow) (from : ℕ) (b : Bool) → words_at text from ≡ [] → Going d P M from → is_at d.state Outside ≡ b
      → reading (length P₀) (length M₀) text ≡ elim b [ true ↦ taken (take d.first P) (take d.done M) | false ↦ refused 2 (length text) ]
  unfolding view
  at_end d P M from b e g h =
      sym g.left ∙ ap (λ (l : List Word). run (length P₀) (length M₀) (length text) (view text d P M) l) e
      ∙ ap {B = Read} (λ (x : Bool). elim x [ true ↦ taken (take d.first P) (take d.done M) | false ↦ refused 2 (length text) ]) h

  pub ends_taken : (d : Parser) (P : List Place) (M : List ModuleRow) (from : ℕ) → words_at text from ≡ [] → Going d P M from → is_at d.state Outside ≡ true
      → (reading (length P₀) (length M₀) text ≡ taken (take d.first P) (take d.done M)) × (d.first ≤ length P₀) × (d.done ≤ length M₀)
  ends_taken d P M from e g h =
      let q = known d.state Outside h in
      let r = g.steady.room in
      let l = g.steady.lent in
      let t : d.done + 0 ≡ length d.titles.items = told_at text from d P₀ M₀ g.steady Outside q in
      (at_end d P M from true e g h, omega arith, omega arith)

  pub ends_unfinished : (d : Parser) (P : List Place) (M : List ModuleRow) (from : ℕ) → words_at text from ≡ [] → Going d P M from → is_at d.state Outside ≡ false
      → judged_read (reading (length P₀) (length M₀) text) ≡ turned_away 2 (offset_at (length text))
  ends_unfinished d P M from e g h = ap judged_read (at_end d P M from false e g h)

  pub leaves_unfinished : (P : List Place) (M : List ModuleRow) (r : Result Used BookFault) (f : BookFault) → IsErrAnd r (λ (y : BookFault). y ≡ f) → f ≡ NotAllowed (length text)
      → judged_read (reading (length P₀) (length M₀) text) ≡ turned_away 2 (offset_at (length text)) → ReadsWords text P₀ M₀ P M r
  leaves_unfinished P M r f b e h =
      let q = err_from_is_err_and r b in
      subst (λ (y : Result Used BookFault). ReadsWords text P₀ M₀ P M y) (sym q.1)
      (subst (λ (y : BookFault). judged_read (reading (length P₀) (length M₀) text) ≡ turned_away (number_of y) (where_of y)) (sym (q.2 ∙ e)) h)
