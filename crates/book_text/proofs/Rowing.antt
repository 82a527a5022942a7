-- Rows, as place rows and the names in the text stand for them.
use Rattle.std.proofs.Common.{◌≡◌, ℕ, zero, suc, ◌+◌, ◌-◌, ◌<◌, ◌≤◌, List, [], ◌∷◌, ◌++◌, length, get_or, take, drop, set, sym, refl, ap, ◌∙◌, arith, length-drop}
use Rattle.std.proofs.lemmas.List.{length_push, drop-set-add, take_more_set, length-take-le}
use Rattle.rows.specs.declared.row.Place.{Place}
use Rattle.book_grammar.specs.Rows.{Row, newest}
use Rattle.book_grammar.specs.Rows.Row.{plain}
use Rattle.book_grammar.specs.Reading.{Open as Entry, finished}
use Rattle.book_text.specs.declared.parser.Open.{Open}
use Rattle.book_text.specs.declared.parser.Open.TheVariants.{Waiting, Acting, Adding}
use Rattle.book_text.specs.declared.parser.Span.{Span}
use Rattle.book_text.specs.Parsers.{open_in, op_at, above, floor_of, opened_in, row_in, rows_view}
use Rattle.book_text.specs.Stacks.{place_for, closed_rows}
use Rattle.book_text.proofs.Opened.{enclosing, opened_split}

abbrev pub nowhere : Span
nowhere = record { at = 0; size = 0 }

pub rows_push : (text : List ℕ) (spans : List Span) (R : List Place) (p : Place) → length R < length spans
    → rows_view text spans (R ++ p ∷ []) ≡ rows_view text spans R ++ row_in text (get_or spans (length R) nowhere) p ∷ []
rows_push text [] R p h = absurd (omega arith)
rows_push text (s ∷ ss) [] p h = refl
rows_push text (s ∷ ss) (q ∷ R) p h = ap (λ (l : List Row). row_in text s q ∷ l) (rows_push text ss R p (omega arith))

pub rows_length : (text : List ℕ) (spans : List Span) (R : List Place) → length R ≤ length spans → length (rows_view text spans R) ≡ length R
rows_length text spans [] h = refl
rows_length text [] (q ∷ R) h = absurd (omega arith)
rows_length text (s ∷ ss) (q ∷ R) h = ap suc (rows_length text ss R (omega arith))

-- a span that is written behind the rows
pub rows_set : (text : List ℕ) (spans : List Span) (i : ℕ) (s : Span) (R : List Place) → length R ≤ i → rows_view text (set spans i s) R ≡ rows_view text spans R
rows_set text spans i s [] h = refl
rows_set text [] i s (q ∷ R) h = refl
rows_set text (z ∷ zs) zero s (q ∷ R) h = absurd (omega arith)
rows_set text (z ∷ zs) (suc i) s (q ∷ R) h = ap (λ (l : List Row). row_in text z q ∷ l) (rows_set text zs i s R (omega arith))

-- what an op becomes is no name
plain_row : (text : List ℕ) (s : Span) (o : Open) (k : ℕ) → row_in text s (place_for o k) ≡ plain (place_for o k)
plain_row text s Waiting k = refl
plain_row text s (Acting a) k = refl
plain_row text s (Adding j) k = refl

finished_op : (o : Open) (es : List Entry) (R : List Row) → finished (open_in o ∷ es) R ≡ finished es (R ++ plain (place_for o (newest R)) ∷ [])
finished_op Waiting es R = refl
finished_op (Acting a) es R = refl
finished_op (Adding k) es R = refl

finished_enclosing : (os : List Open) (floors : List ℕ) (k : ℕ) (R : List Row) → finished (enclosing os floors k) R ≡ R
finished_enclosing os floors zero R = refl
finished_enclosing os floors (suc k) R = refl

finished_above : (text : List ℕ) (spans : List Span) (os : List Open) (low j : ℕ) (es : List Entry) → ((R : List Row) → finished es R ≡ R)
    → (R : List Place) → length R + j ≤ length spans
    → finished (above os low j ++ es) (rows_view text spans R) ≡ rows_view text spans (closed_rows os low j R)
finished_above text spans os low zero es stop R h = stop (rows_view text spans R)
finished_above text spans os low (suc j) es stop R h =
    let o = op_at os (low + j) in
    let n = length_push R (place_for o (length R - 1)) in
    finished_op o (above os low j ++ es) (rows_view text spans R)
    ∙ ap (λ (i : ℕ). finished (above os low j ++ es) (rows_view text spans R ++ plain (place_for o (i - 1)) ∷ [])) (rows_length text spans R (omega arith))
    ∙ ap (λ (r : Row). finished (above os low j ++ es) (rows_view text spans R ++ r ∷ [])) (sym (plain_row text (get_or spans (length R) nowhere) o (length R - 1)))
    ∙ ap (λ (l : List Row). finished (above os low j ++ es) l) (sym (rows_push text spans R (place_for o (length R - 1)) (omega arith)))
    ∙ finished_above text spans os low j es stop (R ++ place_for o (length R - 1) ∷ []) (omega arith)

pub finished_opened : (text : List ℕ) (spans : List Span) (os : List Open) (floors : List ℕ) (k n : ℕ) (R : List Place)
    → length R + (n - floor_of floors k) ≤ length spans
    → finished (opened_in os floors k n) (rows_view text spans R) ≡ rows_view text spans (closed_rows os (floor_of floors k) (n - floor_of floors k) R)
finished_opened text spans os floors k n R h =
    ap (λ (es : List Entry). finished es (rows_view text spans R)) (opened_split os floors k n)
    ∙ finished_above text spans os (floor_of floors k) (n - floor_of floors k) (enclosing os floors k) (finished_enclosing os floors k) R h

length_above : (os : List Open) (low j : ℕ) (es : List Entry) → ((R : List Row) → finished es R ≡ R) → (R : List Row)
    → length (finished (above os low j ++ es) R) ≡ length R + j
length_above os low zero es stop R = ap length (stop R) ∙ omega arith
length_above os low (suc j) es stop R =
    let o = op_at os (low + j) in
    let n = length_push R (plain (place_for o (newest R))) in
    ap length (finished_op o (above os low j ++ es) R)
    ∙ (let r = length_above os low j es stop (R ++ plain (place_for o (newest R)) ∷ []) in omega arith)

pub length_opened : (os : List Open) (floors : List ℕ) (k n : ℕ) (R : List Row) → length (finished (opened_in os floors k n) R) ≡ length R + (n - floor_of floors k)
length_opened os floors k n R =
    ap (λ (es : List Entry). length (finished es R)) (opened_split os floors k n)
    ∙ length_above os (floor_of floors k) (n - floor_of floors k) (enclosing os floors k) (finished_enclosing os floors k) R

-- one row written behind r others
pub put_rows : (P : List Place) (f r : ℕ) (x : Place) → f + r < length P → take (r + 1) (drop f (set P (f + r) x)) ≡ take r (drop f P) ++ x ∷ []
put_rows P f r x h =
    let l = length-drop f P in
    ap (λ (y : List Place). take (r + 1) y) (drop-set-add f P r x) ∙ take_more_set (drop f P) r x (omega arith)

pub length_rows : (P : List Place) (f r : ℕ) → f + r ≤ length P → length (take r (drop f P)) ≡ r
length_rows P f r h = let l = length-drop f P in length-take-le r (drop f P) (omega arith)

-- the op below `pend` is complete
pub closed_more : (os : List Open) (low pend : ℕ) (R : List Place) → low < pend
    → closed_rows os low (pend - low) R ≡ closed_rows os low (pend - 1 - low) (R ++ place_for (op_at os (pend - 1)) (length R - 1) ∷ [])
closed_more os low pend R h =
    let a : pend - low ≡ suc (pend - 1 - low) = omega arith in
    let b : low + (pend - 1 - low) ≡ pend - 1 = omega arith in
    ap (λ (n : ℕ). closed_rows os low n R) a ∙ ap (λ (n : ℕ). closed_rows os low (pend - 1 - low) (R ++ place_for (op_at os n) (length R - 1) ∷ [])) b
