-- Names that are led to the right sides of their equations, row by row.
use Rattle.std.proofs.Common.{◌≡◌, ℕ, zero, suc, ◌+◌, ◌<◌, ◌≤◌, Bool, true, false, not, List, [], ◌∷◌, ◌++◌, map, length, get_or, take, drop, set, Some, None, is_some, Option, sym, refl, ap, ◌∙◌, arith}
use Rattle.std.proofs.lemmas.List.{append_assoc, length-set, take_more, take_more_set, drop-set-lt, drop-drop, get_or-drop, get_or-take, map_push, length-take-le}
use Rattle.std.proofs.lemmas.Bool.{or_from, or_parts, or_left, or_right}
use Rattle.std.specs.List.{find}
use Rattle.action.specs.Lists.{any}
use Rattle.rows.specs.declared.row.Place.{Place}
use Rattle.rows.specs.declared.row.Place.TheVariants.{Nil, Name}
use Rattle.book_words.specs.Words.{same}
use Rattle.book_grammar.specs.Rows.{Row, Side, place_of, settled}
use Rattle.book_grammar.specs.Rows.Row.{named}
use Rattle.book_grammar.specs.Reading.{lost, lefts}
use Rattle.book_text.specs.declared.parser.Parser.{Parser}
use Rattle.book_text.specs.declared.parser.Span.{Span}
use Rattle.book_text.specs.declared.parser.Label.{Label}
use Rattle.book_text.specs.Parsers.{side_in, row_in, rows_view, rows_in}
use Rattle.book_text.specs.Names.{is_named}
use Rattle.book_text.specs.Settling.{settled_row, sides_of, rows_of}
use Rattle.book_text.proofs.Finding.{any_found, place_found}
use Rattle.book_text.proofs.Naming.{lefts_in}
use Rattle.book_text.proofs.Rowing.{nowhere, rows_push, length_rows}

settled_by : (S : List Side) (r : Row) (b : Bool) → lost S r ≡ b → settled_row S r ≡ elim b [ true ↦ None | false ↦ Some (settled S r) ]
settled_by S r b e = ap {B = Option Place} (λ (x : Bool). elim x [ true ↦ None | false ↦ Some (settled S r) ]) e

-- a name leads to the right side of the first equation with it
pub settled_named : (text : List ℕ) (ls : List Label) (x : List ℕ) (o : Option Label) → find (is_named text x) ls ≡ o
    → elim o [ None ↦ None | Some l ↦ Some (Name l.place) ] ≡ settled_row (map (side_in text) ls) (named x)
settled_named text ls x o e =
    let some : any (same x) (lefts (map (side_in text) ls)) ≡ is_some o = ap (any (same x)) (lefts_in text ls) ∙ any_found text x ls ∙ ap is_some e in
    let at : place_of (map (side_in text) ls) x ≡ elim o [ None ↦ 0 | Some l ↦ l.place ] = place_found text x ls ∙ ap {B = ℕ} (λ (y : Option Label). elim y [ None ↦ 0 | Some l ↦ l.place ]) e in
    go o some at
  where
    go : (o : Option Label) → any (same x) (lefts (map (side_in text) ls)) ≡ is_some o → place_of (map (side_in text) ls) x ≡ elim o [ None ↦ 0 | Some l ↦ l.place ]
        → elim o [ None ↦ None | Some l ↦ Some (Name l.place) ] ≡ settled_row (map (side_in text) ls) (named x)
    go None s h = sym (settled_by (map (side_in text) ls) (named x) true (ap not s))
    go (Some l) s h = ap (λ (k : ℕ). Some (Name k)) (sym h) ∙ sym (settled_by (map (side_in text) ls) (named x) false (ap not s))

-- what a settled row tells
some_none : {A : Type 0} (p : Place) → ◌≡◌ {A = Option Place} (Some p) None → A
some_none p e = let z : ◌≡◌ {A = ℕ} 0 1 = cc in absurd (omega arith)

pub settled_tells : (S : List Side) (r : Row) (p : Place) → Some p ≡ settled_row S r → (lost S r ≡ false) × (p ≡ settled S r)
settled_tells S r p e = go (lost S r) refl e
  where
    go : (b : Bool) → lost S r ≡ b → ◌≡◌ {A = Option Place} (Some p) (elim b [ true ↦ None | false ↦ Some (settled S r) ]) → (lost S r ≡ false) × (p ≡ settled S r)
    go true h f = some_none p f
    go false h f = (h, cc)

pub lost_tells : (S : List Side) (r : Row) → None ≡ settled_row S r → lost S r ≡ true
lost_tells S r e = go (lost S r) refl e
  where
    go : (b : Bool) → lost S r ≡ b → ◌≡◌ {A = Option Place} None (elim b [ true ↦ None | false ↦ Some (settled S r) ]) → lost S r ≡ true
    go true h f = h
    go false h f = some_none (settled S r) (sym f)

any_push : {A : Type 0} (f : A → Bool) (xs : List A) (y : A) → any f xs ≡ false → f y ≡ false → any f (xs ++ y ∷ []) ≡ false
any_push f [] y h e = or_from (f y) false e refl
any_push f (x ∷ xs) y h e =
    let p = or_parts (f x) (any f xs) h in
    or_from (f x) (any f (xs ++ y ∷ [])) p.0 (any_push f xs y p.1 e)

any_at : {A : Type 0} (f : A → Bool) (xs : List A) (y : A) (zs : List A) → f y ≡ true → any f (xs ++ y ∷ zs) ≡ true
any_at f [] y zs e = or_left (f y) (any f zs) e
any_at f (x ∷ xs) y zs e = or_right (f x) (any f (xs ++ y ∷ zs)) (any_at f xs y zs e)

-- the rows around a number
rows_split : (text : List ℕ) (N : List Span) (R : List Place) (i : ℕ) (p : Place) → i < length R → length R ≤ length N
    → rows_view text N R ≡ rows_view text N (take i R) ++ row_in text (get_or N i nowhere) (get_or R i p) ∷ rows_view text (drop (suc i) N) (drop (suc i) R)
rows_split text N [] i p h l = absurd (omega arith)
rows_split text [] (q ∷ R) i p h l = absurd (omega arith)
rows_split text (s ∷ N) (q ∷ R) zero p h l = refl
rows_split text (s ∷ N) (q ∷ R) (suc i) p h l = ap (λ (y : List Row). row_in text s q ∷ y) (rows_split text N R i p (omega arith) (omega arith))

-- the first i rows are settled
pub record Settling (text : List ℕ) (d : Parser) (P₀ P : List Place) (i : ℕ) : Type 0 where
  pub size : length P ≡ length P₀
  pub done : take (d.first + i) P ≡ take d.first P₀ ++ map (settled (sides_of text d)) (rows_view text d.names (take i (rows_in d.first d.rows P₀)))
  pub rest : drop (d.first + i) P ≡ drop (d.first + i) P₀
  pub known : any (lost (sides_of text d)) (rows_view text d.names (take i (rows_in d.first d.rows P₀))) ≡ false

module _ (text : List ℕ) (d : Parser) (P₀ : List Place) (few : d.rows ≤ 256) (kept : length d.names ≡ 256) (room : d.first + d.rows ≤ length P₀) where
  abbrev R₀ : List Place
  R₀ = rows_in d.first d.rows P₀

  -- the row at hand is as it was
  row_there : (P : List Place) (i : ℕ) → i < d.rows → Settling text d P₀ P i → get_or P (d.first + i) Nil ≡ get_or R₀ i Nil
  row_there P i h g =
      let z : d.first + i + 0 ≡ d.first + i = omega arith in
      ap (λ (k : ℕ). get_or P k Nil) (sym z) ∙ sym (get_or-drop (d.first + i) P 0 Nil) ∙ ap (λ (l : List Place). get_or l 0 Nil) g.rest
      ∙ get_or-drop (d.first + i) P₀ 0 Nil ∙ ap (λ (k : ℕ). get_or P₀ k Nil) z
      ∙ sym (get_or-drop d.first P₀ i Nil) ∙ sym (get_or-take d.rows (drop d.first P₀) i Nil h)

  pub settling_more : (P : List Place) (i : ℕ) (p : Place) → i < d.rows
      → Some p ≡ settled_row (sides_of text d) (row_in text (get_or d.names i nowhere) (get_or P (d.first + i) Nil))
      → Settling text d P₀ P i → Settling text d P₀ (set P (d.first + i) p) (i + 1)
  settling_more P i p h e g =
      let S = sides_of text d in
      let N = d.names in
      let s = g.size in
      let n = length_rows P₀ d.first d.rows room in
      let k = length-take-le i R₀ (omega arith) in
      let r = row_there P i h g in
      let t = settled_tells S (row_in text (get_or N i nowhere) (get_or R₀ i Nil)) p (e ∙ ap (λ (q : Place). settled_row S (row_in text (get_or N i nowhere) q)) r) in
      let one : d.first + (i + 1) ≡ d.first + i + 1 = omega arith in
      let rows : rows_view text N (take (i + 1) R₀) ≡ rows_view text N (take i R₀) ++ row_in text (get_or N i nowhere) (get_or R₀ i Nil) ∷ [] =
      ap (λ (l : List Place). rows_view text N l) (take_more R₀ i Nil (omega arith))
      ∙ rows_push text N (take i R₀) (get_or R₀ i Nil) (omega arith)
      ∙ ap (λ (j : ℕ). rows_view text N (take i R₀) ++ row_in text (get_or N j nowhere) (get_or R₀ i Nil) ∷ []) k in
      record {
        size = length-set P (d.first + i) p ∙ s;
        done = ap (λ (j : ℕ). take j (set P (d.first + i) p)) one ∙ take_more_set P (d.first + i) p (omega arith)
            ∙ ap (λ (l : List Place). l ++ p ∷ []) g.done
            ∙ append_assoc (take d.first P₀) (map (settled S) (rows_view text N (take i R₀))) (p ∷ [])
            ∙ ap (λ (q : Place). take d.first P₀ ++ (map (settled S) (rows_view text N (take i R₀)) ++ q ∷ [])) t.1
            ∙ ap (λ (l : List Place). take d.first P₀ ++ l) (sym (map_push (settled S) (rows_view text N (take i R₀)) (row_in text (get_or N i nowhere) (get_or R₀ i Nil))))
            ∙ ap (λ (l : List Row). take d.first P₀ ++ map (settled S) l) (sym rows);
        rest = ap (λ (j : ℕ). drop j (set P (d.first + i) p)) one ∙ drop-set-lt (d.first + i + 1) P (d.first + i) p (omega arith)
            ∙ sym (drop-drop 1 (d.first + i) P) ∙ ap (λ (l : List Place). drop 1 l) g.rest ∙ drop-drop 1 (d.first + i) P₀
            ∙ ap (λ (j : ℕ). drop j P₀) (sym one);
        known = ap (any (lost S)) rows ∙ any_push (lost S) (rows_view text N (take i R₀)) (row_in text (get_or N i nowhere) (get_or R₀ i Nil)) g.known t.0;
      }

  pub settling_lost : (P : List Place) (i : ℕ) → i < d.rows
      → None ≡ settled_row (sides_of text d) (row_in text (get_or d.names i nowhere) (get_or P (d.first + i) Nil))
      → Settling text d P₀ P i → any (lost (sides_of text d)) (rows_of text d P₀) ≡ true
  settling_lost P i h e g =
      let S = sides_of text d in
      let N = d.names in
      let n = length_rows P₀ d.first d.rows room in
      let r = row_there P i h g in
      ap (any (lost S)) (rows_split text N R₀ i Nil (omega arith) (omega arith))
      ∙ any_at (lost S) (rows_view text N (take i R₀)) (row_in text (get_or N i nowhere) (get_or R₀ i Nil)) (rows_view text (drop (suc i) N) (drop (suc i) R₀))
      (lost_tells S (row_in text (get_or N i nowhere) (get_or R₀ i Nil)) (e ∙ ap (λ (q : Place). settled_row S (row_in text (get_or N i nowhere) q)) r))
