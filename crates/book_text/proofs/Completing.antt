-- The loop that completes ops: what is left gives it.
use Rattle.std.proofs.Common.{◌≡◌, ℕ, ◌+◌, ◌-◌, ◌<◌, ◌≤◌, List, [], ◌∷◌, ◌++◌, length, take, set, sym, ap, ◌∙◌, arith}
use Rattle.std.proofs.lemmas.List.{take-set-le, length-set}
use Rattle.rows.specs.declared.row.Place.{Place}
use Rattle.book_text.specs.declared.parser.Open.{Open}
use Rattle.book_text.specs.Parsers.{op_at, rows_in}
use Rattle.book_text.specs.Stacks.{place_for, closed_rows}
use Rattle.book_text.proofs.Rowing.{put_rows, length_rows, closed_more}

pub record Completing (os : List Open) (low first rows pending : ℕ) (P₀ : List Place) (n i : ℕ) (P : List Place) : Type 0 where
  pub ops : i ≤ pending
  pub all : n + (i - low) ≡ rows + (pending - low)
  pub size : length P ≡ length P₀
  pub table : closed_rows os low (i - low) (rows_in first n P) ≡ closed_rows os low (pending - low) (rows_in first rows P₀)
  pub front : take first P ≡ take first P₀

pub completing_more : (os : List Open) (low first rows pending : ℕ) (P₀ : List Place) (n i : ℕ) (P : List Place) (p : Place)
    → first + (rows + (pending - low)) ≤ length P₀ → low < i → p ≡ place_for (op_at os (i - 1)) (n - 1)
    → Completing os low first rows pending P₀ n i P → Completing os low first rows pending P₀ (n + 1) (i - 1) (set P (first + n) p)
completing_more os low first rows pending P₀ n i P p room h e g =
    let a = g.all in
    let s = g.size in
    let o = g.ops in
    let lt : first + n < length P = omega arith in
    let x : length (rows_in first n P) ≡ n = length_rows P first n (omega arith) in
    record {
      ops = omega arith;
      all = omega arith;
      size = length-set P (first + n) p ∙ s;
      table = ap (λ (R : List Place). closed_rows os low (i - 1 - low) R) (put_rows P first n p lt)
          ∙ ap (λ (q : Place). closed_rows os low (i - 1 - low) (rows_in first n P ++ q ∷ [])) e
          ∙ ap (λ (k : ℕ). closed_rows os low (i - 1 - low) (rows_in first n P ++ place_for (op_at os (i - 1)) (k - 1) ∷ [])) (sym x)
          ∙ sym (closed_more os low i (rows_in first n P) h) ∙ g.table;
      front = take-set-le first P (first + n) p (omega arith) ∙ g.front;
    }
