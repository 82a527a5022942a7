-- What is printed of comparisons, byte by byte. Assumes nothing.
use Rattle.std.specs.Prelude.{ℕ, List, [], map, Ok, Err, codes as ascii, decimal, Result}
use Rattle.action.specs.Lists.{each, ◌⧺◌}
use Rattle.catalogue.specs.Catalogue.{Catalogue, Module, module_in}
use Rattle.pair_table.specs.declared.PairRow.{PairRow}
use Rattle.pair_table.specs.declared.Compared.{Compared}
use Rattle.pair_table.specs.declared.CompareFault.{CompareFault}
use Rattle.pair_table.specs.Pairs.{most_rows, rows}
use Rattle.pair_table.specs.Rounds.{rank}
use Rattle.pair_table.specs.Tables.{refusal_number, answer, row_of}
use Rattle.report.specs.Text.{numbered}

-- how many pairs there are and the rank of the first, or the number of the refusal; it ends a line
abbrev pub answer_text : Result Compared CompareFault → List ℕ
answer_text (Ok v) = decimal v.pairs ⧺ ascii " " ⧺ decimal v.rank ⧺ ascii "\n"
answer_text (Err e) = decimal (refusal_number e) ⧺ ascii "\n"

-- new old pairs rank, or new old and the number of the refusal
abbrev pub answer_line : (new old : ℕ) → Result Compared CompareFault → List ℕ
answer_line new old r = decimal new ⧺ ascii " " ⧺ decimal old ⧺ ascii " " ⧺ answer_text r

-- two modules of a catalogue, compared in a table with so many rows
abbrev pub comparison_line : Catalogue → (table new old : ℕ) → List ℕ
comparison_line ms table new old = answer_line new old (answer ms new old table)

-- one new module with every old one
abbrev pub comparison_lines : Catalogue → (table new : ℕ) → List ℕ
comparison_lines ms table new = numbered (λ old (m : Module). comparison_line ms table new old) 0 ms

-- every new module with every old one, in a table that is as long as any can be filled
unfoldable pub comparisons : Catalogue → List ℕ
comparisons ms = numbered (λ new (m : Module). comparison_lines ms most_rows new) 0 ms

-- new-state old-state rank
abbrev pub row_line : PairRow → List ℕ
row_line r = decimal r.new ⧺ ascii " " ⧺ decimal r.old ⧺ ascii " " ⧺ decimal r.rank ⧺ ascii "\n"

-- the rows of two modules in their order, each with its rank
unfoldable pub ranked : Module → Module → List PairRow
ranked new old = map (row_of (rank new old (rows new old))) (rows new old)

-- a refused comparison has no rows to show
abbrev pub row_lines : Module → Module → Result Compared CompareFault → List ℕ
row_lines new old (Ok v) = each row_line (ranked new old)
row_lines new old (Err e) = []

-- one new module with one old one, in a table with so many rows, and the rows
abbrev pub comparison_within : Catalogue → (table new old : ℕ) → List ℕ
comparison_within ms table new old =
    comparison_line ms table new old ⧺ row_lines (module_in ms new) (module_in ms old) (answer ms new old table)

unfoldable pub comparison : Catalogue → (new old : ℕ) → List ℕ
comparison ms new old = comparison_within ms most_rows new old
