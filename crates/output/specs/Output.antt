-- What the programs print, as a function of the bytes of the files book.txt and maker.tab. Assumes nothing.
use Rattle.std.specs.Prelude.{ℕ, true, false, List, length, Some, None, codes as ascii, decimal, Option, nat_lt}
use Rattle.std.specs.Option.{unwrap_or}
use Rattle.action.specs.Lists.{◌⧺◌}
use Rattle.catalogue.specs.Catalogue.{Catalogue}
use Rattle.catalogue.specs.Layers.{joined}
use Rattle.rows.specs.Opening.{opened}
use Rattle.book_text.specs.Faults.{number_of, Where, where_of}
use Rattle.book_text.specs.Faults.Where.{offset_at, place_at}
use Rattle.book_text.specs.Outcomes.{Outcome, outcome}
use Rattle.book_text.specs.Outcomes.Outcome.{turned_away, accepted}
use Rattle.table_format.specs.declared.fault.TableFault.{TableFault}
use Rattle.book_text.specs.Texts.{book_fault_text}
use Rattle.table_format.specs.Texts.{table_fault_text}
use Rattle.table_format.specs.Reading.{meaning}
use Rattle.table_format.specs.Taking.{fault, number, place}
use Rattle.report.specs.Text.{longest_file, catalogue_lines, fault_line, long_line}
use Rattle.comparison_text.specs.Text.{comparisons, comparison}
use Rattle.swaps_text.specs.Text.{swap_lines}
use Rattle.output.specs.declared.FileFault.{FileFault}
use Rattle.output.specs.declared.FileFault.TheVariants.{BookLong, Book, TableLong, Table}
use Rattle.output.specs.declared.Request.{Request}
use Rattle.output.specs.declared.Request.TheVariants.{Modules, Comparisons, Comparison, Swaps}

abbrev pub book_name : List ℕ
book_name = ascii "book.txt"

abbrev pub table_name : List ℕ
table_name = ascii "maker.tab"

-- a book is read into so many rows
abbrev pub place_rows : ℕ
place_rows = 4096

abbrev pub module_rows : ℕ
module_rows = 64

-- where a book is at fault: an offset of the text, or a module and a place; it ends a line
abbrev pub where_text : Where → List ℕ
where_text (offset_at k) = decimal k ⧺ ascii "\n"
where_text (place_at m i) = decimal m ⧺ ascii " " ⧺ decimal i ⧺ ascii "\n"

-- book.txt 2 14, or book.txt 8 0 3
abbrev pub book_fault_line : ℕ → Where → List ℕ
book_fault_line n w = book_name ⧺ ascii " " ⧺ decimal n ⧺ ascii " " ⧺ where_text w

-- maker.tab 15 11 (the fault of a table always has a number)
abbrev pub table_fault_line : TableFault → List ℕ
table_fault_line e = fault_line table_name (unwrap_or (number e) 0) (place e)

-- what is wrong with which file, in print
abbrev pub file_fault_text : FileFault → List ℕ
file_fault_text BookLong = book_name ⧺ ascii " long"
file_fault_text (Book e) = book_name ⧺ ascii " " ⧺ book_fault_text e
file_fault_text TableLong = table_name ⧺ ascii " long"
file_fault_text (Table e) = table_name ⧺ ascii " " ⧺ table_fault_text e

-- the line of the file at fault
abbrev pub file_fault_line : FileFault → List ℕ
file_fault_line BookLong = long_line book_name
file_fault_line (Book e) = book_fault_line (number_of e) (where_of e)
file_fault_line TableLong = long_line table_name
file_fault_line (Table e) = table_fault_line e

-- What is shown of the two files, where `show` says what is shown of the modules of the book and of those of the table. The book is
-- tried first, each file's length before its contents.
abbrev pub with_table : (Catalogue → Catalogue → List ℕ) → Catalogue → List ℕ → Option TableFault → List ℕ
with_table show front bytes (Some e) = table_fault_line e
with_table show front bytes None = show front (meaning bytes)

abbrev pub with_book : (Catalogue → Catalogue → List ℕ) → List ℕ → Outcome → List ℕ
with_book show bytes (turned_away n w) = book_fault_line n w
with_book show bytes (accepted places modules) =
    elim (nat_lt longest_file (length bytes)) [ true ↦ long_line table_name | false ↦ with_table show (opened places modules) bytes (fault bytes) ]

unfoldable pub shown : (Catalogue → Catalogue → List ℕ) → (book table : List ℕ) → List ℕ
shown show book table =
    elim (nat_lt longest_file (length book)) [ true ↦ long_line book_name | false ↦ with_book show table (outcome place_rows module_rows book) ]

-- The modules of the book from number 0 on, then those of the table from the number of the book's modules on: the numbers that they
-- have where the two are joined.
abbrev pub modules_shown : (book table : Catalogue) → List ℕ
modules_shown book table = catalogue_lines book_name 0 book ⧺ catalogue_lines table_name (length book) table

-- what is asked of the modules of the two files; where they are joined, those of the book stand before those of the table
abbrev pub asked_of : Request → (book table : Catalogue) → List ℕ
asked_of Modules book table = modules_shown book table
asked_of Comparisons book table = comparisons (joined book table)
asked_of (Comparison new old) book table = comparison (joined book table) new old
asked_of Swaps book table = swap_lines (joined book table)

-- What is printed.
abbrev pub output : Request → (book table : List ℕ) → List ℕ
output q book table = shown (asked_of q) book table
