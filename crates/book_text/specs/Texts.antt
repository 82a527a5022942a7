-- A fault of a book, in print. Assumes nothing.
use Rattle.std.specs.Prelude.{ℕ, List, codes as ascii, decimal}
use Rattle.action.specs.Lists.{◌⧺◌}
use Rattle.book_text.specs.declared.fault.WordFault.{WordFault}
use Rattle.book_text.specs.declared.fault.BookFault.{BookFault}
use Rattle.book_text.specs.declared.fault.BookFault.TheVariants.{Word}
use Rattle.book_text.specs.Faults.{number_of, Where, where_of}
use Rattle.book_text.specs.Faults.Where.{offset_at, place_at}

-- an offset of the text, or a module and a place
abbrev pub place_text : Where → List ℕ
place_text (offset_at k) = decimal k
place_text (place_at m i) = decimal m ⧺ ascii " " ⧺ decimal i

-- the number of the refusal, and where it points: 2 14, or 8 0 3
abbrev pub book_fault_text : BookFault → List ℕ
book_fault_text e = decimal (number_of e) ⧺ ascii " " ⧺ place_text (where_of e)

abbrev pub word_fault_text : WordFault → List ℕ
word_fault_text e = book_fault_text (Word e)
