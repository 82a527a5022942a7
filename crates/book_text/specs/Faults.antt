-- Each fault's number, and where it points. Assumes nothing.
use Rattle.std.specs.Prelude.{ℕ}
use Rattle.rows.specs.Faults.{refusal_number, part_of, place_of}
use Rattle.book_text.specs.declared.fault.BookFault.{BookFault}
use Rattle.book_text.specs.declared.fault.BookFault.TheVariants.{Word, NotAllowed, GivenBefore, NoEquation, TooMany, Rows}
use Rattle.book_text.specs.declared.fault.WordFault.TheVariants.{Alien, Port, Long}

abbrev pub number_of : BookFault → ℕ
number_of (Word (Alien at)) = 1
number_of (NotAllowed at) = 2
number_of (Word (Port at)) = 3
number_of (Word (Long at)) = 4
number_of (GivenBefore at) = 5
number_of (NoEquation at) = 6
number_of (TooMany at) = 7
number_of (Rows f) = refusal_number f

-- an offset in the text, or a place of a module
pub data Where : Type 0 where
  offset_at : ℕ → Where
  place_at : (part place : ℕ) → Where

abbrev pub where_of : BookFault → Where
where_of (Word (Alien at)) = offset_at at
where_of (NotAllowed at) = offset_at at
where_of (Word (Port at)) = offset_at at
where_of (Word (Long at)) = offset_at at
where_of (GivenBefore at) = offset_at at
where_of (NoEquation at) = offset_at at
where_of (TooMany at) = offset_at at
where_of (Rows f) = place_at (part_of f) (place_of f)
