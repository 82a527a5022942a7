-- The worked texts, computed.
use Rattle.std.proofs.Common.{refl}
use Rattle.rows.specs.Places.{ends, depth, moves}
use Rattle.rows.specs.Opening.{places_fault, module_fault, fault}
use Rattle.book_words.specs.Words.{words}
use Rattle.book_grammar.specs.Reading.{reading}
use Rattle.book_text.specs.Outcomes.{outcome}
use Rattle.book_text.specs.Cases.{WorkedOut}

pub worked_out : WorkedOut
unfolding outcome reading words fault module_fault places_fault ends depth moves
worked_out = record {
  slow = refl;
  acts_again = refl;
  waits_for_itself = refl;
  leads_to_a_cycle = refl;
  fifteen_waits = refl;
  sixteen_waits = refl;
  words_first = refl;
}
