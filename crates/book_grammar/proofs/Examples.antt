-- The worked texts, computed.
use Rattle.std.proofs.Common.{refl}
use Rattle.book_words.specs.Words.{words}
use Rattle.book_grammar.specs.Reading.{reading}
use Rattle.book_grammar.specs.Examples.{Worked}

pub worked : Worked
unfolding reading words
worked = record {
  slow_and_fast = refl;
  sums = refl;
  empty = refl;
  strange = refl;
  front = refl;
  port_not_due = refl;
  no_equation = refl;
  text_ends = refl;
  bad_port = refl;
  long_name = refl;
  title_twice = refl;
  left_twice = refl;
  no_side = refl;
  no_module_row = refl;
  rows_out = refl;
  sum_within = refl;
  wait_around = refl;
  fewest_rows = refl;
  parens32 = refl;
  parens33 = refl;
  many_waits = refl;
  waits_around = refl;
}
