use Rattle.std.proofs.Common.{◌≡◌}
use Rattle.book_text.proofs.Whole.{Going}
use Rattle.book_text.proofs.steps.reading.read_words.Given as goal

abbrev pub invariant-loop-found : goal.invariant-loop-found
invariant-loop-found l =
    (goal.iterator-loop-found).can_next l.found-iterator × (goal.iterator-loop-found).is_finite l.found-iterator
    × (l.found-iterator.text.now ≡ l.text)
    × Going l.text l.initial.places l.initial.modules l.parser l.places l.modules l.found-iterator.at
