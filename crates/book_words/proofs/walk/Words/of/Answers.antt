use Rattle.std.proofs.Common.{refl}
use Rattle.book_words.specs.Words.{words}
use Rattle.book_words.specs.Shown.{words_at}
use Rattle.book_words.proofs.walk.Words.of.Goals as goal

pub returns-clause-words : goal.returns-clause-words
unfolding words words_at
returns-clause-words c = refl
