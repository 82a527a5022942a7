-- Walking over the words of a text: the words still to come. Assumes nothing.
use Rattle.std.specs.Prelude.{◌≡◌, ℕ, List, Some, None, Option}
use Rattle.book_words.specs.declared.walk.Words.{Words}
use Rattle.book_words.specs.declared.word.Found.{Found}
use Rattle.book_words.specs.Words.{Word}
use Rattle.book_words.specs.Shown.{words_at, Cuts}

-- the words at and behind the offset that the walk has come to
abbrev pub coming : Words → List Word
coming w = words_at w.text.now w.at

-- a walk that is at an offset of a text
abbrev pub IsAt : Words → List ℕ → ℕ → Type 0
IsAt w text at = (w.text.now ≡ text) × (w.at ≡ at)

-- What one step of a walk gives: the first word at or behind the offset, and the walk goes on behind it; or nothing, and it stays.
abbrev pub Gives : Words → Option Found → Words → Type 0
Gives s None t = Cuts s.text.now s.at None × IsAt t s.text.now s.at
Gives s (Some f) t = Cuts s.text.now s.at (Some f) × IsAt t s.text.now f.end
