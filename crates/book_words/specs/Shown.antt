-- What the words of the word reader stand for. Assumes nothing.
use Rattle.std.specs.Prelude.{◌≡◌, ℕ, suc, ◌-◌, ◌<◌, ◌≤◌, Bool, List, [], ◌∷◌, length, take, drop, Some, None, Option}
use Rattle.std.specs.Fn.{Mut, CalledAt}
use Rattle.std.specs.Borrow.{Bor}
use Rattle.book_words.specs.Words.{Kind, words_from, Word as SpecWord}
use Rattle.book_words.specs.declared.word.Found.{Found}
use Rattle.book_words.specs.Words.Kind.{alien, other, bad, begins, nil, wait, dot, plus, equals, ends, opens, closes, enter, leave, name, act}
use Rattle.book_words.specs.declared.word.Word.{Word}
use Rattle.book_words.specs.declared.word.Word.TheVariants.{Alien, Other, Bad, Module, Nil, Wait, Dot, Plus, Equals, Ends, Opens, Closes, Enter, Leave, Name, Act}

-- the kind of a word
abbrev pub kind_of : Word → Kind
kind_of Alien = alien
kind_of Other = other
kind_of Bad = bad
kind_of Module = begins
kind_of Nil = nil
kind_of Wait = wait
kind_of Dot = dot
kind_of Plus = plus
kind_of Equals = equals
kind_of Ends = ends
kind_of Opens = opens
kind_of Closes = closes
kind_of Enter = enter
kind_of Leave = leave
kind_of (Name x) = name x.now
kind_of (Act a) = act a

-- a name is this part of the text
abbrev pub Spells : List ℕ → Word → Type 0
Spells bytes (Name x) = x.now ≡ bytes
Spells bytes Alien = Unit {0}
Spells bytes Other = Unit {0}
Spells bytes Bad = Unit {0}
Spells bytes Module = Unit {0}
Spells bytes Nil = Unit {0}
Spells bytes Wait = Unit {0}
Spells bytes Dot = Unit {0}
Spells bytes Plus = Unit {0}
Spells bytes Equals = Unit {0}
Spells bytes Ends = Unit {0}
Spells bytes Opens = Unit {0}
Spells bytes Closes = Unit {0}
Spells bytes Enter = Unit {0}
Spells bytes Leave = Unit {0}
Spells bytes (Act a) = Unit {0}

-- a word is no name
abbrev pub NoName : Word → Type 0
NoName (Name x) = ⊥
NoName Alien = Unit {0}
NoName Other = Unit {0}
NoName Bad = Unit {0}
NoName Module = Unit {0}
NoName Nil = Unit {0}
NoName Wait = Unit {0}
NoName Dot = Unit {0}
NoName Plus = Unit {0}
NoName Equals = Unit {0}
NoName Ends = Unit {0}
NoName Opens = Unit {0}
NoName Closes = Unit {0}
NoName Enter = Unit {0}
NoName Leave = Unit {0}
NoName (Act a) = Unit {0}

-- Each call of a closure at a byte tells what the test does, and leaves the closure as it was.
abbrev pub Tells : {F : Type 0} → Mut F (Bor ℕ × Unit {0}) Bool → F → (ℕ → Bool) → Type 0
Tells g f test = (b : ℕ) (r : Bool) (f' : _) → CalledAt g f b r f' → (f' ≡ f) × (r ≡ test b)

-- a word that was found, with its offset and length
abbrev pub word_of : Found → SpecWord
word_of f = record { at = f.at; size = f.end - f.at; kind = kind_of f.word }

-- the words of a text at and behind an offset
unfoldable pub words_at : List ℕ → ℕ → List SpecWord
words_at text from = words_from (suc (length text)) from (drop from text)

-- What is found at or behind an offset is the first of the words there. It ends behind the offset and within the text, and a name is
-- the part of the text that it occupies.
pub record Cut (text : List ℕ) (from : ℕ) (f : Found) : Type 0 where
  pub words : words_at text from ≡ word_of f ∷ words_at text f.end
  pub behind : from ≤ f.at
  pub ends : f.at < f.end
  pub within : f.end ≤ length text
  pub spells : Spells (take (f.end - f.at) (drop f.at text)) f.word

abbrev pub Cuts : List ℕ → ℕ → Option Found → Type 0
Cuts text from None = words_at text from ≡ []
Cuts text from (Some f) = Cut text from f
