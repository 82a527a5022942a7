-- Names that are given. Assumes nothing.
use Rattle.std.specs.Prelude.{◌≡◌, ℕ, ◌<◌, ◌≤◌, Bool, true, ◌⊎◌, List, [], ◌∷◌, ◌++◌, length, None, is_some, Ok, Err, Result}
use Rattle.std.specs.List.{find}
use Rattle.arrayvec.specs.ArrayVec.{ArrayVec}
use Rattle.book_words.specs.Words.{same}
use Rattle.book_grammar.specs.Numbers.{most_letters}
use Rattle.book_text.specs.declared.fault.BookFault.{BookFault}
use Rattle.book_text.specs.declared.fault.BookFault.TheVariants.{Word, GivenBefore, TooMany}
use Rattle.book_text.specs.declared.fault.WordFault.TheVariants.{Long}
use Rattle.book_text.specs.declared.parser.Label.{Label}
use Rattle.book_text.specs.Parsers.{label_in}

-- a label has this name
abbrev pub is_named : List ℕ → List ℕ → Label → Bool
is_named text x l = same x (label_in text l)

-- a label at an offset
abbrev pub label_at : (at size : ℕ) → Label
label_at at size = record { name = record { at = at; size = size }; place = 0 }

-- What adding a name to at most N labels says: it is short and new, and is the last of the labels now.
pub record Added (N : ℕ) (text x : List ℕ) (at : ℕ) (ls ls' : List Label) : Type 0 where
  pub short : length x ≤ most_letters
  pub fresh : find (is_named text x) ls ≡ None
  pub few : length ls < N
  pub last : ls' ≡ ls ++ label_at at (length x) ∷ []

-- Or why it is not added: it is too long, or was given before, or there is no room.
abbrev pub Unfit : ℕ → (text x : List ℕ) → ℕ → List Label → BookFault → Type 0
Unfit N text x at ls f =
    ((most_letters < length x) × (f ≡ Word (Long at)))
    ⊎ (((length x ≤ most_letters) × (is_some (find (is_named text x) ls) ≡ true) × (f ≡ GivenBefore at))
    ⊎ ((length x ≤ most_letters) × (find (is_named text x) ls ≡ None) × (N ≤ length ls) × (f ≡ TooMany at)))

abbrev pub Adds : ℕ → (text x : List ℕ) → ℕ → ArrayVec Label → ArrayVec Label → Result (Unit {0}) BookFault → Type 0
Adds N text x at ls ls' (Ok done) = Added N text x at ls.items ls'.items
Adds N text x at ls ls' (Err f) = Unfit N text x at ls.items f
