-- What reading promises, in the grammar's own words. Assumes nothing.
use Rattle.std.specs.Prelude.{◌≡◌, ℕ, ◌≤◌, ◌⊎◌, List, [], ◌∷◌, ◌++◌, length, Some}
use Rattle.book_words.specs.Words.{Kind, Word, words, kinds}
use Rattle.book_grammar.specs.Grammar.{Module, Book}
use Rattle.book_grammar.specs.Reading.{reading}
use Rattle.book_grammar.specs.Reading.Read.{refused, taken}
use Rattle.rows.specs.declared.row.Place.{Place}
use Rattle.rows.specs.declared.row.ModuleRow.{ModuleRow}
use Rattle.rows.specs.declared.fault.RowsFault.{RowsFault}
use Rattle.rows.specs.Opening.{fault}
use Rattle.rows.specs.Faults.{refusal_number}

-- the words can be continued to a book
abbrev pub Continues : List Kind → Type 0
Continues u = (v : List Kind) × (b : List Module) × Book (u ++ v) b

-- the word at the offset is the first after which no continuation is a book
pub record FirstOut (ws : List Word) (offset : ℕ) : Type 0 where
  pub before : List Word
  pub word : Word
  pub rest : List Word
  pub split : ws ≡ before ++ word ∷ rest
  pub there : word.at ≡ offset
  pub good : Continues (kinds before)
  pub out : Continues (kinds before ++ word.kind ∷ []) → ⊥

-- all the words can be continued to a book, and are none
pub record Unfinished (ws : List Word) : Type 0 where
  pub good : Continues (kinds ws)
  pub none : (b : List Module) → Book (kinds ws) b → ⊥

-- refusal 2 points at the first word after which no continuation is a book, or at the end of a text that is none yet
abbrev pub RefusalTwo : Type 0
RefusalTwo = (p m : ℕ) (text : List ℕ) (k : ℕ) → reading p m text ≡ refused 2 k
    → FirstOut (words text) k ⊎ ((k ≡ length text) × Unfinished (words text))

-- rows that the words of a text make are refused only by 8, 9 and 10 when they are tried as opening tries them
abbrev pub RowsLast : Type 0
RowsLast = (p m : ℕ) (text : List ℕ) (places : List Place) (modules : List ModuleRow) (e : RowsFault)
    → reading p m text ≡ taken places modules → fault places modules ≡ Some e → 8 ≤ refusal_number e
