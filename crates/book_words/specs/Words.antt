-- The words of a text: each with its offset, its length and its kind. Assumes nothing.
use Rattle.std.specs.Prelude.{ℕ, zero, suc, ◌+◌, ◌-◌, ◌*◌, Bool, true, false, cond, ◌||◌, List, [], ◌∷◌, length, take, drop, ℤ, pos, Some, None, codes, Option, option_and_then, ◌==◌}
use Rattle.std.specs.Char.{is_ascii_digit, is_ascii_uppercase, is_ascii_alphanumeric}
use Rattle.std.specs.Int.{is_in_range}
use Rattle.std.specs.List.{prefix_len}
use Rattle.std.specs.Str.{bytes_eq}
use Rattle.action.specs.Action.{last_port, internal, opposite}

-- the two texts are the same
abbrev pub same : List ℕ → List ℕ → Bool
same xs ys = bytes_eq xs ys

-- a space or a newline
abbrev pub blank : ℕ → Bool
blank b = b == 32 || b == 10

-- What a word is: `alien` a byte outside the alphabet, `other` a run that is no word of the language, `bad` a `?` or `!` without a port,
-- `begins` the word `module`, `nil` the word `0`, `wait` the word `w`, `ends` is `;`, `opens` and `closes` are parentheses, `enter` and
-- `leave` are braces, `name` holds its bytes, and `act` is an action, `?7`, `!7` or `i`.
pub data Kind : Type 0 where
  alien other bad begins nil wait dot plus equals ends opens closes enter leave : Kind
  name : List ℕ → Kind
  act : ℤ → Kind

-- a number as the action that receives on that port, where it is a port
abbrev pub port_up_to : ℕ → Option ℤ
port_up_to n = cond (is_in_range 1 last_port n) (Some (pos n)) None

-- the action that receives on the port that digits name, where they name one: a port has no leading zero and at most two digits
abbrev pub port_of : List ℕ → Option ℤ
port_of [] = None
port_of (d ∷ []) = port_up_to (d - 48)
port_of (d ∷ e ∷ []) = cond (d == 48) None (port_up_to ((d - 48) * 10 + (e - 48)))
port_of (d ∷ e ∷ g ∷ more) = None

-- a `?` or `!` that makes this action, where it has a port
abbrev pub ported : Option ℤ → Kind
ported None = bad
ported (Some a) = act a

-- a run of letters and digits
abbrev pub run_kind : List ℕ → Kind
run_kind [] = other
run_kind (b ∷ bs) =
    cond (is_ascii_uppercase b) (name (b ∷ bs))
    (cond (same (b ∷ bs) (codes "module")) begins
    (cond (same (b ∷ bs) (codes "0")) nil
    (cond (same (b ∷ bs) (codes "w")) wait
    (cond (same (b ∷ bs) (codes "i")) (act internal) other))))

-- a single byte
abbrev pub mark_kind : ℕ → Kind
mark_kind b =
    cond (b == 46) dot (cond (b == 43) plus (cond (b == 61) equals (cond (b == 59) ends
    (cond (b == 40) opens (cond (b == 41) closes (cond (b == 123) enter (cond (b == 125) leave alien)))))))

-- a `?` or `!`
abbrev pub asks : ℕ → Bool
asks b = b == 63 || b == 33

-- the length of the word that begins with b, and bs behind it: a longest run of letters and digits, a `?` or `!` with its digits, or one byte
abbrev pub size_at : ℕ → List ℕ → ℕ
size_at b bs = suc (cond (is_ascii_alphanumeric b) (prefix_len is_ascii_alphanumeric bs) (cond (asks b) (prefix_len is_ascii_digit bs) 0))

-- and what it is
abbrev pub kind_at : ℕ → List ℕ → Kind
kind_at b bs =
    cond (is_ascii_alphanumeric b) (run_kind (b ∷ take (prefix_len is_ascii_alphanumeric bs) bs))
    (cond (b == 63) (ported (port_of (take (prefix_len is_ascii_digit bs) bs)))
    (cond (b == 33) (ported (option_and_then opposite (port_of (take (prefix_len is_ascii_digit bs) bs)))) (mark_kind b)))

-- a word with its offset and its length
pub record Word : Type 0 where
  pub at : ℕ
  pub size : ℕ
  pub kind : Kind

-- the words of bs, which stand at an offset; n is more than its length
abbrev pub words_from : ℕ → ℕ → List ℕ → List Word
words_from zero at bs = []
words_from (suc n) at [] = []
words_from (suc n) at (b ∷ bs) =
    elim (blank b) [
      | true ↦ words_from n (suc at) bs
      | false ↦ record { at = at; size = size_at b bs; kind = kind_at b bs } ∷ words_from n (at + size_at b bs) (drop (size_at b bs) (b ∷ bs))
    ]

-- the words of a text
unfoldable pub words : List ℕ → List Word
words text = words_from (suc (length text)) 0 text

-- the words without their offsets
abbrev pub kinds : List Word → List Kind
kinds [] = []
kinds (w ∷ ws) = w.kind ∷ kinds ws
