-- Actions. Assumes nothing.
use Rattle.std.specs.Prelude.{◌≡◌, ℕ, Bool, true, false, not, ◌&&◌, ◌≢◌, ℤ, pos, negsuc, neg_ℤ, Some, None, Option, ◌==◌, nat_le, unsigned_abs}

-- Action p receives on port p, -p sends on it, and 0 is the internal event.
abbrev pub internal : ℤ
internal = pos 0

-- The ports are 1 to 31.
abbrev pub last_port : ℕ
last_port = 31

-- a number is an action
abbrev pub is_action : ℤ → Bool
is_action a = nat_le (unsigned_abs a) last_port

abbrev pub same : ℤ → ℤ → Bool
same (pos m) (pos n) = m == n
same (pos m) (negsuc n) = false
same (negsuc m) (pos n) = false
same (negsuc m) (negsuc n) = m == n

-- a and -a are opposite, and the internal event has no opposite
pub record Opposite (a b : ℤ) : Type 0 where
  pub signal : a ≢ internal
  pub turned : b ≡ neg_ℤ a

-- the opposite of a number, where it is an action and has one
abbrev pub opposite : ℤ → Option ℤ
opposite a = elim (is_action a && not (same a internal)) [ true ↦ Some (neg_ℤ a) | false ↦ None ]
