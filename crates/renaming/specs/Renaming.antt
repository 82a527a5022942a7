-- Renamings: what each port is sent to, and what that makes of an action and of a set of actions. Assumes nothing.
use Rattle.std.specs.Prelude.{ℕ, zero, suc, Bool, true, false, not, ◌&&◌, List, [], ◌∷◌, length, ℤ, pos, negsuc, neg_ℤ, Some, None, Option, ◌==◌, slice_get, slice_index_or, unsigned_abs}
use Rattle.action.specs.Lists.{all, any, below}
use Rattle.action.specs.Action.{internal, last_port, is_action, same}
use Rattle.action.specs.declared.set.ActionSet.{ActionSet}
use Rattle.action.specs.Sets.{has, actions, set_of}

-- A list of entries says what the ports 1, 2, .. are sent to. A send goes to the opposite, the internal event to itself.
abbrev pub renamed : List ℤ → ℤ → ℤ
renamed f (pos zero) = internal
renamed f (pos (suc n)) = slice_index_or f n internal
renamed f (negsuc n) = neg_ℤ (slice_index_or f n internal)

-- what the port with a number is sent to, if there is one
abbrev pub sent : List ℤ → ℕ → Option ℤ
sent f zero = None
sent f (suc n) = slice_get f n

-- the set of what the actions of a set become
unfoldable pub image : List ℤ → ActionSet → ActionSet
image f s = set_of (λ a. any (λ b. has s b && same (renamed f b) a) actions)

-- A signal is an action other than the internal event.
abbrev pub is_signal : ℤ → Bool
is_signal a = not (same a internal) && is_action a

-- one signal for each port
abbrev pub full : List ℤ → Bool
full f = length f == last_port && all is_signal f

-- n ports from k on, each sent to itself; all ports
abbrev pub kept_from : (n k : ℕ) → List ℤ
kept_from zero k = []
kept_from (suc n) k = pos k ∷ kept_from n (suc k)

abbrev pub each_to_itself : List ℤ
each_to_itself = kept_from last_port 1

-- the first of the n numbers from k on that passes, if there is one
abbrev pub least : (ℕ → Bool) → (n k : ℕ) → Option ℕ
least f zero k = None
least f (suc n) k = elim (f k) [ true ↦ Some k | false ↦ least f n (suc k) ]

-- the entry at i is no signal
abbrev pub wrong : List ℤ → ℕ → Bool
wrong f i = not (is_signal (slice_index_or f i internal))

-- the entries at i and j have one port, signs disregarded; the entry at i has the port of one before it
abbrev pub one_port : List ℤ → ℕ → ℕ → Bool
one_port f i j = unsigned_abs (slice_index_or f i internal) == unsigned_abs (slice_index_or f j internal)

abbrev pub shared : List ℤ → ℕ → Bool
shared f i = below i (one_port f i)

unfoldable pub first_wrong : List ℤ → Option ℕ
first_wrong f = least (wrong f) (length f) 0

unfoldable pub first_shared : List ℤ → Option ℕ
first_shared f = least (shared f) (length f) 0
