-- Sets of actions: what a set holds, the set of the actions that pass a test, and what is said of two sets. Assumes nothing.
use Rattle.std.specs.Prelude.{ℕ, zero, suc, ◌+◌, ◌-◌, ◌*◌, ◌/◌, ◌%◌, ◌^◌, ◌<◌, ◌≤◌, Bool, true, false, not, ◌&&◌, ◌||◌, T, List, [], ◌∷◌, ℤ, pos, negsuc, neg_ℤ, ◌==◌, nat_le}
use Rattle.std.proofs.Math.Nat.{pow-succ'}
use Rattle.std.proofs.Common.{arith}
use Rattle.action.specs.declared.set.ActionSet.{ActionSet}
use Rattle.action.specs.Lists.{all, any, kept}
use Rattle.action.specs.Action.{internal, is_action, same}

infix 4 ◌∋◌
-- An action has a bit of the word, and a bit below 63 has an action.
abbrev pub place : ℤ → ℕ
place (pos n) = 31 + n
place (negsuc n) = 30 - n

abbrev pub signed : ℕ → ℤ
signed k = elim (nat_le 31 k) [ true ↦ pos (k - 31) | false ↦ negsuc (30 - k) ]

-- Whether a set holds an action. No set holds a number that is no action.
unfoldable pub has : ActionSet → ℤ → Bool
has s a = is_action a && s.bits / 2 ^ place a % 2 == 1

abbrev pub ◌∋◌ : ActionSet → ℤ → Type 0
s ∋ a = T (has s a)

-- all actions in rising order, from -31 to 31
abbrev pub rising : (n k : ℕ) → List ℤ
rising zero k = []
rising (suc n) k = signed k ∷ rising n (suc k)

unfoldable pub actions : List ℤ
actions = rising 63 0

-- what a set holds, in rising order
unfoldable pub members : ActionSet → List ℤ
members s = kept (has s) actions

-- every action of s is in t
unfoldable pub within : ActionSet → ActionSet → Bool
within s t = all (λ a. not (has s a) || has t a) actions

-- some action of s has its opposite in t
unfoldable pub meets : ActionSet → ActionSet → Bool
meets s t = any (λ a. not (same a internal) && (has s a && has t (neg_ℤ a))) actions

-- s holds one action of the port, and t the other
abbrev pub meets_on : ActionSet → ActionSet → ℕ → Bool
meets_on s t p = (has s (pos p) && has t (neg_ℤ (pos p))) || (has s (neg_ℤ (pos p)) && has t (pos p))

-- The set of the actions that pass a test, bit by bit.
abbrev pub digit : Bool → ℕ
digit true = 1
digit false = 0

unfoldable pub packed : ℕ → (ℕ → Bool) → ℕ
packed zero f = 0
packed (suc n) f = digit (f 0) + 2 * packed n (λ k. f (suc k))

digit_le : (b : Bool) → digit b ≤ 1
digit_le true = omega arith
digit_le false = omega arith

pub packed_below : (n : ℕ) (f : ℕ → Bool) → packed n f < 2 ^ n
unfolding packed
packed_below zero f = omega arith
packed_below (suc n) f = omega (arith, packed_below n (λ k. f (suc k)), digit_le (f 0), pow-succ' 2 n)

unfoldable pub set_of : (ℤ → Bool) → ActionSet
set_of f = record { bits = packed 63 (λ k. f (signed k)); narrow = packed_below 63 (λ k. f (signed k)) }

-- the set that holds nothing
abbrev pub no_actions : ActionSet
no_actions = set_of (λ a. false)
