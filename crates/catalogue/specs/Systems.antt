-- Systems that move and let time pass, and the strong faster-than relations between them: upper time bounds, urgent
-- actions, one unit of time to a tick. Modules and lines are both read as such systems. Assumes nothing.
use Rattle.std.specs.Prelude.{◌≡◌, ℕ, ◌<◌, Bool, T, ℤ, Some}
use Rattle.action.specs.Lists.{◌∈◌}
use Rattle.action.specs.Sets.{◌∋◌}
use Rattle.catalogue.specs.Catalogue.{Module, codes, state, move}

-- A system over a type of states: which of them are its own, and what can happen in each.
pub record System (S : Type 0) : Type 1 where
  pub start : S
  pub State : S → Type 0
  pub Moves : S → ℤ → S → Type 0
  pub Urgent : S → ℤ → Type 0
  pub Ticks : S → S → Type 0

-- A module as a system: its states are its codes.
abbrev pub running : Module → System ℕ
running m = record {
  start = m.start;
  State = λ c. c < codes m;
  Moves = λ c a d. move a d ∈ (state m c).moves;
  Urgent = λ c a. (state m c).urgent ∋ a;
  Ticks = λ c d. (state m c).tick ≡ Some d;
}

-- The three clauses that a pair (p, q) keeps with a relation R, p being a state of the new system and q one of the old.
pub record Clauses {S U : Type 0} (new : System S) (old : System U) (R : S → U → Bool) (p : S) (q : U) : Type 0 where
  -- each move of p is answered by a move of q with the same action, and the targets are a pair
  pub forth : (a : ℤ) (p' : S) → new.Moves p a p' → (q' : U) × old.Moves q a q' × T (R p' q')
  -- the same from each move of q
  pub back : (a : ℤ) (q' : U) → old.Moves q a q' → (p' : S) × new.Moves p a p' × T (R p' q')
  -- if p ticks, then every urgent action of q is urgent in p, q ticks, and the tick targets are a pair
  pub hurry : (p' : S) → new.Ticks p p' → (a : ℤ) → old.Urgent q a → new.Urgent p a
  pub time : (p' : S) → new.Ticks p p' → (q' : U) × old.Ticks q q' × T (R p' q')

-- R is a strong faster-than relation: it relates states of the two systems, and each of its pairs keeps the clauses.
pub record FasterThan {S U : Type 0} (new : System S) (old : System U) (R : S → U → Bool) : Type 0 where
  pub left : (p : S) (q : U) → T (R p q) → new.State p
  pub right : (p : S) (q : U) → T (R p q) → old.State q
  pub keeps : (p : S) (q : U) → T (R p q) → Clauses new old R p q

-- It ties the systems where it holds the pair of their starts.
pub record Ties {S U : Type 0} (new : System S) (old : System U) (R : S → U → Bool) : Type 0 where
  pub faster : FasterThan new old R
  pub starts : T (R new.start old.start)

-- Some strong faster-than relation ties the new system to the old one: the new one is never slower.
abbrev pub Tied : {S U : Type 0} → System S → System U → Type 0
Tied {S} {U} new old = (R : S → U → Bool) × Ties new old R
