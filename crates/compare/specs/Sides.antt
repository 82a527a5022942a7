-- The states that a move of each of the two modules leads to. Assumes nothing.
use Rattle.std.specs.Prelude.{ℕ}
use Rattle.catalogue.specs.declared.Move.{Move}
use Rattle.compare.specs.declared.ranking.Side.{Side}
use Rattle.compare.specs.declared.ranking.Side.TheVariants.{New, Old}

-- The state of each module that a move of one side and a move of the other lead to.
abbrev pub new_target : Side → Move → Move → ℕ
new_target New a b = a.target
new_target Old a b = b.target

abbrev pub old_target : Side → Move → Move → ℕ
old_target New a b = b.target
old_target Old a b = a.target
