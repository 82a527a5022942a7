-- What a function that tries swaps has done. Assumes nothing.
use Rattle.std.specs.Prelude.{◌≡◌, ℕ, List, ◌++◌}
use Rattle.catalogue.specs.Catalogue.{Catalogue}
use Rattle.line_rules.specs.Line.{Line}
use Rattle.line_rules.specs.Swapping.{Swap, after}
use Rattle.swaps_text.specs.Text.{told}

-- the line is as the swaps leave it, and what is told of them stands behind the text that was there
pub record Tried (ms : Catalogue) (before behind : Line) (text more : List ℕ) (ws : List Swap) : Type 0 where
  pub line : behind ≡ after ms before ws
  pub lines : more ≡ text ++ told ms before ws
