-- Texts worked out by the definitions, up to the opening of their rows. Assumes nothing.
use Rattle.std.specs.Prelude.{◌≡◌, [], ◌∷◌, pos, codes}
use Rattle.rows.specs.declared.row.Place.TheVariants.{Act, Wait, Name}
use Rattle.book_grammar.specs.Examples.{module_from}
use Rattle.book_text.specs.Faults.Where.{offset_at, place_at}
use Rattle.book_text.specs.Outcomes.{outcome}
use Rattle.book_text.specs.Outcomes.Outcome.{turned_away, accepted}

pub record WorkedOut : Type 0 where
  pub slow : outcome 3 1 (codes "module Slow { S = w.?1.S; }") ≡ accepted (Name 2 ∷ Act (pos 1) 0 ∷ Wait 1 ∷ []) (module_from 0 3 2 ∷ [])
  pub acts_again : outcome 4096 64 (codes "module A { X = ?1.X; }") ≡ accepted (Name 1 ∷ Act (pos 1) 0 ∷ []) (module_from 0 2 1 ∷ [])
  pub waits_for_itself : outcome 4096 64 (codes "module A { X = w.X; }") ≡ turned_away 8 (place_at 0 0)
  pub leads_to_a_cycle : outcome 4096 64 (codes "module A { A = ?1.0; } module B { A = ?1.B; B = w.B; }") ≡ turned_away 8 (place_at 1 0)
  pub fifteen_waits : outcome 4096 64 (codes "module A { A = w.w.w.w.w.w.w.w.w.w.w.w.w.w.w.?1.A; }") ≡ accepted (Name 16 ∷ Act (pos 1) 0 ∷ Wait 1 ∷ Wait 2 ∷ Wait 3 ∷ Wait 4 ∷ Wait 5 ∷ Wait 6 ∷ Wait 7 ∷ Wait 8 ∷ Wait 9 ∷ Wait 10 ∷ Wait 11 ∷ Wait 12 ∷ Wait 13 ∷ Wait 14 ∷ Wait 15 ∷ []) (module_from 0 17 16 ∷ [])
  pub sixteen_waits : outcome 4096 64 (codes "module A { A = w.w.w.w.w.w.w.w.w.w.w.w.w.w.w.w.?1.A; }") ≡ turned_away 9 (place_at 0 0)
  pub words_first : outcome 4096 64 (codes "module A { X = w.X; } #") ≡ turned_away 1 (offset_at 22)
