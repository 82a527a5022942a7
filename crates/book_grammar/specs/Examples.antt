-- Texts worked out by the definitions.
use Rattle.std.specs.Prelude.{◌≡◌, ℕ, [], ◌∷◌, pos, negsuc, codes}
use Rattle.rows.specs.declared.row.Place.TheVariants.{Nil, Act, Wait, Sum, Name}
use Rattle.rows.specs.declared.row.ModuleRow.{ModuleRow}
use Rattle.book_grammar.specs.Reading.{reading}
use Rattle.book_grammar.specs.Reading.Read.{refused, taken}

abbrev pub module_from : (first places start : ℕ) → ModuleRow
module_from f n s = record { first = f; places = n; start = s }

pub record Worked : Type 0 where
  pub slow_and_fast : reading 4096 64 (codes "module Slow { S = w.?1.S; } module Fast { F = ?1.F; }")
      ≡ taken (Name 2 ∷ Act (pos 1) 0 ∷ Wait 1 ∷ Name 1 ∷ Act (pos 1) 0 ∷ []) (module_from 0 3 2 ∷ module_from 3 2 1 ∷ [])
  pub sums : reading 4096 64 (codes "module A { X = 0 + Y + !31.(i.0 + Y); Y = X; }")
      ≡ taken (Nil ∷ Name 9 ∷ Sum 0 1 ∷ Nil ∷ Act (pos 0) 3 ∷ Name 9 ∷ Sum 4 5 ∷ Act (negsuc 30) 6 ∷ Sum 2 7 ∷ Name 8 ∷ []) (module_from 0 10 8 ∷ [])
  pub empty : reading 0 0 [] ≡ taken [] []
  pub strange : reading 4096 64 (codes "module Mo_d") ≡ refused 1 9
  pub front : reading 4096 64 (codes "module A X # ") ≡ refused 2 9
  pub port_not_due : reading 4096 64 (codes "module A { ?0 = 0; }") ≡ refused 2 11
  pub no_equation : reading 4096 64 (codes "module A { }") ≡ refused 2 11
  pub text_ends : reading 4096 64 (codes "module A { X = 0 ") ≡ refused 2 17
  pub bad_port : reading 4096 64 (codes "module A { X = ?32.0; }") ≡ refused 3 15
  pub long_name : reading 4096 64 (codes "module A { A2345678901234567 = 0; }") ≡ refused 4 11
  pub title_twice : reading 4096 64 (codes "module A { A = 0; } module A { A = 0; }") ≡ refused 5 27
  pub left_twice : reading 4096 64 (codes "module A { A = 0; A = 0; }") ≡ refused 5 18
  pub no_side : reading 4096 64 (codes "module A { A = w.B; } #") ≡ refused 6 20
  pub no_module_row : reading 4096 0 (codes " module A") ≡ refused 7 1
  pub rows_out : reading 1 64 (codes "module A { A = w.0; }") ≡ refused 7 17
  pub sum_within : reading 2 64 (codes "module A { A = (0 + 0); }") ≡ refused 7 20
  pub wait_around : reading 3 64 (codes "module A { A = w.(0 + 0); }") ≡ refused 7 23
  pub fewest_rows : reading 4 1 (codes "module A { A = w.(0 + 0); }") ≡ taken (Nil ∷ Nil ∷ Sum 0 1 ∷ Wait 2 ∷ []) (module_from 0 4 3 ∷ [])
  pub parens32 : reading 4096 64 (codes "module A { A = ((((((((((((((((((((((((((((((((0)))))))))))))))))))))))))))))))); }") ≡ taken (Nil ∷ []) (module_from 0 1 0 ∷ [])
  pub parens33 : reading 4096 64 (codes "module A { A = (((((((((((((((((((((((((((((((((0))))))))))))))))))))))))))))))))); }") ≡ refused 7 47
  pub many_waits : reading 4096 64 (codes "module A { A = w.w.w.w.w.w.w.w.w.w.w.w.w.w.w.w.w.w.w.w.w.w.w.w.w.w.w.w.w.w.w.w.w.w.w.w.w.w.w.w.w.w.w.w.w.w.w.w.w.w.w.w.w.w.w.w.w.w.w.w.w.w.w.w.w.w.w.w.w.w.w.w.w.w.w.w.w.w.w.w.w.w.w.w.w.w.w.w.w.w.w.w.w.w.w.w.w.w.w.w.w.w.w.w.w.w.w.w.w.w.w.w.w.w.w.w.w.w.w.w.w.w.w.w.w.w.w.w.w.w.w.w.w.w.w.w.w.w.w.w.w.w.w.w.w.w.w.w.w.w.w.w.w.w.w.w.w.w.w.w.w.w.w.w.w.w.w.w.w.w.w.w.w.w.w.w.w.w.w.w.w.w.w.w.w.w.w.w.w.w.w.w.w.w.w.w.w.w.w.w.w.w.w.w.w.w.w.w.w.w.w.w.w.w.w.w.w.w.w.w.w.w.w.w.w.w.w.w.w.w.w.w.w.w.w.w.w.w.w.w.w.w.w.w.w.w.w.w.w.w.w.w.w.w.w.w.w.w.w.w.w.w.w.w.w.w.w.w.w.w.w.w.w.w.w.w.w.w.w.w.w.w.w.w.w.w.w.w.w.w.w.w.w.w.w.w.w.w.w.w.0; }") ≡ refused 7 615
  pub waits_around : reading 4096 64 (codes "module A { A = w.w.w.w.w.w.w.w.w.w.w.w.w.w.w.w.w.w.w.w.w.w.w.w.w.w.w.w.w.w.w.w.w.w.w.w.w.w.w.w.w.w.w.w.w.w.w.w.w.w.w.w.w.w.w.w.w.w.w.w.w.w.w.w.w.w.w.w.w.w.w.w.w.w.w.w.w.w.w.w.w.w.w.w.w.w.w.w.w.w.w.w.w.w.w.w.w.w.w.w.w.w.w.w.w.w.w.w.w.w.w.w.w.w.w.w.w.w.w.w.w.w.w.w.w.w.w.w.w.w.w.w.w.w.w.w.w.w.w.w.w.w.w.w.w.w.w.w.w.w.w.w.w.w.w.w.w.w.w.w.w.w.w.w.w.w.w.w.w.w.w.w.w.w.w.w.w.w.w.w.w.w.w.w.w.w.w.w.w.w.w.w.w.w.w.w.w.w.w.w.w.w.w.w.w.w.w.w.w.w.w.w.w.w.w.w.w.w.w.w.w.w.w.w.w.w.w.w.w.w.w.w.w.w.w.w.w.w.w.w.w.w.w.w.w.w.w.w.w.w.w.w.w.w.w.w.w.w.w.w.w.w.w.w.w.w.w.w.w.w.w.w.w.w.w.w.w.w.w.w.w.w.w.w.w.w.w.w.w.w.w.w.w.w.w.w.w.w.w.w.(?1.0 + 0); }") ≡ refused 7 624
