-- What a comparison answers, and what it leaves in the table that it is lent. Assumes nothing.
use Rattle.std.specs.Prelude.{ℕ, min, Bool, true, false, List, ◌++◌, map, length, take, drop, Ok, Err, Result, nat_le, nat_lt}
use Rattle.catalogue.specs.Catalogue.{Catalogue, Module, module_in}
use Rattle.pair_table.specs.declared.PairRow.{PairRow}
use Rattle.pair_table.specs.declared.Compared.{Compared}
use Rattle.pair_table.specs.declared.CompareFault.{CompareFault}
use Rattle.pair_table.specs.declared.CompareFault.TheVariants.{UnknownOld, UnknownNew, TableTooSmall}
use Rattle.pair_table.specs.Pairs.{Pair, most_rows, rows, pair_count}
use Rattle.pair_table.specs.Rounds.{rank, first_rank}

-- the number that a refusal is told by
abbrev pub refusal_number : CompareFault → ℕ
refusal_number UnknownOld = 22
refusal_number UnknownNew = 23
refusal_number TableTooSmall = 24

-- the most pairs that a table with so many rows takes
abbrev pub room : ℕ → ℕ
room table = min table most_rows

-- a table with so many rows suffices
abbrev pub suffices : Module → Module → ℕ → Bool
suffices new old table = nat_le (pair_count new old) (room table)

abbrev pub verdict : Module → Module → Compared
verdict new old = record { pairs = pair_count new old; rank = first_rank new old }

-- The answer: the old module is looked for first, then the new one, then the table must suffice.
unfoldable pub answer : Catalogue → (new old table : ℕ) → Result Compared CompareFault
answer ms new old table =
    elim (nat_lt old (length ms)) [
      | true ↦ elim (nat_lt new (length ms)) [
        | true ↦ elim (suffices (module_in ms new) (module_in ms old) table) [
          | true ↦ Ok (verdict (module_in ms new) (module_in ms old))
          | false ↦ Err TableTooSmall
        ]
        | false ↦ Err UnknownNew
      ]
      | false ↦ Err UnknownOld
    ]

abbrev pub row_of : (Pair → ℕ) → Pair → PairRow
row_of f p = record { new = p.new; old = p.old; rank = f p }

-- a table with pairs laid over its first rows, each with the rank that f gives it, and the rest as it was
abbrev pub laid : (Pair → ℕ) → List Pair → List PairRow → List PairRow
laid f pairs table = map (row_of f) pairs ++ drop (length pairs) table

-- every pair with its rank
abbrev pub filled : Module → Module → List PairRow → List PairRow
filled new old table = laid (rank new old (rows new old)) (rows new old) table

-- the first pairs, as many as there is room for, with rank 0
abbrev pub cut_short : Module → Module → List PairRow → List PairRow
cut_short new old table = laid (λ p. 0) (take (room (length table)) (rows new old)) table

-- The table at exit: untouched where a module is unknown.
unfoldable pub table_after : Catalogue → (new old : ℕ) → List PairRow → List PairRow
table_after ms new old table =
    elim (nat_lt old (length ms)) [
      | true ↦ elim (nat_lt new (length ms)) [
        | true ↦ elim (suffices (module_in ms new) (module_in ms old) (length table)) [
          | true ↦ filled (module_in ms new) (module_in ms old) table
          | false ↦ cut_short (module_in ms new) (module_in ms old) table
        ]
        | false ↦ table
      ]
      | false ↦ table
    ]
