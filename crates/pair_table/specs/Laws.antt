-- What a comparison says of the modules, in terms of strong faster-than relations. Assumes nothing.
use Rattle.std.specs.Prelude.{◌≡◌, ℕ, ◌<◌, ◌≤◌, Bool, ◌&&◌, T, ◌↔◌, List, length, ℤ, ◌==◌, slice_index_or}
use Rattle.action.specs.Lists.{any}
use Rattle.catalogue.specs.Catalogue.{Catalogue, Module, module_in}
use Rattle.catalogue.specs.Systems.{running, FasterThan, Tied}
use Rattle.pair_table.specs.declared.PairRow.{PairRow}
use Rattle.pair_table.specs.declared.Compared.{Compared}
use Rattle.pair_table.specs.declared.CompareFault.{CompareFault}
use Rattle.pair_table.specs.declared.CompareFault.TheVariants.{UnknownOld, UnknownNew, TableTooSmall}

-- The pairs that equal actions and common ticks reach from the starts.
pub data Reached (new old : Module) : ℕ → ℕ → Type 0 where
  at_start : Reached new old new.start old.start
  by_move : (a : ℤ) (p q p' q' : ℕ) → Reached new old p q → (running new).Moves p a p' → (running old).Moves q a q' → Reached new old p' q'
  by_tick : (p q p' q' : ℕ) → Reached new old p q → (running new).Ticks p p' → (running old).Ticks q q' → Reached new old p' q'

-- whether a row holds the pair; whether it does with rank 0
abbrev pub listed : List PairRow → ℕ → ℕ → Bool
listed rows p q = any (λ (r : PairRow). (p == r.new) && q == r.old) rows

abbrev pub lasting : List PairRow → ℕ → ℕ → Bool
lasting rows p q = any (λ (r : PairRow). (p == r.new && q == r.old) && r.rank == 0) rows

-- row number i
abbrev pub row : List PairRow → ℕ → PairRow
row rows i = slice_index_or rows i (record { new = 0; old = 0; rank = 0 })

-- What the filled rows say, where the table suffices.
pub record Judges (new old : Module) (v : Compared) (rows : List PairRow) : Type 0 where
  -- the first row's rank is 0 exactly when some strong faster-than relation ties the new module to the old one
  pub tied : (v.rank ≡ 0) ↔ Tied (running new) (running old)
  -- the rows are exactly the pairs that equal actions and common ticks reach from the starts
  pub count : length rows ≡ v.pairs
  pub reached : (p q : ℕ) → T (listed rows p q) ↔ Reached new old p q
  -- each once
  pub once : (i j : ℕ) → i < length rows → j < length rows → (row rows i).new ≡ (row rows j).new → (row rows i).old ≡ (row rows j).old → i ≡ j
  -- the rows of rank 0 are themselves a strong faster-than relation
  pub faster : FasterThan (running new) (running old) (lasting rows)
  -- and the largest one within the rows
  pub largest : (R : ℕ → ℕ → Bool) → FasterThan (running new) (running old) R → (p q : ℕ) → T (R p q) → T (listed rows p q) → T (lasting rows p q)

-- What the rows say where the table does not suffice: they are pairs that are reached, each once, and not all of these.
pub record Overflows (new old : Module) (rows : List PairRow) : Type 0 where
  pub reached : (p q : ℕ) → T (listed rows p q) → Reached new old p q
  pub once : (i j : ℕ) → i < length rows → j < length rows → (row rows i).new ≡ (row rows j).new → (row rows i).old ≡ (row rows j).old → i ≡ j
  pub more : ((p q : ℕ) → Reached new old p q → T (listed rows p q)) → ⊥

-- Why a comparison is refused: the first that holds of an unknown old module, an unknown new one, and pairs that pass the rows.
abbrev pub Refuses : Catalogue → (new old : ℕ) → List PairRow → CompareFault → Type 0
Refuses ms new old rows UnknownOld = length ms ≤ old
Refuses ms new old rows UnknownNew = (old < length ms) × (length ms ≤ new)
Refuses ms new old rows TableTooSmall = (old < length ms) × (new < length ms) × Overflows (module_in ms new) (module_in ms old) rows

-- Of the modules of a catalogue: each is tied to itself, and ties compose.
pub record Ordered (ms : Catalogue) : Type 0 where
  pub itself : (a : ℕ) → a < length ms → Tied (running (module_in ms a)) (running (module_in ms a))
  pub compose : (a b c : ℕ) → Tied (running (module_in ms a)) (running (module_in ms b)) → Tied (running (module_in ms b)) (running (module_in ms c)) → Tied (running (module_in ms a)) (running (module_in ms c))
