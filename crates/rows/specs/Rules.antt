-- That an opened book does what the rules of the calculus derive, and shows the laws. Assumes nothing.
use Rattle.std.specs.Prelude.{◌≡◌, ℕ, ◌<◌, List, length, ℤ, Some}
use Rattle.action.specs.Lists.{◌∈◌}
use Rattle.action.specs.Sets.{◌∋◌}
use Rattle.catalogue.specs.Catalogue.{Module, Lawful, move, codes, state, module_in}
use Rattle.rows.specs.declared.row.Place.{Place}
use Rattle.rows.specs.declared.row.Place.TheVariants.{Wait}
use Rattle.rows.specs.declared.row.ModuleRow.{ModuleRow}
use Rattle.rows.specs.Places.{ages, code, row}
use Rattle.rows.specs.Opening.{row_of, places_in, opened}
use Rattle.rows.specs.Calculus.{Term, name, Urgent, Moves, Ticks, equations, Residual}

module _ (ps : List Place) where
  -- The state with code c stands for the term P.
  pub record StandsFor (c : ℕ) (P : Term) : Type 0 where
    pub place : ℕ
    pub age : ℕ
    pub of_module : place < length ps
    pub of_age : age < ages
    pub coded : c ≡ code place age
    pub residual : Residual ps P place age

  -- What the state c of module m does is what its term derives: it moves by the same actions to the same terms, has the
  -- same urgent actions, and ticks to the same term.
  pub record AsDerived (m : Module) (c : ℕ) (P : Term) : Type 0 where
    pub moves_derived : (a : ℤ) (d : ℕ) → move a d ∈ (state m c).moves → (Q : Term) × Moves (equations ps) P a Q × StandsFor d Q
    pub derived_moves : (a : ℤ) (Q : Term) → Moves (equations ps) P a Q → (d : ℕ) × (move a d ∈ (state m c).moves) × StandsFor d Q
    pub urgent_derived : (a : ℤ) → (state m c).urgent ∋ a → Urgent (equations ps) P a
    pub derived_urgent : (a : ℤ) → Urgent (equations ps) P a → (state m c).urgent ∋ a
    pub tick_derived : (d : ℕ) → (state m c).tick ≡ Some d → (Q : Term) × Ticks (equations ps) P Q × StandsFor d Q
    pub derived_tick : (Q : Term) → Ticks (equations ps) P Q → (d : ℕ) × ((state m c).tick ≡ Some d) × StandsFor d Q

  -- The module starts in the name of its start, each state stands for a term, and does what each of its terms derives.
  pub record ByTheRules (m : Module) (s : ℕ) : Type 0 where
    pub starts_in : StandsFor m.start (name s)
    pub of_some_term : (c : ℕ) → c < codes m → (P : Term) × StandsFor c P
    pub as_derived : (c : ℕ) (P : Term) → StandsFor c P → AsDerived m c P

-- Rows that are not at fault: each module goes by the rules.
abbrev pub BooksByTheRules : List Place → List ModuleRow → Type 0
BooksByTheRules rows ms = (m : ℕ) → m < length ms → ByTheRules (places_in rows ms m) (module_in (opened rows ms) m) (row_of ms m).start

-- An upper bound is no delay: at every age a wait offers the moves of its follower.
abbrev pub WaitsDelayNothing : List Place → List ModuleRow → Type 0
WaitsDelayNothing rows ms =
    (m : ℕ) → m < length ms →
    (i j k n : ℕ) → i < length (places_in rows ms m) → j < length (places_in rows ms m) → k < ages → n < ages →
    row (places_in rows ms m) i ≡ Wait j →
    (state (module_in (opened rows ms) m) (code i k)).moves ≡ (state (module_in (opened rows ms) m) (code j n)).moves

-- Time decides nothing: one unit of time leads from a term to at most one.
abbrev pub TimeDeterministic : Type 0
TimeDeterministic = (E : ℕ → Term) (P Q R : Term) → Ticks E P Q → Ticks E P R → Q ≡ R

-- For any rows.
abbrev pub BooksLawful : Type 0
BooksLawful = (rows : List Place) (ms : List ModuleRow) → Lawful (opened rows ms)
