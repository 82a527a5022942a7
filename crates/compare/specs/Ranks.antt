-- Ranks on the way to those of the rounds: a rank in a row says that the round of that number does not keep the row, and is
-- lowered until each row has what the ranks of the others ask. Assumes nothing.
use Rattle.std.specs.Prelude.{◌≡◌, ℕ, zero, suc, ◌+◌, ◌^◌, ◌<◌, ◌≤◌, cond, T, ◌⊎◌, List, length, map, drop, Some, None, Option, ◌==◌}
use Rattle.action.specs.Lists.{◌∈◌}
use Rattle.action.specs.Sets.{within}
use Rattle.catalogue.specs.declared.Move.{Move}
use Rattle.catalogue.specs.Catalogue.{Module, state}
use Rattle.pair_table.specs.declared.PairRow.{PairRow}
use Rattle.pair_table.specs.Pairs.{Pair}
use Rattle.pair_table.specs.Rounds.{round}
use Rattle.pair_table.specs.Laws.{row}
use Rattle.compare.specs.declared.ranking.Side.{Side}
use Rattle.compare.specs.declared.ranking.Side.TheVariants.{New, Old}
use Rattle.compare.specs.Rows.{Is, pair_of, pairs_of}
use Rattle.compare.specs.Sides.{new_target, old_target}

-- Row j is the pair of the targets of two moves by the same action; `side` says of which state the first of them is.
abbrev pub PartnerBy : List PairRow → ℕ → Side → Move → Move → ℕ → Type 0
PartnerBy rows n side a b j =
    (j < n) × ((a.action ≡ b.action) × Is rows j (new_target side a b) (old_target side a b))

abbrev pub Partner : List PairRow → ℕ → Side → Move → List Move → ℕ → Type 0
Partner rows n side a others j = (b : Move) × ((b ∈ others) × PartnerBy rows n side a b j)

-- one more fits each rank
abbrev pub Modest : List PairRow → ℕ → Type 0
Modest rows n = (j : ℕ) → j < n → (row rows j).rank + 1 < 2 ^ 32

-- A partner of rank x is there until the round `limit`, where 0 stands for no round; or it is not.
abbrev pub Lasts : ℕ → ℕ → Type 0
Lasts x limit = (x ≡ 0) ⊎ ((0 < limit) × (limit ≤ x + 1))

abbrev pub Leaves : ℕ → ℕ → Type 0
Leaves x limit = (0 < x) × ((limit ≡ 0) ⊎ (x + 1 < limit))

-- no later than the limit
abbrev pub Sooner : ℕ → ℕ → Type 0
Sooner r limit = (limit ≡ 0) ⊎ ((0 < r) × (r ≤ limit))

-- some partner of the move is there until round r; each of them is dropped before round r
abbrev pub Holds : List PairRow → ℕ → Side → Move → List Move → ℕ → Type 0
Holds rows n side a others r = (r ≡ 1) ⊎ ((j : ℕ) × (Partner rows n side a others j × Lasts (row rows j).rank r))

abbrev pub Gone : List PairRow → ℕ → Side → Move → List Move → ℕ → Type 0
Gone rows n side a others r = (j : ℕ) → Partner rows n side a others j → (0 < (row rows j).rank) × ((row rows j).rank < r)

-- the same of each, and of one, of the moves
abbrev pub HoldsAll : List PairRow → ℕ → Side → List Move → List Move → ℕ → Type 0
HoldsAll rows n side mine others r = (a : Move) → a ∈ mine → Holds rows n side a others r

abbrev pub GoneOne : List PairRow → ℕ → Side → List Move → List Move → ℕ → Type 0
GoneOne rows n side mine others r = (a : Move) × ((a ∈ mine) × Gone rows n side a others r)

-- the tick clause holds until round r; it fails at round r
abbrev pub TickHolds : Module → Module → List PairRow → ℕ → (p q r : ℕ) → Type 0
TickHolds new old rows n p q r = (r ≡ 1) ⊎ ((p' : ℕ) → (state new p).tick ≡ Some p' →
    T (within (state old q).urgent (state new p).urgent)
    × ((q' : ℕ) × (((state old q).tick ≡ Some q') × ((j : ℕ) × ((j < n) × (Is rows j p' q' × Lasts (row rows j).rank r))))))

abbrev pub TickGone : Module → Module → List PairRow → ℕ → (p q r : ℕ) → Type 0
TickGone new old rows n p q r = (p' : ℕ) × (((state new p).tick ≡ Some p')
    × (T (within (state old q).urgent (state new p).urgent) → (q' : ℕ) → (state old q).tick ≡ Some q' → (j : ℕ) → j < n → Is rows j p' q'
    → (0 < (row rows j).rank) × ((row rows j).rank < r)))

-- where p ticks, every urgent action of q is urgent in p: what of clause 3 no rank can alter
abbrev pub Hurries : Module → Module → (p q : ℕ) → Type 0
Hurries new old p q = (p' : ℕ) → (state new p).tick ≡ Some p' → T (within (state old q).urgent (state new p).urgent)

-- what holds the pair p and q until round r
pub record Steady (new old : Module) (rows : List PairRow) (n p q r : ℕ) : Type 0 where
  pub forth : HoldsAll rows n New (state new p).moves (state old q).moves r
  pub back : HoldsAll rows n Old (state old q).moves (state new p).moves r
  pub tick : TickHolds new old rows n p q r

-- why round r drops the pair p and q
abbrev pub Fails : Module → Module → List PairRow → ℕ → (p q r : ℕ) → Type 0
Fails new old rows n p q r =
    GoneOne rows n New (state new p).moves (state old q).moves r
    ⊎ (GoneOne rows n Old (state old q).moves (state new p).moves r ⊎ TickGone new old rows n p q r)

-- the round at which a move loses its partners, if it comes before the limit, and else the limit
pub record Judged (rows : List PairRow) (n : ℕ) (side : Side) (a : Move) (others : List Move) (limit r : ℕ) : Type 0 where
  pub holds : Holds rows n side a others r
  pub why : (r ≡ limit) ⊎ ((0 < r) × Gone rows n side a others r)
  pub sooner : Sooner r limit

-- the same of those moves that are done with
pub record JudgedAll (rows : List PairRow) (n : ℕ) (side : Side) (done mine others : List Move) (limit r : ℕ) : Type 0 where
  pub holds : HoldsAll rows n side done others r
  pub why : (r ≡ limit) ⊎ ((0 < r) × GoneOne rows n side mine others r)
  pub sooner : Sooner r limit

-- the round at which the tick clause fails, if it comes before the limit, and else the limit
pub record JudgedTick (new old : Module) (rows : List PairRow) (n p q limit r : ℕ) : Type 0 where
  pub holds : TickHolds new old rows n p q r
  pub why : (r ≡ limit) ⊎ ((0 < r) × TickGone new old rows n p q r)
  pub sooner : Sooner r limit

-- the round that drops a row, if it comes before the limit, and else the limit
pub record JudgedRow (new old : Module) (rows : List PairRow) (n p q limit r : ℕ) : Type 0 where
  pub steady : Steady new old rows n p q r
  pub why : (r ≡ limit) ⊎ ((0 < r) × Fails new old rows n p q r)
  pub sooner : Sooner r limit

-- a sum over the first n numbers
abbrev pub total : (ℕ → ℕ) → ℕ → ℕ
total f zero = 0
total f (suc k) = total f k + f k

-- how many of the first n rows have no rank, and what the ranks weigh, where none weighs most
abbrev pub missing : ℕ → ℕ
missing x = cond (x == 0) 1 0

abbrev pub unranked : List PairRow → ℕ → ℕ
unranked rows n = total (λ j. missing (row rows j).rank) n

abbrev pub heavy : ℕ → ℕ
heavy x = cond (x == 0) (2 ^ 32) x

abbrev pub weight : List PairRow → ℕ → ℕ
weight rows n = total (λ j. heavy (row rows j).rank) n

-- Ranks that the rounds bear out: `pairs` are the pairs of the rows.
pub record Fair (new old : Module) (pairs : List Pair) (rows : List PairRow) (n : ℕ) : Type 0 where
  pub within : n ≤ length rows
  pub held : pairs_of n rows ≡ pairs
  -- a rank that is given is no sooner than the round that drops the row
  pub sound : (i : ℕ) → i < n → 0 < (row rows i).rank → pair_of (row rows i) ∈ round new old pairs (row rows i).rank → ⊥
  -- a rank lies no further than the rows that have one
  pub bounded : (j : ℕ) → j < n → (row rows j).rank + unranked rows n ≤ n

-- the same pairs in all rows, and the same rows behind the first n
pub record Alike (before after : List PairRow) (n : ℕ) : Type 0 where
  pub pairs : map pair_of after ≡ map pair_of before
  pub rest : drop n after ≡ drop n before

-- a rank that is not given, or lies beyond round k
abbrev pub Beyond : ℕ → ℕ → Type 0
Beyond x k = (x ≡ 0) ⊎ (k < x)

-- round k keeps those rows whose rank is not given or lies beyond it
abbrev pub KeptTo : Module → Module → List Pair → List PairRow → (n k : ℕ) → Type 0
KeptTo new old pairs rows n k = (j : ℕ) → j < n → Beyond (row rows j).rank k → pair_of (row rows j) ∈ round new old pairs k

-- the rounds up to k have given their ranks: each row that such a round drops has one that is no later
abbrev pub DoneTo : Module → Module → List Pair → List PairRow → (n k : ℕ) → Type 0
DoneTo new old pairs rows n k = (m : ℕ) → m ≤ k → KeptTo new old pairs rows n m

-- the rows from row i on that no round up to `done` drops are steady
abbrev pub SteadyFrom : Module → Module → List PairRow → (n done i : ℕ) → Type 0
SteadyFrom new old rows n done i =
    (j : ℕ) → i ≤ j → j < n → Beyond (row rows j).rank done → Steady new old rows n (row rows j).new (row rows j).old (row rows j).rank

-- no less than the least of the ranks that were given
abbrev pub AtLeast : Option ℕ → ℕ → Type 0
AtLeast None x = ⊥
AtLeast (Some l) x = l ≤ x

-- A sweep from the last row down to row i, which passes over the rows whose rank is given and at most `done`; `least` is the least
-- rank that it gave. Where it began with the rounds up to k, it is done with round k + 1 in the rows that it came to.
pub record Swept (new old : Module) (pairs : List Pair) (before after : List PairRow) (n done i : ℕ) (least : Option ℕ) : Type 0 where
  pub fair : Fair new old pairs after n
  pub alike : Alike before after n
  pub lower : weight after n ≤ weight before n
  pub falls : (l : ℕ) → least ≡ Some l → weight after n < weight before n
  pub given : (j : ℕ) → j < n → ((row after j).rank ≡ (row before j).rank) ⊎ AtLeast least (row after j).rank
  pub kept : (k : ℕ) → done ≤ k → DoneTo new old pairs before n k → DoneTo new old pairs after n k
  pub next : (k : ℕ) → done ≤ k → DoneTo new old pairs before n k → (j : ℕ) → i ≤ j → j < n → Beyond (row after j).rank (suc k) → pair_of (row after j) ∈ round new old pairs (suc k)
  pub same : least ≡ None → SteadyFrom new old after n done i
