-- How an answer tells a fault. Assumes nothing.
use Rattle.std.specs.Prelude.{◌≡◌, ℕ, Some, None, Ok, Err, Option, Result}
use Rattle.table_format.specs.declared.fault.TableFault.{TableFault}

-- refused with just the fault that there is
abbrev pub Told : {A : Type 0} → Option TableFault → Result A TableFault → Type 0
Told o (Ok x) = o ≡ None
Told o (Err f) = o ≡ Some f

-- the same, and what is returned where there is no fault
abbrev pub Gives : {A : Type 0} → Option TableFault → A → Result A TableFault → Type 0
Gives o v (Ok x) = (o ≡ None) × (x ≡ v)
Gives o v (Err f) = o ≡ Some f

-- the same, and what holds of what is returned
abbrev pub Finds : {A : Type 0} → Option TableFault → (A → Type 0) → Result A TableFault → Type 0
Finds o P (Ok x) = (o ≡ None) × P x
Finds o P (Err f) = o ≡ Some f

-- n records were passed over from s on, and what is still to tell is what is told behind them of none; `run` tells the fault of so many from an offset on
abbrev pub Passes : (ℕ → ℕ → Option TableFault) → ℕ → ℕ → Result ℕ TableFault → Type 0
Passes run n s (Ok a) = run n s ≡ run 0 a
Passes run n s (Err f) = run n s ≡ Some f
