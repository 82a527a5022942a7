-- What a function that writes at the end of a text has done. Assumes nothing.
use Rattle.std.specs.Prelude.{◌≡◌, ℕ, List, ◌++◌, string_bytes, Result, String, OnOk}
use Rattle.std.specs.declared.alloc.Global.{Global}

-- the bytes stand behind what was there, unless memory was wanting
abbrev pub Added : {A E : Type 0} → String Global → String Global → List ℕ → Result A E → Type 0
Added before after bytes r = OnOk r (string_bytes after ≡ string_bytes before ++ bytes)
