-- A table without a fault, as a test. Assumes nothing.
use Rattle.std.proofs.Common.{◌≡◌, ℕ, true, not, List, is_some, Some, None, Option, refl, arith}
use Rattle.catalogue.specs.Catalogue.{Lawful}
use Rattle.table_format.specs.declared.fault.TableFault.{TableFault}
use Rattle.table_format.specs.Reading.{meaning}
use Rattle.table_format.specs.Taking.{fault, taken}
use Rattle.table_format.proofs.FromBytes.{lawful}

pub taken_none : (b : List ℕ) → taken b ≡ true → fault b ≡ None
taken_none b h = go (fault b) h
  where
    go : (o : Option TableFault) → not (is_some o) ≡ true → o ≡ None
    go None e = refl
    go (Some f) e = let z : ◌≡◌ {A = ℕ} 0 1 = cc in absurd (omega arith)

pub taken_lawful : (b : List ℕ) → taken b ≡ true → Lawful (meaning b)
taken_lawful b t = lawful b (taken_none b t)
