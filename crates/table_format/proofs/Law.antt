-- The law of makers' tables. Assumes nothing.
use Rattle.std.proofs.Common.{ℕ, List, map, ap}
use Rattle.table_format.specs.Numbers.{Bytes}
use Rattle.table_format.specs.Records.{meant_module}
use Rattle.table_format.specs.Reading.{module_records}
use Rattle.table_format.specs.Law.{LawOf}
use Rattle.table_format.proofs.FromBytes.{back, lawful}
use Rattle.table_format.proofs.FromRecords.{forth}
use Rattle.table_format.proofs.Fine.{within}

pub keeps : (b : List ℕ) → Bytes b → LawOf b
keeps b B = record {
  taken = λ h. (module_records b, back b B h);
  takes = λ ss h. (let r = forth ss b h in (r.0, ap (map meant_module) r.1));
  lawful = lawful b;
  numbered = λ f e. (within b f e).0;
  within = λ f e. (within b f e).1;
}
