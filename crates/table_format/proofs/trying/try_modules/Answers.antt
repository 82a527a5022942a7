use Rattle.std.proofs.Common.{rules}
use Rattle.table_format.specs.Reading.{after}
use Rattle.table_format.specs.Taking.{module_fault, modules_fault}
use Rattle.table_format.specs.Told.{Gives}
use Rattle.table_format.proofs.Passing.{modules_on, modules_stop}
use Rattle.table_format.proofs.Walking.{walked, gives_ok, gives_err}
use Rattle.table_format.proofs.trying.try_modules.Goals as goal

pub returns : goal.returns
returns c =
    let b = c.args.bytes.now in
    walked (module_fault b) (after b) (modules_fault b) (modules_on b) (modules_stop b) c.try_fold.result c.args.count 3 c.try_fold.ensures.ran
    (λ s x q d. (let g : Gives (module_fault b s) (after b s) d.0 = search rules in let h = gives_ok (module_fault b s) (after b s) q.1 d.0 g d.2 in (search rules, h.0, h.1)))
    (λ s x d. (let g : Gives (module_fault b s) (after b s) d.0 = search rules in let h = gives_err (module_fault b s) (after b s) d.2.0 d.0 g d.4 in (d.2.0, search rules, h)))
