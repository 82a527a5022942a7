use Rattle.std.proofs.Common.{leb, ◌∙◌, ap}
use Rattle.std.proofs.lemmas.Bool.{lt-leb}
use Rattle.std.proofs.lemmas.Result.{err_from_is_err_and}
use Rattle.table_format.specs.declared.fault.TableFault.TheVariants.{LeftOver}
use Rattle.table_format.specs.Reading.{after}
use Rattle.table_format.proofs.Faults.{try_some, none_le}
use Rattle.table_format.proofs.Passing.{module_head_stops, module_rest}
use Rattle.table_format.proofs.trying.try_module.Goals as goal

pub returns-in_err-module : goal.returns-in_err-module
returns-in_err-module c =
    let p = err_from_is_err_and c.from_residual.result c.from_residual.ensures.1 in
    rw (p.1, p.2) (module_head_stops c.args.bytes.now c.args.m _ c.in_err-module.ensures)

pub returns-in_err-rest : goal.returns-in_err-rest
returns-in_err-rest c =
    let p = err_from_is_err_and c.from_residual-in_err-rest.result c.from_residual-in_err-rest.ensures.1 in
    let d = c.in_ok-module.module in
    let h = c.in_ok-module.ensures in
    rw (p.1, p.2) (module_rest c.args.bytes.now d.bytes.now c.args.m d.at d.codes d.end h.1.0 h.1.1 d.counted d.ended h.0 ∙ c.in_err-rest.ensures)

pub returns-then-rest-module : goal.returns-then-rest-module
returns-then-rest-module c =
    let d = c.in_ok-module.module in
    let h = c.in_ok-module.ensures in
    module_rest c.args.bytes.now d.bytes.now c.args.m d.at d.codes d.end h.1.0 h.1.1 d.counted d.ended h.0 ∙ c.in_ok-rest.ensures
    ∙ try_some (leb d.end c.in_ok-rest.rest) (LeftOver c.in_ok-rest.rest) (lt-leb d.end c.in_ok-rest.rest c.if-rest-module.true)

pub returns : goal.returns
returns c =
    let d = c.in_ok-module.module in
    let h = c.in_ok-module.ensures in (
      module_rest c.args.bytes.now d.bytes.now c.args.m d.at d.codes d.end h.1.0 h.1.1 d.counted d.ended h.0 ∙ c.in_ok-rest.ensures ∙ none_le d.end c.in_ok-rest.rest (LeftOver c.in_ok-rest.rest) c.if-rest-module.false,
      d.ended ∙ ap (λ z. after z d.at) h.1.0 ∙ ap (after c.args.bytes.now) h.1.1,
    )
