use Rattle.std.proofs.Common.{◌≡◌, Some, None, Err, ap, ◌∙◌, rules}
use Rattle.std.specs.List.{slice_get}
use Rattle.std.proofs.lemmas.Result.{err_from_is_err_and}
use Rattle.catalogue.specs.Catalogue.{Catalogue}
use Rattle.line_rules.specs.declared.SwapFault.TheVariants.{UnknownSlot}
use Rattle.line.specs.Meaning.{in_use}
use Rattle.line.proofs.Swaps.{no_such_slot, not_compared, slower, accepted}
use Rattle.line.proofs.lines.Line.swap.Goals as goal

pub returns-in_err-was : goal.returns-in_err-was
returns-in_err-was g c =
    let ms : Catalogue = g.C.Catalogue.meaning c.args.catalogue.now in
    let lawful = g.met.C.Catalogue.lawful c.args.catalogue.now in
    let none : None ≡ slice_get (in_use c.args.self.now) c.args.slot = search rules in
    let r = no_such_slot ms lawful c.args.self.now c.args.slot c.args.new c.args.table.now none in
    let p = err_from_is_err_and c.from_residual.result c.from_residual.ensures.1 in
    let fault : c.in_err-was.field-0.0 ≡ UnknownSlot = search rules in
    record { answer = p.1 ∙ ap Err (p.2 ∙ fault) ∙ r.answer_is; line = r.line_is; table = r.table_is; promise = r.promise }

pub returns-in_err-verdict : goal.returns-in_err-verdict
returns-in_err-verdict g c =
    let ms : Catalogue = g.C.Catalogue.meaning c.args.catalogue.now in
    let lawful = g.met.C.Catalogue.lawful c.args.catalogue.now in
    let found : Some c.in_ok-was.was' ≡ slice_get (in_use c.args.self.now) c.args.slot = search rules in
    let r = not_compared ms lawful c.args.self.now c.args.slot c.args.new c.args.table.now c.in_ok-was.was' found c.in_err-verdict.field-0.0 c.compare.new.table c.in_err-verdict.ensures.answer c.in_err-verdict.ensures.table in
    let p = err_from_is_err_and c.from_residual-in_err-verdict.result c.from_residual-in_err-verdict.ensures.1 in
    record { answer = p.1 ∙ ap Err p.2 ∙ r.answer_is; line = r.line_is; table = r.table_is; promise = r.promise }

pub returns-then-verdict-ne0 : goal.returns-then-verdict-ne0
returns-then-verdict-ne0 g c =
    let ms : Catalogue = g.C.Catalogue.meaning c.args.catalogue.now in
    let lawful = g.met.C.Catalogue.lawful c.args.catalogue.now in
    let found : Some c.in_ok-was.was' ≡ slice_get (in_use c.args.self.now) c.args.slot = search rules in
    let r = slower ms lawful c.args.self.now c.args.slot c.args.new c.args.table.now c.in_ok-was.was' found c.in_ok-verdict.verdict c.compare.new.table c.in_ok-verdict.ensures.answer c.in_ok-verdict.ensures.table c.if-verdict-ne0.true in
    record { answer = r.answer_is; line = r.line_is; table = r.table_is; promise = r.promise }

pub returns : goal.returns
returns g c =
    let ms : Catalogue = g.C.Catalogue.meaning c.args.catalogue.now in
    let lawful = g.met.C.Catalogue.lawful c.args.catalogue.now in
    let found : Some c.in_ok-was.was' ≡ slice_get (in_use c.args.self.now) c.args.slot = search rules in
    let r = accepted ms lawful c.args.self.now c.args.slot c.args.new c.args.table.now c.in_ok-was.was' found c.in_ok-verdict.verdict c.compare.new.table c.in_ok-verdict.ensures.answer c.in_ok-verdict.ensures.table c.if-verdict-ne0.false in
    record { answer = r.answer_is; line = r.line_is; table = r.table_is; promise = r.promise }
