use Rattle.std.proofs.Common.{◌≡◌, ◌≤◌, nat_abs, pos, ap, ◌∙◌, rules, arith}
use Rattle.std.specs.Option.{unwrap_or}
use Rattle.action.specs.Action.{internal, last_port}
use Rattle.renaming.specs.Renaming.{renamed}
use Rattle.renaming.proofs.Laws.{sent_or, renamed_near}
use Rattle.renaming.proofs.renaming.Renaming.apply.Goals as goal

pub returns-then-action-lt0 : goal.returns-then-action-lt0
returns-then-action-lt0 c =
    let f = c.args.self.entries in
    let value : c.unwrap_or-to.result ≡ renamed f (pos c.unsigned_abs.result) = c.unwrap_or-to.ensures ∙ ap (λ o. unwrap_or o internal) c.sent.ensures.value ∙ sent_or f c.unsigned_abs.result in
    let near : nat_abs c.unwrap_or-to.result ≤ last_port = omega (arith, ap nat_abs value, renamed_near f c.args.self.full (pos c.unsigned_abs.result)) in
    search rules

pub returns-else-action-lt0 : goal.returns-else-action-lt0
returns-else-action-lt0 c =
    let f = c.args.self.entries in
    let value : c.unwrap_or-to.result ≡ renamed f (pos c.unsigned_abs.result) = c.unwrap_or-to.ensures ∙ ap (λ o. unwrap_or o internal) c.sent.ensures.value ∙ sent_or f c.unsigned_abs.result in
    search rules
