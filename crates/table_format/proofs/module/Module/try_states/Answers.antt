use Rattle.std.proofs.Common.{◌+◌, rules}
use Rattle.table_format.specs.Reading.{after}
use Rattle.table_format.specs.Taking.{state_fault, states_fault}
use Rattle.table_format.specs.Told.{Gives}
use Rattle.table_format.proofs.Passing.{states_on, states_stop}
use Rattle.table_format.proofs.Walking.{walked, gives_ok, gives_err}
use Rattle.table_format.proofs.module.Module.try_states.Goals as goal

pub returns : goal.returns
returns c =
    let b = c.args.self.bytes.now in
    let n = c.args.self.codes in
    let e = c.args.self.end in
    walked (state_fault b n e) (after b) (states_fault b n e) (states_on b n e) (states_stop b n e) c.try_fold.result n (c.args.self.at + 6) c.try_fold.ensures.ran
    (λ s x q d. (let g : Gives (state_fault b n e s) (after b s) d.0 = search rules in let h = gives_ok (state_fault b n e s) (after b s) q.1 d.0 g d.2 in (search rules, h.0, h.1)))
    (λ s x d. (let g : Gives (state_fault b n e s) (after b s) d.0 = search rules in let h = gives_err (state_fault b n e s) (after b s) d.2.0 d.0 g d.4 in (d.2.0, search rules, h)))
