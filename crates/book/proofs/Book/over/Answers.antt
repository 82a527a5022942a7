use Rattle.rows.proofs.Rules.{books_by_the_rules, waits_delay_nothing, time_deterministic}
use Rattle.rows.proofs.Worked.{worked as worked_out}
use Rattle.book.proofs.Book.over.Goals as goal

pub returns-clause-rules : goal.returns-clause-rules
returns-clause-rules c e = books_by_the_rules c.args.places.now c.args.modules.now e

pub returns-clause-waits : goal.returns-clause-waits
returns-clause-waits c e = waits_delay_nothing c.args.places.now c.args.modules.now e

pub returns-clause-time : goal.returns-clause-time
returns-clause-time c = time_deterministic

pub returns-clause-worked : goal.returns-clause-worked
returns-clause-worked c = worked_out
