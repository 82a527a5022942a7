use Rattle.std.proofs.Common.{Ok, Err, rules}
use Rattle.std.proofs.lemmas.Slice.{overwrites}
use Rattle.book_grammar.proofs.Examples.{worked as computed}
use Rattle.book_text.proofs.Promising.{promised}
use Rattle.book_text.proofs.Worked.{worked_out}
use Rattle.book_text.proofs.steps.reading.read.Goals as goal

pub returns-in-Ok-clause-grammar : goal.returns-in-Ok-clause-grammar
returns-in-Ok-clause-grammar c = promised c.args.text.now c.args.places.now c.args.modules.now _ _ (Ok c.in-Ok.used) (search (rules, overwrites), c.in-Ok.ensures.1, c.in-Ok.ensures.2)

pub returns-in-Ok-clause-words : goal.returns-in-Ok-clause-words
returns-in-Ok-clause-words c = computed

pub returns-in-Ok-clause-rows : goal.returns-in-Ok-clause-rows
returns-in-Ok-clause-rows c = worked_out

pub returns-in-Err-clause-grammar : goal.returns-in-Err-clause-grammar
returns-in-Err-clause-grammar c = promised c.args.text.now c.args.places.now c.args.modules.now c.read_rows.new.places c.read_rows.new.modules (Err c.in-Err.fault) c.in-Err.ensures

pub returns-in-Err-clause-words : goal.returns-in-Err-clause-words
returns-in-Err-clause-words c = computed

pub returns-in-Err-clause-rows : goal.returns-in-Err-clause-rows
returns-in-Err-clause-rows c = worked_out
