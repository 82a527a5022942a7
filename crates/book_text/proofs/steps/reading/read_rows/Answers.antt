use Rattle.book_text.proofs.Judging.{words_leave, rows_leave, rows_pass}
use Rattle.book_text.proofs.steps.reading.read_rows.Goals as goal

pub returns-in_err-used : goal.returns-in_err-used
returns-in_err-used c = words_leave c.args.text.now c.args.places.now c.args.modules.now c.read_words.new.places c.read_words.new.modules
    c.from_residual.result _ c.from_residual.ensures.1 c.in_err-used.ensures

pub returns-in_err-try_rows : goal.returns-in_err-try_rows
returns-in_err-try_rows c = rows_leave c.args.text.now c.args.places.now c.args.modules.now c.read_words.new.places c.read_words.new.modules
    c.from_residual-in_err-try_rows.result c.in_ok-used.used _ c.from_residual-in_err-try_rows.ensures.1 c.in_ok-used.ensures c.in_err-try_rows.ensures

pub returns : goal.returns
returns c = rows_pass c.args.text.now c.args.places.now c.args.modules.now c.read_words.new.places c.read_words.new.modules
    c.in_ok-used.used tt c.in_ok-used.ensures c.in_ok-try_rows.ensures
