use Rattle.std.proofs.Common.{ℕ, List, length, take, vec_items, inr, ◌∙◌, arith}
use Rattle.std.proofs.lemmas.Result.{err_from_is_err_and}
use Rattle.rows.specs.declared.row.Place.{Place}
use Rattle.rows.specs.declared.row.ModuleRow.{ModuleRow}
use Rattle.maker_table.specs.Table.{written}
use Rattle.output.specs.declared.Taken.{Taken}
use Rattle.output.specs.Taking.{Took}
use Rattle.output.proofs.Shown.{long_book, by_book, long_table, table_refused, both_taken, rewritten, took_as}
use Rattle.output.proofs.take_files.Goals as goal

pub returns-then-book-gt-LONGEST_FILE : goal.returns-then-book-gt-LONGEST_FILE
returns-then-book-gt-LONGEST_FILE c = inr (λ show. long_book show c.args.book.now (vec_items c.args.table) (omega arith))

pub returns-in_err-used : goal.returns-in_err-used
returns-in_err-used c =
    let p = err_from_is_err_and c.from_residual.result c.from_residual.ensures.1 in
    rw (p.1, p.2) (inr (λ show. by_book show c.args.book.now (vec_items c.args.table) _ (length c.deref_mut.result.now) (length c.deref_mut-2.result.now) (omega arith) (c.deref_mut.ensures.len ∙ c.args.rows.now.places_len) (c.deref_mut-2.ensures.len ∙ c.args.rows.now.modules_len) c.in_err-used.ensures.result.fault))

pub returns-then-len-gt-LONGEST_FILE : goal.returns-then-len-gt-LONGEST_FILE
returns-then-len-gt-LONGEST_FILE c =
    inr (λ show. long_table show c.args.book.now (vec_items c.args.table) (take c.in_ok-used.used.places c.read.new.places) (take c.in_ok-used.used.modules c.read.new.modules) (length c.deref_mut.result.now) (length c.deref_mut-2.result.now) (omega arith) (c.deref_mut.ensures.len ∙ c.args.rows.now.places_len) (c.deref_mut-2.ensures.len ∙ c.args.rows.now.modules_len) c.in_ok-used.ensures.result.rows (omega (arith, c.args.table.ok.0)))

pub returns-in_err-taken : goal.returns-in_err-taken
returns-in_err-taken c =
    let p = err_from_is_err_and c.from_residual-in_err-taken.result c.from_residual-in_err-taken.ensures.1 in
    rw (p.1, p.2) (table_refused c.args.book.now (vec_items c.args.table) (take c.in_ok-used.used.places c.read.new.places) (take c.in_ok-used.used.modules c.read.new.modules) (length c.deref_mut.result.now) (length c.deref_mut-2.result.now) (omega arith) (c.deref_mut.ensures.len ∙ c.args.rows.now.places_len) (c.deref_mut-2.ensures.len ∙ c.args.rows.now.modules_len) c.in_ok-used.ensures.result.rows (omega (arith, c.args.table.ok.0)) c.in_err-taken.field-0.0 c.in_err-taken.ensures.answer)

pub returns : goal.returns
returns c =
    let used = c.in_ok-used.ensures.result in
    let book : List ℕ = c.args.book.now in
    let table : List ℕ = vec_items c.args.table in
    let t : Taken = record { places = c.in_ok-used.used.places; modules = c.in_ok-used.used.modules; table = c.in_ok-taken.taken } in
    let ps : List Place = c.read.new.places in
    let ms : List ModuleRow = c.read.new.modules in
    let took : Took book table ps ms t = record {
      places_used = omega (arith, used.places_used, c.read.auto.places);
      modules_used = omega (arith, used.modules_used, c.read.auto.modules);
      means = both_taken book table (take c.in_ok-used.used.places ps) (take c.in_ok-used.used.modules ms) (length c.deref_mut.result.now) (length c.deref_mut-2.result.now) (omega arith) (c.deref_mut.ensures.len ∙ c.args.rows.now.places_len) (c.deref_mut-2.ensures.len ∙ c.args.rows.now.modules_len) used.rows (omega (arith, c.args.table.ok.0)) (written c.in_ok-taken.taken) c.in_ok-taken.ensures.answer.0 c.in_ok-taken.ensures.answer.1;
    } in
    let p = rewritten c.args.rows.now.places.len ps c.args.rows.now.places.items (omega (arith, c.deref_mut.ensures.len, c.read.auto.places)) in
    let m = rewritten c.args.rows.now.modules.len ms c.args.rows.now.modules.items (omega (arith, c.deref_mut-2.ensures.len, c.read.auto.modules)) in
    took_as book table _ ps _ ms t p m took
