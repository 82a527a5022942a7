use Rattle.std.proofs.Common.{◌≡◌, ℕ, leb, List, length, None, sym, ap, ◌∙◌, arith}
use Rattle.std.proofs.lemmas.Bool.{lt-leb}
use Rattle.std.proofs.lemmas.Result.{err_from_is_err_and}
use Rattle.table_format.specs.declared.fault.TableFault.TheVariants.{LeftOver}
use Rattle.table_format.specs.Numbers.{pair}
use Rattle.table_format.specs.Taking.{fault, head_fault, modules_fault}
use Rattle.table_format.proofs.Law.{keeps}
use Rattle.table_format.proofs.Faults.{none_then, some_then, try_some, none_le}
use Rattle.table_format.proofs.trying.try_table.Goals as goal

after_head : (b : List ℕ) (n : ℕ) → n ≡ pair b 1 → head_fault b ≡ None → fault b ≡ modules_fault b n 3
unfolding fault
after_head b n p e = none_then (head_fault b) (modules_fault b (pair b 1) 3) e ∙ ap (λ x. modules_fault b x 3) (sym p)

pub returns-in_err-count-clause-told : goal.returns-in_err-count-clause-told
unfolding fault
returns-in_err-count-clause-told c =
    let p = err_from_is_err_and c.from_residual.result c.from_residual.ensures.1 in
    let b = c.args.bytes.now in
    rw (p.1, p.2) (some_then (head_fault b) (modules_fault b (pair b 1) 3) _ c.in_err-count.ensures)

pub returns-in_err-count-clause-law : goal.returns-in_err-count-clause-law
returns-in_err-count-clause-law c = keeps c.args.bytes.now (λ i. omega (arith, c.type_inv.bytes i))

pub returns-in_err-behind-clause-told : goal.returns-in_err-behind-clause-told
returns-in_err-behind-clause-told c =
    let p = err_from_is_err_and c.from_residual-in_err-behind.result c.from_residual-in_err-behind.ensures.1 in
    rw (p.1, p.2) (after_head c.args.bytes.now c.in_ok-count.count c.in_ok-count.ensures.1 c.in_ok-count.ensures.0 ∙ c.in_err-behind.ensures)

pub returns-in_err-behind-clause-law : goal.returns-in_err-behind-clause-law
returns-in_err-behind-clause-law c = keeps c.args.bytes.now (λ i. omega (arith, c.type_inv.bytes i))

pub returns-then-behind-bytes-clause-told : goal.returns-then-behind-bytes-clause-told
returns-then-behind-bytes-clause-told c =
    let b = c.args.bytes.now in
    let t = c.in_ok-behind.behind in
    after_head b c.in_ok-count.count c.in_ok-count.ensures.1 c.in_ok-count.ensures.0 ∙ c.in_ok-behind.ensures ∙ try_some (leb (length b) t) (LeftOver t) (lt-leb (length b) t c.if-behind-bytes.true)

pub returns-then-behind-bytes-clause-law : goal.returns-then-behind-bytes-clause-law
returns-then-behind-bytes-clause-law c = keeps c.args.bytes.now (λ i. omega (arith, c.type_inv.bytes i))

pub returns-clause-told : goal.returns-clause-told
returns-clause-told c =
    let b = c.args.bytes.now in
    let t = c.in_ok-behind.behind in
    after_head b c.in_ok-count.count c.in_ok-count.ensures.1 c.in_ok-count.ensures.0 ∙ c.in_ok-behind.ensures ∙ none_le (length b) t (LeftOver t) c.if-behind-bytes.false

pub returns-clause-law : goal.returns-clause-law
returns-clause-law c = keeps c.args.bytes.now (λ i. omega (arith, c.type_inv.bytes i))
