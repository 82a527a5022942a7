use Rattle.std.proofs.Common.{◌+◌, List, ℕ, ap, ◌∙◌}
use Rattle.std.specs.List.{prefix_len}
use Rattle.std.proofs.lemmas.Iterator.{YieldsList-from_slice}
use Rattle.std.proofs.lemmas.Iterator.Consumers.{count_from_yields_List, YieldsList-from_copied}
use Rattle.std.proofs.lemmas.Iterator.Search.{YieldsList-from_take_while}
use Rattle.std.proofs.lemmas.List.Folds.{length-prefix_len}
use Rattle.book_words.proofs.reader.run_end.Goals as goal

pub returns-clause-end : goal.returns-clause-end
returns-clause-end g c test tells =
    let rest : List ℕ = c.behind.result.now in
    let bytes = YieldsList-from_copied (YieldsList-from_slice rest cc) in
    let run = YieldsList-from_take_while _ test bytes c.take_while.ensures.closure c.take_while.ensures.done tells in
    let is = count_from_yields_List c.take_while.result _ c.count.ensures.ran run ∙ length-prefix_len test rest in
    ap (λ n. c.args.from + n) (is ∙ ap (prefix_len test) c.behind.ensures)
