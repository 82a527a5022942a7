use Rattle.std.proofs.Common.{◌∙◌}
use Rattle.compare.proofs.Ranks.{judged_row, judged_lone}
use Rattle.compare.proofs.filled.Filled.drop_round.Goals as goal

pub returns : goal.returns
returns g c =
    judged_row c.args.modules.now.new c.args.modules.now.old
    c.args.self.now.rows.now c.args.self.now.count c.args.held.new c.args.held.old c.args.held.rank c.tick_unmatched-tick.result c.unmatched_any-forth.result c.unmatched_any.result
    c.as_slice-news.result.now c.as_slice-olds.result.now (c.as_slice-news.ensures ∙ c.moves.ensures.news) (c.as_slice-olds.ensures ∙ c.moves.ensures.olds)
    c.tick_unmatched-tick.ensures c.unmatched_any-forth.ensures c.unmatched_any.ensures

pub returns-then-olds-eq1 : goal.returns-then-olds-eq1
returns-then-olds-eq1 g c =
    judged_row c.args.modules.now.new c.args.modules.now.old
    c.args.self.now.rows.now c.args.self.now.count c.args.held.new c.args.held.old c.args.held.rank c.tick_unmatched-tick.result c.unmatched_any-forth.result c.unmatched_any-forth.result
    c.as_slice-news.result.now c.as_slice-olds.result.now (c.as_slice-news.ensures ∙ c.moves.ensures.news) (c.as_slice-olds.ensures ∙ c.moves.ensures.olds)
    c.tick_unmatched-tick.ensures c.unmatched_any-forth.ensures
    (judged_lone c.args.self.now.rows.now c.args.self.now.count c.as_slice-news.result.now c.as_slice-olds.result.now c.tick_unmatched-tick.result c.unmatched_any-forth.result c.if-news-eq1.true c.if-olds-eq1.true c.unmatched_any-forth.ensures)
