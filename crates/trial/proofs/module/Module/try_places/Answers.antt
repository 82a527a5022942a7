use Rattle.std.proofs.Common.{◌≡◌, length, refl, rules}
use Rattle.trial.proofs.Trials.{all_inside, by_rows, by_all}
use Rattle.trial.proofs.module.Module.try_places.Goals as goal

pub returns-in-Some : goal.returns-in-Some
returns-in-Some c = by_rows c.args.self.now.places.now c.args.part _ _ c.in-Some.ensures refl

pub returns-in-Some-first_without_action : goal.returns-in-Some-first_without_action
returns-in-Some-first_without_action c = by_rows c.args.self.now.places.now c.args.part _ _ c.in_default.ensures c.in-Some-first_without_action.ensures

pub summarize-summaries-requires : goal.summarize-summaries-requires
summarize-summaries-requires c = all_inside c.args.self.now.places.now c.args.part c.in_default.ensures

pub returns-in-Some-first_unguarded : goal.returns-in-Some-first_unguarded
returns-in-Some-first_unguarded c =
    let full : length c.summarize-summaries.result ≡ 256 = search rules in
    by_all c.args.self.now.places.now c.args.part c.summarize-summaries.result c.args.self.now.few full c.summarize-summaries.ensures _ _ _ _ _ c.in_default.ensures c.in_default-first_without_action.ensures c.in-Some-first_unguarded.ensures refl refl

pub returns-in-Some-first_deep : goal.returns-in-Some-first_deep
returns-in-Some-first_deep c =
    let full : length c.summarize-summaries.result ≡ 256 = search rules in
    by_all c.args.self.now.places.now c.args.part c.summarize-summaries.result c.args.self.now.few full c.summarize-summaries.ensures _ _ _ _ _ c.in_default.ensures c.in_default-first_without_action.ensures c.in_default-first_unguarded.ensures c.in-Some-first_deep.ensures refl

pub returns-in-Some-first_with_many_moves : goal.returns-in-Some-first_with_many_moves
returns-in-Some-first_with_many_moves c =
    let full : length c.summarize-summaries.result ≡ 256 = search rules in
    by_all c.args.self.now.places.now c.args.part c.summarize-summaries.result c.args.self.now.few full c.summarize-summaries.ensures _ _ _ _ _ c.in_default.ensures c.in_default-first_without_action.ensures c.in_default-first_unguarded.ensures c.in_default-first_deep.ensures c.in-Some-first_with_many_moves.ensures

pub returns : goal.returns
returns c =
    let full : length c.summarize-summaries.result ≡ 256 = search rules in
    (by_all c.args.self.now.places.now c.args.part c.summarize-summaries.result c.args.self.now.few full c.summarize-summaries.ensures _ _ _ _ _ c.in_default.ensures c.in_default-first_without_action.ensures c.in_default-first_unguarded.ensures c.in_default-first_deep.ensures c.in_default-first_with_many_moves.ensures, c.summarize-summaries.ensures, full)
