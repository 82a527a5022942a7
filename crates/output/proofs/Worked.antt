-- The worked cases hold by computation. Assumes nothing.
use Rattle.std.proofs.Common.{◌≡◌, [], ◌∷◌, refl, ap, ◌∙◌}
use Rattle.action.specs.Sets.{has, actions, members, within, meets, packed, set_of}
use Rattle.renaming.specs.Renaming.{image}
use Rattle.catalogue.specs.Catalogue.{module_in, state_in}
use Rattle.rows.specs.Places.{ends, depth, moves, urgent}
use Rattle.rows.specs.Opening.{places_fault, module_fault, fault, opened}
use Rattle.book_words.specs.Words.{words}
use Rattle.book_grammar.specs.Reading.{reading}
use Rattle.book_text.specs.Outcomes.{Outcome, outcome}
use Rattle.book_text.specs.Outcomes.Outcome.{accepted}
use Rattle.pair_table.specs.Pairs.{leads_to, explored, rows, pair_count}
use Rattle.pair_table.specs.Rounds.{keeps, refined, round, rank, first_rank}
use Rattle.pair_table.specs.Tables.{answer}
use Rattle.line_rules.specs.Time.{urgents, ticks}
use Rattle.output.specs.Output.{place_rows, module_rows}
use Rattle.output.specs.Worked.{modules_in, text, places, modules, hall, Worked}

reads : outcome place_rows module_rows text ≡ accepted places modules
unfolding outcome reading words fault module_fault places_fault ends depth moves
reads = refl

pub worked : Worked
unfolding has actions members within meets packed set_of image ends depth moves urgent places_fault module_fault fault opened leads_to explored rows pair_count keeps refined round rank first_rank answer urgents ticks
worked = record {
  reads = reads;
  slow_starts = ap (λ (o : Outcome). (module_in (modules_in o) 0).start) reads ∙ refl;
  slow_waits = ap (λ (o : Outcome). members (state_in (modules_in o) 0 32).urgent) reads ∙ refl;
  slow_ticks = ap (λ (o : Outcome). (state_in (modules_in o) 0 32).tick) reads ∙ refl;
  slow_urges = ap (λ (o : Outcome). members (state_in (modules_in o) 0 33).urgent) reads ∙ refl;
  slow_stays = ap (λ (o : Outcome). (state_in (modules_in o) 0 33).tick) reads ∙ refl;
  fast_for_slow = ap (λ (o : Outcome). answer (modules_in o) 1 0 4) reads ∙ refl;
  slow_for_fast = ap (λ (o : Outcome). answer (modules_in o) 0 1 4) reads ∙ refl;
  late_for_prompt = ap (λ (o : Outcome). answer (modules_in o) 2 3 4) reads ∙ refl;
  delayed_for_inner = ap (λ (o : Outcome). answer (modules_in o) 4 5 2) reads ∙ refl;
  inner_for_delayed = ap (λ (o : Outcome). answer (modules_in o) 5 4 2) reads ∙ refl;
  mixed_moves = ap (λ (o : Outcome). (state_in (modules_in o) 6 80).moves) reads ∙ refl;
  mixed_urges = ap (λ (o : Outcome). members (state_in (modules_in o) 6 80).urgent) reads ∙ refl;
  mixed_rests = ap (λ (o : Outcome). (state_in (modules_in o) 6 80).tick) reads ∙ refl;
  hall_ticks = ap (λ (o : Outcome). ticks (modules_in o) hall (16 ∷ 32 ∷ [])) reads ∙ refl;
  none_urgent = ap (λ (o : Outcome). members (urgents (modules_in o) hall (16 ∷ 32 ∷ []))) reads ∙ refl;
  hall_waits = ap (λ (o : Outcome). (state_in (modules_in o) 8 32).tick) reads ∙ refl;
  then_not = ap (λ (o : Outcome). ticks (modules_in o) hall (16 ∷ 33 ∷ [])) reads ∙ refl;
  then_internal = ap (λ (o : Outcome). members (urgents (modules_in o) hall (16 ∷ 33 ∷ []))) reads ∙ refl;
}
