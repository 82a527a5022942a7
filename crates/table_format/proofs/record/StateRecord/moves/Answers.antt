use Rattle.std.proofs.Common.{◌≡◌, ℕ, ◌+◌, ◌-◌, ◌*◌, ◌/◌, List, length, drop, ap, ◌∙◌, refl, arith}
use Rattle.std.proofs.lemmas.List.{length-take, length-drop}
use Rattle.std.specs.Simd.{first_chunks}
use Rattle.std.specs.List.{slice_range}
use Rattle.table_format.specs.Numbers.{byte}
use Rattle.table_format.proofs.Entries.{chunked_part}
use Rattle.table_format.proofs.record.StateRecord.moves.Goals as goal

pub returns : goal.returns
returns c =
    let b : List ℕ = c.args.self.bytes.now in
    let from = c.args.self.at + 5 in
    let count = byte b (c.args.self.at + 4) in
    let part = slice_range b from (from + 4 * count) in
    let n : length part / 4 ≡ count = omega (arith, length-take (from + 4 * count - from) (drop from b), length-drop from b) in
    c.as_chunks.ensures.front ∙ ap (λ x. first_chunks 4 x part) n ∙ chunked_part b count from (from + 4 * count) refl (omega arith)
