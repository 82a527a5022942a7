use Rattle.std.proofs.Common.{ℕ, ◌+◌, ◌++◌, [], ◌∷◌, length, set, refl, inl, inr, subst, arith}
use Rattle.rows.specs.declared.row.Place.TheVariants.{Name}
use Rattle.book_words.specs.Words.Kind.{name}
use Rattle.book_text.specs.declared.parser.State.TheVariants.{Term}
use Rattle.book_text.specs.Parsers.{rows_in, view}
use Rattle.book_text.specs.Stacks.{waiting_on}
use Rattle.book_text.specs.Changes.{Finishes}
use Rattle.book_text.proofs.Naming.{call_many, call_does, long_fails}
use Rattle.book_text.proofs.Terms.{with_names}
use Rattle.book_text.proofs.Trying.{refuses}
use Rattle.book_text.proofs.parser.Parser.on_call.Goals as goal

pub returns-in_err-no_longer : goal.returns-in_err-no_longer
returns-in_err-no_longer c = λ text sp M st.
    let v = view text c.args.self.now c.args.places.now M in
    refuses (length c.args.places.now) (length M) (length text) v (name c.args.x.now) c.args.self.now.at v c.args.self.now _ c.from_residual.result c.from_residual.ensures.1
    (long_fails text c.args.self.now c.args.places.now M c.args.self.now.at st c.args.x.now Term _ c.requires (inr (inr refl)) c.in_err-no_longer.ensures)

pub returns-then-row-ge-MOST_PLACES : goal.returns-then-row-ge-MOST_PLACES
returns-then-row-ge-MOST_PLACES c = λ text sp M st. (
  call_many text c.args.self.now c.args.places.now M c.args.self.now.at st c.args.x.now c.requires c.in_ok-no_longer.ensures
      (inl (omega (arith, c.if-row-ge-MOST_PLACES.true, c.from-row.ensures))),
  refl,
)

pub returns : goal.returns
returns c = λ text sp M st.
    let d = c.args.self.now in
    call_does text d c.args.places.now M c.args.self.now.at st c.args.x.now c.add_leaf.new.self c.add_leaf.new.places 0
    c.add_leaf.result c.requires c.in_ok-no_longer.ensures sp (omega (arith, c.if-row-ge-MOST_PLACES.false, c.from-row.ensures))
    (subst (λ (k : ℕ). Finishes (with_names (set d.names k (record { at = c.args.self.now.at; size = length c.args.x.now })) d) d.stack c.args.places.now
    (rows_in d.first d.rows c.args.places.now ++ Name 0 ∷ []) c.args.self.now.at c.add_leaf.new.self c.add_leaf.new.places (d.rows + 1 + waiting_on d.stack) c.add_leaf.result)
    c.from-row.ensures c.add_leaf.ensures)
