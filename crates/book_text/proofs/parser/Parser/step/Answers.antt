use Rattle.std.proofs.Common.{◌-◌, take, drop, ℤ, refl, ap, subst, w8, SFits, rules}
use Rattle.std.proofs.lemmas.Int.{to_z-of_z}
use Rattle.book_words.specs.Words.Kind.{bad, begins, name, nil, wait, dot, plus, equals, ends, opens, closes, enter, leave, act}
use Rattle.book_words.specs.declared.word.Word.{Word}
use Rattle.book_words.specs.Shown.{kind_of, Spells}
use Rattle.book_text.specs.declared.parser.Open.TheVariants.{Acting}
use Rattle.book_text.specs.declared.parser.State.TheVariants.{Term, Point}
use Rattle.book_text.specs.Changes.{Opens}
use Rattle.book_text.proofs.Lists.{front_again}
use Rattle.book_text.proofs.Passing.{enter_does, equals_does, dot_does}
use Rattle.book_text.proofs.Pushing.{wait_does, act_does, plus_does}
use Rattle.book_text.proofs.Whole.{at_kind, at_word, steady_word}
use Rattle.book_text.proofs.parser.Parser.step.Goals as goal

pub returns-in-Bad : goal.returns-in-Bad
returns-in-Bad c =
    at_kind c.args.text.now c.args.self.now c.args.places.now c.args.modules.now bad _ c.args.found.at (at_word c.args.found.at c.args.self.now) c.args.places.now c.args.modules.now c.on_bad.result (ap kind_of c.in-Bad.is)
    (c.on_bad.ensures c.args.text.now c.args.places.now c.args.modules.now (steady_word c.args.found.at c.args.found.at c.args.self.now _ _ c.requires.steady))

pub returns-in-Module : goal.returns-in-Module
returns-in-Module c =
    at_kind c.args.text.now c.args.self.now c.args.places.now c.args.modules.now begins _ c.args.found.at c.on_module.new.self c.args.places.now c.args.modules.now c.on_module.result (ap kind_of c.in-Module.is)
    (c.on_module.ensures c.args.text.now c.args.places.now c.args.modules.now refl (steady_word c.args.found.at c.args.found.at c.args.self.now _ _ c.requires.steady))

pub returns-in-Name : goal.returns-in-Name
returns-in-Name c =
    let spelled = front_again c.in-Name.x.now (drop c.args.found.at c.args.text.now) (c.args.found.end - c.args.found.at)
    (subst (λ (w : Word). Spells (take (c.args.found.end - c.args.found.at) (drop c.args.found.at c.args.text.now)) w) c.in-Name.is c.requires.spells) in
    at_kind c.args.text.now c.args.self.now c.args.places.now c.args.modules.now (name c.in-Name.x.now) _ c.args.found.at c.on_name.new.self c.on_name.new.places c.args.modules.now c.on_name.result (ap kind_of c.in-Name.is)
    (c.on_name.ensures spelled c.args.modules.now (steady_word c.args.found.at c.args.found.at c.args.self.now _ _ c.requires.steady))

pub returns-in-Enter : goal.returns-in-Enter
returns-in-Enter c =
    at_kind c.args.text.now c.args.self.now c.args.places.now c.args.modules.now enter _ c.args.found.at c.go_on.new.self c.args.places.now c.args.modules.now c.go_on.result (ap kind_of c.in-Enter.is)
    (enter_does c.args.text.now (at_word c.args.found.at c.args.self.now) c.args.places.now c.args.modules.now c.args.found.at (steady_word c.args.found.at c.args.found.at c.args.self.now _ _ c.requires.steady) c.go_on.new.self c.go_on.result c.go_on.ensures)

pub returns-in-Equals : goal.returns-in-Equals
returns-in-Equals c =
    at_kind c.args.text.now c.args.self.now c.args.places.now c.args.modules.now equals _ c.args.found.at c.go_on-in-Equals.new.self c.args.places.now c.args.modules.now c.go_on-in-Equals.result (ap kind_of c.in-Equals.is)
    (equals_does c.args.text.now (at_word c.args.found.at c.args.self.now) c.args.places.now c.args.modules.now c.args.found.at (steady_word c.args.found.at c.args.found.at c.args.self.now _ _ c.requires.steady) c.go_on-in-Equals.new.self c.go_on-in-Equals.result c.go_on-in-Equals.ensures)

pub returns-in-Dot : goal.returns-in-Dot
returns-in-Dot c =
    at_kind c.args.text.now c.args.self.now c.args.places.now c.args.modules.now dot _ c.args.found.at c.go_on-in-Dot.new.self c.args.places.now c.args.modules.now c.go_on-in-Dot.result (ap kind_of c.in-Dot.is)
    (dot_does c.args.text.now (at_word c.args.found.at c.args.self.now) c.args.places.now c.args.modules.now c.args.found.at (steady_word c.args.found.at c.args.found.at c.args.self.now _ _ c.requires.steady) c.go_on-in-Dot.new.self c.go_on-in-Dot.result c.go_on-in-Dot.ensures)

pub returns-in-Leave : goal.returns-in-Leave
returns-in-Leave c =
    at_kind c.args.text.now c.args.self.now c.args.places.now c.args.modules.now leave _ c.args.found.at c.on_leave.new.self c.on_leave.new.places c.on_leave.new.modules c.on_leave.result (ap kind_of c.in-Leave.is)
    (c.on_leave.ensures)

pub returns-in-Nil : goal.returns-in-Nil
returns-in-Nil c =
    at_kind c.args.text.now c.args.self.now c.args.places.now c.args.modules.now nil _ c.args.found.at c.on_nil.new.self c.on_nil.new.places c.args.modules.now c.on_nil.result (ap kind_of c.in-Nil.is)
    (c.on_nil.ensures c.args.text.now c.args.modules.now (steady_word c.args.found.at c.args.found.at c.args.self.now _ _ c.requires.steady))

pub returns-in-Closes : goal.returns-in-Closes
returns-in-Closes c =
    at_kind c.args.text.now c.args.self.now c.args.places.now c.args.modules.now closes _ c.args.found.at c.on_closes.new.self c.on_closes.new.places c.args.modules.now c.on_closes.result (ap kind_of c.in-Closes.is)
    (c.on_closes.ensures c.args.text.now c.args.modules.now (steady_word c.args.found.at c.args.found.at c.args.self.now _ _ c.requires.steady))

pub returns-in-Opens : goal.returns-in-Opens
returns-in-Opens c =
    at_kind c.args.text.now c.args.self.now c.args.places.now c.args.modules.now opens _ c.args.found.at c.on_opens.new.self c.args.places.now c.args.modules.now c.on_opens.result (ap kind_of c.in-Opens.is)
    (c.on_opens.ensures c.args.text.now c.args.places.now c.args.modules.now (steady_word c.args.found.at c.args.found.at c.args.self.now _ _ c.requires.steady))

pub returns-in-Ends : goal.returns-in-Ends
returns-in-Ends c =
    at_kind c.args.text.now c.args.self.now c.args.places.now c.args.modules.now ends _ c.args.found.at c.on_ends.new.self c.args.places.now c.args.modules.now c.on_ends.result (ap kind_of c.in-Ends.is)
    (c.on_ends.ensures c.args.text.now c.args.places.now c.args.modules.now (steady_word c.args.found.at c.args.found.at c.args.self.now _ _ c.requires.steady))

pub returns-in-Wait : goal.returns-in-Wait
returns-in-Wait c =
    at_kind c.args.text.now c.args.self.now c.args.places.now c.args.modules.now wait _ c.args.found.at c.open.new.self c.args.places.now c.args.modules.now c.open.result (ap kind_of c.in-Wait.is)
    (wait_does c.args.text.now (at_word c.args.found.at c.args.self.now) c.args.places.now c.args.modules.now c.args.found.at (steady_word c.args.found.at c.args.found.at c.args.self.now _ _ c.requires.steady) c.requires.fits c.open.new.self c.open.result c.open.ensures)

pub returns-in-Plus : goal.returns-in-Plus
returns-in-Plus c =
    at_kind c.args.text.now c.args.self.now c.args.places.now c.args.modules.now plus _ c.args.found.at c.open-in-Plus.new.self c.args.places.now c.args.modules.now c.open-in-Plus.result (ap kind_of c.in-Plus.is)
    (plus_does c.args.text.now (at_word c.args.found.at c.args.self.now) c.args.places.now c.args.modules.now c.args.found.at (steady_word c.args.found.at c.args.found.at c.args.self.now _ _ c.requires.steady) c.requires.fits c.open-in-Plus.new.self c.open-in-Plus.result _ c.saturating_sub.ensures c.open-in-Plus.ensures)

pub returns-in-Act : goal.returns-in-Act
returns-in-Act c =
    let fits : SFits w8 c.in-Act.a = search rules in
    let opened = subst (λ (z : ℤ). Opens (at_word c.args.found.at c.args.self.now) Term (Acting z) Point c.args.found.at c.open-in-Act.new.self c.open-in-Act.result) (to_z-of_z w8 c.in-Act.a fits) c.open-in-Act.ensures in
    at_kind c.args.text.now c.args.self.now c.args.places.now c.args.modules.now (act c.in-Act.a) _ c.args.found.at c.open-in-Act.new.self c.args.places.now c.args.modules.now c.open-in-Act.result (ap kind_of c.in-Act.is)
    (act_does c.args.text.now (at_word c.args.found.at c.args.self.now) c.args.places.now c.args.modules.now c.args.found.at (steady_word c.args.found.at c.args.found.at c.args.self.now _ _ c.requires.steady) c.requires.fits c.open-in-Act.new.self c.open-in-Act.result c.in-Act.a opened)
