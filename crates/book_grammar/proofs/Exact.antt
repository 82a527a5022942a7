-- A text is taken exactly when it has a derivation within the limits.
use Rattle.std.proofs.Common.{◌≡◌, ℕ, Bool, true, false, not, List, [], ◌∷◌, length, Some, None, Option, sym, refl, ap, ◌∙◌, subst, arith}
use Rattle.std.proofs.lemmas.Bool.{false≢true, and_parts, not-true}
use Rattle.rows.specs.declared.row.Place.{Place}
use Rattle.rows.specs.declared.row.ModuleRow.{ModuleRow}
use Rattle.book_words.specs.Words.{Kind, Word, words}
use Rattle.book_words.specs.Words.Kind.{alien, other, bad, begins, nil, wait, dot, plus, equals, ends, opens, closes, enter, leave, name, act}
use Rattle.book_grammar.specs.Rows.{places_after, modules_after}
use Rattle.book_grammar.specs.Reading.{Reading, blank_reading, at, allowed, moved, is}
use Rattle.book_grammar.specs.Reading.State.{outside}
use Rattle.book_words.specs.Words.{kinds}
use Rattle.book_grammar.specs.Reading.{tried, smallest, Step, Read, run, reading}
use Rattle.book_grammar.specs.Reading.Step.{stops, goes}
use Rattle.book_grammar.specs.Reading.Read.{refused, taken}
use Rattle.book_grammar.specs.Limits.{TakenDerived, DerivedTaken}
use Rattle.book_grammar.proofs.Free.{freely, freely_step, fine, at_outside, book_does, titles_after}
use Rattle.book_grammar.proofs.Parsed.{book_of}
use Rattle.book_grammar.proofs.Bounds.{Passes, Passed, book_passes, book_passed}
use Rattle.book_grammar.proofs.Viable.{tried_goes, goes_fine}

not_alien : (w : Kind) (s : Reading) → allowed s w ≡ true → is w alien ≡ false
not_alien alien s e = absurd (false≢true e)
not_alien other s e = refl
not_alien bad s e = refl
not_alien begins s e = refl
not_alien nil s e = refl
not_alien wait s e = refl
not_alien dot s e = refl
not_alien plus s e = refl
not_alien equals s e = refl
not_alien ends s e = refl
not_alien opens s e = refl
not_alien closes s e = refl
not_alien enter s e = refl
not_alien leave s e = refl
not_alien (name x) s e = refl
not_alien (act a) s e = refl

smallest_all : (a b c d e f g : Bool) (r : Reading) → a ≡ false → b ≡ true → c ≡ false → d ≡ false → e ≡ false → f ≡ false → g ≡ false → smallest a b c d e f g r ≡ goes r
smallest_all a b c d e f g r h1 h2 h3 h4 h5 h6 h7 =
    ap (λ (x : Bool). smallest x b c d e f g r) h1 ∙ ap (λ (x : Bool). smallest false x c d e f g r) h2 ∙ ap (λ (x : Bool). smallest false true x d e f g r) h3
    ∙ ap (λ (x : Bool). smallest false true false x e f g r) h4 ∙ ap (λ (x : Bool). smallest false true false false x f g r) h5
    ∙ ap (λ (x : Bool). smallest false true false false false x g r) h6 ∙ ap (λ (x : Bool). smallest false true false false false false x r) h7

passes_goes : (p m : ℕ) (s : Reading) (w : Kind) → fine s w ≡ true → Passes p m s w → tried p m s w ≡ goes (moved s w)
passes_goes p m s w f h =
    let a = and_parts (allowed s w) (not (is w bad)) f in
    smallest_all _ _ _ _ _ _ _ (moved s w) (not_alien w s a.0) a.0 (not-true (is w bad) a.1) h.short h.new h.known h.within

freely_some : (s : Reading) (w : Kind) (ws : List Kind) (z : Reading) → freely s (w ∷ ws) ≡ Some z → (fine s w ≡ true) × (freely (moved s w) ws ≡ Some z)
freely_some s w ws z e = go (fine s w) refl e
  where
    go : (b : Bool) → fine s w ≡ b → ◌≡◌ {A = Option Reading} (elim b [ true ↦ freely (moved s w) ws | false ↦ None ]) (Some z) → (fine s w ≡ true) × (freely (moved s w) ws ≡ Some z)
    go true h i = (h, i)
    go false h i = absurd (let o : ◌≡◌ {A = ℕ} 0 1 = cc in omega arith)

run_takes : (p m end : ℕ) (s : Reading) (ws : List Word) (z : Reading) → freely s (kinds ws) ≡ Some z → at z outside ≡ true → Passed p m s (kinds ws)
    → run p m end s ws ≡ taken z.places z.modules
run_takes p m end s [] z e h r =
    let i : s ≡ z = cc in
    ap {B = Read} (λ (b : Bool). elim b [ true ↦ taken s.places s.modules | false ↦ refused 2 end ]) (ap (λ (t : Reading). at t outside) i ∙ h)
    ∙ ap (λ (t : Reading). taken t.places t.modules) i
run_takes p m end s (w ∷ ws) z e h r =
    let f = freely_some s w.kind (kinds ws) z e in
    ap {B = Read} (λ (x : Step). elim x [ stops n ↦ refused n w.at | goes t ↦ run p m end t ws ]) (passes_goes p m s w.kind f.0 r.0)
    ∙ run_takes p m end (moved s w.kind) ws z f.1 h r.1

record Took (p m : ℕ) (s : Reading) (ws : List Word) (P : List Place) (M : List ModuleRow) : Type 0 where
  z : Reading
  led : freely s (kinds ws) ≡ Some z
  out : at z outside ≡ true
  places_so : P ≡ z.places
  modules_so : M ≡ z.modules
  passed : Passed p m s (kinds ws)

took_end : (p m end : ℕ) (s : Reading) (P : List Place) (M : List ModuleRow) (b : Bool) → at s outside ≡ b
    → ◌≡◌ {A = Read} (elim b [ true ↦ taken s.places s.modules | false ↦ refused 2 end ]) (taken P M) → Took p m s [] P M
took_end p m end s P M true h e = record { z = s; led = refl; out = h; places_so = cc; modules_so = cc; passed = tt }
took_end p m end s P M false h e = absurd (let o : ◌≡◌ {A = ℕ} 0 1 = cc in omega arith)

run_took : (p m end : ℕ) (s : Reading) (ws : List Word) (P : List Place) (M : List ModuleRow) → run p m end s ws ≡ taken P M → Took p m s ws P M
run_took p m end s [] P M e = took_end p m end s P M (at s outside) refl e
run_took p m end s (w ∷ ws) P M e = go (tried p m s w.kind) refl e (λ t x. run_took p m end t ws P M x)
  where
    go : (x : Step) → tried p m s w.kind ≡ x
        → ◌≡◌ {A = Read} (elim x [ stops n ↦ refused n w.at | goes t ↦ run p m end t ws ]) (taken P M)
        → ((t : Reading) → run p m end t ws ≡ taken P M → Took p m t ws P M) → Took p m s (w ∷ ws) P M
    go (stops n) h i r = absurd (let o : ◌≡◌ {A = ℕ} 0 1 = cc in omega arith)
    go (goes t) h i r =
        let f = goes_fine p m s w.kind t h in
        let g = tried_goes p m s w.kind t h in
        let k = r t i in
        let pass : Passes p m s w.kind = record { short = g.no_long; new = g.no_given; known = g.no_lacking; within = g.no_over } in
        record {
          z = k.z;
          led = freely_step s w.kind (kinds ws) f.0 ∙ ap (λ (q : Reading). freely q (kinds ws)) f.1 ∙ k.led;
          out = k.out;
          places_so = k.places_so;
          modules_so = k.modules_so;
          passed = (pass, subst (λ (q : Reading). Passed p m q (kinds ws)) (sym f.1) k.passed);
        }

pub derived_taken : DerivedTaken
unfolding reading
derived_taken p m text places modules b =
    let f = b.fits in
    let h = book_passes p m b.derived [] [] [] (omega (arith, f.few)) (omega (arith, f.lent)) f.apart f.each f.room in
    run_takes p m (length text) blank_reading (words text) _ (book_does b.derived [] [] []) refl h
    ∙ ap (λ (x : List Place). taken x (modules_after b.book [] [])) (sym b.places_so) ∙ ap (λ (x : List ModuleRow). taken places x) (sym b.modules_so)

pub taken_derived : TakenDerived
unfolding reading
taken_derived p m text places modules e =
    let t = run_took p m (length text) blank_reading (words text) places modules e in
    let ws = kinds (words text) in
    let d = book_of (length ws) ws (omega arith) [] [] [] t.z t.led t.out in
    let f = book_passed p m d.1 [] [] [] (omega arith) (omega arith) (omega arith) t.passed in
    let y : Reading = at_outside (titles_after d.0 []) (places_after d.0 []) (modules_after d.0 [] []) in
    let s : Some y ≡ Some t.z = sym (book_does d.1 [] [] []) ∙ t.led in
    let i : y ≡ t.z = cc in
    record {
      book = d.0;
      derived = d.1;
      fits = record { few = omega (arith, f.few); lent = omega (arith, f.lent); apart = f.apart; each = f.each; room = f.room };
      places_so = t.places_so ∙ sym (ap (λ (q : Reading). q.places) i);
      modules_so = t.modules_so ∙ sym (ap (λ (q : Reading). q.modules) i);
    }
