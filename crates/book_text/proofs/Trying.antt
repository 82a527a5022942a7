-- What a word that is tried leads to, by the tests that decide it.
use Rattle.std.proofs.Common.{◌≡◌, ℕ, ◌+◌, ◌<◌, Bool, true, false, ltb, List, length, IsErrAnd, Some, None, Option, Ok, Err, Result, ok_or, sym, refl, ap, ◌∙◌, subst, arith}
use Rattle.std.proofs.lemmas.Bool.{or_left, or_right, lt-ltb}
use Rattle.std.proofs.lemmas.Result.{err_from_is_err_and}
use Rattle.book_words.specs.Words.{Kind}
use Rattle.book_words.specs.Words.Kind.{alien, bad}
use Rattle.book_grammar.specs.Reading.{Reading, Step, is, allowed, moved, long, given, lacking, over, begun, parens, smallest, tried}
use Rattle.book_grammar.specs.Reading.Step.{stops, goes}
use Rattle.book_text.specs.declared.fault.BookFault.{BookFault}
use Rattle.book_text.specs.declared.fault.BookFault.TheVariants.{NotAllowed, NoEquation}
use Rattle.book_text.specs.declared.parser.Parser.{Parser}
use Rattle.rows.specs.declared.row.Place.{Place}
use Rattle.rows.specs.declared.row.ModuleRow.{ModuleRow}
use Rattle.book_text.specs.Parsers.{view}
use Rattle.book_text.specs.Faults.{number_of, where_of}
use Rattle.book_text.specs.Faults.Where.{offset_at}
use Rattle.book_text.specs.Steps.{Steady, going_on, Leads}

rewritten : (a b c d e f g a' b' c' d' e' f' g' : Bool) (t : Reading) → a ≡ a' → b ≡ b' → c ≡ c' → d ≡ d' → e ≡ e' → f ≡ f' → g ≡ g'
    → smallest a b c d e f g t ≡ smallest a' b' c' d' e' f' g' t
rewritten a b c d e f g a' b' c' d' e' f' g' t ea eb ec ed ee ef eg =
    ap (λ (x : Bool). smallest x b c d e f g t) ea ∙ ap (λ (x : Bool). smallest a' x c d e f g t) eb ∙ ap (λ (x : Bool). smallest a' b' x d e f g t) ec
    ∙ ap (λ (x : Bool). smallest a' b' c' x e f g t) ed ∙ ap (λ (x : Bool). smallest a' b' c' d' x f g t) ee ∙ ap (λ (x : Bool). smallest a' b' c' d' e' x g t) ef
    ∙ ap (λ (x : Bool). smallest a' b' c' d' e' f' x t) eg

module _ (p m : ℕ) (v : Reading) (k : Kind) where
  pub stop_2 : is k alien ≡ false → allowed v k ≡ false → tried p m v k ≡ stops 2
  stop_2 a b = rewritten (is k alien) (allowed v k) (is k bad) (long k) (given v k) (lacking v k) (over p m (moved v k))
      false false (is k bad) (long k) (given v k) (lacking v k) (over p m (moved v k)) (moved v k) a b refl refl refl refl refl

  pub stop_3 : is k alien ≡ false → allowed v k ≡ true → is k bad ≡ true → tried p m v k ≡ stops 3
  stop_3 a b c = rewritten (is k alien) (allowed v k) (is k bad) (long k) (given v k) (lacking v k) (over p m (moved v k))
      false true true (long k) (given v k) (lacking v k) (over p m (moved v k)) (moved v k) a b c refl refl refl refl

  pub stop_4 : is k alien ≡ false → allowed v k ≡ true → is k bad ≡ false → long k ≡ true → tried p m v k ≡ stops 4
  stop_4 a b c d = rewritten (is k alien) (allowed v k) (is k bad) (long k) (given v k) (lacking v k) (over p m (moved v k))
      false true false true (given v k) (lacking v k) (over p m (moved v k)) (moved v k) a b c d refl refl refl

  pub stop_5 : is k alien ≡ false → allowed v k ≡ true → is k bad ≡ false → long k ≡ false → given v k ≡ true → tried p m v k ≡ stops 5
  stop_5 a b c d e = rewritten (is k alien) (allowed v k) (is k bad) (long k) (given v k) (lacking v k) (over p m (moved v k))
      false true false false true (lacking v k) (over p m (moved v k)) (moved v k) a b c d e refl refl

  pub stop_6 : is k alien ≡ false → allowed v k ≡ true → is k bad ≡ false → long k ≡ false → given v k ≡ false → lacking v k ≡ true → tried p m v k ≡ stops 6
  stop_6 a b c d e f = rewritten (is k alien) (allowed v k) (is k bad) (long k) (given v k) (lacking v k) (over p m (moved v k))
      false true false false false true (over p m (moved v k)) (moved v k) a b c d e f refl

  pub stop_7 : is k alien ≡ false → allowed v k ≡ true → is k bad ≡ false → long k ≡ false → given v k ≡ false → lacking v k ≡ false → over p m (moved v k) ≡ true
      → tried p m v k ≡ stops 7
  stop_7 a b c d e f g = rewritten (is k alien) (allowed v k) (is k bad) (long k) (given v k) (lacking v k) (over p m (moved v k))
      false true false false false false true (moved v k) a b c d e f g

  pub go_to : (v' : Reading) → is k alien ≡ false → allowed v k ≡ true → is k bad ≡ false → long k ≡ false → given v k ≡ false → lacking v k ≡ false
      → moved v k ≡ v' → over p m v' ≡ false → tried p m v k ≡ goes v'
  go_to v' a b c d e f i g = rewritten (is k alien) (allowed v k) (is k bad) (long k) (given v k) (lacking v k) (over p m (moved v k))
      false true false false false false false (moved v k) a b c d e f (ap (λ (s : Reading). over p m s) i ∙ g) ∙ ap goes i

  pub leads_to : (end at : ℕ) (v' : Reading) (d' : Parser) → tried p m v k ≡ goes v' → Steady (at + 1) d' p m → Leads p m end v k at v' d' (Ok tt)
  leads_to end at v' d' e s = (λ ws. ap (λ (x : Step). going_on p m end at ws x) e, s)

-- a word that is refused
module _ (p m end : ℕ) (v : Reading) (k : Kind) (at : ℕ) (v' : Reading) (d' : Parser) (f : BookFault) (r : Result (Unit {0}) BookFault) where
  pub refuses : IsErrAnd r (λ (y : BookFault). y ≡ f) → (tried p m v k ≡ stops (number_of f)) × (where_of f ≡ offset_at at) → Leads p m end v k at v' d' r
  refuses b h =
      let q = err_from_is_err_and r b in
      subst (λ (y : Result (Unit {0}) BookFault). Leads p m end v k at v' d' y) (sym q.1)
      (subst (λ (y : BookFault). (tried p m v k ≡ stops (number_of y)) × (where_of y ≡ offset_at at)) (sym q.2) h)

-- since a name has no equation
pub lacks : (p m : ℕ) (v : Reading) (k : Kind) (at : ℕ) (f : BookFault) → tried p m v k ≡ stops 6 → f ≡ NoEquation at
    → (tried p m v k ≡ stops (number_of f)) × (where_of f ≡ offset_at at)
lacks p m v k at f h e = subst (λ (y : BookFault). (tried p m v k ≡ stops (number_of y)) × (where_of y ≡ offset_at at)) (sym e) (h, refl)

-- since it is not allowed
pub stopped : (p m : ℕ) (v : Reading) (k : Kind) (at : ℕ) (f : BookFault) → tried p m v k ≡ stops 2 → f ≡ NotAllowed at
    → (tried p m v k ≡ stops (number_of f)) × (where_of f ≡ offset_at at)
stopped p m v k at f h e = subst (λ (y : BookFault). (tried p m v k ≡ stops (number_of y)) × (where_of y ≡ offset_at at)) (sym e) (h, refl)

-- what stands for a value that is not there
pub missing : {A : Type 0} (o : Option A) (e f : BookFault) → Err f ≡ ok_or o e → f ≡ e
missing None e f h = cc
missing (Some x) e f h = absurd (let z : ◌≡◌ {A = ℕ} 0 1 = cc in omega arith)

-- since it is not allowed, by a parser that stays as it is
pub not_here : (text : List ℕ) (d : Parser) (P : List Place) (M : List ModuleRow) (k : Kind) (at : ℕ) (f : BookFault) (r : Result (Unit {0}) BookFault)
    → IsErrAnd r (λ (y : BookFault). y ≡ f) → tried (length P) (length M) (view text d P M) k ≡ stops 2 → f ≡ NotAllowed at
    → Leads (length P) (length M) (length text) (view text d P M) k at (view text d P M) d r
not_here text d P M k at f r b h e =
    refuses (length P) (length M) (length text) (view text d P M) k at (view text d P M) d f r b (stopped (length P) (length M) (view text d P M) k at f h e)

-- over a limit
module _ (p m : ℕ) (s : Reading) where
  pub over_modules : 64 < begun s → over p m s ≡ true
  over_modules h = or_left _ _ (lt-ltb 64 (begun s) h)

  pub over_lent : m < begun s → over p m s ≡ true
  over_lent h = or_right (ltb 64 (begun s)) _ (or_left _ _ (lt-ltb m (begun s) h))

  pub over_equations : 64 < length s.sides → over p m s ≡ true
  over_equations h = or_right (ltb 64 (begun s)) _ (or_right (ltb m (begun s)) _ (or_left _ _ (lt-ltb 64 (length s.sides) h)))

  pub over_places : 256 < length s.rows → over p m s ≡ true
  over_places h = or_right (ltb 64 (begun s)) _ (or_right (ltb m (begun s)) _ (or_right (ltb 64 (length s.sides)) _
      (or_left _ _ (lt-ltb 256 (length s.rows) h))))

  pub over_room : p < length s.places + length s.rows → over p m s ≡ true
  over_room h = or_right (ltb 64 (begun s)) _ (or_right (ltb m (begun s)) _ (or_right (ltb 64 (length s.sides)) _
      (or_right (ltb 256 (length s.rows)) _ (or_left _ _ (lt-ltb p (length s.places + length s.rows) h)))))

  pub over_parens : 32 < parens s.opened → over p m s ≡ true
  over_parens h = or_right (ltb 64 (begun s)) _ (or_right (ltb m (begun s)) _ (or_right (ltb 64 (length s.sides)) _
      (or_right (ltb 256 (length s.rows)) _ (or_right (ltb p (length s.places + length s.rows)) _ (lt-ltb 32 (parens s.opened) h)))))
