-- Summaries, followed through one place more in each round. Assumes nothing.
use Rattle.std.proofs.Common.{◌≡◌, ℕ, suc, ◌+◌, ◌<◌, ◌≤◌, min, max, Bool, true, false, ◌&&◌, ltb, List, ◌++◌, length, get_or, replicate, sym, refl, ap, ◌∙◌, arith, length-append}
use Rattle.std.proofs.lemmas.Bool.{ltb-true}
use Rattle.std.proofs.lemmas.List.{get_or-replicate}
use Rattle.catalogue.specs.Catalogue.{most_moves}
use Rattle.rows.specs.declared.row.Place.{Place}
use Rattle.rows.specs.declared.row.Place.TheVariants.{Nil, Act, Wait, Sum, Name}
use Rattle.rows.specs.Places.{ages, row, ends, depth, moves, ends_by, depth_by, moves_by}
use Rattle.rows.specs.Opening.{book_places, inside}
use Rattle.rows.proofs.Fuel.{both_l, both_r}
use Rattle.trial.specs.declared.summary.Summary.{Summary}
use Rattle.trial.specs.Summaries.{unknown, summary_by, summary, Summarizes}
use Rattle.trial.specs.Trying.{AllInside}

summary_eq : (g : Bool) (d d' m m' : ℕ) → d ≡ d' → m ≡ m' → ◌≡◌ {A = Summary} (record { guarded = g; depth = d; moves = m }) (record { guarded = g; depth = d'; moves = m' })
summary_eq g d d' m m' p q = ap (λ x. record { guarded = g; depth = x; moves = m }) p ∙ ap (λ x. record { guarded = g; depth = d'; moves = x }) q

-- one place more, by the kind of the place
summary_next : (ps : List Place) (f i : ℕ) → summary ps (suc f) i ≡ summary_by (row ps i) (λ j. summary ps f j)
unfolding ends depth moves
summary_next ps f i = go (row ps i)
  where
    go : (p : Place) → ◌≡◌ {A = Summary} (record { guarded = ends_by p (λ j. ends ps f j); depth = min ages (depth_by p (λ j. depth ps f j)); moves = min (suc most_moves) (length (moves_by p (λ j. moves ps f j))) }) (summary_by p (λ j. summary ps f j))
    go Nil = refl
    go (Act a j) = refl
    go (Wait j) = ap (λ d. record { guarded = ends ps f j; depth = d; moves = min (suc most_moves) (length (moves ps f j)) }) (omega arith)
    go (Sum l r) =
        let d : min ages (max (depth ps f l) (depth ps f r)) ≡ max (min ages (depth ps f l)) (min ages (depth ps f r)) = omega arith in
        let m : min (suc most_moves) (length (moves ps f l ++ moves ps f r)) ≡ min (suc most_moves) (min (suc most_moves) (length (moves ps f l)) + min (suc most_moves) (length (moves ps f r))) = omega (arith, length-append (moves ps f l) (moves ps f r)) in
        summary_eq (ends ps f l && ends ps f r) _ _ _ _ d m
    go (Name j) = refl

-- only places of the module are asked
summary_same : (p : Place) (n : ℕ) (g h : ℕ → Summary) → inside n p ≡ true → ((j : ℕ) → j < n → g j ≡ h j) → summary_by p g ≡ summary_by p h
summary_same Nil n g h i e = refl
summary_same (Act a j) n g h i e = refl
summary_same (Wait j) n g h i e = rw (e j (ltb-true j n i))
summary_same (Sum l r) n g h i e = rw (e l (ltb-true l n (both_l (ltb l n) (ltb r n) i)), e r (ltb-true r n (both_r (ltb l n) (ltb r n) i)))
summary_same (Name j) n g h i e = e j (ltb-true j n i)

-- followed through no place, each summary is the one that is told beyond a list
pub first_round : (ps : List Place) (ss : List Summary) → ((i : ℕ) → get_or ss i unknown ≡ unknown) → Summarizes ps 0 ss
unfolding ends depth moves
first_round ps ss h i l = h i

-- a module's places, each with the default summary
pub default_round : (ps : List Place) (s : Summary) → length ps ≤ book_places → (s.guarded ≡ false) × ((s.depth ≡ 0) × (s.moves ≡ 0)) → Summarizes ps 0 (replicate book_places s)
unfolding ends depth moves
default_round ps s few h i l = get_or-replicate book_places i s unknown (omega arith) ∙ ap (λ g. record { guarded = g; depth = s.depth; moves = s.moves }) h.0 ∙ summary_eq false _ _ _ _ h.1.0 h.1.1

pub next_round : (ps : List Place) (f : ℕ) (old new : List Summary) → AllInside ps → Summarizes ps f old → ((i : ℕ) → i < length ps → get_or new i unknown ≡ summary_by (row ps i) (λ j. get_or old j unknown)) → Summarizes ps (f + 1) new
next_round ps f old new a k h i l =
    let s : suc f ≡ f + 1 = omega arith in
    h i l ∙ summary_same (row ps i) (length ps) (λ j. get_or old j unknown) (λ j. summary ps f j) (a i l) k ∙ sym (summary_next ps f i) ∙ ap (λ x. summary ps x i) s
