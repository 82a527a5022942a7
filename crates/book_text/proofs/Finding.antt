-- The first label with a name.
use Rattle.std.proofs.Common.{◌≡◌, ℕ, Bool, true, false, ◌||◌, List, [], ◌∷◌, map, cond, Some, None, is_some, refl}
use Rattle.std.specs.List.{find}
use Rattle.action.specs.Lists.{any}
use Rattle.book_words.specs.Words.{same}
use Rattle.book_grammar.specs.Rows.{place_of}
use Rattle.book_text.specs.declared.parser.Label.{Label}
use Rattle.book_text.specs.Parsers.{label_in, side_in}
use Rattle.book_text.specs.Names.{is_named}

abbrev pub no_label : Label
no_label = record { name = record { at = 0; size = 0 }; place = 0 }

module _ (text x : List ℕ) where
  -- there is one where some name is the same
  pub any_found : (ls : List Label) → any (same x) (map (label_in text) ls) ≡ is_some (find (is_named text x) ls)
  any_found [] = refl
  any_found (l ∷ ls) = go (same x (label_in text l)) (any_found ls)
    where
      go : (b : Bool) → any (same x) (map (label_in text) ls) ≡ is_some (find (is_named text x) ls) → (b || any (same x) (map (label_in text) ls)) ≡ is_some (cond b (Some l) (find (is_named text x) ls))
      go true h = refl
      go false h = h

  -- the place of a name is that of the first label with it
  pub place_found : (ls : List Label) → place_of (map (side_in text) ls) x ≡ elim (find (is_named text x) ls) [ None ↦ 0 | Some l ↦ l.place ]
  place_found [] = refl
  place_found (l ∷ ls) = go (same x (label_in text l)) (place_found ls)
    where
      go : (b : Bool) → place_of (map (side_in text) ls) x ≡ elim (find (is_named text x) ls) [ None ↦ 0 | Some y ↦ y.place ]
          → cond b l.place (place_of (map (side_in text) ls) x) ≡ elim (cond b (Some l) (find (is_named text x) ls)) [ None ↦ 0 | Some y ↦ y.place ]
      go true h = refl
      go false h = h
