-- Joined and renamed catalogues: they keep the laws of what they stand on, and where each of their modules and states
-- is found below. Assumes nothing.
use Rattle.std.proofs.Common.{◌≡◌, ℕ, zero, suc, ◌+◌, ◌-◌, ◌<◌, ◌≤◌, min, true, not, ◌⊎◌, List, [], ◌∷◌, ◌++◌, map, length, get_or, take, ℤ, nat_abs, is_some, Some, None, Option, sym, refl, ap, ◌∙◌, subst, inl, inr, arith, length-append, length-take}
use lib.ListN.{length-map, get_or-map}
use Rattle.std.proofs.lemmas.Bool.{cases_lt}
use Rattle.std.specs.Option.{option_map}
use Rattle.action.specs.Lists.{◌∈◌, nth}
use Rattle.action.specs.Action.{internal, last_port}
use Rattle.action.specs.Sets.{has, ◌∋◌}
use Rattle.renaming.specs.Renaming.{renamed, full}
use Rattle.renaming.proofs.Laws.{renamed_near, image_has, image_internal, image_none}
use Rattle.catalogue.specs.declared.Move.{Move}
use Rattle.catalogue.specs.Catalogue.{Catalogue, Module, State, Sound, Lawful, move, codes, start_of, nowhere, absent, state, module_in, state_in, most_modules, most_moves}
use Rattle.catalogue.specs.Layers.{joined, renamed_move, renamed_state, renamed_module, renamed_catalogue}

-- ── a module, and where it is found ──

-- what a numbered module holds follows from which one it is
found : Option Module → Module
found (Some m) = m
found None = absent

in_found : (ms : Catalogue) (k : ℕ) → module_in ms k ≡ found (nth ms k)
unfolding found
in_found [] k = refl
in_found (m ∷ ms) zero = refl
in_found (m ∷ ms) (suc k) = in_found ms k

-- what is asked of a state of one catalogue, answered by another that has the same module, or has none
module _ {X : Type 0} (of : State → X) where
  pub asked_there : (ms ns : Catalogue) (k j c : ℕ) (r : X) → nth ms k ≡ nth ns j → r ≡ of (state_in ns j c) → r ≡ of (state_in ms k c)
  asked_there ms ns k j c r e q = q ∙ ap (λ (m : Module). of (state m c)) (in_found ns j ∙ ap found (sym e) ∙ sym (in_found ms k))

  pub asked_nowhere : (ms : Catalogue) (k c : ℕ) (r : X) → nth ms k ≡ None → r ≡ of nowhere → r ≡ of (state_in ms k c)
  unfolding found
  asked_nowhere ms k c r e q = q ∙ ap (λ (m : Module). of (state m c)) (ap found (sym e) ∙ sym (in_found ms k))

-- ── one behind another ──

module _ {A : Type 0} where
  nth_past : (xs : List A) (k : ℕ) → length xs ≤ k → nth xs k ≡ None
  nth_past [] k l = refl
  nth_past (x ∷ xs) zero l = absurd (omega arith)
  nth_past (x ∷ xs) (suc k) l = nth_past xs k (omega arith)

  nth_take : (n : ℕ) (xs : List A) (k : ℕ) → k < n → nth (take n xs) k ≡ nth xs k
  nth_take zero xs k l = absurd (omega arith)
  nth_take (suc n) [] k l = refl
  nth_take (suc n) (x ∷ xs) zero l = refl
  nth_take (suc n) (x ∷ xs) (suc k) l = nth_take n xs k (omega arith)

  nth_left : (xs ys : List A) (k : ℕ) → k < length xs → nth (xs ++ ys) k ≡ nth xs k
  nth_left [] ys k l = absurd (omega arith)
  nth_left (x ∷ xs) ys zero l = refl
  nth_left (x ∷ xs) ys (suc k) l = nth_left xs ys k (omega arith)

  nth_right : (xs ys : List A) (k j : ℕ) → k ≡ length xs + j → nth (xs ++ ys) k ≡ nth ys j
  nth_right [] ys k j e = let q : k ≡ j = omega arith in ap (nth ys) q
  nth_right (x ∷ xs) ys zero j e = absurd (omega arith)
  nth_right (x ∷ xs) ys (suc k) j e = nth_right xs ys k j (omega arith)

module _ (a b : Catalogue) where
  pub joined_length : length (joined a b) ≡ min most_modules (length a + length b)
  unfolding joined
  joined_length = length-take most_modules (a ++ b) ∙ ap (min most_modules) (length-append a b)

  -- a module of the join stands in front, or behind, or nowhere
  pub joined_front : (k : ℕ) → k < most_modules → k < length a → nth (joined a b) k ≡ nth a k
  unfolding joined
  joined_front k h l = nth_take most_modules (a ++ b) k h ∙ nth_left a b k l

  pub joined_back : (k : ℕ) → k < most_modules → length a ≤ k → nth (joined a b) k ≡ nth b (k - length a)
  unfolding joined
  joined_back k h l = nth_take most_modules (a ++ b) k h ∙ nth_right a b k (k - length a) (omega arith)

  pub joined_past : (k : ℕ) → most_modules ≤ k → nth (joined a b) k ≡ None
  joined_past k h = nth_past (joined a b) k (omega (arith, joined_length))

  pub joined_lawful : Lawful a → Lawful b → Lawful (joined a b)
  joined_lawful la lb = record { few = omega (arith, joined_length); sound = λ k h. at k (omega (arith, joined_length)) (omega (arith, joined_length)) (cases_lt k (length a)) }
    where
      same : (ms : Catalogue) (k j : ℕ) → nth (joined a b) k ≡ nth ms j → module_in (joined a b) k ≡ module_in ms j
      same ms k j e = in_found (joined a b) k ∙ ap found e ∙ sym (in_found ms j)

      at : (k : ℕ) → k < most_modules → k < length a + length b → (k < length a) ⊎ (length a ≤ k) → Sound (module_in (joined a b) k)
      at k h u (inl l) = subst Sound (sym (same a k k (joined_front k h l))) (la.sound k l)
      at k h u (inr l) = subst Sound (sym (same b k (k - length a) (joined_back k h l))) (lb.sound (k - length a) (omega arith))

-- ── renamed ──

module _ {A B : Type 0} (f : A → B) where
  map_in : (xs : List A) (x : A) → x ∈ xs → f x ∈ map f xs
  map_in [] x i = absurd i
  map_in (y ∷ ys) x (inl e) = inl (ap f e)
  map_in (y ∷ ys) x (inr i) = inr (map_in ys x i)

  in_map : (xs : List A) (z : B) → z ∈ map f xs → (x : A) × (x ∈ xs) × (z ≡ f x)
  in_map [] z i = absurd i
  in_map (y ∷ ys) z (inl e) = (y, inl refl, e)
  in_map (y ∷ ys) z (inr i) = let s = in_map ys z i in (s.0, inr s.1, s.2)

  nth_map : (xs : List A) (k : ℕ) → nth (map f xs) k ≡ option_map f (nth xs k)
  nth_map [] k = refl
  nth_map (x ∷ xs) zero = refl
  nth_map (x ∷ xs) (suc k) = nth_map xs k

module _ (f : List ℤ) where
  nowhere_renamed : renamed_state f nowhere ≡ nowhere
  nowhere_renamed = ap (λ u. record { moves = []; urgent = u; tick = None }) (image_none f)

  state_renamed : (m : Module) (c : ℕ) → state (renamed_module f m) c ≡ renamed_state f (state m c)
  state_renamed m c = ap (λ (d : State). get_or (map (renamed_state f) m.states) c d) (sym nowhere_renamed) ∙ get_or-map (renamed_state f) m.states c nowhere

  module_renamed : (ms : Catalogue) (k : ℕ) → module_in (renamed_catalogue f ms) k ≡ renamed_module f (module_in ms k)
  unfolding renamed_catalogue
  module_renamed ms k = get_or-map (renamed_module f) ms k absent

  -- each question of a renamed catalogue, asked below
  pub renamed_length : (ms : Catalogue) → length (renamed_catalogue f ms) ≡ length ms
  unfolding renamed_catalogue
  renamed_length ms = length-map ms (renamed_module f)

  pub renamed_codes : (ms : Catalogue) (k : ℕ) → option_map codes (nth (renamed_catalogue f ms) k) ≡ option_map codes (nth ms k)
  unfolding renamed_catalogue
  renamed_codes ms k = ap (option_map codes) (nth_map (renamed_module f) ms k) ∙ go (nth ms k)
    where
      go : (o : Option Module) → option_map codes (option_map (renamed_module f) o) ≡ option_map codes o
      go None = refl
      go (Some m) = ap Some (length-map m.states (renamed_state f))

  pub renamed_start : (ms : Catalogue) (k : ℕ) → option_map start_of (nth (renamed_catalogue f ms) k) ≡ option_map start_of (nth ms k)
  unfolding renamed_catalogue
  renamed_start ms k = ap (option_map start_of) (nth_map (renamed_module f) ms k) ∙ go (nth ms k)
    where
      go : (o : Option Module) → option_map start_of (option_map (renamed_module f) o) ≡ option_map start_of o
      go None = refl
      go (Some m) = refl

  pub renamed_in : (ms : Catalogue) (k c : ℕ) → state_in (renamed_catalogue f ms) k c ≡ renamed_state f (state_in ms k c)
  renamed_in ms k c = ap (λ (m : Module). state m c) (module_renamed ms k) ∙ state_renamed (module_in ms k) c

  pub renamed_at : (ms : Catalogue) (k c n : ℕ) (o : Option Move) → o ≡ nth (state_in ms k c).moves n → option_map (renamed_move f) o ≡ nth (state_in (renamed_catalogue f ms) k c).moves n
  renamed_at ms k c n o e = ap (option_map (renamed_move f)) e ∙ sym (nth_map (renamed_move f) (state_in ms k c).moves n) ∙ ap (λ (s : State). nth s.moves n) (sym (renamed_in ms k c))

  pub renamed_found : (ms : Catalogue) (k c n : ℕ) (m : Move) (a : ℤ) → a ≡ renamed f m.action → Some m ≡ nth (state_in ms k c).moves n → Some (move a m.target) ≡ nth (state_in (renamed_catalogue f ms) k c).moves n
  renamed_found ms k c n m a p e = ap (λ (x : ℤ). Some (move x m.target)) p ∙ renamed_at ms k c n (Some m) e

  -- the laws
  module _ (fully : full f ≡ true) where
    module _ (m : Module) (s : Sound m) where
      size : codes (renamed_module f m) ≡ codes m
      size = length-map m.states (renamed_state f)

      came : (c : ℕ) (z : Move) → z ∈ (state (renamed_module f m) c).moves → (x : Move) × (x ∈ (state m c).moves) × (z ≡ renamed_move f x)
      came c z i = in_map (renamed_move f) (state m c).moves z (subst (λ (t : State). z ∈ t.moves) (state_renamed m c) i)

      renamed_sound : Sound (renamed_module f m)
      renamed_sound = record {
        some_code = omega (arith, size, s.some_code);
        few_codes = omega (arith, size, s.few_codes);
        few_moves = λ c. subst (λ (t : State). length t.moves ≤ most_moves) (sym (state_renamed m c)) (omega (arith, length-map (state m c).moves (renamed_move f), s.few_moves c));
        ported = λ c z i. (let x = came c z i in subst (λ (y : Move). nat_abs y.action ≤ last_port) (sym x.2) (renamed_near f fully x.0.action));
        starts = omega (arith, size, s.starts);
        leads = λ c z i. (let x = came c z i in subst (λ (y : Move). y.target < codes (renamed_module f m)) (sym x.2) (omega (arith, size, s.leads c x.0 x.1)));
        passes = λ c d e. omega (arith, size, s.passes c d (subst (λ (t : State). t.tick ≡ Some d) (state_renamed m c) e));
        ticks = λ c l. subst (λ (t : State). is_some t.tick ≡ not (has t.urgent internal)) (sym (state_renamed m c)) (s.ticks c (omega (arith, size)) ∙ ap not (sym (image_internal f fully (state m c).urgent)));
        offers = λ c a u. (let b = image_has f (state m c).urgent a (subst (λ (t : State). t.urgent ∋ a) (state_renamed m c) u) in let o = s.offers c b.0 b.1 in
            (o.0, subst (λ (t : State). move a o.0 ∈ t.moves) (sym (state_renamed m c)) (subst (λ x. move x o.0 ∈ map (renamed_move f) (state m c).moves) b.2 (map_in (renamed_move f) (state m c).moves (move b.0 o.0) o.1))));
      }

    pub renamed_lawful : (ms : Catalogue) → Lawful ms → Lawful (renamed_catalogue f ms)
    renamed_lawful ms l = record {
      few = omega (arith, renamed_length ms, l.few);
      sound = λ k h. subst Sound (sym (module_renamed ms k)) (renamed_sound (module_in ms k) (l.sound k (omega (arith, renamed_length ms))));
    }
