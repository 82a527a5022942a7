-- Gathering the marked actions of a list of moves into a set. Assumes nothing.
use Rattle.std.proofs.Common.{◌≡◌, ℕ, suc, ◌+◌, ◌<◌, ◌≤◌, Bool, true, false, ◌&&◌, ◌||◌, List, [], ◌∷◌, map, length, drop, get_or, ℤ, sym, refl, ap, ◌∙◌, arith}
use Rattle.std.proofs.Math.ListN.{drop_of_length-le}
use Rattle.std.proofs.Math.Seq.{drop-cons}
use Rattle.action.specs.Action.{is_action, same}
use Rattle.action.specs.declared.set.ActionSet.{ActionSet}
use Rattle.action.specs.Sets.{has, set_of, no_actions}
use Rattle.action.proofs.Basics.{T_true}
use Rattle.action.proofs.Sets.{same_eq, set_of_has, set_ext, none_has}
use Rattle.table_format.specs.Records.{MoveRecord, marked}
use Rattle.table_format.specs.Reading.{entry_record}

-- s holds the marked actions of some moves of which `left` are left
abbrev pub Gathering : ActionSet → List MoveRecord → List MoveRecord → Type 0
Gathering s left all = (a : ℤ) → (has s a || (is_action a && marked left a)) ≡ (is_action a && marked all a)

-- the moves that are left of a list of their bytes
pub next_left : (es : List (List ℕ)) (i : ℕ) → i < length es → map entry_record (drop i es) ≡ entry_record (get_or es i []) ∷ map entry_record (drop (i + 1) es)
next_left es i l = let p : suc i ≡ i + 1 = omega arith in ap (map entry_record) (drop-cons es i [] l ∙ ap (λ k. get_or es i [] ∷ drop k es) p)

pub none_left : (es : List (List ℕ)) (i : ℕ) → length es ≤ i → map entry_record (drop i es) ≡ []
none_left es i l = ap (map entry_record) (drop_of_length-le es l)

-- an action counts where it is one
action_same : (x a : ℤ) → (is_action x && same x a) ≡ (is_action a && same x a)
action_same x a = go (same x a) refl
  where
    go : (t : Bool) → same x a ≡ t → (is_action x && t) ≡ (is_action a && t)
    go true e = ap (λ z. is_action z && true) (same_eq x a (T_true (same x a) e))
    go false e = off (is_action x) ∙ sym (off (is_action a))
      where
        off : (u : Bool) → (u && false) ≡ false
        off true = refl
        off false = refl

joined : (h u s r : Bool) → ((h || (u && s)) || (u && r)) ≡ (h || (u && (s || r)))
joined true u s r = refl
joined false true true r = refl
joined false true false r = refl
joined false false s r = refl

or_none : (h u : Bool) → (h || (u && false)) ≡ h
or_none true u = refl
or_none false true = refl
or_none false false = refl

module _ (all left rest : List MoveRecord) (m : MoveRecord) (s : ActionSet) (p : left ≡ m ∷ rest) (h : Gathering s left all) where
  head_on : (a : ℤ) → (has s a || (is_action a && ((m.urgent && same m.action a) || marked rest a))) ≡ (is_action a && marked all a)
  head_on a = ap (λ (ms : List MoveRecord). has s a || (is_action a && marked ms a)) (sym p) ∙ h a

  -- the next move is marked, and its action was put in
  pub gather_marked : (t : ActionSet) → m.urgent ≡ true → ((a : ℤ) → has t a ≡ (has s a || (is_action m.action && same m.action a))) → Gathering t rest all
  gather_marked t e f a =
      ap (λ z. z || (is_action a && marked rest a)) (f a ∙ ap (λ z. has s a || z) (action_same m.action a))
      ∙ joined (has s a) (is_action a) (same m.action a) (marked rest a)
      ∙ ap (λ z. has s a || (is_action a && ((z && same m.action a) || marked rest a))) (sym e)
      ∙ head_on a

  -- it is not marked
  pub gather_unmarked : m.urgent ≡ false → Gathering s rest all
  gather_unmarked e a = ap (λ z. has s a || (is_action a && ((z && same m.action a) || marked rest a))) (sym e) ∙ head_on a

pub gather_end : (s : ActionSet) (left all : List MoveRecord) → left ≡ [] → Gathering s left all → s ≡ set_of (marked all)
gather_end s left all e h =
    set_ext s (set_of (marked all)) (λ a. sym (or_none (has s a) (is_action a)) ∙ ap (λ (z : List MoveRecord). has s a || (is_action a && marked z a)) (sym e) ∙ h a ∙ sym (set_of_has (marked all) a))

pub holds_none : (s : ActionSet) → ((a : ℤ) → has s a ≡ false) → s ≡ no_actions
holds_none s h = set_ext s no_actions (λ a. h a ∙ sym (none_has a))
