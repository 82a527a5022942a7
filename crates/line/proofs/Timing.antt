-- The time question, slot by slot, of a line that is held. Assumes nothing.
use Rattle.std.proofs.Common.{◌≡◌, ℕ, ◌<◌, ◌≤◌, Bool, true, false, not, ◌&&◌, T, eqb, ltb, List, [], ◌∷◌, zero, suc, length, get_or, take, add-one, Ok, Err, Result, sym, refl, ap, ◌∙◌, subst, arith}
use Rattle.std.proofs.lemmas.Bool.{and_left, ne_eqb, eq-eqb, eqb-true}
use lib.ListN.{length-map}
use Rattle.std.specs.List.{list_all, zip}
use Rattle.std.proofs.Math.Seq.{take-length}
use Rattle.std.proofs.Math.Bool.{and_comm}
use Rattle.std.proofs.lemmas.List.{get_or-map}
use Rattle.std.proofs.lemmas.List.Folds.{list_all_more}
use Rattle.std.proofs.lemmas.Grind.{get_or_default_zero}
use Rattle.std.proofs.lemmas.Slice.Zip.{length-zip, get_or-zip}
use Rattle.action.specs.Lists.{every}
use Rattle.action.specs.Action.{internal}
use Rattle.action.specs.declared.set.ActionSet.{ActionSet}
use Rattle.action.specs.Sets.{has}
use Rattle.action.proofs.Basics.{true_T, and_l}
use Rattle.renaming.specs.Renaming.{image}
use Rattle.catalogue.specs.Catalogue.{Catalogue, state_in}
use Rattle.line_rules.specs.declared.TimeFault.{TimeFault}
use Rattle.line_rules.specs.declared.TimeFault.TheVariants.{UnknownModule, NoState}
use Rattle.line_rules.specs.declared.TimeAnswer.{TimeAnswer}
use Rattle.line_rules.specs.Line as rules
use Rattle.line_rules.specs.Time.{held, urgents, slot_ticks, ticks, knows, has_code, stands, time_answer, Tells}
use Rattle.line_rules.proofs.TimeTold.{tells}
use Rattle.line.specs.declared.lines.Slot.{Slot}
use Rattle.line.specs.declared.lines.Line.{Line}
use Rattle.line.specs.Meaning.{slot_of, in_use, line_of}
use Rattle.line.proofs.Held.{count_is, wired}

-- ticks, by whether the internal event is urgent
pub ticks_calm : (e h : Bool) → h ≡ false → e ≡ (e && not h)
ticks_calm true h q = sym (ap not q)
ticks_calm false h q = refl

pub ticks_not : (e h : Bool) → h ≡ true → not h ≡ (e && not h)
ticks_not true h q = refl
ticks_not false h q = ap not q

-- ── a chain over the slots is a test of each ──

module _ {A : Type 0} (p : A → Bool) (f : ℕ → Bool) where
  upto : (xs : List A) (d : A) → ((i : ℕ) → i < length xs → f i ≡ p (get_or xs i d)) → (n : ℕ) → n ≤ length xs → list_all p (take n xs) ≡ every n f
  upto xs d same zero l = refl
  upto xs d same (suc n) l =
      ap (λ k. list_all p (take k xs)) (sym (add-one n))
      ∙ list_all_more p xs n d (omega arith)
      ∙ ap (λ b. b && p (get_or xs n d)) (upto xs d same n (omega arith))
      ∙ and_comm (every n f) (p (get_or xs n d))
      ∙ ap (λ b. b && every n f) (sym (same n (omega arith)))

  pub all_every : (xs : List A) → ((i : ℕ) (d : A) → i < length xs → f i ≡ p (get_or xs i d)) → list_all p xs ≡ every (length xs) f
  all_every [] same = refl
  all_every (x ∷ xs) same = ap (list_all p) (sym (take-length (x ∷ xs))) ∙ upto (x ∷ xs) x (λ i l. same i x l) (length (x ∷ xs)) (omega arith)

module _ (l : Line) where
  slot_at : (i : ℕ) (x : Slot) → i < length (in_use l) → rules.slot (line_of l) i ≡ slot_of (get_or (in_use l) i x)
  slot_at i x k = get_or-map slot_of (in_use l) i x rules.no_slot k

  pub knows_all : (ms : Catalogue) → list_all (λ (x : Slot). ltb x.holds (length ms)) (in_use l) ≡ every (length (line_of l).slots) (knows ms (line_of l))
  knows_all ms =
      all_every (λ (x : Slot). ltb x.holds (length ms)) (knows ms (line_of l)) (in_use l) (λ i x k. ap (λ (y : rules.Slot). ltb y.holds (length ms)) (slot_at i x k))
      ∙ ap (λ n. every n (knows ms (line_of l))) (sym (length-map (in_use l) slot_of))

  pub held_is : (ms : Catalogue) (i : ℕ) (x : Slot) → i < length (in_use l) → (s : List ℕ) → held ms (line_of l) s i ≡ image (get_or (in_use l) i x).renaming.entries (state_in ms (get_or (in_use l) i x).holds (get_or s i 0)).urgent
  held_is ms i x h s = ap (λ (y : rules.Slot). image y.wiring (state_in ms y.holds (get_or s i 0)).urgent) (slot_at i x h)

  -- of a slot and a code that are read one beside the other
  pub held_at : (ms : Catalogue) (s : List ℕ) (i : ℕ) → i < length (in_use l) → i < length s → (x : Slot) → ((d : Slot) → x ≡ get_or (in_use l) i d) → (k : ℕ) → ((d : ℕ) → k ≡ get_or s i d) → held ms (line_of l) s i ≡ image x.renaming.entries (state_in ms x.holds k).urgent
  held_at ms s i h c x is k now =
      ap (λ (y : rules.Slot). image y.wiring (state_in ms y.holds (get_or s i 0)).urgent) (slot_at i x h ∙ ap slot_of (sym (is x)))
      ∙ ap (λ n. image x.renaming.entries (state_in ms x.holds n).urgent) (sym (now 0))

  -- .. with a code for each
  module _ (q : rules.Slot → ℕ → Bool) (s : List ℕ) (wide : length s ≡ l.count) where
    abbrev pub asks : Slot × ℕ → Bool
    asks p = q (slot_of p.0) p.1

    abbrev pub asked_at : ℕ → Bool
    asked_at i = q (rules.slot (line_of l) i) (get_or s i 0)

    asked_is : (i : ℕ) (d : Slot × ℕ) → i < length (zip (in_use l) s) → asked_at i ≡ asks (get_or (zip (in_use l) s) i d)
    asked_is i d k =
        let n = length-zip (in_use l) s in
        let h : i < length (in_use l) = omega arith in
        let c : i < length s = omega arith in
        ap (λ (y : rules.Slot). q y (get_or s i 0)) (slot_at i d.0 h)
        ∙ ap (λ (k : ℕ). q (slot_of (get_or (in_use l) i d.0)) k) (sym (get_or_default_zero s i d.1 c))
        ∙ ap asks (sym (get_or-zip (in_use l) s i d h c))

    pub asks_all : list_all asks (zip (in_use l) s) ≡ every (length (line_of l).slots) asked_at
    asks_all = all_every asks asked_at (zip (in_use l) s) asked_is ∙ ap (λ n. every n asked_at) (omega (arith, length-zip (in_use l) s, count_is l, length-map (in_use l) slot_of))

  module _ (ms : Catalogue) (s : List ℕ) where
    -- the list of codes
    pub stands_not : (length s ≡ l.count → ⊥) → false ≡ stands ms (line_of l) s
    unfolding stands
    stands_not n = sym (and_left (eqb (length s) (length (line_of l).slots)) (every (length (line_of l).slots) (has_code ms (line_of l) s)) (ne_eqb (length s) (length (line_of l).slots) (λ e. n (e ∙ count_is l))))

    pub stands_by : length s ≡ l.count → (b : Bool) → b ≡ every (length (line_of l).slots) (has_code ms (line_of l) s) → b ≡ stands ms (line_of l) s
    unfolding stands
    stands_by e b h = h ∙ sym (ap (λ c. c && every (length (line_of l).slots) (has_code ms (line_of l) s)) (eq-eqb (length s) (length (line_of l).slots) (e ∙ sym (count_is l))))

    pub stands_wide : true ≡ stands ms (line_of l) s → length s ≡ l.count
    unfolding stands
    stands_wide e = eqb-true (length s) (length (line_of l).slots) (true_T (eqb (length s) (length (line_of l).slots)) (and_l (eqb (length s) (length (line_of l).slots)) (every (length (line_of l).slots) (has_code ms (line_of l) s)) (subst T e tt))) ∙ count_is l

    -- the answer
    abbrev answered : Bool → Result TimeAnswer TimeFault
    answered b = elim b [ true ↦ Ok (record { ticks = ticks ms (line_of l) s; urgent = urgents ms (line_of l) s }) | false ↦ Err NoState ]

    abbrev asked : Bool → Result TimeAnswer TimeFault
    asked b = elim b [ true ↦ answered (stands ms (line_of l) s) | false ↦ Err UnknownModule ]

    pub not_known : false ≡ every (length (line_of l).slots) (knows ms (line_of l)) → Err UnknownModule ≡ time_answer ms (line_of l) s
    unfolding time_answer
    not_known e = ap asked e

    module _ (known : true ≡ every (length (line_of l).slots) (knows ms (line_of l))) where
      pub not_a_state : false ≡ stands ms (line_of l) s → Err NoState ≡ time_answer ms (line_of l) s
      unfolding time_answer
      not_a_state e = ap answered e ∙ ap asked known

      module _ (state : true ≡ stands ms (line_of l) s) (v : TimeAnswer) (urgent : v.urgent ≡ urgents ms (line_of l) s) (ticking : v.ticks ≡ (every (length (line_of l).slots) (slot_ticks ms (line_of l) s) && not (has v.urgent internal))) where
        is : v ≡ record { ticks = ticks ms (line_of l) s; urgent = urgents ms (line_of l) s }
        unfolding ticks
        is =
            ap (λ (t : Bool). made t v.urgent) ticking
            ∙ ap (λ (u : ActionSet). made (every (length (line_of l).slots) (slot_ticks ms (line_of l) s) && not (has u internal)) u) urgent
          where
            made : Bool → ActionSet → TimeAnswer
            made t u = record { ticks = t; urgent = u }

        pub told : Ok v ≡ time_answer ms (line_of l) s
        unfolding time_answer
        told = ap {B = Result TimeAnswer TimeFault} (λ (x : TimeAnswer). Ok x) is ∙ ap answered state ∙ ap asked known

        pub truly : Tells ms (line_of l) s v
        truly = subst (Tells ms (line_of l) s) (sym is) (tells ms (line_of l) (wired l) (λ h. subst T l.unhidden h) s (subst T state tt))
