-- Just the sound plans have no fault, and their lines are drawn. Assumes nothing.
use Rattle.std.proofs.Common.{◌≡◌, ℕ, zero, suc, ◌+◌, ◌<◌, ◌≤◌, Bool, true, false, not, ◌&&◌, ◌||◌, T, eqb, ltb, leb, ◌≢◌, ◌⊎◌, List, [], ◌∷◌, length, get_or, drop, ℤ, pos, nat_abs, Some, None, Option, sym, refl, ap, ◌∙◌, subst, inl, inr, arith, le→leb, leb→le}
use lib.Dec.{not_T}
use Rattle.std.proofs.lemmas.List.{at_drop_more}
use Rattle.std.proofs.lemmas.Bool.{ltb-true, lt-ltb, le-ltb, le-leb, lt-leb, and_from, and_left, and_right, cases_Bool}
use Rattle.action.specs.Lists.{all, any}
use Rattle.action.specs.Action.{internal, last_port, is_action, same}
use Rattle.action.specs.declared.set.ActionSet.{ActionSet}
use Rattle.action.specs.Sets.{has}
use Rattle.action.proofs.Basics.{and_l, and_r, and_i, T_true, true_T, all_each, each_all, any_some, eq-eqb}
use Rattle.action.proofs.Sets.{same_eq, has_near, set_passes, passes_set, set_ext}
use Rattle.action.proofs.Relations.{both_true}
use Rattle.renaming.specs.declared.fault.RenamingFault.{RenamingFault}
use Rattle.renaming.specs.Renaming.{is_signal, full}
use Rattle.renaming.specs.Faults.{fault, Wires}
use Rattle.renaming.proofs.Taking.{law_of}
use Rattle.catalogue.specs.Catalogue.{Catalogue}
use Rattle.line_rules.specs.declared.DrawFault.{DrawFault}
use Rattle.line_rules.specs.declared.DrawFault.TheVariants.{SlotCount, HiddenPort, Renaming, UnknownModule}
use Rattle.line_rules.specs.Line.{Slot, no_slot, most_slots, Drawn}
use Rattle.line_rules.specs.Drawing.{is_port, ports, wiring_or, unknown, slot_fault, sooner, slots_fault, draw_fault, planned, SoundPlan, Draws}

none_some : {A : Type 0} {P : Type 0} (x : A) → ◌≡◌ {A = Option A} (Some x) None → P
none_some x e = let z : ◌≡◌ {A = ℕ} 0 1 = cc in absurd (omega arith)

-- one slot
wiring_none : (o : Option RenamingFault) (d : Option DrawFault) → wiring_or o d ≡ None → (o ≡ None) × (d ≡ None)
wiring_none None d e = (refl, e)
wiring_none (Some x) d e = none_some (Renaming x) e

known_none : (ms : Catalogue) (m : ℕ) → unknown ms m ≡ None → m < length ms
known_none ms m e = go (ltb m (length ms)) refl e
  where
    go : (b : Bool) → ltb m (length ms) ≡ b → ◌≡◌ {A = Option DrawFault} (elim b [ true ↦ None | false ↦ Some UnknownModule ]) None → m < length ms
    go true q z = ltb-true m (length ms) q
    go false q z = none_some UnknownModule z

pub none_known : (ms : Catalogue) (m : ℕ) → m < length ms → unknown ms m ≡ None
none_known ms m h = ap {B = Option DrawFault} (λ (b : Bool). elim b [ true ↦ None | false ↦ Some UnknownModule ]) (lt-ltb m (length ms) h)

module _ (ms : Catalogue) (x : Slot) where
  pub slot_sound : slot_fault ms x ≡ None → Wires x.wiring × (x.holds < length ms)
  unfolding slot_fault
  slot_sound e =
      let p = wiring_none (fault x.wiring) (unknown ms x.holds) e in
      ((law_of x.wiring).taken.0 p.0, known_none ms x.holds p.1)

  sound_slot : Wires x.wiring → x.holds < length ms → slot_fault ms x ≡ None
  unfolding slot_fault
  sound_slot w k = ap (λ o. wiring_or o (unknown ms x.holds)) ((law_of x.wiring).taken.1 w) ∙ none_known ms x.holds k

-- all slots
sooner_none : (o d : Option DrawFault) → sooner o d ≡ None → (o ≡ None) × (d ≡ None)
sooner_none None d e = (refl, e)
sooner_none (Some x) d e = none_some x e

slots_none : (ms : Catalogue) (xs : List Slot) → slots_fault ms xs ≡ None → (i : ℕ) → i < length xs → slot_fault ms (get_or xs i no_slot) ≡ None
slots_none ms [] e i h = absurd (omega arith)
slots_none ms (x ∷ xs) e zero h = (sooner_none (slot_fault ms x) (slots_fault ms xs) e).0
slots_none ms (x ∷ xs) e (suc i) h = slots_none ms xs (sooner_none (slot_fault ms x) (slots_fault ms xs) e).1 i (omega arith)

none_slots : (ms : Catalogue) (xs : List Slot) → ((i : ℕ) → i < length xs → slot_fault ms (get_or xs i no_slot) ≡ None) → slots_fault ms xs ≡ None
none_slots ms [] h = refl
none_slots ms (x ∷ xs) h = ap (λ o. sooner o (slots_fault ms xs)) (h 0 (omega arith)) ∙ none_slots ms xs (λ i k. h (suc i) (omega arith))

-- ports
port_is : (p : ℕ) → T (is_port p) → (1 ≤ p) × (p ≤ last_port)
port_is p h = (leb→le 1 p (and_l (leb 1 p) (leb p last_port) h), leb→le p last_port (and_r (leb 1 p) (leb p last_port) h))

is_a_port : (p : ℕ) → (1 ≤ p) × (p ≤ last_port) → T (is_port p)
is_a_port p h = and_i (leb 1 p) (leb p last_port) (le→leb 1 p h.0) (le→leb p last_port h.1)

-- the whole plan
module _ (ms : Catalogue) (xs : List Slot) (hidden : List ℕ) where
  abbrev counted : Bool
  counted = leb 1 (length xs) && leb (length xs) most_slots

  abbrev of_ports : Bool → Option DrawFault
  of_ports b = elim b [ true ↦ slots_fault ms xs | false ↦ Some HiddenPort ]

  abbrev of_count : Bool → Option DrawFault
  of_count b = elim b [ true ↦ of_ports (all is_port hidden) | false ↦ Some SlotCount ]

  sound_plan : draw_fault ms xs hidden ≡ None → SoundPlan ms xs hidden
  unfolding draw_fault
  sound_plan e = by_count counted refl e
    where
      by_ports : T counted → (b : Bool) → all is_port hidden ≡ b → of_ports b ≡ None → SoundPlan ms xs hidden
      by_ports c true q z = record {
        some_slot = leb→le 1 (length xs) (and_l (leb 1 (length xs)) (leb (length xs) most_slots) c);
        few_slots = leb→le (length xs) most_slots (and_r (leb 1 (length xs)) (leb (length xs) most_slots) c);
        ported = λ p i. port_is p (all_each is_port hidden (T_true (all is_port hidden) q) p i);
        wires = λ i k. (slot_sound ms (get_or xs i no_slot) (slots_none ms xs z i k)).0;
        known = λ i k. (slot_sound ms (get_or xs i no_slot) (slots_none ms xs z i k)).1;
      }
      by_ports c false q z = none_some HiddenPort z

      by_count : (b : Bool) → counted ≡ b → of_count b ≡ None → SoundPlan ms xs hidden
      by_count true q z = by_ports (T_true counted q) (all is_port hidden) refl z
      by_count false q z = none_some SlotCount z

  no_fault : SoundPlan ms xs hidden → draw_fault ms xs hidden ≡ None
  unfolding draw_fault
  no_fault p =
      ap of_count (and_from (leb 1 (length xs)) (leb (length xs) most_slots) (le-leb 1 (length xs) p.some_slot) (le-leb (length xs) most_slots p.few_slots))
      ∙ ap of_ports (true_T (all is_port hidden) (each_all is_port hidden (λ q i. is_a_port q (p.ported q i))))
      ∙ none_slots ms xs (λ i k. sound_slot ms (get_or xs i no_slot) (p.wires i k) (p.known i k))

  pub draws : Draws ms xs hidden
  draws = (sound_plan, no_fault)

-- one signal for each port
at_all : {A : Type 0} (f : A → Bool) (d : A) (xs : List A) → ((n : ℕ) → n < length xs → T (f (get_or xs n d))) → T (all f xs)
at_all f d [] h = tt
at_all f d (x ∷ xs) h = and_i (f x) (all f xs) (h 0 (omega arith)) (at_all f d xs (λ n l. h (suc n) (omega arith)))

wires_full : (f : List ℤ) → Wires f → full f ≡ true
wires_full f w = true_T (full f) (and_i (eqb (length f) last_port) (all is_signal f) (eq-eqb (length f) last_port w.each) (at_all is_signal internal f (λ n l. signal (get_or f n internal) (w.signals n (omega (arith, w.each))))))
  where
    signal : (a : ℤ) → (a ≢ internal) × (nat_abs a ≤ last_port) → T (is_signal a)
    signal a h = and_i (not (same a internal)) (is_action a) (not_T (same a internal) (λ t. h.0 (same_eq a internal t))) (le→leb (nat_abs a) last_port h.1)

pub plan_drawn : (ms : Catalogue) (xs : List Slot) (hidden : List ℕ) → draw_fault ms xs hidden ≡ None → Drawn ms (planned xs hidden)
plan_drawn ms xs hidden e =
    let p = (draws ms xs hidden).0 e in
    record {
      some_slot = p.some_slot;
      few_slots = p.few_slots;
      known = p.known;
      wired = λ i k. wires_full (get_or xs i no_slot).wiring (p.wires i k);
      ports = λ a h. (let q = any_some (λ n. same (pos n) a) hidden (set_passes (λ b. any (λ n. same (pos n) b) hidden) a h) in (q.0, (p.ported q.0 q.1).0, (p.ported q.0 q.1).1, sym (same_eq (pos q.0) a q.2)));
    }

-- ── trying a plan, port by port and slot by slot ──

module _ (ms : Catalogue) (xs : List Slot) (hidden : List ℕ) where
  pub no_count : (length xs ≡ 0) ⊎ (most_slots < length xs) → draw_fault ms xs hidden ≡ Some SlotCount
  unfolding draw_fault
  no_count h = ap (of_count ms xs hidden) (elim h [ inl z ↦ and_left (leb 1 (length xs)) (leb (length xs) most_slots) (lt-leb 1 (length xs) (omega arith)) | inr l ↦ and_right (leb 1 (length xs)) (leb (length xs) most_slots) (lt-leb (length xs) most_slots l) ])

  module _ (some : 1 ≤ length xs) (few : length xs ≤ most_slots) where
    count_right : draw_fault ms xs hidden ≡ of_ports ms xs hidden (all is_port hidden)
    unfolding draw_fault
    count_right = ap (of_count ms xs hidden) (and_from (leb 1 (length xs)) (leb (length xs) most_slots) (le-leb 1 (length xs) some) (le-leb (length xs) most_slots few))

    pub no_port : all is_port hidden ≡ false → draw_fault ms xs hidden ≡ Some HiddenPort
    no_port e = count_right ∙ ap (of_ports ms xs hidden) e

    pub by_slots : all is_port hidden ≡ true → draw_fault ms xs hidden ≡ slots_fault ms xs
    by_slots e = count_right ∙ ap (of_ports ms xs hidden) e

module _ (ms : Catalogue) (xs : List Slot) (i : ℕ) (l : i < length xs) where
  pub slot_passes : slot_fault ms (get_or xs i no_slot) ≡ None → slots_fault ms (drop i xs) ≡ slots_fault ms (drop (i + 1) xs)
  slot_passes e = at_drop_more (slots_fault ms) xs i no_slot l ∙ ap (λ o. sooner o (slots_fault ms (drop (i + 1) xs))) e

  pub slot_stops : (e : DrawFault) → slot_fault ms (get_or xs i no_slot) ≡ Some e → slots_fault ms (drop i xs) ≡ Some e
  slot_stops e q = at_drop_more (slots_fault ms) xs i no_slot l ∙ ap (λ o. sooner o (slots_fault ms (drop (i + 1) xs))) q

module _ (ms : Catalogue) (x : Slot) where
  pub renaming_fault : (e : RenamingFault) → fault x.wiring ≡ Some e → slot_fault ms x ≡ Some (Renaming e)
  unfolding slot_fault
  renaming_fault e q = ap (λ o. wiring_or o (unknown ms x.holds)) q

  pub module_fault : fault x.wiring ≡ None → length ms ≤ x.holds → slot_fault ms x ≡ Some UnknownModule
  unfolding slot_fault
  module_fault q l = ap (λ o. wiring_or o (unknown ms x.holds)) q ∙ ap {B = Option DrawFault} (λ (b : Bool). elim b [ true ↦ None | false ↦ Some UnknownModule ]) (le-ltb x.holds (length ms) l)

  pub no_slot_fault : fault x.wiring ≡ None → x.holds < length ms → slot_fault ms x ≡ None
  unfolding slot_fault
  no_slot_fault q l = ap (λ o. wiring_or o (unknown ms x.holds)) q ∙ none_known ms x.holds l

-- the ports of a list, gathered one by one: what was gathered, and what is still to come
abbrev pub to_come : ActionSet → List ℕ → ℤ → Bool
to_come set rest a = has set a || any (λ p. same (pos p) a) rest

abbrev in_ports : List ℕ → ℤ → Bool
in_ports ps a = any (λ p. same (pos p) a) ps

pub ports_taken : (set : ActionSet) (ps : List ℕ) → all is_port ps ≡ true → ((a : ℤ) → to_come set [] a ≡ in_ports ps a) → set ≡ ports ps
ports_taken set ps good h = set_ext set (ports ps) (λ a. both_true (has set a) (has (ports ps) a) (there a) (back a))
  where
    plain : (b : Bool) → b ≡ (b || false)
    plain true = refl
    plain false = refl

    there : (a : ℤ) → T (has set a) → T (has (ports ps) a)
    there a t = passes_set (in_ports ps) a (has_near set a t) (subst T (plain (has set a) ∙ h a) t)

    back : (a : ℤ) → T (has (ports ps) a) → T (has set a)
    back a t = subst T (sym (plain (has set a) ∙ h a)) (set_passes (in_ports ps) a t)

-- no port is 0
pub ports_open : (ps : List ℕ) → all is_port ps ≡ true → has (ports ps) internal ≡ false
ports_open ps good = elim (cases_Bool (has (ports ps) internal)) [ inl t ↦ absurd (none t) | inr f ↦ f ]
  where
    none : has (ports ps) internal ≡ true → ⊥
    none t =
        let q = any_some (λ p. same (pos p) internal) ps (set_passes (in_ports ps) internal (T_true (has (ports ps) internal) t)) in
        let r = port_is q.0 (all_each is_port ps (T_true (all is_port ps) good) q.0 q.1) in
        let z : q.0 ≡ 0 = ap nat_abs (same_eq (pos q.0) internal q.2) in
        let o = r.0 in
        omega arith
