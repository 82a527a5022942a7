-- Bytes back and forth. Assumes nothing.
use Rattle.std.proofs.Common.{◌≡◌, ℕ, zero, suc, ◌+◌, ◌-◌, ◌<◌, ◌≤◌, Bool, true, false, eqb, ltb, leb, List, length, ℤ, pos, negsuc, nat_abs, Some, None, Option, sym, refl, ap, ◌∙◌, arith}
use Rattle.std.proofs.lemmas.Bool.{ltb-true, ltb-false, eqb-true, le-leb}
use Rattle.action.specs.Action.{last_port}
use Rattle.table_format.specs.Numbers.{pair, pair_in, action_byte, byte_action, mark_byte}
use Rattle.table_format.specs.Encoding.{tick_number, no_tick}
use Rattle.table_format.specs.Reading.{after, after_in, tick_of}

pub action_back : (x : ℕ) → x < 256 → action_byte (byte_action x) ≡ x
action_back x h = go (ltb x 128) refl
  where
    go : (t : Bool) → ltb x 128 ≡ t → action_byte (elim t [ true ↦ pos x | false ↦ negsuc (255 - x) ]) ≡ x
    go true e = refl
    go false e = omega arith

pub action_forth : (a : ℤ) → nat_abs a ≤ last_port → byte_action (action_byte a) ≡ a
action_forth (pos n) h = go (ltb n 128) refl
  where
    go : (t : Bool) → ltb n 128 ≡ t → ◌≡◌ {A = ℤ} (elim t [ true ↦ pos n | false ↦ negsuc (255 - n) ]) (pos n)
    go true e = refl
    go false e = absurd (omega (arith, ltb-false n 128 e))
action_forth (negsuc n) h = go (ltb (255 - n) 128) refl
  where
    go : (t : Bool) → ltb (255 - n) 128 ≡ t → ◌≡◌ {A = ℤ} (elim t [ true ↦ pos (255 - n) | false ↦ negsuc (255 - (255 - n)) ]) (negsuc n)
    go true e = absurd (omega (arith, ltb-true (255 - n) 128 e))
    go false e = let q : 255 - (255 - n) ≡ n = omega arith in ap negsuc q

pub mark_back : (u : ℕ) → u ≤ 1 → mark_byte (eqb u 1) ≡ u
mark_back zero h = refl
mark_back (suc zero) h = refl
mark_back (suc (suc u)) h = absurd (omega arith)

pub mark_forth : (t : Bool) → eqb (mark_byte t) 1 ≡ t
mark_forth true = refl
mark_forth false = refl

pub tick_back : (t : ℕ) → tick_number (tick_of t) ≡ t
tick_back t = go (eqb t no_tick) refl
  where
    go : (r : Bool) → eqb t no_tick ≡ r → tick_number (elim r [ true ↦ None | false ↦ Some t ]) ≡ t
    go true e = sym (eqb-true t no_tick e)
    go false e = refl

pub tick_forth : (o : Option ℕ) → ((d : ℕ) → o ≡ Some d → d < 65535) → tick_of (tick_number o) ≡ o
tick_forth None h = refl
tick_forth (Some d) h = go (eqb d no_tick) refl
  where
    go : (r : Bool) → eqb d no_tick ≡ r → ◌≡◌ {A = Option ℕ} (elim r [ true ↦ None | false ↦ Some d ]) (Some d)
    go true e = absurd (omega (arith, h d refl, eqb-true d no_tick e))
    go false e = refl

-- what was read where it is there
read : (t : Bool) (n v : ℕ) → Some n ≡ elim t as (λ _. Option ℕ) [ true ↦ Some v | false ↦ None ] → n ≡ v
read true n v e = cc
read false n v e = cc

there : (t : Bool) (v : ℕ) → t ≡ true → elim t as (λ _. Option ℕ) [ true ↦ Some v | false ↦ None ] ≡ Some v
there true v e = refl
there false v e = cc

module _ (b : List ℕ) (i : ℕ) where
  pub pair_read : (n : ℕ) → Some n ≡ pair_in b i → n ≡ pair b i
  pair_read n e = read (leb (i + 2) (length b)) n (pair b i) e

  pub after_read : (n : ℕ) → Some n ≡ after_in b i → n ≡ after b i
  after_read n e = read (leb (i + 2) (length b)) n (after b i) e

  module _ (l : i + 2 ≤ length b) where
    pub pair_there : pair_in b i ≡ Some (pair b i)
    pair_there = there (leb (i + 2) (length b)) (pair b i) (le-leb (i + 2) (length b) l)

    pub pair_lost : None ≡ pair_in b i → ⊥
    pair_lost e = let p : None ≡ Some (pair b i) = e ∙ pair_there in cc

    pub after_there : after_in b i ≡ Some (after b i)
    after_there = there (leb (i + 2) (length b)) (after b i) (le-leb (i + 2) (length b) l)
