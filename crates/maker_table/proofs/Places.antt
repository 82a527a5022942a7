-- Listing the places of records, one after the other. Assumes nothing.
use Rattle.std.proofs.Common.{◌≡◌, ℕ, zero, suc, ◌+◌, ◌*◌, ◌^◌, ◌<◌, ◌≤◌, List, [], ◌∷◌, ◌++◌, length, None, sym, ap, ◌∙◌, subst, arith}
use Rattle.std.proofs.lemmas.List.{append_assoc}
use Rattle.table_format.specs.declared.fault.TableFault.TheVariants.{LeftOver}
use Rattle.table_format.specs.Numbers.{pair, Bytes}
use Rattle.table_format.specs.Reading.{after, offsets}
use Rattle.table_format.specs.Taking.{state_fault, states_fault, module_fault, modules_fault, fault}
use Rattle.maker_table.specs.Index.{Lengths}
use Rattle.table_format.proofs.Faults.{then_l, then_r, le_none}
use Rattle.table_format.proofs.Fine.{state_fine, module_fine, fine}

-- records without a fault begin in the bytes
pub states_begin : (b : List ℕ) (n e j s : ℕ) → e ≤ length b → states_fault b n e j s ≡ None → Lengths b j s
states_begin b n e zero s l h = tt
states_begin b n e (suc j) s l h = (
  omega (arith, (state_fine b n e s (then_l (state_fault b n e s) (states_fault b n e j (after b s)) h)).length_in),
  states_begin b n e j (after b s) l (then_r (state_fault b n e s) (states_fault b n e j (after b s)) h),
)

pub modules_begin : (b : List ℕ) (j m : ℕ) → modules_fault b j m ≡ None → Lengths b j m
modules_begin b zero m h = tt
modules_begin b (suc j) m h = (
  (module_fine b m (then_l (module_fault b m) (modules_fault b j (after b m)) h)).length_in,
  modules_begin b j (after b m) (then_r (module_fault b m) (modules_fault b j (after b m)) h),
)

pub next_begins : (b : List ℕ) (j i s : ℕ) → j ≡ suc i → Lengths b j s → (s + 2 ≤ length b) × Lengths b i (after b s)
next_begins b j i s p h = subst (λ x. Lengths b x s) p h

-- one more offset is listed
pub offsets_on : (b : List ℕ) (j i s t : ℕ) (xs ys zs : List ℕ) → j ≡ suc i → t ≡ after b s → ys ≡ xs ++ (s ∷ []) → xs ++ offsets b j s ≡ zs → ys ++ offsets b i t ≡ zs
offsets_on b j i s t xs ys zs p q e h =
    ap (λ (z : List ℕ). z ++ offsets b i t) e ∙ append_assoc xs (s ∷ []) (offsets b i t) ∙ ap (λ x. xs ++ (s ∷ offsets b i x)) q ∙ ap (λ x. xs ++ offsets b x s) (sym p) ∙ h

-- a table without a fault is short
pub modules_short : (b : List ℕ) (j m : ℕ) → Bytes b → modules_fault b j m ≡ None → length b ≤ m + 65537 * j
modules_short b zero m B h = omega (arith, le_none (length b) m (LeftOver m) h)
modules_short b (suc j) m B h = omega (arith, modules_short b j (after b m) B (then_r (module_fault b m) (modules_fault b j (after b m)) h), B m, B (m + 1))

-- a table without a fault is short, and so is its list of modules
pub table_short : (b : List ℕ) → Bytes b → fault b ≡ None → length b < 2 ^ 32
table_short b B h = let f = fine b h in omega (arith, f.few, modules_short b (pair b 1) 3 B f.all_modules)
