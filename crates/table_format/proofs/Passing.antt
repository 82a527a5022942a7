-- One more record passed, or the first that is not. Assumes nothing.
use Rattle.std.proofs.Common.{◌≡◌, ℕ, suc, ◌+◌, List, Some, None, sym, ap, ◌∙◌}
use Rattle.table_format.specs.declared.fault.TableFault.{TableFault}
use Rattle.table_format.specs.Reading.{after, codes_at}
use Rattle.table_format.proofs.Faults.{none_then, some_then, then_then}
use Rattle.table_format.specs.Taking.{◌▹◌, move_fault, moves_fault, state_length_fault, state_fields_fault, state_fault, states_fault, module_length_fault, module_head_fault, module_fault, modules_fault}

module _ (b : List ℕ) (n : ℕ) where
  pub moves_on : (j i k l : ℕ) → j ≡ suc i → l ≡ k + 4 → move_fault b n k ≡ None → moves_fault b n j k ≡ moves_fault b n i l
  moves_on j i k l p q e = ap (λ x. moves_fault b n x k) p ∙ none_then (move_fault b n k) (moves_fault b n i (k + 4)) e ∙ ap (moves_fault b n i) (sym q)

  pub moves_stop : (j i k : ℕ) (f : TableFault) → j ≡ suc i → move_fault b n k ≡ Some f → moves_fault b n j k ≡ Some f
  moves_stop j i k f p e = ap (λ x. moves_fault b n x k) p ∙ some_then (move_fault b n k) (moves_fault b n i (k + 4)) f e

  pub states_on : (e j i s t : ℕ) → j ≡ suc i → t ≡ after b s → state_fault b n e s ≡ None → states_fault b n e j s ≡ states_fault b n e i t
  states_on e j i s t p q h = ap (λ x. states_fault b n e x s) p ∙ none_then (state_fault b n e s) (states_fault b n e i (after b s)) h ∙ ap (states_fault b n e i) (sym q)

  pub states_stop : (e j i s : ℕ) (f : TableFault) → j ≡ suc i → state_fault b n e s ≡ Some f → states_fault b n e j s ≡ Some f
  states_stop e j i s f p h = ap (λ x. states_fault b n e x s) p ∙ some_then (state_fault b n e s) (states_fault b n e i (after b s)) f h

pub modules_on : (b : List ℕ) (j i m t : ℕ) → j ≡ suc i → t ≡ after b m → module_fault b m ≡ None → modules_fault b j m ≡ modules_fault b i t
modules_on b j i m t p q h = ap (λ x. modules_fault b x m) p ∙ none_then (module_fault b m) (modules_fault b i (after b m)) h ∙ ap (modules_fault b i) (sym q)

pub modules_stop : (b : List ℕ) (j i m : ℕ) (f : TableFault) → j ≡ suc i → module_fault b m ≡ Some f → modules_fault b j m ≡ Some f
modules_stop b j i m f p h = ap (λ x. modules_fault b x m) p ∙ some_then (module_fault b m) (modules_fault b i (after b m)) f h

-- a state, or a module, after its length or its head
pub state_length_stops : (b : List ℕ) (n e s : ℕ) (f : TableFault) → state_length_fault b e s ≡ Some f → state_fault b n e s ≡ Some f
unfolding state_fault
state_length_stops b n e s f h = some_then (state_length_fault b e s) (state_fields_fault b n s) f h

pub state_rest : (b d : List ℕ) (n e s t : ℕ) → d ≡ b → t ≡ s → state_length_fault b e s ≡ None → state_fault b n e s ≡ state_fields_fault d n t
unfolding state_fault
state_rest b d n e s t p q h = none_then (state_length_fault b e s) (state_fields_fault b n s) h ∙ ap (λ z. state_fields_fault z n s) (sym p) ∙ ap (state_fields_fault d n) (sym q)

pub module_head_stops : (b : List ℕ) (m : ℕ) (f : TableFault) → (module_length_fault b m ▹ module_head_fault b m) ≡ Some f → module_fault b m ≡ Some f
unfolding module_fault
module_head_stops b m f h =
    let rest = states_fault b (codes_at b m) (after b m) (codes_at b m) (m + 6) in
    sym (then_then (module_length_fault b m) (module_head_fault b m) rest) ∙ some_then (module_length_fault b m ▹ module_head_fault b m) rest f h

pub module_rest : (b d : List ℕ) (m t n e : ℕ) → d ≡ b → t ≡ m → n ≡ codes_at d t → e ≡ after d t → (module_length_fault b m ▹ module_head_fault b m) ≡ None → module_fault b m ≡ states_fault d n e n (t + 6)
unfolding module_fault
module_rest b d m t n e p q u v h =
    let rest = λ (z : List ℕ) (i : ℕ). states_fault z (codes_at z i) (after z i) (codes_at z i) (i + 6) in
    sym (then_then (module_length_fault b m) (module_head_fault b m) (rest b m)) ∙ none_then (module_length_fault b m ▹ module_head_fault b m) (rest b m) h
    ∙ ap (λ z. rest z m) (sym p) ∙ ap (rest d) (sym q)
    ∙ ap (λ x. states_fault d x (after d t) x (t + 6)) (sym u) ∙ ap (λ x. states_fault d n x n (t + 6)) (sym v)
