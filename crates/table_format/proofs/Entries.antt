-- The bytes of moves, four by four. Assumes nothing.
use Rattle.std.proofs.Common.{◌≡◌, ℕ, zero, suc, ◌+◌, ◌-◌, ◌*◌, ◌<◌, ◌≤◌, Bool, true, false, ◌&&◌, ◌||◌, eqb, ltb, List, [], ◌∷◌, map, length, drop, get_or, pos, negsuc, sym, refl, ap, ◌∙◌, arith}
use Rattle.std.proofs.lemmas.Bool.{ne_eqb}
use Rattle.std.proofs.lemmas.List.{length-take, length-drop, get_or-take, get_or-drop}
use Rattle.std.specs.List.{list_any, slice_range}
use Rattle.std.specs.Simd.{first_chunks}
use Rattle.action.specs.Action.{internal, same}
use Rattle.table_format.specs.Numbers.{byte, pair, byte_action}
use Rattle.table_format.specs.Records.{MoveRecord, marked}
use Rattle.table_format.specs.Reading.{entry, entries, entry_record, move_record, move_records, marks_internal}

-- the bytes from k on, cut into fours
pub chunked : (b : List ℕ) (n k : ℕ) (xs : List ℕ) → length xs ≡ 4 * n → ((i : ℕ) → i < 4 * n → get_or xs i 0 ≡ byte b (k + i)) → first_chunks 4 n xs ≡ entries b n k
chunked b zero k xs l h = refl
chunked b (suc n) k [] l h = absurd (omega arith)
chunked b (suc n) k (x ∷ []) l h = absurd (omega arith)
chunked b (suc n) k (x ∷ y ∷ []) l h = absurd (omega arith)
chunked b (suc n) k (x ∷ y ∷ z ∷ []) l h = absurd (omega arith)
chunked b (suc n) k (x ∷ y ∷ z ∷ w ∷ xs) l h =
    let e0 : x ≡ byte b (k + 0) = h 0 (omega arith) in
    let e1 : y ≡ byte b (k + 1) = h 1 (omega arith) in
    let e2 : z ≡ byte b (k + 2) = h 2 (omega arith) in
    let e3 : w ≡ byte b (k + 3) = h 3 (omega arith) in
    let p : k + 0 ≡ k = omega arith in
    let rest = chunked b n (k + 4) xs (omega arith) (λ i m. (let q : k + suc (suc (suc (suc i))) ≡ k + 4 + i = omega arith in h (suc (suc (suc (suc i)))) (omega arith) ∙ ap (byte b) q)) in
    cc

pub entries_records : (b : List ℕ) (n k : ℕ) → map entry_record (entries b n k) ≡ move_records b n k
entries_records b zero k = refl
entries_records b (suc n) k =
    let p : k + 3 ≡ k + 2 + 1 = omega arith in
    ap (λ i. record { action = byte_action (byte b k); urgent = eqb (byte b (k + 1)) 1; target = 256 * byte b (k + 2) + byte b i } ∷ map entry_record (entries b n (k + 4))) p
    ∙ ap (λ (ms : List MoveRecord). move_record b k ∷ ms) (entries_records b n (k + 4))

pub count_entries : (b : List ℕ) (n k : ℕ) → length (entries b n k) ≡ n
count_entries b zero k = refl
count_entries b (suc n) k = ap suc (count_entries b n (k + 4))

-- the same, where they are a part of the list
pub chunked_part : (b : List ℕ) (n k e : ℕ) → e ≡ k + 4 * n → e ≤ length b → first_chunks 4 n (slice_range b k e) ≡ entries b n k
chunked_part b n k e p l =
    chunked b n k (slice_range b k e) (omega (arith, length-take (e - k) (drop k b), length-drop k b))
    (λ i m. get_or-take (e - k) (drop k b) i 0 (omega arith) ∙ get_or-drop k b i 0)

pub entry_at : (b : List ℕ) (n k i : ℕ) (d : List ℕ) → i < n → get_or (entries b n k) i d ≡ entry b (k + 4 * i)
entry_at b zero k i d l = absurd (omega arith)
entry_at b (suc n) k zero d l = let p : k ≡ k + 4 * 0 = omega arith in ap (entry b) p
entry_at b (suc n) k (suc i) d l = let p : k + 4 + 4 * i ≡ k + 4 * suc i = omega arith in entry_at b n (k + 4) i d (omega arith) ∙ ap (entry b) p

-- the four bytes e are those of the move at k
pub record IsEntry (b : List ℕ) (k : ℕ) (e : List ℕ) : Type 0 where
  pub action : byte e 0 ≡ byte b k
  pub mark : byte e 1 ≡ byte b (k + 1)
  pub target : byte e 2 * 256 + byte e 3 ≡ pair b (k + 2)

-- of n moves, that with number i
pub entry_of : (b : List ℕ) (n k i : ℕ) (es : List (List ℕ)) → es ≡ entries b n k → i < length es → (i < n) × IsEntry b (k + 4 * i) (get_or es i [])
entry_of b n k i es p l =
    let m : i < n = omega (arith, ap length p, count_entries b n k) in
    let q : get_or es i [] ≡ entry b (k + 4 * i) = ap (λ (xs : List (List ℕ)). get_or xs i []) p ∙ entry_at b n k i [] m in
    let r : k + 4 * i + 3 ≡ k + 4 * i + 2 + 1 = omega arith in
    let t : byte (get_or es i []) 3 ≡ byte b (k + 4 * i + 2 + 1) = ap (λ x. byte x 3) q ∙ ap (byte b) r in
    (m, record { action = ap (λ x. byte x 0) q; mark = ap (λ x. byte x 1) q; target = omega (arith, t, ap (λ x. byte x 2) q) })

-- the byte of the internal event
pub zero_internal : (x : ℕ) → eqb x 0 ≡ same (byte_action x) internal
zero_internal zero = refl
zero_internal (suc n) = ne_eqb (suc n) 0 (λ p. omega arith) ∙ go (ltb (suc n) 128)
  where
    go : (t : Bool) → false ≡ same (elim t [ true ↦ pos (suc n) | false ↦ negsuc (255 - suc n) ]) internal
    go true = sym (ne_eqb (suc n) 0 (λ p. omega arith))
    go false = refl

pub any_marked : (es : List (List ℕ)) → list_any marks_internal es ≡ marked (map entry_record es) internal
any_marked [] = refl
any_marked (e ∷ es) = ap (λ t. (eqb (byte e 1) 1 && t) || list_any marks_internal es) (zero_internal (byte e 0)) ∙ ap (λ t. (eqb (byte e 1) 1 && same (byte_action (byte e 0)) internal) || t) (any_marked es)
