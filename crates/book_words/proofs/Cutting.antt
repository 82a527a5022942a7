-- The first word at or behind an offset.
use Rattle.std.proofs.Common.{◌≡◌, ℕ, zero, suc, ◌+◌, ◌-◌, ◌<◌, ◌≤◌, Bool, true, false, cond, ◌||◌, eqb, List, [], ◌∷◌, length, get_or, take, drop, option_and_then, sym, refl, ap, ◌∙◌, arith, length-drop}
use Rattle.std.specs.Char.{is_ascii_digit, is_ascii_alphanumeric}
use Rattle.std.specs.List.{prefix_len}
use Rattle.action.specs.Action.{opposite}
use Rattle.std.proofs.lemmas.List.{drop_more, drop-drop, drop_all, get_or-drop}
use Rattle.std.proofs.lemmas.List.Sums.{prefix_len_stops}
use Rattle.std.proofs.lemmas.Bool.{ne_eqb}
use Rattle.book_words.specs.Words.{Kind, Word, words_from, blank, asks, size_at, kind_at, run_kind, mark_kind, ported, port_of}
use Rattle.book_words.specs.Shown.{words_at, Spells, NoName}
use Rattle.book_words.specs.declared.word.Word.{Word as CodeWord}
use Rattle.book_words.specs.declared.word.Word.TheVariants.{Alien, Other, Bad, Module, Nil, Wait, Dot, Plus, Equals, Ends, Opens, Closes, Enter, Leave, Name, Act}

abbrev word_at : ℕ → ℕ → List ℕ → Word
word_at at b bs = record { at = at; size = size_at b bs; kind = kind_at b bs }

either : (x : Bool) (A A' B B' : List Word) (W : Word) → A ≡ A' → B ≡ B'
    → ◌≡◌ {A = List Word} (elim x [ true ↦ A | false ↦ W ∷ B ]) (elim x [ true ↦ A' | false ↦ W ∷ B' ])
either true A A' B B' W e f = e
either false A A' B B' W e f = ap (λ (l : List Word). W ∷ l) f

-- more fuel does nothing
fuel : (n k at : ℕ) (bs : List ℕ) → length bs < n → length bs < k → words_from n at bs ≡ words_from k at bs
fuel zero k at bs h i = absurd (omega arith)
fuel (suc n) zero at bs h i = absurd (omega arith)
fuel (suc n) (suc k) at [] h i = refl
fuel (suc n) (suc k) at (b ∷ bs) h i =
    let l = length-drop (size_at b bs) (b ∷ bs) in
    either (blank b) _ _ _ _ (word_at at b bs) (fuel n k (suc at) bs (omega arith) (omega arith))
    (fuel n k (at + size_at b bs) (drop (size_at b bs) (b ∷ bs)) (omega arith) (omega arith))

step_blank : (n at b : ℕ) (bs : List ℕ) → blank b ≡ true → words_from (suc n) at (b ∷ bs) ≡ words_from n (suc at) bs
step_blank n at b bs e = ap {B = List Word} (λ (x : Bool). elim x [ true ↦ words_from n (suc at) bs | false ↦ word_at at b bs ∷ words_from n (at + size_at b bs) (drop (size_at b bs) (b ∷ bs)) ]) e

step_word : (n at b : ℕ) (bs : List ℕ) → blank b ≡ false → words_from (suc n) at (b ∷ bs) ≡ word_at at b bs ∷ words_from n (at + size_at b bs) (drop (size_at b bs) (b ∷ bs))
step_word n at b bs e = ap {B = List Word} (λ (x : Bool). elim x [ true ↦ words_from n (suc at) bs | false ↦ word_at at b bs ∷ words_from n (at + size_at b bs) (drop (size_at b bs) (b ∷ bs)) ]) e

one_more : (b : ℕ) (bs : List ℕ) (k : ℕ) → drop (1 + k) (b ∷ bs) ≡ drop k bs
one_more b bs k = let e : 1 + k ≡ suc k = omega arith in ap (λ (i : ℕ). drop i (b ∷ bs)) e

-- blanks are passed over
skip : (n at : ℕ) (bs : List ℕ) → length bs < n → words_from n at bs ≡ words_from n (at + prefix_len blank bs) (drop (prefix_len blank bs) bs)
skip zero at bs h = absurd (omega arith)
skip (suc n) at [] h = refl
skip (suc n) at (b ∷ bs) h = go (blank b) refl (skip n (suc at) bs (omega arith))
  where
    go : (x : Bool) → blank b ≡ x → words_from n (suc at) bs ≡ words_from n (suc at + prefix_len blank bs) (drop (prefix_len blank bs) bs)
        → words_from (suc n) at (b ∷ bs) ≡ words_from (suc n) (at + cond x (1 + prefix_len blank bs) 0) (drop (cond x (1 + prefix_len blank bs) 0) (b ∷ bs))
    go true e r =
        let l = length-drop (prefix_len blank bs) bs in
        let i : suc at + prefix_len blank bs ≡ at + (1 + prefix_len blank bs) = omega arith in
        step_blank n at b bs e ∙ r
        ∙ fuel n (suc n) (suc at + prefix_len blank bs) (drop (prefix_len blank bs) bs) (omega arith) (omega arith)
        ∙ ap (λ (k : ℕ). words_from (suc n) k (drop (prefix_len blank bs) bs)) i
        ∙ ap (λ (l : List ℕ). words_from (suc n) (at + (1 + prefix_len blank bs)) l) (sym (one_more b bs (prefix_len blank bs)))
    go false e r = let i : at ≡ at + 0 = omega arith in ap (λ (k : ℕ). words_from (suc n) k (b ∷ bs)) i

-- the words at an offset are those behind the blanks there
past_blanks : (text : List ℕ) (from at : ℕ) → at ≡ from + prefix_len blank (drop from text) → words_at text from ≡ words_at text at
unfolding words_at
past_blanks text from at e =
    let l = length-drop from text in
    skip (suc (length text)) from (drop from text) (omega arith)
    ∙ ap (λ (x : List ℕ). words_from (suc (length text)) (from + prefix_len blank (drop from text)) x) (drop-drop (prefix_len blank (drop from text)) from text)
    ∙ ap (λ (k : ℕ). words_from (suc (length text)) k (drop k text)) (sym e)

pub cut_none : (text : List ℕ) (from at : ℕ) → at ≡ from + prefix_len blank (drop from text) → length text ≤ at → words_at text from ≡ []
unfolding words_at
cut_none text from at e h = past_blanks text from at e ∙ ap (λ (x : List ℕ). words_from (suc (length text)) at x) (drop_all at text h)

at_word : (text : List ℕ) (at : ℕ) → at < length text → blank (get_or text at 0) ≡ false
    → words_at text at ≡ word_at at (get_or text at 0) (drop (at + 1) text) ∷ words_at text (at + size_at (get_or text at 0) (drop (at + 1) text))
unfolding words_at
at_word text at h e =
    let b = get_or text at 0 in
    let bs = drop (at + 1) text in
    let d : drop at text ≡ b ∷ bs = drop_more text at 0 h in
    let l = length-drop (at + size_at b bs) text in
    ap (λ (x : List ℕ). words_from (suc (length text)) at x) d ∙ step_word (length text) at b bs e
    ∙ ap (λ (x : List ℕ). word_at at b bs ∷ words_from (length text) (at + size_at b bs) x)
    (ap (λ (x : List ℕ). drop (size_at b bs) x) (sym d) ∙ drop-drop (size_at b bs) at text)
    ∙ ap (λ (x : List Word). word_at at b bs ∷ x) (fuel (length text) (suc (length text)) (at + size_at b bs) (drop (at + size_at b bs) text) (omega arith) (omega arith))

-- no blank is where the blanks end
pub no_blank : (text : List ℕ) (from at : ℕ) → at ≡ from + prefix_len blank (drop from text) → at < length text → blank (get_or text at 0) ≡ false
no_blank text from at e h =
    let l = length-drop from text in
    ap (λ (i : ℕ). blank (get_or text i 0)) e ∙ ap blank (sym (get_or-drop from text (prefix_len blank (drop from text)) 0))
    ∙ prefix_len_stops blank (drop from text) 0 (omega arith)

pub cut_one : (text : List ℕ) (from at end : ℕ) (K : Kind) → at ≡ from + prefix_len blank (drop from text) → at < length text
    → end ≡ at + size_at (get_or text at 0) (drop (at + 1) text) → K ≡ kind_at (get_or text at 0) (drop (at + 1) text)
    → words_at text from ≡ record { at = at; size = end - at; kind = K } ∷ words_at text end
cut_one text from at end K e h s k =
    let size : size_at (get_or text at 0) (drop (at + 1) text) ≡ end - at = omega arith in
    past_blanks text from at e ∙ at_word text at h (no_blank text from at e h)
    ∙ ap (λ (i : ℕ). word_at at (get_or text at 0) (drop (at + 1) text) ∷ words_at text i) (sym s)
    ∙ ap {B = List Word} (λ (i : ℕ). record { at = at; size = i; kind = kind_at (get_or text at 0) (drop (at + 1) text) } ∷ words_at text end) size
    ∙ ap {B = List Word} (λ (i : Kind). record { at = at; size = end - at; kind = i } ∷ words_at text end) (sym k)

-- a part of the text that begins with a byte
part : (text : List ℕ) (at n k : ℕ) → at < length text → n ≡ suc k → take n (drop at text) ≡ get_or text at 0 ∷ take k (drop (at + 1) text)
part text at n k h e =
    ap (λ (i : ℕ). take i (drop at text)) e ∙ ap (λ (x : List ℕ). take (suc k) x) (drop_more text at 0 h)

pub cut_run : (text : List ℕ) (from at end : ℕ) (K : Kind) → at ≡ from + prefix_len blank (drop from text) → at < length text
    → is_ascii_alphanumeric (get_or text at 0) ≡ true → end ≡ at + 1 + prefix_len is_ascii_alphanumeric (drop (at + 1) text) → K ≡ run_kind (take (end - at) (drop at text))
    → words_at text from ≡ record { at = at; size = end - at; kind = K } ∷ words_at text end
cut_run text from at end K e h a s k =
    let b = get_or text at 0 in
    let bs = drop (at + 1) text in
    let j : size_at b bs ≡ suc (prefix_len is_ascii_alphanumeric bs) = ap (λ (x : Bool). suc (cond x (prefix_len is_ascii_alphanumeric bs) (cond (asks b) (prefix_len is_ascii_digit bs) 0))) a in
    let i : kind_at b bs ≡ run_kind (b ∷ take (prefix_len is_ascii_alphanumeric bs) bs) =
    ap (λ (x : Bool). cond x (run_kind (b ∷ take (prefix_len is_ascii_alphanumeric bs) bs)) (cond (eqb b 63) (ported (port_of (take (prefix_len is_ascii_digit bs) bs)))
    (cond (eqb b 33) (ported (option_and_then opposite (port_of (take (prefix_len is_ascii_digit bs) bs)))) (mark_kind b)))) a in
    let q : end - at ≡ suc (prefix_len is_ascii_alphanumeric bs) = omega arith in
    cut_one text from at end K e h (omega arith) (k ∙ ap run_kind (part text at (end - at) (prefix_len is_ascii_alphanumeric bs) h q) ∙ sym i)

-- a `?`
pub cut_ask : (text : List ℕ) (from at end : ℕ) (K : Kind) → at ≡ from + prefix_len blank (drop from text) → at < length text
    → get_or text at 0 ≡ 63 → end ≡ at + 1 + prefix_len is_ascii_digit (drop (at + 1) text) → K ≡ ported (port_of (take (end - (at + 1)) (drop (at + 1) text)))
    → words_at text from ≡ record { at = at; size = end - at; kind = K } ∷ words_at text end
cut_ask text from at end K e h b s k =
    let bs = drop (at + 1) text in
    let q : end - (at + 1) ≡ prefix_len is_ascii_digit bs = omega arith in
    let j : size_at (get_or text at 0) bs ≡ suc (prefix_len is_ascii_digit bs) = ap (λ (x : ℕ). size_at x bs) b in
    let i : kind_at (get_or text at 0) bs ≡ ported (port_of (take (prefix_len is_ascii_digit bs) bs)) = ap (λ (x : ℕ). kind_at x bs) b in
    cut_one text from at end K e h (omega arith) (k ∙ ap (λ (x : ℕ). ported (port_of (take x bs))) q ∙ sym i)

-- a `!`
pub cut_tell : (text : List ℕ) (from at end : ℕ) (K : Kind) → at ≡ from + prefix_len blank (drop from text) → at < length text
    → get_or text at 0 ≡ 33 → end ≡ at + 1 + prefix_len is_ascii_digit (drop (at + 1) text) → K ≡ ported (option_and_then opposite (port_of (take (end - (at + 1)) (drop (at + 1) text))))
    → words_at text from ≡ record { at = at; size = end - at; kind = K } ∷ words_at text end
cut_tell text from at end K e h b s k =
    let bs = drop (at + 1) text in
    let q : end - (at + 1) ≡ prefix_len is_ascii_digit bs = omega arith in
    let j : size_at (get_or text at 0) bs ≡ suc (prefix_len is_ascii_digit bs) = ap (λ (x : ℕ). size_at x bs) b in
    let i : kind_at (get_or text at 0) bs ≡ ported (option_and_then opposite (port_of (take (prefix_len is_ascii_digit bs) bs))) = ap (λ (x : ℕ). kind_at x bs) b in
    cut_one text from at end K e h (omega arith) (k ∙ ap (λ (x : ℕ). ported (option_and_then opposite (port_of (take x bs)))) q ∙ sym i)

pub cut_mark : (text : List ℕ) (from at : ℕ) (K : Kind) → at ≡ from + prefix_len blank (drop from text) → at < length text
    → is_ascii_alphanumeric (get_or text at 0) ≡ false → (get_or text at 0 ≡ 63 → ⊥) → (get_or text at 0 ≡ 33 → ⊥) → K ≡ mark_kind (get_or text at 0)
    → words_at text from ≡ record { at = at; size = at + 1 - at; kind = K } ∷ words_at text (at + 1)
cut_mark text from at K e h a q t k =
    let b = get_or text at 0 in
    let bs = drop (at + 1) text in
    let D = port_of (take (prefix_len is_ascii_digit bs) bs) in
    let b1 = ne_eqb b 63 q in
    let b2 = ne_eqb b 33 t in
    let j : size_at b bs ≡ 1 =
    ap (λ (x : Bool). suc (cond x (prefix_len is_ascii_alphanumeric bs) (cond (asks b) (prefix_len is_ascii_digit bs) 0))) a
    ∙ ap (λ (x : Bool). suc (cond (x || eqb b 33) (prefix_len is_ascii_digit bs) 0)) b1 ∙ ap (λ (x : Bool). suc (cond x (prefix_len is_ascii_digit bs) 0)) b2 in
    let i : kind_at b bs ≡ mark_kind b =
    ap (λ (x : Bool). cond x (run_kind (b ∷ take (prefix_len is_ascii_alphanumeric bs) bs)) (cond (eqb b 63) (ported D) (cond (eqb b 33) (ported (option_and_then opposite D)) (mark_kind b)))) a
    ∙ ap (λ (x : Bool). cond x (ported D) (cond (eqb b 33) (ported (option_and_then opposite D)) (mark_kind b))) b1 ∙ ap (λ (x : Bool). cond x (ported (option_and_then opposite D)) (mark_kind b)) b2 in
    cut_one text from at (at + 1) K e h (omega arith) (k ∙ sym i)

-- a word that is no name
pub no_name : (w : CodeWord) (bytes : List ℕ) → NoName w → Spells bytes w
no_name (Name x) bytes h = absurd h
no_name Alien bytes h = tt
no_name Other bytes h = tt
no_name Bad bytes h = tt
no_name Module bytes h = tt
no_name Nil bytes h = tt
no_name Wait bytes h = tt
no_name Dot bytes h = tt
no_name Plus bytes h = tt
no_name Equals bytes h = tt
no_name Ends bytes h = tt
no_name Opens bytes h = tt
no_name Closes bytes h = tt
no_name Enter bytes h = tt
no_name Leave bytes h = tt
no_name (Act a) bytes h = tt
