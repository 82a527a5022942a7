-- Writing piece by piece in a loop. Assumes nothing.
use Rattle.std.proofs.Common.{◌≡◌, ℕ, suc, ◌+◌, ◌<◌, ◌≤◌, List, [], ◌∷◌, ◌++◌, length, get_or, drop, codes as ascii, refl, sym, ◌∙◌, ap, subst, arith}
use Rattle.std.proofs.lemmas.List.{append_assoc, append-nil, drop_all}
use Rattle.std.specs.declared.fmt.Formatter.{Formatter}
use Rattle.std.specs.Fmt.{HasWritten, IsPlainFormatter}
use Rattle.report.specs.Text.{spaced, listed, numbered}
use Rattle.report.proofs.Lists.{drop_at}
use Rattle.std.proofs.Output.{writes_in_calls_nil, has_written_append, has_written_of_eq}

-- a formatter has written a first part of a text, and the rest is to come
pub record Writing {W : Type 0} (took : W → List ℕ → W → Type 0) (f : Formatter W) (whole rest : List ℕ) (g : Formatter W) : Type 0 where
  pub done : List ℕ
  pub wrote : HasWritten took f done g
  pub split : done ++ rest ≡ whole

module _ {W : Type 0} {took : W → List ℕ → W → Type 0} where
  pub begun : (f : Formatter W) (whole : List ℕ) → IsPlainFormatter f → Writing took f whole whole f
  begun f whole p = record { done = []; wrote = record { wrote = writes_in_calls_nil took f.writer; plain = p }; split = refl }

  pub further : (f g h : Formatter W) (whole piece rest more : List ℕ) → rest ≡ piece ++ more → Writing took f whole rest g → HasWritten took g piece h → Writing took f whole more h
  further f g h whole piece rest more e w p = record {
    done = w.done ++ piece;
    wrote = has_written_append took f w.done g piece h w.wrote p;
    split = append_assoc w.done piece more ∙ ap (λ (x : List ℕ). w.done ++ x) (sym e) ∙ w.split;
  }

  pub ended : (f g : Formatter W) (whole rest : List ℕ) → rest ≡ [] → Writing took f whole rest g → HasWritten took f whole g
  ended f g whole rest e w = has_written_of_eq took f w.done whole g (sym (append-nil w.done) ∙ ap (λ (x : List ℕ). w.done ++ x) (sym e) ∙ w.split) w.wrote

-- a list with a space in front of each: a further element is written, and all are
module _ {W : Type 0} {A : Type 0} (took : W → List ℕ → W → Type 0) (text : A → List ℕ) where
  pub one_further : (x : A) (xs ys : List A) (f g h : Formatter W) (whole : List ℕ) → xs ≡ x ∷ ys → Writing took f whole (spaced text xs) g → HasWritten took g (ascii " " ++ text x) h → Writing took f whole (spaced text ys) h
  one_further x xs ys f g h whole e w p = further f g h whole (ascii " " ++ text x) (spaced text xs) (spaced text ys) (ap (spaced text) e) w p

  pub all_listed : (x : A) (all behind left : List A) (f g h : Formatter W) → all ≡ x ∷ behind → left ≡ [] → HasWritten took f (ascii " " ++ text x) g → Writing took g (spaced text behind) (spaced text left) h → HasWritten took f (listed text all) h
  all_listed x all behind left f g h e n p w =
      has_written_of_eq took f ((ascii " " ++ text x) ++ spaced text behind) (listed text all) h (sym (ap (listed text) e)) (has_written_append took f (ascii " " ++ text x) g (spaced text behind) h p (ended g h (spaced text behind) (spaced text left) (ap (spaced text) n) w))

-- numbered elements: the next is written, and all are
module _ {W : Type 0} {A : Type 0} (took : W → List ℕ → W → Type 0) (text : ℕ → A → List ℕ) (xs : List A) (d : A) where
  pub next_numbered : (k : ℕ) (f g h : Formatter W) (whole : List ℕ) → k < length xs → Writing took f whole (numbered text k (drop k xs)) g → HasWritten took g (text k (get_or xs k d)) h → Writing took f whole (numbered text (k + 1) (drop (k + 1) xs)) h
  next_numbered k f g h whole l w p =
      let q : k + 1 ≡ suc k = omega arith in
      subst (λ j. Writing took f whole (numbered text j (drop j xs)) h) (sym q) (further f g h whole (text k (get_or xs k d)) (numbered text k (drop k xs)) (numbered text (suc k) (drop (suc k) xs)) (ap (numbered text k) (drop_at xs k d l)) w p)

  pub all_numbered : (k n : ℕ) (head : List ℕ) (f g h : Formatter W) → length xs ≤ n → HasWritten took f head g → Writing took g (numbered text k (drop k xs)) (numbered text n (drop n xs)) h → HasWritten took f (head ++ numbered text k (drop k xs)) h
  all_numbered k n head f g h l p w =
      has_written_append took f head g (numbered text k (drop k xs)) h p (ended g h (numbered text k (drop k xs)) (numbered text n (drop n xs)) (ap (numbered text n) (drop_all n xs l)) w)
