-- A run by the grammar alone that ends outside splits into derivations.
use Rattle.std.proofs.Common.{◌≡◌, ℕ, zero, suc, ◌≤◌, true, false, ◌⊎◌, List, [], ◌∷◌, ◌++◌, map, length, ℤ, Some, None, Option, sym, refl, ap, ◌∙◌, subst, inl, inr, arith, length-append}
use Rattle.std.proofs.lemmas.List.{append-nil, append_assoc}
use Rattle.std.proofs.lemmas.Bool.{false≢true}
use Rattle.rows.specs.declared.row.Place.{Place}
use Rattle.rows.specs.declared.row.Place.TheVariants.{Sum as SumRow}
use Rattle.rows.specs.declared.row.ModuleRow.{ModuleRow}
use Rattle.book_words.specs.Words.{Kind}
use Rattle.book_words.specs.Words.Kind.{alien, other, bad, begins, nil, wait, dot, plus, equals, ends, opens, closes, enter, leave, name, act}
use Rattle.book_grammar.specs.Grammar.{Tree, Equation, Module, Term, Sum, Equations, Book}
use Rattle.book_grammar.specs.Grammar.Tree.{nought, called, waits, acts, both, group}
use Rattle.book_grammar.specs.Grammar.Term.{term_nil, term_name, term_wait, term_act, term_group}
use Rattle.book_grammar.specs.Grammar.Sum.{sum_one, sum_more}
use Rattle.book_grammar.specs.Grammar.Equations.{last_equation, more_equations}
use Rattle.book_grammar.specs.Grammar.Book.{no_module, more_modules}
use Rattle.book_grammar.specs.Rows.{Row, newest, laid, Side, side, rows_after, sides_after, settled, module_row}
use Rattle.book_grammar.specs.Rows.Row.{plain}
use Rattle.book_grammar.specs.Reading.{Open, Reading, on, around, finished, at, moved}
use Rattle.book_grammar.specs.Reading.State.{outside, title, brace, equal, term, point, after}
use Rattle.book_grammar.specs.Reading.Open.{waiting, acting, adding, paren}
use Rattle.book_grammar.proofs.Free.{freely, at_left, at_outside, sided_last}

pub none_some : (z : Reading) → ◌≡◌ {A = Option Reading} None (Some z) → ⊥
none_some z e = let o : ◌≡◌ {A = ℕ} 0 1 = cc in omega arith

some_is : (y z : Reading) → Some y ≡ Some z → y ≡ z
some_is y z e = cc

-- the text may not end there
early : {X : Type 0} (y z : Reading) → Some y ≡ Some z → at y outside ≡ false → at z outside ≡ true → X
early y z e a b = absurd (false≢true (sym a ∙ ap (λ (r : Reading). at r outside) (some_is y z e) ∙ b))

-- the one word that may stand there, and what follows
abbrev Next : Reading → Kind → List Kind → Reading → Type 0
Next s k ws z = (v : List Kind) × (ws ≡ k ∷ v) × (freely (moved s k) v ≡ Some z)

dotted : (s : Reading) (os : List Open) (R : List Row) (ws : List Kind) (z : Reading) → freely (on s point os R) ws ≡ Some z → at z outside ≡ true
    → Next (on s point os R) dot ws z
dotted s os R [] z e h = early _ z e refl h
dotted s os R (alien ∷ ws) z e h = absurd (none_some z e)
dotted s os R (other ∷ ws) z e h = absurd (none_some z e)
dotted s os R (bad ∷ ws) z e h = absurd (none_some z e)
dotted s os R (begins ∷ ws) z e h = absurd (none_some z e)
dotted s os R (nil ∷ ws) z e h = absurd (none_some z e)
dotted s os R (wait ∷ ws) z e h = absurd (none_some z e)
dotted s os R (dot ∷ ws) z e h = (ws, refl, e)
dotted s os R (plus ∷ ws) z e h = absurd (none_some z e)
dotted s os R (equals ∷ ws) z e h = absurd (none_some z e)
dotted s os R (ends ∷ ws) z e h = absurd (none_some z e)
dotted s os R (opens ∷ ws) z e h = absurd (none_some z e)
dotted s os R (closes ∷ ws) z e h = absurd (none_some z e)
dotted s os R (enter ∷ ws) z e h = absurd (none_some z e)
dotted s os R (leave ∷ ws) z e h = absurd (none_some z e)
dotted s os R ((name x) ∷ ws) z e h = absurd (none_some z e)
dotted s os R ((act a) ∷ ws) z e h = absurd (none_some z e)

equalled : (s : Reading) (os : List Open) (R : List Row) (ws : List Kind) (z : Reading) → freely (on s equal os R) ws ≡ Some z → at z outside ≡ true
    → Next (on s equal os R) equals ws z
equalled s os R [] z e h = early _ z e refl h
equalled s os R (alien ∷ ws) z e h = absurd (none_some z e)
equalled s os R (other ∷ ws) z e h = absurd (none_some z e)
equalled s os R (bad ∷ ws) z e h = absurd (none_some z e)
equalled s os R (begins ∷ ws) z e h = absurd (none_some z e)
equalled s os R (nil ∷ ws) z e h = absurd (none_some z e)
equalled s os R (wait ∷ ws) z e h = absurd (none_some z e)
equalled s os R (dot ∷ ws) z e h = absurd (none_some z e)
equalled s os R (plus ∷ ws) z e h = absurd (none_some z e)
equalled s os R (equals ∷ ws) z e h = (ws, refl, e)
equalled s os R (ends ∷ ws) z e h = absurd (none_some z e)
equalled s os R (opens ∷ ws) z e h = absurd (none_some z e)
equalled s os R (closes ∷ ws) z e h = absurd (none_some z e)
equalled s os R (enter ∷ ws) z e h = absurd (none_some z e)
equalled s os R (leave ∷ ws) z e h = absurd (none_some z e)
equalled s os R ((name x) ∷ ws) z e h = absurd (none_some z e)
equalled s os R ((act a) ∷ ws) z e h = absurd (none_some z e)

entered : (s : Reading) (os : List Open) (R : List Row) (ws : List Kind) (z : Reading) → freely (on s brace os R) ws ≡ Some z → at z outside ≡ true
    → Next (on s brace os R) enter ws z
entered s os R [] z e h = early _ z e refl h
entered s os R (alien ∷ ws) z e h = absurd (none_some z e)
entered s os R (other ∷ ws) z e h = absurd (none_some z e)
entered s os R (bad ∷ ws) z e h = absurd (none_some z e)
entered s os R (begins ∷ ws) z e h = absurd (none_some z e)
entered s os R (nil ∷ ws) z e h = absurd (none_some z e)
entered s os R (wait ∷ ws) z e h = absurd (none_some z e)
entered s os R (dot ∷ ws) z e h = absurd (none_some z e)
entered s os R (plus ∷ ws) z e h = absurd (none_some z e)
entered s os R (equals ∷ ws) z e h = absurd (none_some z e)
entered s os R (ends ∷ ws) z e h = absurd (none_some z e)
entered s os R (opens ∷ ws) z e h = absurd (none_some z e)
entered s os R (closes ∷ ws) z e h = absurd (none_some z e)
entered s os R (enter ∷ ws) z e h = (ws, refl, e)
entered s os R (leave ∷ ws) z e h = absurd (none_some z e)
entered s os R ((name x) ∷ ws) z e h = absurd (none_some z e)
entered s os R ((act a) ∷ ws) z e h = absurd (none_some z e)

titled : (s : Reading) (os : List Open) (R : List Row) (ws : List Kind) (z : Reading) → freely (on s title os R) ws ≡ Some z → at z outside ≡ true
    → (x : List ℕ) × Next (on s title os R) (name x) ws z
titled s os R [] z e h = early _ z e refl h
titled s os R (name x ∷ ws) z e h = (x, (ws, refl, e))
titled s os R (alien ∷ ws) z e h = absurd (none_some z e)
titled s os R (other ∷ ws) z e h = absurd (none_some z e)
titled s os R (bad ∷ ws) z e h = absurd (none_some z e)
titled s os R (begins ∷ ws) z e h = absurd (none_some z e)
titled s os R (nil ∷ ws) z e h = absurd (none_some z e)
titled s os R (wait ∷ ws) z e h = absurd (none_some z e)
titled s os R (dot ∷ ws) z e h = absurd (none_some z e)
titled s os R (plus ∷ ws) z e h = absurd (none_some z e)
titled s os R (equals ∷ ws) z e h = absurd (none_some z e)
titled s os R (ends ∷ ws) z e h = absurd (none_some z e)
titled s os R (opens ∷ ws) z e h = absurd (none_some z e)
titled s os R (closes ∷ ws) z e h = absurd (none_some z e)
titled s os R (enter ∷ ws) z e h = absurd (none_some z e)
titled s os R (leave ∷ ws) z e h = absurd (none_some z e)
titled s os R (act a ∷ ws) z e h = absurd (none_some z e)

-- terms behind the first one of a sum
data Tail : List Kind → List Tree → Type 0 where
  tail_none : Tail [] []
  tail_more : {u v : List Kind} {t : Tree} {ts : List Tree} → Term u t → Tail v ts → Tail (plus ∷ (u ++ v)) (t ∷ ts)

abbrev add_all : List Tree → List Row → List Row
add_all [] R = R
add_all (t ∷ ts) R = add_all ts (laid t R ++ plain (SumRow (newest R) (newest (laid t R))) ∷ [])

abbrev sum_of : Tree → List Tree → Tree
sum_of l [] = l
sum_of l (r ∷ rs) = sum_of (both l r) rs

laid_sum_of : (l : Tree) (ts : List Tree) (R : List Row) → laid (sum_of l ts) R ≡ add_all ts (laid l R)
laid_sum_of l [] R = refl
laid_sum_of l (r ∷ rs) R = laid_sum_of (both l r) rs R

sum_tail : {u v : List Kind} {l : Tree} {ts : List Tree} → Sum u l → Tail v ts → Sum (u ++ v) (sum_of l ts)
sum_tail {u} {l = l} d tail_none = subst (λ (w : List Kind). Sum w l) (sym (append-nil u)) d
sum_tail {u} {l = l} d (tail_more {u = a} {v = b} {t} {ts} e f) =
    subst (λ (w : List Kind). Sum w (sum_of (both l t) ts)) (append_assoc u (plus ∷ a) b) (sum_tail (sum_more d e) f)

record TermOf (s : Reading) (os : List Open) (R : List Row) (ws : List Kind) (z : Reading) : Type 0 where
  u : List Kind
  v : List Kind
  t : Tree
  split : ws ≡ u ++ v
  derives : Term u t
  further : freely (on s after (around os) (finished os (laid t R))) v ≡ Some z

record TailOf (s : Reading) (os : List Open) (k : Kind) (R : List Row) (ws : List Kind) (z : Reading) : Type 0 where
  u : List Kind
  v : List Kind
  ts : List Tree
  split : ws ≡ u ++ k ∷ v
  derives : Tail u ts
  further : freely (on s after os (add_all ts R)) (k ∷ v) ≡ Some z

abbrev TermClaim : ℕ → Type 0
TermClaim n = (ws : List Kind) → length ws ≤ n → (s : Reading) (os : List Open) (R : List Row) (z : Reading)
    → freely (on s term os R) ws ≡ Some z → at z outside ≡ true → TermOf s os R ws z

abbrev TailClaim : ℕ → Type 0
TailClaim n = (ws : List Kind) → length ws ≤ n → (s : Reading) (os : List Open) (R : List Row) (z : Reading)
    → freely (on s after (paren ∷ os) R) ws ≡ Some z → at z outside ≡ true → TailOf s (paren ∷ os) closes R ws z

abbrev EndClaim : ℕ → Type 0
EndClaim n = (ws : List Kind) → length ws ≤ n → (s : Reading) (R : List Row) (z : Reading)
    → freely (on s after [] R) ws ≡ Some z → at z outside ≡ true → TailOf s [] ends R ws z

-- a list cut in two: the second part is no longer
rest_short : (ws u v : List Kind) (n : ℕ) → ws ≡ u ++ v → length ws ≤ n → length v ≤ n
rest_short ws u v n e h = omega (arith, ap (λ (l : List Kind). length l) e, length-append u v)

term_waits : (n : ℕ) → TermClaim n → (ws : List Kind) → length ws ≤ n → (s : Reading) (os : List Open) (R : List Row) (z : Reading)
    → freely (on s point (waiting ∷ os) R) ws ≡ Some z → at z outside ≡ true → TermOf s os R (wait ∷ ws) z
term_waits n T ws l s os R z e h =
    let d = dotted s (waiting ∷ os) R ws z e h in
    let g = T d.0 (omega (arith, ap (λ (y : List Kind). length y) d.1)) s (waiting ∷ os) R z d.2 h in
    record {
      u = wait ∷ dot ∷ g.u;
      v = g.v;
      t = waits g.t;
      split = ap (λ (y : List Kind). wait ∷ y) (d.1 ∙ ap (λ (y : List Kind). dot ∷ y) g.split);
      derives = term_wait g.derives;
      further = g.further;
    }

term_acts : (n : ℕ) → TermClaim n → (a : ℤ) (ws : List Kind) → length ws ≤ n → (s : Reading) (os : List Open) (R : List Row) (z : Reading)
    → freely (on s point (acting a ∷ os) R) ws ≡ Some z → at z outside ≡ true → TermOf s os R (act a ∷ ws) z
term_acts n T a ws l s os R z e h =
    let d = dotted s (acting a ∷ os) R ws z e h in
    let g = T d.0 (omega (arith, ap (λ (y : List Kind). length y) d.1)) s (acting a ∷ os) R z d.2 h in
    record {
      u = act a ∷ dot ∷ g.u;
      v = g.v;
      t = acts a g.t;
      split = ap (λ (y : List Kind). act a ∷ y) (d.1 ∙ ap (λ (y : List Kind). dot ∷ y) g.split);
      derives = term_act a g.derives;
      further = g.further;
    }

term_opens : (n : ℕ) → TermClaim n → TailClaim n → (ws : List Kind) → length ws ≤ n → (s : Reading) (os : List Open) (R : List Row) (z : Reading)
    → freely (on s term (paren ∷ os) R) ws ≡ Some z → at z outside ≡ true → TermOf s os R (opens ∷ ws) z
term_opens n T F ws l s os R z e h =
    let g = T ws l s (paren ∷ os) R z e h in
    let f = F g.v (rest_short ws g.u g.v n g.split l) s os (laid g.t R) z g.further h in
    let cut : ws ≡ ((g.u ++ f.u) ++ closes ∷ []) ++ f.v =
    g.split ∙ ap (λ (y : List Kind). g.u ++ y) f.split ∙ sym (append_assoc g.u f.u (closes ∷ f.v))
    ∙ sym (append_assoc (g.u ++ f.u) (closes ∷ []) f.v) in
    record {
      u = opens ∷ ((g.u ++ f.u) ++ closes ∷ []);
      v = f.v;
      t = group (sum_of g.t f.ts);
      split = ap (λ (y : List Kind). opens ∷ y) cut;
      derives = term_group (sum_tail (sum_one g.derives) f.derives);
      further = ap (λ (X : List Row). freely (on s after (around os) (finished os X)) f.v) (laid_sum_of g.t f.ts R) ∙ f.further;
    }

term_step : (n : ℕ) → TermClaim n → TailClaim n → TermClaim (suc n)
term_step n T F [] l s os R z e h = early _ z e refl h
term_step n T F (nil ∷ ws) l s os R z e h = record { u = nil ∷ []; v = ws; t = nought; split = refl; derives = term_nil; further = e }
term_step n T F (name x ∷ ws) l s os R z e h = record { u = name x ∷ []; v = ws; t = called x; split = refl; derives = term_name x; further = e }
term_step n T F (wait ∷ ws) l s os R z e h = term_waits n T ws (omega arith) s os R z e h
term_step n T F (act a ∷ ws) l s os R z e h = term_acts n T a ws (omega arith) s os R z e h
term_step n T F (opens ∷ ws) l s os R z e h = term_opens n T F ws (omega arith) s os R z e h
term_step n T F (alien ∷ ws) l s os R z e h = absurd (none_some z e)
term_step n T F (other ∷ ws) l s os R z e h = absurd (none_some z e)
term_step n T F (bad ∷ ws) l s os R z e h = absurd (none_some z e)
term_step n T F (begins ∷ ws) l s os R z e h = absurd (none_some z e)
term_step n T F (dot ∷ ws) l s os R z e h = absurd (none_some z e)
term_step n T F (plus ∷ ws) l s os R z e h = absurd (none_some z e)
term_step n T F (equals ∷ ws) l s os R z e h = absurd (none_some z e)
term_step n T F (ends ∷ ws) l s os R z e h = absurd (none_some z e)
term_step n T F (closes ∷ ws) l s os R z e h = absurd (none_some z e)
term_step n T F (enter ∷ ws) l s os R z e h = absurd (none_some z e)
term_step n T F (leave ∷ ws) l s os R z e h = absurd (none_some z e)

tail_step : (n : ℕ) → TermClaim n → TailClaim n → TailClaim (suc n)
tail_step n T F [] l s os R z e h = early _ z e refl h
tail_step n T F (closes ∷ ws) l s os R z e h = record { u = []; v = ws; ts = []; split = refl; derives = tail_none; further = e }
tail_step n T F (plus ∷ ws) l s os R z e h =
    let g = T ws (omega arith) s (adding (newest R) ∷ paren ∷ os) R z e h in
    let f = F g.v (rest_short ws g.u g.v n g.split (omega arith)) s os (laid g.t R ++ plain (SumRow (newest R) (newest (laid g.t R))) ∷ []) z g.further h in
    record {
      u = plus ∷ (g.u ++ f.u);
      v = f.v;
      ts = g.t ∷ f.ts;
      split = ap (λ (y : List Kind). plus ∷ y) (g.split ∙ ap (λ (y : List Kind). g.u ++ y) f.split ∙ sym (append_assoc g.u f.u (closes ∷ f.v)));
      derives = tail_more g.derives f.derives;
      further = f.further;
    }
tail_step n T F (alien ∷ ws) l s os R z e h = absurd (none_some z e)
tail_step n T F (other ∷ ws) l s os R z e h = absurd (none_some z e)
tail_step n T F (bad ∷ ws) l s os R z e h = absurd (none_some z e)
tail_step n T F (begins ∷ ws) l s os R z e h = absurd (none_some z e)
tail_step n T F (nil ∷ ws) l s os R z e h = absurd (none_some z e)
tail_step n T F (wait ∷ ws) l s os R z e h = absurd (none_some z e)
tail_step n T F (dot ∷ ws) l s os R z e h = absurd (none_some z e)
tail_step n T F (equals ∷ ws) l s os R z e h = absurd (none_some z e)
tail_step n T F (ends ∷ ws) l s os R z e h = absurd (none_some z e)
tail_step n T F (opens ∷ ws) l s os R z e h = absurd (none_some z e)
tail_step n T F (enter ∷ ws) l s os R z e h = absurd (none_some z e)
tail_step n T F (leave ∷ ws) l s os R z e h = absurd (none_some z e)
tail_step n T F (name x ∷ ws) l s os R z e h = absurd (none_some z e)
tail_step n T F (act a ∷ ws) l s os R z e h = absurd (none_some z e)

end_step : (n : ℕ) → TermClaim n → EndClaim n → EndClaim (suc n)
end_step n T F [] l s R z e h = early _ z e refl h
end_step n T F (ends ∷ ws) l s R z e h = record { u = []; v = ws; ts = []; split = refl; derives = tail_none; further = e }
end_step n T F (plus ∷ ws) l s R z e h =
    let g = T ws (omega arith) s (adding (newest R) ∷ []) R z e h in
    let f = F g.v (rest_short ws g.u g.v n g.split (omega arith)) s (laid g.t R ++ plain (SumRow (newest R) (newest (laid g.t R))) ∷ []) z g.further h in
    record {
      u = plus ∷ (g.u ++ f.u);
      v = f.v;
      ts = g.t ∷ f.ts;
      split = ap (λ (y : List Kind). plus ∷ y) (g.split ∙ ap (λ (y : List Kind). g.u ++ y) f.split ∙ sym (append_assoc g.u f.u (ends ∷ f.v)));
      derives = tail_more g.derives f.derives;
      further = f.further;
    }
end_step n T F (alien ∷ ws) l s R z e h = absurd (none_some z e)
end_step n T F (other ∷ ws) l s R z e h = absurd (none_some z e)
end_step n T F (bad ∷ ws) l s R z e h = absurd (none_some z e)
end_step n T F (begins ∷ ws) l s R z e h = absurd (none_some z e)
end_step n T F (nil ∷ ws) l s R z e h = absurd (none_some z e)
end_step n T F (wait ∷ ws) l s R z e h = absurd (none_some z e)
end_step n T F (dot ∷ ws) l s R z e h = absurd (none_some z e)
end_step n T F (equals ∷ ws) l s R z e h = absurd (none_some z e)
end_step n T F (opens ∷ ws) l s R z e h = absurd (none_some z e)
end_step n T F (closes ∷ ws) l s R z e h = absurd (none_some z e)
end_step n T F (enter ∷ ws) l s R z e h = absurd (none_some z e)
end_step n T F (leave ∷ ws) l s R z e h = absurd (none_some z e)
end_step n T F (name x ∷ ws) l s R z e h = absurd (none_some z e)
end_step n T F (act a ∷ ws) l s R z e h = absurd (none_some z e)

term_zero : TermClaim zero
term_zero [] l s os R z e h = early _ z e refl h
term_zero (w ∷ ws) l s os R z e h = absurd (omega arith)

tail_zero : TailClaim zero
tail_zero [] l s os R z e h = early _ z e refl h
tail_zero (w ∷ ws) l s os R z e h = absurd (omega arith)

end_zero : EndClaim zero
end_zero [] l s R z e h = early _ z e refl h
end_zero (w ∷ ws) l s R z e h = absurd (omega arith)

within : (n : ℕ) → TermClaim n × TailClaim n × EndClaim n
within zero = (term_zero, tail_zero, end_zero)
within (suc n) = let w = within n in (term_step n w.0 w.1, tail_step n w.0 w.1, end_step n w.0 w.2)

record EquationsOf (s : Reading) (R : List Row) (E : List Side) (ws : List Kind) (z : Reading) : Type 0 where
  u : List Kind
  v : List Kind
  es : List Equation
  split : ws ≡ u ++ leave ∷ v
  derives : Equations u es
  further : freely (at_left s (rows_after es R) (sides_after es R E)) (leave ∷ v) ≡ Some z

abbrev EqsClaim : ℕ → Type 0
EqsClaim n = (ws : List Kind) → length ws ≤ n → (s : Reading) (R : List Row) (E : List Side) (z : Reading)
    → freely (at_left s R E) ws ≡ Some z → at z outside ≡ true
    → ((v : List Kind) × (ws ≡ leave ∷ v)) ⊎ EquationsOf s R E ws z

-- a sum and its `;`
record SumOf (s : Reading) (R : List Row) (ws : List Kind) (z : Reading) : Type 0 where
  u : List Kind
  v : List Kind
  t : Tree
  split : ws ≡ u ++ ends ∷ v
  derives : Sum u t
  further : freely (on s after [] (laid t R)) (ends ∷ v) ≡ Some z

sum_of_all : (n : ℕ) (ws : List Kind) → length ws ≤ n → (s : Reading) (R : List Row) (z : Reading)
    → freely (on s term [] R) ws ≡ Some z → at z outside ≡ true → SumOf s R ws z
sum_of_all n ws l s R z e h =
    let g = (within n).0 ws l s [] R z e h in
    let f = (within n).2 g.v (rest_short ws g.u g.v n g.split l) s (laid g.t R) z g.further h in
    record {
      u = g.u ++ f.u;
      v = f.v;
      t = sum_of g.t f.ts;
      split = g.split ∙ ap (λ (y : List Kind). g.u ++ y) f.split ∙ sym (append_assoc g.u f.u (ends ∷ f.v));
      derives = sum_tail (sum_one g.derives) f.derives;
      further = ap (λ (X : List Row). freely (on s after [] X) (ends ∷ f.v)) (laid_sum_of g.t f.ts R) ∙ f.further;
    }

eqs_name : (n : ℕ) → EqsClaim n → (x : List ℕ) (ws : List Kind) → length ws ≤ n → (s : Reading) (R : List Row) (E : List Side) (z : Reading)
    → freely (at_left s R E) (name x ∷ ws) ≡ Some z → at z outside ≡ true → EquationsOf s R E (name x ∷ ws) z
eqs_name n C x ws l s R E z e h =
    let s' = at_left s R (E ++ side x 0 ∷ []) in
    let q = equalled s' [] R ws z e h in
    let g = sum_of_all n q.0 (omega (arith, ap (λ (y : List Kind). length y) q.1)) s' R z q.2 h in
    let E' = E ++ side x (newest (laid g.t R)) ∷ [] in
    let more : freely (at_left s (laid g.t R) E') g.v ≡ Some z =
    ap (λ (S : List Side). freely (at_left s (laid g.t R) S) g.v) (sym (sided_last E x 0 (newest (laid g.t R)))) ∙ g.further in
    let cut : name x ∷ ws ≡ name x ∷ equals ∷ (g.u ++ ends ∷ g.v) =
    ap (λ (y : List Kind). name x ∷ y) (q.1 ∙ ap (λ (y : List Kind). equals ∷ y) g.split) in
    let short : length g.v ≤ n = omega (arith, ap (λ (y : List Kind). length y) q.1, ap (λ (y : List Kind). length y) g.split, length-append g.u (ends ∷ g.v)) in
    elim (C g.v short s (laid g.t R) E' z more h) [
      | inl b ↦ record {
        u = name x ∷ equals ∷ (g.u ++ ends ∷ []);
        v = b.0;
        es = record { left = x; right = g.t } ∷ [];
        split = cut ∙ ap (λ (y : List Kind). name x ∷ equals ∷ y) (ap (λ (y : List Kind). g.u ++ ends ∷ y) b.1 ∙ sym (append_assoc g.u (ends ∷ []) (leave ∷ b.0)));
        derives = last_equation x g.derives;
        further = ap (λ (y : List Kind). freely (at_left s (laid g.t R) E') y) (sym b.1) ∙ more;
      }
      | inr b ↦ record {
        u = name x ∷ equals ∷ (g.u ++ ends ∷ b.u);
        v = b.v;
        es = record { left = x; right = g.t } ∷ b.es;
        split = cut ∙ ap (λ (y : List Kind). name x ∷ equals ∷ y) (ap (λ (y : List Kind). g.u ++ ends ∷ y) b.split ∙ sym (append_assoc g.u (ends ∷ b.u) (leave ∷ b.v)));
        derives = more_equations x g.derives b.derives;
        further = b.further;
      }
    ]

eqs_of : (n : ℕ) → EqsClaim n
eqs_of zero [] l s R E z e h = early _ z e refl h
eqs_of zero (w ∷ ws) l s R E z e h = absurd (omega arith)
eqs_of (suc n) [] l s R E z e h = early _ z e refl h
eqs_of (suc n) (name x ∷ ws) l s R E z e h = inr (eqs_name n (eqs_of n) x ws (omega arith) s R E z e h)
eqs_of (suc n) (leave ∷ ws) l s R E z e h = inl (ws, refl)
eqs_of (suc n) (alien ∷ ws) l s R E z e h = absurd (none_some z e)
eqs_of (suc n) (other ∷ ws) l s R E z e h = absurd (none_some z e)
eqs_of (suc n) (bad ∷ ws) l s R E z e h = absurd (none_some z e)
eqs_of (suc n) (begins ∷ ws) l s R E z e h = absurd (none_some z e)
eqs_of (suc n) (nil ∷ ws) l s R E z e h = absurd (none_some z e)
eqs_of (suc n) (wait ∷ ws) l s R E z e h = absurd (none_some z e)
eqs_of (suc n) (dot ∷ ws) l s R E z e h = absurd (none_some z e)
eqs_of (suc n) (plus ∷ ws) l s R E z e h = absurd (none_some z e)
eqs_of (suc n) (equals ∷ ws) l s R E z e h = absurd (none_some z e)
eqs_of (suc n) (ends ∷ ws) l s R E z e h = absurd (none_some z e)
eqs_of (suc n) (opens ∷ ws) l s R E z e h = absurd (none_some z e)
eqs_of (suc n) (closes ∷ ws) l s R E z e h = absurd (none_some z e)
eqs_of (suc n) (enter ∷ ws) l s R E z e h = absurd (none_some z e)
eqs_of (suc n) (act a ∷ ws) l s R E z e h = absurd (none_some z e)

leave_goes : (s : Reading) (R : List Row) (E : List Side) (v : List Kind) (z : Reading) → freely (at_left s R E) (leave ∷ v) ≡ Some z
    → freely (at_outside s.titles (s.places ++ map (settled E) R) (s.modules ++ module_row (length s.places) R E ∷ [])) v ≡ Some z
leave_goes s R [] v z e = absurd (none_some z e)
leave_goes s R (f ∷ E) v z e = e

abbrev BookClaim : ℕ → Type 0
BookClaim n = (ws : List Kind) → length ws ≤ n → (titles : List (List ℕ)) (places : List Place) (modules : List ModuleRow) (z : Reading)
    → freely (at_outside titles places modules) ws ≡ Some z → at z outside ≡ true → (ms : List Module) × Book ws ms

book_step : (n : ℕ) → BookClaim n → (ws : List Kind) → length ws ≤ n → (titles : List (List ℕ)) (places : List Place) (modules : List ModuleRow) (z : Reading)
    → freely (on (at_outside titles places modules) title [] []) ws ≡ Some z → at z outside ≡ true → (ms : List Module) × Book (begins ∷ ws) ms
book_step n C ws l titles places modules z e h =
    let a = titled (at_outside titles places modules) [] [] ws z e h in
    let s = at_outside (titles ++ a.0 ∷ []) places modules in
    let b = entered s [] [] a.1.0 z a.1.2 h in
    let long1 = ap (λ (y : List Kind). length y) a.1.1 in
    let long2 = ap (λ (y : List Kind). length y) b.1 in
    elim (eqs_of n b.0 (omega (arith, long1, long2)) s [] [] z b.2 h) [
      | inl c ↦ absurd (none_some z (ap (λ (y : List Kind). freely (at_left s [] []) y) (sym c.1) ∙ b.2))
      | inr c ↦
          let more = C c.v (omega (arith, long1, long2, ap (λ (y : List Kind). length y) c.split, length-append c.u (leave ∷ c.v)))
          (titles ++ a.0 ∷ []) _ _ z (leave_goes s (rows_after c.es []) (sides_after c.es [] []) c.v z c.further) h in
          let cut : begins ∷ ws ≡ begins ∷ name a.0 ∷ enter ∷ (c.u ++ leave ∷ c.v) =
          ap (λ (y : List Kind). begins ∷ y) (a.1.1 ∙ ap (λ (y : List Kind). name a.0 ∷ y) (b.1 ∙ ap (λ (y : List Kind). enter ∷ y) c.split)) in (
            record { title = a.0; equations = c.es } ∷ more.0,
            subst (λ (y : List Kind). Book y (record { title = a.0; equations = c.es } ∷ more.0)) (sym cut) (more_modules a.0 c.derives more.1),
          )
    ]

pub book_of : (n : ℕ) → BookClaim n
book_of zero [] l titles places modules z e h = ([], no_module)
book_of zero (w ∷ ws) l titles places modules z e h = absurd (omega arith)
book_of (suc n) [] l titles places modules z e h = ([], no_module)
book_of (suc n) (begins ∷ ws) l titles places modules z e h = book_step n (book_of n) ws (omega arith) titles places modules z e h
book_of (suc n) (alien ∷ ws) l titles places modules z e h = absurd (none_some z e)
book_of (suc n) (other ∷ ws) l titles places modules z e h = absurd (none_some z e)
book_of (suc n) (bad ∷ ws) l titles places modules z e h = absurd (none_some z e)
book_of (suc n) (nil ∷ ws) l titles places modules z e h = absurd (none_some z e)
book_of (suc n) (wait ∷ ws) l titles places modules z e h = absurd (none_some z e)
book_of (suc n) (dot ∷ ws) l titles places modules z e h = absurd (none_some z e)
book_of (suc n) (plus ∷ ws) l titles places modules z e h = absurd (none_some z e)
book_of (suc n) (equals ∷ ws) l titles places modules z e h = absurd (none_some z e)
book_of (suc n) (ends ∷ ws) l titles places modules z e h = absurd (none_some z e)
book_of (suc n) (opens ∷ ws) l titles places modules z e h = absurd (none_some z e)
book_of (suc n) (closes ∷ ws) l titles places modules z e h = absurd (none_some z e)
book_of (suc n) (enter ∷ ws) l titles places modules z e h = absurd (none_some z e)
book_of (suc n) (leave ∷ ws) l titles places modules z e h = absurd (none_some z e)
book_of (suc n) (name x ∷ ws) l titles places modules z e h = absurd (none_some z e)
book_of (suc n) (act a ∷ ws) l titles places modules z e h = absurd (none_some z e)
