-- The front of a word or of a run, gone over eight bytes at a time.
-- Assumes nothing.
use mathlib.Core.Path.{◌≡◌, refl, sym, ◌∙◌}
use mathlib.Core.Bool.{Bool, true, false, false≢true}
use mathlib.Core.List.{List, [], ◌∷◌}
use Prim.Native.Nat.{ℕ, zero, suc, ◌+◌, ◌-◌, ◌≤◌, ◌<◌}
use native.Mathlib.Omega.{arith}
use native.Mathlib.Nat.{zero-add}
use lib.Dec.{leb, eqb}
use lib.ListN.{length, take, drop, get_or}
use lib.Seq.{take-add, take-take, drop-cons}
use borrow.Author.Tests.{leb-true, eqb-true, ne_eqb}
use Rattle.kinds.specs.Bytes.{all, is_letter, is_word_byte}
use Rattle.kinds.proofs.Logic.{both, left, right, all_append, letter_word}
use Rattle.model.specs.Text.{span_from, span, one, word_length, run_byte, run_length}
use Rattle.model.proofs.Scans.{part-rest, scan_none, blank-plain, blank-space}
use Rattle.text.specs.Found.{is_alphabetic, is_plain, is_stop, Begun, Runs}
use Rattle.text.proofs.Eights.{span-all, alphabetic}

-- bytes of a class, each of which is an item, go on
class_span : (f : List ℕ → ℕ) (p : ℕ → Bool) → ((c : ℕ) (t : List ℕ) → p c ≡ true → f (c ∷ t) ≡ 1) → (n : ℕ) (t : List ℕ) → n ≤ length t
    → all p (take n t) ≡ true → n + span f (drop n t) ≡ span f t
unfolding span_from
class_span f p g zero t h e = omega arith
class_span f p g (suc n) [] h e = absurd (omega arith)
class_span f p g (suc n) (c ∷ t) h e =
    let w : f (c ∷ t) ≡ 1 = g c t (left {a = p c} (all p (take n t)) e) in
    let i = class_span f p g n t (omega arith) (right (p c) e) in
    let m : span f (c ∷ t) ≡ suc (span f t) = rw (span_from, w) in
    rw m (omega (arith, i))

-- the first c of eight bytes of a part are of a class
class_at : (p : ℕ → Bool) (t : List ℕ) (at c : ℕ) → c ≡ span (one p) (take 8 (drop at t)) → c ≤ 8 → all p (take c (drop at t)) ≡ true
class_at p t at c e l =
    let x : all p (take c (take 8 (drop at t))) ≡ true = rw e (span-all p (take 8 (drop at t))) in
    rw (take-take c 8 (drop at t) l) at x

-- Words.

letter_item : (c : ℕ) (t : List ℕ) → is_letter c ≡ true → one is_word_byte (c ∷ t) ≡ 1
letter_item c t h = rw (one, letter_word c h)

begun : (t : List ℕ) (n : ℕ) → 0 < n → n ≤ length t → all is_letter (take n t) ≡ true → Begun t n
unfolding word_length
begun t zero p h e = absurd (omega arith)
begun [] (suc n) p h e = absurd (omega arith)
begun (c ∷ t) (suc n) p h e = record {
  inside = h;
  rest = rw (word_length, left {a = is_letter c} (all is_letter (take n t)) e) (omega (arith, class_span (one is_word_byte) is_letter letter_item n t (omega arith) (right (is_letter c) e)));
}

module _ (t : List ℕ) (c : ℕ) (e : c ≡ span (one is_alphabetic) (take 8 (drop 0 t))) (l : c ≤ 8) where
  letters_first : all is_letter (take c t) ≡ true
  letters_first = alphabetic (take c t) (class_at is_alphabetic t 0 c e l)

  pub first_eight : 8 ≤ length t → 0 < c → Begun t c
  first_eight h p = begun t c p (omega arith) letters_first

  pub second_eight : (d : ℕ) → 16 ≤ length t → c ≡ 8 → d ≡ span (one is_alphabetic) (take 8 (drop 8 t)) → d ≤ 8 → Begun t (8 + d)
  second_eight d h z f k =
      let x : all is_letter (take 8 t) ≡ true = rw z at letters_first in
      let y = alphabetic (take d (drop 8 t)) (class_at is_alphabetic t 8 d f k) in
      begun t (8 + d) (omega arith) (omega arith) (rw (take-add 8 d t) (all_append is_letter (take 8 t) (take d (drop 8 t)) ∙ both x y))

-- the rest of a word
pub word_rest : (t : List ℕ) (c r : ℕ) → Begun t c → r ≡ span (one is_word_byte) (take (length t - c) (drop c t)) → c + r ≡ word_length t
word_rest t c r g e = let f : r ≡ span (one is_word_byte) (drop c t) = rw part-rest at e in omega (arith, g.rest)

pub ruleset words = (first_eight, second_eight, word_rest)

-- Runs.

plain_item : (c : ℕ) (t : List ℕ) → is_plain c ≡ true → run_byte (c ∷ t) ≡ 1
plain_item c t h =
    let l = leb-true 45 c (left {a = leb 45 c} (leb c 127) h) in
    let m = leb-true c 127 (right (leb 45 c) h) in
    rw (run_byte, ne_eqb c 44 (λ e. omega arith), ne_eqb c 41 (λ e. omega arith), blank-plain c t (omega arith) (omega arith))

pub runs_start : (t : List ℕ) → Runs t 0
unfolding run_length
runs_start t = record { inside = omega arith; rest = zero-add _ }

module _ (t : List ℕ) (c : ℕ) (e : c ≡ span (one is_plain) (take 8 (drop 0 t))) (l : c ≤ 8) (h : 8 ≤ length t) where
  pub runs_eight : Runs t c
  unfolding run_length
  runs_eight = record { inside = omega arith; rest = class_span run_byte is_plain plain_item c t (omega arith) (class_at is_plain t 0 c e l) }

  pub runs_stop : (r : Bool) → c < length t → r ≡ is_stop (get_or t c 0) → r ≡ true → c ≡ run_length t
  runs_stop r k w y =
      scan_none run_byte t c (run_length t)
      (go (eqb (get_or t c 0) 44) refl (eqb (get_or t c 0) 41) refl (eqb (get_or t c 0) 32) refl (sym w ∙ y)) runs_eight.rest
    where
      go : (x : Bool) → eqb (get_or t c 0) 44 ≡ x → (y : Bool) → eqb (get_or t c 0) 41 ≡ y → (z : Bool) → eqb (get_or t c 0) 32 ≡ z
          → is_stop (get_or t c 0) ≡ true → run_byte (drop c t) ≡ 0
      go true a y p z o s = rw (drop-cons t c 0 k, run_byte, a)
      go false a true p z o s = rw (drop-cons t c 0 k, run_byte, a, p)
      go false a false p true o s = rw (drop-cons t c 0 k, run_byte, a, p, eqb-true (get_or t c 0) 32 o, blank-space)
      go false a false p false o s = absurd (false≢true (rw (a, p, o) at s))

pub ruleset runs = (runs_start, runs_eight, runs_stop)
