-- What is read at a place of the data is exactly an encoding that stands there: of words, and of bytes with zeros behind them.
-- Assumes nothing.
use mathlib.Core.Path.{◌≡◌, refl, sym, ◌∙◌, ap}
use mathlib.Core.Bool.{Bool, true, false, ◌&&◌, and-eq-true_iff}
use mathlib.Core.List.{List, [], ◌∷◌, ◌++◌, append_assoc}
use Rattle.std.specs.Prelude.{Option, None, Some}
use Rattle.std.proofs.lemmas.Option.{none-some, same_Some}
use Prim.Native.Nat.{ℕ, zero, suc, ◌+◌, ◌-◌, ◌≤◌}
use native.Mathlib.Omega.{arith}
use lib.Dec.{leb, eqb}
use lib.ListN.{length, take, drop, replicate, length-append, length-drop, length-replicate, take-append-drop}
use lib.Seq.{take_at, drop_at, length-take-le, drop-drop}
use borrow.Author.Tests.{leb-true, le-leb, eqb-true}
use Rattle.kinds.specs.Bytes.{all}
use Rattle.encoding.specs.Words.{is_byte, whole_words, padded}
use Rattle.encoding.specs.Judge.{all_are, given, when, word_at, has_word, tested, filled}
use Rattle.kinds.proofs.Logic.{left, right, all_append}

-- u stands in the data from `at` up to e
pub record Stands (d : List ℕ) (at : ℕ) (u : List ℕ) (e : ℕ) : Type 0 where
  pub there : drop at d ≡ u ++ drop e d
  pub end : e ≡ at + length u
  pub inside : e ≤ length d

module _ (d : List ℕ) where
  pub stands_nil : (at : ℕ) → at ≤ length d → Stands d at [] at
  stands_nil at h = record { there = refl; end = omega arith; inside = h }

  pub stands_join : (at : ℕ) (u : List ℕ) (m : ℕ) (v : List ℕ) (e : ℕ) → Stands d at u m → Stands d m v e → Stands d at (u ++ v) e
  stands_join at u m v e x y = record {
    there = x.there ∙ ap (λ z. u ++ z) y.there ∙ sym (append_assoc u v (drop e d));
    end = omega (arith, x.end, y.end, length-append u v);
    inside = y.inside;
  }

  -- a part in front, and the rest behind it
  module _ (at : ℕ) (u v : List ℕ) (e : ℕ) (s : Stands d at (u ++ v) e) where
    whole : drop at d ≡ u ++ (v ++ drop e d)
    whole = s.there ∙ append_assoc u v (drop e d)

    behind : drop (at + length u) d ≡ v ++ drop e d
    behind = sym (drop-drop (length u) at d) ∙ rw (whole) (drop_at u (v ++ drop e d) (length u) refl)

    pub stands-front : Stands d at u (at + length u)
    stands-front = record { there = whole ∙ ap (λ z. u ++ z) (sym behind); end = refl; inside = omega (arith, s.end, s.inside, length-append u v) }

    pub stands-rest : Stands d (at + length u) v e
    stands-rest = record { there = behind; end = omega (arith, s.end, length-append u v); inside = s.inside }

  -- n bytes of the data
  pub stands-take : (at n : ℕ) → at + n ≤ length d → Stands d at (take n (drop at d)) (at + n)
  stands-take at n h =
      let long : length (take n (drop at d)) ≡ n = length-take-le n (drop at d) (rw length-drop (omega arith)) in
      record { there = sym (take-append-drop n (drop at d)) ∙ ap (λ z. take n (drop at d) ++ z) (drop-drop n at d); end = omega arith; inside = h }

  pub taken : (at : ℕ) (u : List ℕ) (e : ℕ) → Stands d at u e → take (length u) (drop at d) ≡ u
  taken at u e s = rw s.there (take_at u (drop e d) (length u) refl)

  -- r reads exactly what has P
  pub record Exact (r : ℕ → Option ℕ) (P : List ℕ → Type 0) : Type 0 where
    pub sound : (at e : ℕ) → at ≤ length d → r at ≡ Some e → (u : List ℕ) × P u × Stands d at u e
    pub complete : (u : List ℕ) (at e : ℕ) → P u → Stands d at u e → r at ≡ Some e

  -- the same, otherwise put
  pub swap : (r : ℕ → Option ℕ) (P Q : List ℕ → Type 0) → ((u : List ℕ) → P u → Q u) → ((u : List ℕ) → Q u → P u) → Exact r P → Exact r Q
  swap r P Q f g x = record { sound = λ at e h z. let (u, p, s) = x.sound at e h z in (u, f u p, s); complete = λ u at e q s. x.complete u at e (g u q) s }

-- a step backwards: what was there where it gave something
module _ {A Q : Type 0} {a : A} where
  pub when-some : (t : Bool) (o : Option A) → when t o ≡ Some a → (t ≡ true → o ≡ Some a → Q) → Q
  when-some true o e next = next refl e
  when-some false o e next = absurd (none-some a e)

  pub given-some : {X : Type 0} (o : Option X) (f : X → Option A) → given o f ≡ Some a → ((x : X) → o ≡ Some x → f x ≡ Some a → Q) → Q
  given-some None f e next = absurd (none-some a e)
  given-some (Some x) f e next = next x refl e

-- zeros
pub zeros_only : (z : List ℕ) → all_are 0 z ≡ true → z ≡ replicate (length z) 0
zeros_only [] h = refl
zeros_only (c ∷ z) h = rw (eqb-true c 0 (left _ h), ← zeros_only z (right (eqb c 0) h))

pub zeros_zero : (k : ℕ) → all_are 0 (replicate k 0) ≡ true
zeros_zero zero = refl
zeros_zero (suc k) = zeros_zero k

pub padded-long : (s : List ℕ) → length (padded s) ≡ whole_words (length s)
unfolding padded
padded-long s = simp (length-append, length-replicate) (omega arith)

module _ (d : List ℕ) (bytes : all is_byte d ≡ true) where
  part_bytes : (n : ℕ) (s : List ℕ) → all is_byte s ≡ true → all is_byte (take n s) ≡ true
  part_bytes n s h = left (all is_byte (drop n s)) (sym (all_append is_byte (take n s) (drop n s)) ∙ ap (all is_byte) (take-append-drop n s) ∙ h)

  rest-bytes : (n : ℕ) (s : List ℕ) → all is_byte s ≡ true → all is_byte (drop n s) ≡ true
  rest-bytes n s h = right (all is_byte (take n s)) (sym (all_append is_byte (take n s) (drop n s)) ∙ ap (all is_byte) (take-append-drop n s) ∙ h)

  pub bytes-at : (n at : ℕ) → all is_byte (take n (drop at d)) ≡ true
  bytes-at n at = part_bytes n (drop at d) (rest-bytes at d bytes)

  pub long-at : (n at : ℕ) → at + n ≤ length d → length (take n (drop at d)) ≡ n
  long-at n at h = length-take-le n (drop at d) (rw length-drop (omega arith))

  -- a word
  module _ (p : List ℕ → Bool) (P : List ℕ → Type 0) (to : (w : List ℕ) → length w ≡ 32 → all is_byte w ≡ true → p w ≡ true → P w) (from : (u : List ℕ) → P u → (length u ≡ 32) × (p u ≡ true)) where
    pub tested-exact : Exact d (tested d p) P
    unfolding tested
    tested-exact = record {
      sound = λ at e h q.
          when-some (has_word d at && p (word_at d at)) (Some (at + 32)) q (λ t z.
          let (i, g) = (and-eq-true_iff _ _).0 t in
          let room : at + 32 ≤ length d = leb-true _ _ i in
          let same_end : at + 32 ≡ e = same_Some _ _ z in
          (word_at d at, to (word_at d at) (long-at 32 at room) (bytes-at 32 at) g, rw same_end at (stands-take d at 32 room)));
      complete = λ u at e x s.
          let (long, g) = from u x in
          let here : take 32 (drop at d) ≡ u = rw long at (taken d at u e s) in
          let room : at + 32 ≤ length d = omega (arith, s.end, s.inside) in
          let done : at + 32 ≡ e = omega (arith, s.end) in
          rw (here, le-leb _ _ room, g) (ap Some done);
    }

  -- bytes with zeros behind them
  abbrev pub Padded : ℕ → List ℕ → Type 0
  Padded n u = (s : List ℕ) × (length s ≡ n) × (all is_byte s ≡ true) × (u ≡ padded s)

  pub filled-exact : (n : ℕ) → Exact d (filled d n) (Padded n)
  unfolding filled padded
  filled-exact n = record {
    sound = λ at e h q.
        let m : ℕ = whole_words n in
        when-some (leb (at + m) (length d) && all_are 0 (take (m - n) (drop (at + n) d))) (Some (at + m)) q (λ t z.
        let (i, g) = (and-eq-true_iff _ _).0 t in
        let room : at + m ≤ length d = leb-true _ _ i in
        let same_end : at + n + (m - n) ≡ e = omega (arith, same_Some _ _ z) in
        let s : List ℕ = take n (drop at d) in
        let long : length s ≡ n = long-at n at (omega arith) in
        let fill : take (m - n) (drop (at + n) d) ≡ replicate (m - n) 0 = zeros_only _ g ∙ ap (λ k. replicate k 0) (long-at (m - n) (at + n) (omega arith)) in
        let last = rw (fill, same_end) at (stands-take d (at + n) (m - n) (omega arith)) in
        (s ++ replicate (m - n) 0, (s, long, bytes-at n at, rw long), stands_join d at s (at + n) _ e (stands-take d at n (omega arith)) last));
    complete = λ u at e x st.
        let (s, long, b, same) = x in
        let m : ℕ = whole_words n in
        let st₁ : Stands d at (s ++ replicate (m - n) 0) e = rw (same, long) at st in
        let back = rw long at (stands-rest d at s (replicate (m - n) 0) e st₁) in
        let fill : take (m - n) (drop (at + n) d) ≡ replicate (m - n) 0 = rw length-replicate at (taken d (at + n) (replicate (m - n) 0) e back) in
        let done : at + m ≡ e = omega (arith, st₁.end, length-append s (replicate (m - n) 0), length-replicate {A = ℕ} (m - n) 0) in
        let room : at + m ≤ length d = omega (arith, st₁.inside) in
        rw (le-leb _ _ room, fill, zeros_zero (m - n)) (ap Some done);
  }
