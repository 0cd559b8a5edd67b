-- Texts put in at the front, one behind the other.
-- Assumes nothing.
use mathlib.Core.Path.{◌≡◌, refl, sym, ◌∙◌, ap}
use mathlib.Core.List.{List, [], ◌∷◌, ◌++◌, append_assoc, append-nil}
use Rattle.std.specs.Prelude.{Option, Some}
use Rattle.std.proofs.lemmas.Option.{same_Some}
use Prim.Native.Nat.{ℕ, ◌+◌, ◌-◌, ◌≤◌, ◌<◌}
use native.Mathlib.Nat.{zero-add}
use native.Mathlib.Omega.{arith}
use lib.ListN.{length, take, drop, set, length-append, length-drop, drop_of_length-le}
use lib.Seq.{sets-eq, take_at, drop_at, drop-drop}
use borrow.Rule.Slice.PartMut.{put_mid}
use Rattle.kinds.specs.Decimal.{decimal, digits}
use Rattle.model.proofs.Scans.{part-rest}
use Rattle.layout.specs.Buffer.{put}
use Rattle.abi.specs.Writes.{Put, Room, Wrote}

-- nothing, and a word
pub put_none : (b : List ℕ) → Put [] b b 0
put_none b = record { same = refl; long = refl }

pub put_word : (u b b₁ : List ℕ) → b₁ ≡ put 0 u b → Put u b b₁ (length u)
unfolding put
put_word u b b₁ e = record { same = e ∙ rw zero-add; long = refl }

-- what stands behind a text that was put in, and what is put in there
module _ (u b b₁ : List ℕ) (n : ℕ) (p : Put u b b₁ n) where
  pub put_size : length u ≤ length b → length b₁ ≡ length b
  put_size h = ap length p.same ∙ length-append u (drop (length u) b) ∙ omega (arith, length-drop (length u) b)

  -- there is room for what the two need
  pub behind-room : (v : List ℕ) → length (u ++ v) ≤ length b → length v ≤ length (take (length b₁ - n) (drop n b₁))
  behind-room v h = let l = length-append u v in rw part-rest (omega (arith, length-drop n b₁, put_size (omega arith), p.long))

  pub put-inside : length u ≤ length b → n ≤ length b₁
  put-inside h = omega (arith, p.long, put_size h)

  before : take n b₁ ≡ u
  before = rw (p.long, p.same) (take_at u (drop (length u) b) (length u) refl)

  past : (k : ℕ) → drop k (drop n b₁) ≡ drop (length u + k) b
  past k = rw (p.long, p.same, drop_at u (drop (length u) b) (length u) refl) (drop-drop k (length u) b)

  joined : (v : List ℕ) → take n b₁ ++ (v ++ drop (length v) (drop n b₁)) ≡ (u ++ v) ++ drop (length (u ++ v)) b
  joined v = rw (before, past (length v), length-append) (sym (append_assoc u v (drop (length u + length v) b)))

  -- a text behind a text
  pub put-both : (v c : List ℕ) (m : ℕ) → Put v (take (length b₁ - n) (drop n b₁)) c m → Put (u ++ v) b (put_mid n (length b₁ - n) b₁ c) (n + m)
  put-both v c m q =
      let e : c ≡ v ++ drop (length v) (drop n b₁) = rw part-rest at q.same in
      let none : drop (length b₁ - n) (drop n b₁) ≡ [] = drop_of_length-le (drop n b₁) (rw length-drop (omega arith)) in
      record { same = rw (none, append-nil, e) (joined v); long = omega (arith, p.long, q.long, length-append u v) }

  -- a byte behind a text
  pub behind-byte : length u < length b → n < length b₁
  behind-byte h = omega (arith, p.long, put_size (omega arith))

  pub put-byte : (x : ℕ) → length u < length b → Put (u ++ (x ∷ [])) b (set b₁ n x) (n + 1)
  put-byte x h = record {
    same = sets-eq (x ∷ []) b₁ n (omega (arith, p.long, put_size (omega arith))) ∙ append_assoc (take n b₁) (x ∷ []) (drop (n + 1) b₁) ∙ rw (← drop-drop) (joined (x ∷ []));
    long = omega (arith, p.long, length-append u (x ∷ []));
  }

-- the text is known
module _ (t : Option (List ℕ)) (u : List ℕ) (e : t ≡ Some u) where
  pub wrote-text : (b b₁ : List ℕ) (r : ℕ) → Put u b b₁ r → Wrote t b b₁ r
  wrote-text b b₁ r p v f = rw (same_Some _ _ (sym f ∙ e)) p

  pub room-text : (b : List ℕ) → Room t b → length u ≤ length b
  room-text b q = rw (same_Some _ _ (sym e ∙ q.same)) q.room

-- the width of most integers
pub usual-width : (v : ℕ) → v ≡ 256 → decimal v ≡ 50 ∷ 53 ∷ 54 ∷ []
unfolding decimal digits
usual-width v e = rw e refl
