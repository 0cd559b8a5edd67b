-- A text that is written part by part: what stands of it, and that there is room for what is left.
-- Assumes nothing.
use mathlib.Core.Path.{◌≡◌, refl, sym, ◌∙◌, ap}
use mathlib.Core.List.{List, [], ◌∷◌, ◌++◌, append_assoc}
use Prim.Native.Nat.{ℕ, ◌+◌, ◌-◌, ◌≤◌, ◌<◌}
use native.Mathlib.Omega.{arith}
use lib.ListN.{length, take, drop, set, length-append, length-drop}
use borrow.Rule.Slice.PartMut.{put_mid}
use Rattle.model.proofs.Scans.{part-rest}
use Rattle.abi.specs.Writes.{Put}
use Rattle.abi.proofs.Puts.{put_size, put-both, put-byte}

-- what is lent of b from n on
abbrev pub part : List ℕ → ℕ → List ℕ
part b n = take (length b - n) (drop n b)

module _ (u b b₁ : List ℕ) (n : ℕ) (i : Put u b b₁ n) where
  pub put-then : (v s : List ℕ) (m : ℕ) → Put v (part b₁ n) s m → Put (u ++ v) b (put_mid n (length b₁ - n) b₁ s) (n + m)
  put-then v s m j = put-both u b b₁ n i v s m j

-- a byte, and a part behind it
pub byte-then : (c : ℕ) (v b s : List ℕ) (m : ℕ) → 0 < length b → Put v (part (set b 0 c) 1) s m
    → Put (c ∷ v) b (put_mid 1 (length (set b 0 c) - 1) (set b 0 c) s) (1 + m)
byte-then c v b s m h i = put-then (c ∷ []) b (set b 0 c) 1 (put-byte [] b b 0 (record { same = refl; long = refl }) c h) v s m i

-- Of a text there stands a beginning, and there is room for what is left of it.
pub record Going (whole b left b₁ : List ℕ) (n : ℕ) : Type 0 where
  pub done : List ℕ
  pub split : whole ≡ done ++ left
  pub put : Put done b b₁ n
  pub room : length whole ≤ length b

pub going_start : (u b : List ℕ) → length u ≤ length b → Going u b u b 0
going_start u b h = record { done = []; split = refl; put = record { same = refl; long = refl }; room = h }

pub going-first : (u left b b₁ : List ℕ) (n : ℕ) → length (u ++ left) ≤ length b → Put u b b₁ n → Going (u ++ left) b left b₁ n
going-first u left b b₁ n h i = record { done = u; split = refl; put = i; room = h }

module _ (whole b left b₁ : List ℕ) (n : ℕ) (g : Going whole b left b₁ n) where
  pub going-fits : n + length left ≤ length b₁
  going-fits = let e = put_size g.done b b₁ n g.put (omega (arith, g.room, ap length g.split, length-append g.done left)) in
      omega (arith, g.room, ap length g.split, length-append g.done left, e, g.put.long)

  pub going-room : length left ≤ length (part b₁ n)
  going-room = omega (arith, going-fits, ap length (part-rest b₁ n), length-drop n b₁)

  pub going-last : (s : List ℕ) (m : ℕ) → Put left (part b₁ n) s m → Put whole b (put_mid n (length b₁ - n) b₁ s) (n + m)
  going-last s m i = rw g.split (put-then g.done b b₁ n g.put left s m i)

module _ (whole b u left b₁ : List ℕ) (n : ℕ) (g : Going whole b (u ++ left) b₁ n) where
  pub going-space : length u ≤ length (part b₁ n)
  going-space = omega (arith, going-room whole b (u ++ left) b₁ n g, length-append u left)

  pub going-next : (s : List ℕ) (m : ℕ) → Put u (part b₁ n) s m → Going whole b left (put_mid n (length b₁ - n) b₁ s) (n + m)
  going-next s m i = record {
    done = g.done ++ u;
    split = g.split ∙ sym (append_assoc g.done u left);
    put = put-then g.done b b₁ n g.put u s m i;
    room = g.room;
  }

module _ (whole b : List ℕ) (c : ℕ) (left b₁ : List ℕ) (n : ℕ) (g : Going whole b (c ∷ left) b₁ n) where
  pub going-byte : Going whole b left (set b₁ n c) (n + 1)
  going-byte = record {
    done = g.done ++ (c ∷ []);
    split = g.split ∙ sym (append_assoc g.done (c ∷ []) left);
    put = put-byte g.done b b₁ n g.put c (omega (arith, g.room, ap length g.split, length-append g.done (c ∷ left)));
    room = g.room;
  }
