-- What a lent buffer holds after bytes were put into it.
-- Assumes nothing.
use Rattle.std.specs.Prelude.{◌≡◌, List, ◌++◌, ℕ, ◌+◌, ◌-◌, length, take, drop}
use Rattle.model.specs.Layout.{little_endian}

-- the bytes u in the place of those at o
unfoldable pub put : ℕ → List ℕ → List ℕ → List ℕ
put o u b = take o b ++ (u ++ drop (o + length u) b)

-- the bytes u before those from `at` up to `end`
unfoldable pub inserted : ℕ → ℕ → List ℕ → List ℕ → List ℕ
inserted at end u b = put at (u ++ take (end - at) (drop at b)) b

-- the head of a record: its whole length in 4 bytes, and its kind
unfoldable pub head : ℕ → ℕ → List ℕ
head n k = little_endian 4 n ++ little_endian 2 k

-- the front of a field's record: its head, its mark and the head of its name, for a name of m bytes and a kind of l
unfoldable pub front_of : ℕ → ℕ → ℕ → List ℕ
front_of mark m l = head (14 + m + l) 0x10 ++ (little_endian 2 mark ++ head (6 + m) 0x11)

-- b is b₀ with the bytes u at o, and before o as it was. What follows them is not told
pub record Wrote (o : ℕ) (b₀ b u : List ℕ) : Type 0 where
  pub size : length b ≡ length b₀
  pub keep : take o b ≡ take o b₀
  pub front : take (o + length u) b ≡ take o b₀ ++ u
