-- Names, measured and written.
-- Assumes nothing.
use mathlib.Core.Path.{◌≡◌, refl}
use mathlib.Core.List.{List, [], ◌∷◌}
use Prim.Native.Nat.{ℕ, ◌+◌, ◌-◌, ◌≤◌}
use native.Mathlib.Omega.{arith}
use lib.ListN.{length, set}
use borrow.Rule.Slice.PartMut.{put_mid}
use Rattle.model.specs.Written.{name_text}
use Rattle.abi.specs.Writes.{Put}
use Rattle.abi.proofs.Going.{part, byte-then}

pub name-none : (nm out : List ℕ) → length nm ≡ 0 → Put (name_text nm) out out 0
name-none [] out h = record { same = refl; long = refl }
name-none (c ∷ w) out h = absurd (omega arith)

pub name-put : (nm out s : List ℕ) (r : ℕ) → (length nm ≡ 0 → ⊥) → length (name_text nm) ≤ length out → Put nm (part (set out 0 32) 1) s r
    → Put (name_text nm) out (put_mid 1 (length (set out 0 32) - 1) (set out 0 32) s) (1 + r)
name-put [] out s r n h i = absurd (n refl)
name-put (c ∷ w) out s r n h i = byte-then 32 (c ∷ w) out s r (omega (arith, h)) i
