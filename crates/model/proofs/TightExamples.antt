-- Tight records evaluated: the record of document 01 both ways, and bytes that are none.
-- Assumes nothing.
use mathlib.Core.Path.{◌≡◌, refl}
use mathlib.Core.List.{List, [], ◌∷◌, ◌++◌}
use Prim.Native.Nat.{ℕ}
use Rattle.kinds.specs.Bytes.{ascii}
use Rattle.model.specs.declared.Refusal.TheVariants.{NotWellFormed, NotTight}
use Rattle.model.specs.Answer.{writes, refuses}
use Rattle.model.specs.Tight.{decode_tight, tight_output, wide_output, canonical_tight_output, signature_tight_output, full_tight_output}
use Rattle.model.proofs.Evaluation.{evaluation}

unfoldable tights : Unit {0}
unfolding evaluation decode_tight tight_output wide_output canonical_tight_output signature_tight_output full_tight_output
tights = tt

-- of `function f(uint a)`
old : List ℕ
old =
    0x32 ∷ 0 ∷ 0 ∷ 0 ∷ 0x20 ∷ 0 ∷ 2 ∷ 0 ∷ 0x07 ∷ 0 ∷ 0 ∷ 0 ∷ 0x11 ∷ 0 ∷ 0x66 ∷ 0x1D ∷ 0 ∷ 0 ∷ 0 ∷ 0x12 ∷ 0 ∷ 0x17 ∷ 0 ∷ 0 ∷ 0 ∷ 0x10 ∷ 0 ∷ 0 ∷ 0
    ∷ 0x07 ∷ 0 ∷ 0 ∷ 0 ∷ 0x11 ∷ 0 ∷ 0x61 ∷ 0x08 ∷ 0 ∷ 0 ∷ 0 ∷ 2 ∷ 0 ∷ 0 ∷ 1 ∷ 0x06 ∷ 0 ∷ 0 ∷ 0 ∷ 0x12 ∷ 0 ∷ []

tight : List ℕ
tight =
    0x24 ∷ 0 ∷ 0x20 ∷ 0 ∷ 2 ∷ 0 ∷ 0x05 ∷ 0 ∷ 0x11 ∷ 0 ∷ 0x66 ∷ 0x15 ∷ 0 ∷ 0x12 ∷ 0 ∷ 0x11 ∷ 0 ∷ 0x10 ∷ 0 ∷ 0 ∷ 0
    ∷ 0x05 ∷ 0 ∷ 0x11 ∷ 0 ∷ 0x61 ∷ 0x06 ∷ 0 ∷ 2 ∷ 0 ∷ 0 ∷ 1 ∷ 0x04 ∷ 0 ∷ 0x12 ∷ 0 ∷ []

narrowed : tight_output old ≡ writes tight
unfolding tights old tight
narrowed = refl

widened : wide_output tight ≡ writes old
unfolding tights old tight
widened = refl

canonical-text : canonical_tight_output tight ≡ writes (ascii "f(uint256)")
unfolding tights tight
canonical-text = refl

signature-text : signature_tight_output tight ≡ writes (ascii "f(uint256):()")
unfolding tights tight
signature-text = refl

full-text : full_tight_output tight ≡ writes (ascii "function f(uint256 a)")
unfolding tights tight
full-text = refl

-- one layout handed in as the other
old_as_tight : wide_output old ≡ refuses NotTight 0
unfolding tights old
old_as_tight = refl

tight_as_old : tight_output tight ≡ refuses NotWellFormed 0
unfolding tights tight
tight_as_old = refl

-- no bytes, and a byte too many
no_bytes : wide_output [] ≡ refuses NotTight 0
unfolding tights
no_bytes = refl

byte-behind : canonical_tight_output (tight ++ (0 ∷ [])) ≡ refuses NotTight 0
unfolding tights tight
byte-behind = refl

-- "it is for single declarations only": a tight field, and the tight form of an empty sheet
field-alone : full_tight_output (0x0E ∷ 0 ∷ 0x10 ∷ 0 ∷ 0 ∷ 0 ∷ 0x04 ∷ 0 ∷ 0x11 ∷ 0 ∷ 0x04 ∷ 0 ∷ 0x04 ∷ 0 ∷ []) ≡ refuses NotTight 0
unfolding tights
field-alone = refl

sheet-alone : wide_output (0x04 ∷ 0 ∷ 0x30 ∷ 0 ∷ []) ≡ refuses NotTight 0
unfolding tights
sheet-alone = refl
