-- The definitions at examples, computed.
-- Assumes nothing.
use mathlib.Core.Path.{◌≡◌, refl}
use mathlib.Core.Bool.{true, false}
use mathlib.Core.List.{[], ◌∷◌, map}
use Rattle.std.specs.Prelude.{None, Some}
use Prim.Native.Nat.{◌-◌, ◌^◌}
use Rattle.kinds.specs.Bytes.{ascii}
use Rattle.kinds.specs.Decimal.{digits, decimal, unsigned, plain, number}
use Rattle.kinds.specs.Kind.{bits, is_bit_width, is_byte_length, uint, address, bool, sized, unsized, elementary, tuple, array, no_kind, more_kinds, elementary_text, suffix_text, kind_text, canonical}

-- "a width divisible by 8 from 8 to 256"
widths : map is_bit_width (0 ∷ 8 ∷ 12 ∷ 256 ∷ 264 ∷ []) ≡ false ∷ true ∷ false ∷ true ∷ false ∷ []
widths = refl

-- "a length from 1 to 32"
byte-lengths : map is_byte_length (0 ∷ 1 ∷ 32 ∷ 33 ∷ []) ≡ false ∷ true ∷ true ∷ false ∷ []
byte-lengths = refl

-- "an array length is at most 2^64 - 1"
largest : decimal (2 ^ 64 - 1) ≡ ascii "18446744073709551615"
unfolding decimal digits
largest = refl

-- order 7: "no sign and no leading zero, `0` itself excepted"; and a limit counts the value
numbers : map (number 256) (ascii "256" ∷ ascii "257" ∷ ascii "0" ∷ ascii "10" ∷ ascii "8" ∷ ascii "08" ∷ ascii "00" ∷ ascii "00008" ∷ ascii "+8" ∷ ascii "-8" ∷ ascii "+" ∷ ascii "" ∷ []) ≡ Some 256 ∷ None ∷ Some 0 ∷ Some 10 ∷ Some 8 ∷ None ∷ None ∷ None ∷ None ∷ None ∷ None ∷ None ∷ []
unfolding number plain unsigned
numbers = refl

-- of digits alone leading zeros do not count
plain-numbers : map (plain 256) (ascii "8" ∷ ascii "008" ∷ ascii "+8" ∷ []) ≡ Some 8 ∷ Some 8 ∷ None ∷ []
unfolding plain unsigned
plain-numbers = refl

-- f(uint256,(bool,address)[2][],())
nested : canonical (record {
  name = ascii "f";
  kinds = more_kinds (elementary (uint (bits 256))) (more_kinds (array (array (tuple (more_kinds (elementary bool) (more_kinds (elementary address) no_kind))) (sized 2)) unsized) (more_kinds (tuple no_kind) no_kind));
}) ≡ ascii "f(uint256,(bool,address)[2][],())"
unfolding canonical kind_text elementary_text suffix_text decimal digits
nested = refl
