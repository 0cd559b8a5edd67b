-- What the enums for elementary kinds say, by the definitions.
-- Assumes nothing.
use Rattle.std.specs.Prelude.{List, [], ◌∷◌, ℕ, Option, None, Some, Result as StdResult, Ok, Err}
use Rattle.std.specs.Option.{option_and_then}
use Rattle.kinds.specs.Bytes.{ascii}
use Rattle.kinds.specs.Kind.{bits, octets, is_bit_width, is_byte_length, Elementary, int, uint, fixed_bytes, address, bool, function, bytes, string}
use Rattle.kinds.specs.Decimal.{number}
use Rattle.sizes.specs.Checked.{checked}
use Rattle.model.specs.declared.Refusal.{Refusal}
use Rattle.model.specs.Layout.{little_endian}
use Rattle.model.specs.KindText.{Result, ok, err, Entry, entry}
use Rattle.value.specs.declared.Base.{Base}
use Rattle.value.specs.declared.Base.TheVariants as base

unfoldable pub to_elementary : Base → Elementary
to_elementary (base.Int w) = int (bits w)
to_elementary (base.Uint w) = uint (bits w)
to_elementary base.Address = address
to_elementary base.Bool = bool
to_elementary (base.FixedBytes n) = fixed_bytes (octets n)
to_elementary base.Function = function
to_elementary base.Bytes = bytes
to_elementary base.String = string

unfoldable pub to_result : StdResult Base Refusal → Result Elementary
to_result (Ok b) = ok (to_elementary b)
to_result (Err w) = err w

-- the width behind `int` or `uint`: 256 where there is none
unfoldable pub width_behind : List ℕ → Option ℕ
width_behind [] = Some 256
width_behind (c ∷ t) = option_and_then (checked is_bit_width) (number 256 (c ∷ t))

-- the length behind `bytes`
unfoldable pub length_behind : List ℕ → Option ℕ
length_behind t = option_and_then (checked is_byte_length) (number 32 t)

-- the words that are kinds by themselves, apart from `int` and `uint`
abbrev pub words : List (Entry Elementary)
words =
    entry (ascii "address") address
    ∷ entry (ascii "bool") bool
    ∷ entry (ascii "function") function
    ∷ entry (ascii "bytes") bytes
    ∷ entry (ascii "string") string
    ∷ []

-- the body of an elementary kind's record: a width or a length, or nothing
unfoldable pub number_bytes : Option ℕ → List ℕ
number_bytes None = []
number_bytes (Some n) = little_endian 2 n
