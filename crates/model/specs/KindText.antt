-- A kind from its whole text, as `ValueKind::from_str` reads it.
-- Assumes nothing.
use Rattle.std.specs.Prelude.{Bool, true, false, List, [], ◌∷◌, ◌++◌, ℕ, zero, suc, ◌-◌, ◌^◌, eqb, length, take, drop, Option, None, Some}
use Rattle.kinds.specs.Bytes.{ascii, lbracket, rbracket, same}
use Rattle.kinds.specs.Decimal.{number}
use Rattle.kinds.specs.Kind.{BitWidth, bits, octets, is_bit_width, is_byte_length, Elementary, int, uint, fixed_bytes, address, bool, function, bytes, string, Suffix, sized, unsized}
use Rattle.model.specs.declared.Refusal.{Refusal}
use Rattle.model.specs.declared.Refusal.TheVariants.{InvalidBitWidth, InvalidByteLength, Unknown}

-- what was read, or why not
pub data Result (A : Type 0) : Type 0 where
  ok : A → Result A
  err : Refusal → Result A

abbrev pub on_result : {A B : Type 0} → (A → B) → Result A → Result B
on_result f (ok a) = ok (f a)
on_result f (err w) = err w

-- a word and what it stands for
pub data Entry (A : Type 0) : Type 0 where
  entry : List ℕ → A → Entry A

abbrev pub lookup : {A : Type 0} → List (Entry A) → List ℕ → Option A
lookup [] w = None
lookup (entry v a ∷ es) w = elim (same v w) [ true ↦ Some a | false ↦ lookup es w ]

-- "`int`, `uint` (width 256), `address`, `bool`, `function`, `bytes`, `string`"
abbrev pub kind_words : List (Entry Elementary)
kind_words =
    entry (ascii "int") (int (bits 256))
    ∷ entry (ascii "uint") (uint (bits 256))
    ∷ entry (ascii "address") address
    ∷ entry (ascii "bool") bool
    ∷ entry (ascii "function") function
    ∷ entry (ascii "bytes") bytes
    ∷ entry (ascii "string") string
    ∷ []

-- the text before the last byte d, and the text behind it: "the last `[`"
pub data Cut : Type 0 where
  cut : List ℕ → List ℕ → Cut
  uncut : Cut

abbrev pub cut_after : ℕ → List ℕ → Bool → Cut → Cut
cut_after c s here (cut a b) = cut (c ∷ a) b
cut_after c s true uncut = cut [] s
cut_after c s false uncut = uncut

unfoldable pub cut_last : ℕ → List ℕ → Cut
cut_last d [] = uncut
cut_last d (c ∷ s) = cut_after c s (eqb d c) (cut_last d s)

-- the text without its last byte, which must be d
abbrev pub strip_step : ℕ → ℕ → List ℕ → Option (List ℕ) → Option (List ℕ)
strip_step d c [] r = elim (eqb d c) [ true ↦ Some [] | false ↦ None ]
strip_step d c (b ∷ s) None = None
strip_step d c (b ∷ s) (Some w) = Some (c ∷ w)

unfoldable pub strip : ℕ → List ℕ → Option (List ℕ)
strip d [] = None
strip d (c ∷ s) = strip_step d c s (strip d s)

-- "an array length is at most 2^64 - 1"
abbrev pub longest : ℕ
longest = 2 ^ 64 - 1

-- what stands between `[` and `]`, "a tuple's suffix included": nothing, or a number
abbrev pub sized_by : Option ℕ → Option Suffix
sized_by None = None
sized_by (Some n) = Some (sized n)

unfoldable pub inside : List ℕ → Option Suffix
inside [] = Some unsized
inside (c ∷ s) = sized_by (number longest (c ∷ s))

abbrev pub shut : Option (List ℕ) → Option Suffix
shut None = None
shut (Some m) = inside m

-- "a rest followed by `[]`; a rest followed by `[`, number, `]` (last `[`)"
pub data Peeled : Type 0 where
  peeled : List ℕ → Suffix → Peeled
  bare : Peeled

abbrev pub peel_by : List ℕ → Option Suffix → Peeled
peel_by a None = bare
peel_by a (Some o) = peeled a o

abbrev pub peel_at : Cut → Peeled
peel_at uncut = bare
peel_at (cut a b) = peel_by a (shut (strip rbracket b))

unfoldable pub peel : List ℕ → Peeled
peel t = peel_at (cut_last lbracket t)

-- whether a text begins with w
abbrev pub starts : List ℕ → List ℕ → Bool
starts w t = same w (take (length w) t)

-- "a width divisible by 8 from 8 to 256"
abbrev pub width : (BitWidth → Elementary) → Option ℕ → Result Elementary
width f None = err InvalidBitWidth
width f (Some n) = elim (is_bit_width n) [ true ↦ ok (f (bits n)) | false ↦ err InvalidBitWidth ]

-- "`bytes` with a length from 1 to 32"
abbrev pub byte_length : Option ℕ → Result Elementary
byte_length None = err InvalidByteLength
byte_length (Some n) = elim (is_byte_length n) [ true ↦ ok (fixed_bytes (octets n)) | false ↦ err InvalidByteLength ]

-- "11 if it starts with `int` or `uint`, 12 if with `bytes`, 13 otherwise"
unfoldable pub with_number : List ℕ → Result Elementary
with_number t =
    elim (starts (ascii "int") t) [
      | true ↦ width int (number 256 (drop 3 t))
      | false ↦
          elim (starts (ascii "uint") t) [
            | true ↦ width uint (number 256 (drop 4 t))
            | false ↦ elim (starts (ascii "bytes") t) [ true ↦ byte_length (number 32 (drop 5 t)) | false ↦ err Unknown ]
          ]
    ]

-- a text without suffixes: a word, or a word with a number
abbrev pub or_number : List ℕ → Option Elementary → Result Elementary
or_number t (Some e) = ok e
or_number t None = with_number t

unfoldable pub elementary_of : List ℕ → Result Elementary
elementary_of t = or_number t (lookup kind_words t)

-- an elementary kind and its suffixes, innermost first
pub record Spelled : Type 0 where
  pub kind : Elementary
  pub suffixes : List Suffix

abbrev pub add_suffix : Suffix → Spelled → Spelled
add_suffix o k = record { kind = k.kind; suffixes = k.suffixes ++ (o ∷ []) }

abbrev pub unsuffixed : Elementary → Spelled
unsuffixed e = record { kind = e; suffixes = [] }

-- one step, where inner reads what a suffix follows: "read in this order as `ValueKind::from_str` does"
abbrev pub from_str_by : (List ℕ → Result Spelled) → List ℕ → Option Elementary → Peeled → Result Spelled
from_str_by inner t (Some e) p = ok (unsuffixed e)
from_str_by inner t None (peeled a o) = on_result (add_suffix o) (inner a)
from_str_by inner t None bare = on_result unsuffixed (with_number t)

-- k bounds the suffixes
unfoldable pub from_str_in : ℕ → List ℕ → Result Spelled
from_str_in zero t = err Unknown
from_str_in (suc k) t = from_str_by (λ a. from_str_in k a) t (lookup kind_words t) (peel t)

-- a suffix takes two bytes at least, so a text has fewer than it has bytes
unfoldable pub from_str : List ℕ → Result Spelled
from_str t = from_str_in (suc (length t)) t
