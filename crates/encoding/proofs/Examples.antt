-- The ABI Specification's worked calls, section Examples and section Use of Dynamic Types, and places where readers of the Specification differ,
-- computed.
-- Assumes nothing.
use mathlib.Core.Path.{◌≡◌, refl}
use mathlib.Core.Bool.{Bool, true, false}
use mathlib.Core.List.{List, [], ◌∷◌, ◌++◌, map}
use Prim.Native.Nat.{ℕ, ◌+◌, ◌*◌, ◌-◌, ◌^◌}
use Prim.Native.String.{String}
use lib.Dec.{ltb}
use Rattle.kinds.specs.Bytes.{ascii}
use Rattle.kinds.specs.Kind.{bits, octets, uint, int, fixed_bytes, bool, bytes, string, sized, unsized, Kind, elementary, tuple, array, Kinds, no_kind, more_kinds}
use Rattle.encoding.specs.Dynamic.{is_dynamic, is_open_ended, static_length, head_length, head_lengths, heads_length}
use Rattle.encoding.specs.Words.{big_endian, word, padded}
use Rattle.encoding.specs.Values.{Value, natural, text, members, Values, no_value, more_values, count}
use Rattle.encoding.specs.Encoding.{head, tail, head_list, joined, heads, tails, heads_long, assembled, part_each, enc_elementary, enc, parts}
use Rattle.encoding.specs.Judge.{sign_byte, is_word_of, tested, filled, string_at, leaf, follow, group, end_of, slots, is_encoding}

-- bytes as the Specification prints them
abbrev digit : ℕ → ℕ
digit c = elim (ltb c 58) [ true ↦ c - 48 | false ↦ c - 87 ]

abbrev pairs : List ℕ → List ℕ
pairs [] = []
pairs (a ∷ []) = []
pairs (a ∷ b ∷ s) = (digit a * 16 + digit b) ∷ pairs s

abbrev hex : String → List ℕ
hex s = pairs (ascii s)

abbrev u256 : Kind
u256 = elementary (uint (bits 256))

abbrev u32 : Kind
u32 = elementary (uint (bits 32))

-- kinds and values of up to four members
abbrev kinds : List Kind → Kinds
kinds [] = no_kind
kinds (k ∷ ks) = more_kinds k (kinds ks)

abbrev several : List Value → Values
several [] = no_value
several (v ∷ vs) = more_values v (several vs)

abbrev items : List Value → Value
items vs = members (several vs)

abbrev said : String → Value
said s = text (ascii s)

-- baz(uint32,bool) with 69 and true
abbrev baz : Kinds
baz = kinds (u32 ∷ elementary bool ∷ [])

abbrev baz_data : List ℕ
baz_data =
    hex "0000000000000000000000000000000000000000000000000000000000000045"
    ++ hex "0000000000000000000000000000000000000000000000000000000000000001"

-- bar(bytes3[2]) with abc and def
abbrev bar : Kinds
bar = kinds (array (elementary (fixed_bytes (octets 3))) (sized 2) ∷ [])

abbrev bar_data : List ℕ
bar_data =
    hex "6162630000000000000000000000000000000000000000000000000000000000"
    ++ hex "6465660000000000000000000000000000000000000000000000000000000000"

-- sam(bytes,bool,uint256[]) with dave, true and [1,2,3]
abbrev sam : Kinds
sam = kinds (elementary bytes ∷ elementary bool ∷ array u256 unsized ∷ [])

abbrev sam_data : List ℕ
sam_data =
    hex "0000000000000000000000000000000000000000000000000000000000000060"
    ++ hex "0000000000000000000000000000000000000000000000000000000000000001"
    ++ hex "00000000000000000000000000000000000000000000000000000000000000a0"
    ++ hex "0000000000000000000000000000000000000000000000000000000000000004"
    ++ hex "6461766500000000000000000000000000000000000000000000000000000000"
    ++ hex "0000000000000000000000000000000000000000000000000000000000000003"
    ++ hex "0000000000000000000000000000000000000000000000000000000000000001"
    ++ hex "0000000000000000000000000000000000000000000000000000000000000002"
    ++ hex "0000000000000000000000000000000000000000000000000000000000000003"

-- f(uint256,uint32[],bytes10,bytes) with 0x123, [0x456, 0x789], the bytes 1234567890 and Hello, world!
abbrev f : Kinds
f = kinds (u256 ∷ array u32 unsized ∷ elementary (fixed_bytes (octets 10)) ∷ elementary bytes ∷ [])

abbrev f_data : List ℕ
f_data =
    hex "0000000000000000000000000000000000000000000000000000000000000123"
    ++ hex "0000000000000000000000000000000000000000000000000000000000000080"
    ++ hex "3132333435363738393000000000000000000000000000000000000000000000"
    ++ hex "00000000000000000000000000000000000000000000000000000000000000e0"
    ++ hex "0000000000000000000000000000000000000000000000000000000000000002"
    ++ hex "0000000000000000000000000000000000000000000000000000000000000456"
    ++ hex "0000000000000000000000000000000000000000000000000000000000000789"
    ++ hex "000000000000000000000000000000000000000000000000000000000000000d"
    ++ hex "48656c6c6f2c20776f726c642100000000000000000000000000000000000000"

-- g(uint256[][],string[]) with [[1, 2], [3]] and [one, two, three]
abbrev g : Kinds
g = kinds (array (array u256 unsized) unsized ∷ array (elementary string) unsized ∷ [])

abbrev g_data : List ℕ
g_data =
    hex "0000000000000000000000000000000000000000000000000000000000000040"
    ++ hex "0000000000000000000000000000000000000000000000000000000000000140"
    ++ hex "0000000000000000000000000000000000000000000000000000000000000002"
    ++ hex "0000000000000000000000000000000000000000000000000000000000000040"
    ++ hex "00000000000000000000000000000000000000000000000000000000000000a0"
    ++ hex "0000000000000000000000000000000000000000000000000000000000000002"
    ++ hex "0000000000000000000000000000000000000000000000000000000000000001"
    ++ hex "0000000000000000000000000000000000000000000000000000000000000002"
    ++ hex "0000000000000000000000000000000000000000000000000000000000000001"
    ++ hex "0000000000000000000000000000000000000000000000000000000000000003"
    ++ hex "0000000000000000000000000000000000000000000000000000000000000003"
    ++ hex "0000000000000000000000000000000000000000000000000000000000000060"
    ++ hex "00000000000000000000000000000000000000000000000000000000000000a0"
    ++ hex "00000000000000000000000000000000000000000000000000000000000000e0"
    ++ hex "0000000000000000000000000000000000000000000000000000000000000003"
    ++ hex "6f6e650000000000000000000000000000000000000000000000000000000000"
    ++ hex "0000000000000000000000000000000000000000000000000000000000000003"
    ++ hex "74776f0000000000000000000000000000000000000000000000000000000000"
    ++ hex "0000000000000000000000000000000000000000000000000000000000000005"
    ++ hex "7468726565000000000000000000000000000000000000000000000000000000"

-- kinds with data
data Case : Type 0 where
  of : Kinds → List ℕ → Case

abbrev verdict : Case → Bool
verdict (of ks d) = is_encoding ks d

-- the values above, encoded
baz_encoded : enc (tuple baz) (items (natural 69 ∷ natural 1 ∷ [])) ≡ baz_data
unfolding enc assembled heads head_list joined head tail tails heads_long parts part_each enc_elementary padded count is_dynamic is_open_ended word big_endian
baz_encoded = refl

bar_encoded : enc (tuple bar) (items (items (said "abc" ∷ said "def" ∷ []) ∷ [])) ≡ bar_data
unfolding enc assembled heads head_list joined head tail tails heads_long parts part_each enc_elementary padded count is_dynamic is_open_ended word big_endian
bar_encoded = refl

sam_encoded : enc (tuple sam) (items (said "dave" ∷ natural 1 ∷ items (natural 1 ∷ natural 2 ∷ natural 3 ∷ []) ∷ [])) ≡ sam_data
unfolding enc assembled heads head_list joined head tail tails heads_long parts part_each enc_elementary padded count is_dynamic is_open_ended word big_endian
sam_encoded = refl

f_encoded : enc (tuple f) (items (natural 0x123 ∷ items (natural 0x456 ∷ natural 0x789 ∷ []) ∷ said "1234567890" ∷ said "Hello, world!" ∷ [])) ≡ f_data
unfolding enc assembled heads head_list joined head tail tails heads_long parts part_each enc_elementary padded count is_dynamic is_open_ended word big_endian
f_encoded = refl

g_encoded : enc (tuple g) (items (items (items (natural 1 ∷ natural 2 ∷ []) ∷ items (natural 3 ∷ []) ∷ []) ∷ items (said "one" ∷ said "two" ∷ said "three" ∷ []) ∷ [])) ≡ g_data
unfolding enc assembled heads head_list joined head tail tails heads_long parts part_each enc_elementary padded count is_dynamic is_open_ended word big_endian
g_encoded = refl

-- judged without the four bytes that the Specification prints before them, and with them
as_printed : map verdict (of baz baz_data ∷ of bar bar_data ∷ of sam sam_data ∷ of f f_data ∷ of g g_data ∷ []) ≡ true ∷ true ∷ true ∷ true ∷ true ∷ []
unfolding is_encoding end_of slots group follow leaf string_at filled tested is_word_of sign_byte static_length head_length heads_length is_dynamic is_open_ended word big_endian
as_printed = refl

with_selector : map verdict (of baz (hex "cdcd77c0" ++ baz_data) ∷ of bar (hex "fce353f6" ++ bar_data) ∷ of sam (hex "a5643bf2" ++ sam_data) ∷ of f (hex "8be65246" ++ f_data) ∷ of g (hex "2289b18c" ++ g_data) ∷ []) ≡ false ∷ false ∷ false ∷ false ∷ false ∷ []
unfolding is_encoding end_of slots group follow leaf string_at filled tested is_word_of sign_byte static_length head_length heads_length is_dynamic is_open_ended word big_endian
with_selector = refl

-- words of data
abbrev w : List ℕ → List ℕ
w [] = []
w (n ∷ ns) = word n ++ w ns

-- `string[0]` is dynamic: its head is an offset, to nothing
abbrev no_strings : Kinds
no_strings = kinds (array (elementary string) (sized 0) ∷ [])

no_strings_heads : head_lengths (kinds (array (elementary string) (sized 0) ∷ array u256 (sized 0) ∷ tuple no_kind ∷ [])) ≡ 32 ∷ 0 ∷ 0 ∷ []
unfolding head_lengths head_length static_length is_dynamic is_open_ended
no_strings_heads = refl

no_strings_lem : map verdict (of no_strings (w (32 ∷ [])) ∷ of no_strings [] ∷ of no_strings (w (0 ∷ [])) ∷ []) ≡ true ∷ false ∷ false ∷ []
unfolding is_encoding end_of slots group follow leaf string_at filled tested is_word_of sign_byte static_length head_length heads_length is_dynamic is_open_ended word big_endian
no_strings_lem = refl

-- 65,536 and 65,537 elements that take no bytes
abbrev empties : Kinds
empties = kinds (array (tuple no_kind) unsized ∷ [])

many : map verdict (of empties (w (32 ∷ 65536 ∷ [])) ∷ of empties (w (32 ∷ 65537 ∷ [])) ∷ []) ≡ true ∷ false ∷ []
unfolding is_encoding end_of slots group follow leaf string_at filled tested is_word_of sign_byte static_length head_length heads_length is_dynamic is_open_ended word big_endian
many = refl

-- two empty strings: as encoded; offsets exchanged, shared, and with a gap before the second
abbrev two_strings : Kinds
two_strings = kinds (elementary bytes ∷ elementary bytes ∷ [])

offsets : map (λ d. is_encoding two_strings d) (w (64 ∷ 96 ∷ 0 ∷ 0 ∷ []) ∷ w (96 ∷ 64 ∷ 0 ∷ 0 ∷ []) ∷ w (64 ∷ 64 ∷ 0 ∷ []) ∷ w (64 ∷ 128 ∷ 0 ∷ 0 ∷ 0 ∷ []) ∷ []) ≡ true ∷ false ∷ false ∷ false ∷ []
unfolding is_encoding end_of slots group follow leaf string_at filled tested is_word_of sign_byte static_length head_length heads_length is_dynamic is_open_ended word big_endian
offsets = refl

-- an int8 from -128 to 127, and the numbers beside them
signs : map (λ n. is_encoding (kinds (elementary (int (bits 8)) ∷ [])) (word n)) (127 ∷ (2 ^ 256 - 128) ∷ 128 ∷ (2 ^ 256 - 129) ∷ []) ≡ true ∷ true ∷ false ∷ false ∷ []
unfolding is_encoding end_of slots group follow leaf string_at filled tested is_word_of sign_byte static_length head_length heads_length is_dynamic is_open_ended word big_endian
signs = refl
