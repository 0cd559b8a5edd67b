-- Kinds and canonical text, from the Solidity Contract ABI Specification, sections Types and Function Selector, given without quotation marks.
-- Document 01's kind is what the specification calls a type, and its suffix what makes a type an array.
-- Assumes nothing.
use Rattle.std.specs.Prelude.{Bool, true, ◌&&◌, List, [], ◌∷◌, ◌++◌, ℕ, ◌%◌, eqb}
use Rattle.kinds.specs.Bytes.{ascii, between, comma, lparen, rparen}
use Rattle.kinds.specs.Decimal.{decimal}

-- two sorts of number that do not mix: the M of `int<M>` and `uint<M>`, and the M of `bytes<M>`
pub data BitWidth : Type 0 where
  bits : ℕ → BitWidth

pub data ByteLength : Type 0 where
  octets : ℕ → ByteLength

-- section Types, of `int<M>` and `uint<M>`: 0 < M <= 256, M % 8 == 0
abbrev pub is_bit_width : ℕ → Bool
is_bit_width m = between 1 256 m && eqb (m % 8) 0

-- section Types, of `bytes<M>`: 0 < M <= 32
abbrev pub is_byte_length : ℕ → Bool
is_byte_length = between 1 32

-- the types that hold no type: `int<M>`, `uint<M>`, `bytes<M>`, `address`, `bool`, `function`, `bytes`, `string`
pub data Elementary : Type 0 where
  int : BitWidth → Elementary
  uint : BitWidth → Elementary
  fixed_bytes : ByteLength → Elementary
  address bool function bytes string : Elementary

-- `[M]` and `[]`
pub data Suffix : Type 0 where
  sized : ℕ → Suffix
  unsized : Suffix

-- section Types: `<type>[M]`, a fixed-length array of M elements, M >= 0; `<type>[]`, a variable-length array; `(T1,T2,...,Tn)`, a tuple, n >= 0
mutual
  pub data Kind : Type 0 where
    elementary : Elementary → Kind
    tuple : Kinds → Kind
    array : Kind → Suffix → Kind

  pub data Kinds : Type 0 where
    no_kind : Kinds
    more_kinds : Kind → Kinds → Kinds

unfoldable pub is_elementary : Elementary → Bool
is_elementary (int (bits m)) = is_bit_width m
is_elementary (uint (bits m)) = is_bit_width m
is_elementary (fixed_bytes (octets m)) = is_byte_length m
is_elementary address = true
is_elementary bool = true
is_elementary function = true
is_elementary bytes = true
is_elementary string = true

-- the kinds of the specification: those whose widths and byte lengths are
unfoldable mutual
  pub is_kind : Kind → Bool
  is_kind (elementary e) = is_elementary e
  is_kind (tuple ks) = are_kinds ks
  is_kind (array k s) = is_kind k

  pub are_kinds : Kinds → Bool
  are_kinds no_kind = true
  are_kinds (more_kinds k ks) = is_kind k && are_kinds ks

unfoldable pub elementary_text : Elementary → List ℕ
elementary_text (int (bits m)) = ascii "int" ++ decimal m
elementary_text (uint (bits m)) = ascii "uint" ++ decimal m
elementary_text (fixed_bytes (octets m)) = ascii "bytes" ++ decimal m
elementary_text address = ascii "address"
elementary_text bool = ascii "bool"
elementary_text function = ascii "function"
elementary_text bytes = ascii "bytes"
elementary_text string = ascii "string"

unfoldable pub suffix_text : Suffix → List ℕ
suffix_text (sized n) = ascii "[" ++ (decimal n ++ ascii "]")
suffix_text unsized = ascii "[]"

unfoldable mutual
  pub kind_text : Kind → List ℕ
  kind_text (elementary e) = elementary_text e
  kind_text (tuple ks) = lparen ∷ list_text ks
  kind_text (array k s) = kind_text k ++ suffix_text s

  -- section Function Selector: split by a single comma, no spaces are used. The kinds of a list behind its `(`, with the `)`
  pub list_text : Kinds → List ℕ
  list_text no_kind = rparen ∷ []
  list_text (more_kinds k ks) = kind_text k ++ rest_text ks

  -- the kinds behind the first
  pub rest_text : Kinds → List ℕ
  rest_text no_kind = rparen ∷ []
  rest_text (more_kinds k ks) = comma ∷ (kind_text k ++ rest_text ks)

-- section Function Selector, the basic prototype: a name and the kinds of the inputs, which is what demand 3 compares
pub record Prototype : Type 0 where
  pub name : List ℕ
  pub kinds : Kinds

-- section Function Selector: the function name with the parenthesised list of parameter types; document 01: "Name, `(`, kinds parted by `,`, `)`."
unfoldable pub canonical : Prototype → List ℕ
canonical p = p.name ++ kind_text (tuple p.kinds)
