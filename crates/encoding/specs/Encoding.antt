-- The encoding of values: from the Solidity Contract ABI Specification, section Formal Specification of the Encoding, given without quotation marks.
-- What enc makes of a value that is none of the kind is of no account: isValue tells them apart.
-- Assumes nothing.
use Rattle.std.specs.Prelude.{Bool, true, false, List, [], ◌∷◌, ◌++◌, ℕ, ◌+◌, ◌-◌, ◌^◌, length}
use Rattle.kinds.specs.Kind.{Elementary, int, uint, fixed_bytes, address, bool, function, bytes, string, sized, unsized, Kind, elementary, tuple, array, Kinds, no_kind, more_kinds}
use Rattle.encoding.specs.Dynamic.{is_dynamic}
use Rattle.encoding.specs.Words.{word, padded}
use Rattle.encoding.specs.Values.{Value, natural, negative, text, members, Values, no_value, more_values, count}

-- a member of a tuple: whether its type is dynamic, and its encoding
pub data Part : Type 0 where
  part : Bool → List ℕ → Part

-- if Ti is static: head(X(i)) = enc(X(i)) and tail(X(i)) is the empty string; otherwise tail(X(i)) = enc(X(i)), and head(X(i)) =
-- enc(len(head(X(1)) ... head(X(n)) tail(X(1)) ... tail(X(i-1)))), where o is that length, of type uint256
unfoldable pub head : ℕ → Part → List ℕ
head o (part true u) = word o
head o (part false u) = u

unfoldable pub tail : Part → List ℕ
tail (part true u) = u
tail (part false u) = []

-- the heads one by one, where o is the length of what stands before the first one's tail
unfoldable pub head_list : ℕ → List Part → List (List ℕ)
head_list o [] = []
head_list o (p ∷ ps) = head o p ∷ head_list (o + length (tail p)) ps

unfoldable pub lengths : List (List ℕ) → List ℕ
lengths [] = []
lengths (u ∷ us) = length u ∷ lengths us

unfoldable pub joined : List (List ℕ) → List ℕ
joined [] = []
joined (u ∷ us) = u ++ joined us

-- head(X(1)) ... head(X(n))
unfoldable pub heads : ℕ → List Part → List ℕ
heads o ps = joined (head_list o ps)

-- tail(X(1)) ... tail(X(n))
unfoldable pub tails : List Part → List ℕ
tails [] = []
tails (p ∷ ps) = tail p ++ tails ps

-- the length of the heads: whatever the offsets are, they take as many bytes
unfoldable pub heads_long : List Part → ℕ
heads_long ps = length (heads 0 ps)

-- enc(X) = head(X(1)) ... head(X(n)) tail(X(1)) ... tail(X(n))
unfoldable pub assembled : List Part → List ℕ
assembled ps = heads (heads_long ps) ps ++ tails ps

-- the elements of an array, all of one type
unfoldable pub part_each : Bool → (Value → List ℕ) → Values → List Part
part_each t E no_value = []
part_each t E (more_values v vs) = part t (E v) ∷ part_each t E vs

abbrev pub values_in : Value → Values
values_in (natural n) = no_value
values_in (negative n) = no_value
values_in (text s) = no_value
values_in (members vs) = vs

abbrev pub bytes_in : Value → List ℕ
bytes_in (natural n) = []
bytes_in (negative n) = []
bytes_in (text s) = s
bytes_in (members vs) = []

-- uint<M>: the big-endian encoding of X, padded on the higher-order (left) side with zero-bytes; int<M>: the big-endian two's complement encoding of
-- X, padded on the higher-order (left) side with 0xff bytes for negative X and with zero-bytes for non-negative X, such that the length is 32 bytes:
-- of -1 - n it is 2^256 - 1 - n
abbrev pub integer_word : Value → List ℕ
integer_word (natural n) = word n
integer_word (negative n) = word (2 ^ 256 - 1 - n)
integer_word (text s) = []
integer_word (members vs) = []

-- bytes, of length k: enc(X) = enc(k) pad_right(X); string: X is UTF-8 encoded and this value is interpreted as of bytes type
abbrev pub counted : List ℕ → List ℕ
counted s = word (length s) ++ padded s

-- address: as in the uint160 case; bool: as in the uint8 case, where 1 is used for true and 0 for false; bytes<M>: enc(X) is the sequence of bytes in
-- X padded with trailing zero-bytes to a length of 32 bytes
unfoldable pub enc_elementary : Elementary → Value → List ℕ
enc_elementary (int w) v = integer_word v
enc_elementary (uint w) v = integer_word v
enc_elementary (fixed_bytes m) v = padded (bytes_in v)
enc_elementary address v = integer_word v
enc_elementary bool v = integer_word v
enc_elementary function v = padded (bytes_in v)
enc_elementary bytes v = counted (bytes_in v)
enc_elementary string v = counted (bytes_in v)

-- T[k]: enc(X) = enc((X[0], ..., X[k-1])), as if it were a tuple with k elements of the same type; T[] where X has k elements: enc(X) = enc(k)
-- enc((X[0], ..., X[k-1]))
unfoldable mutual
  pub enc : Kind → Value → List ℕ
  enc (elementary e) v = enc_elementary e v
  enc (tuple ks) v = assembled (parts ks (values_in v))
  enc (array k (sized n)) v = assembled (part_each (is_dynamic k) (λ x. enc k x) (values_in v))
  enc (array k unsized) v = word (count (values_in v)) ++ assembled (part_each (is_dynamic k) (λ x. enc k x) (values_in v))

  pub parts : Kinds → Values → List Part
  parts no_kind vs = []
  parts (more_kinds k ks) no_value = []
  parts (more_kinds k ks) (more_values v vs) = part (is_dynamic k) (enc k v) ∷ parts ks vs
