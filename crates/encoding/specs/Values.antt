-- The values of a kind: from the Solidity Contract ABI Specification, section Types, given without quotation marks.
-- Assumes nothing.
use Rattle.std.specs.Prelude.{Bool, true, false, ◌&&◌, List, ℕ, suc, ◌-◌, ◌^◌, leb, ltb, eqb, length}
use Rattle.kinds.specs.Bytes.{all}
use Rattle.kinds.specs.Kind.{bits, octets, Elementary, int, uint, fixed_bytes, address, bool, function, bytes, string, sized, unsized, Kind, elementary, tuple, array, Kinds, no_kind, more_kinds}
use Rattle.encoding.specs.Words.{is_byte}

-- a whole number n that is not negative; the number -1 - n; a string of bytes; the members of a tuple or an array
mutual
  pub data Value : Type 0 where
    natural : ℕ → Value
    negative : ℕ → Value
    text : List ℕ → Value
    members : Values → Value

  pub data Values : Type 0 where
    no_value : Values
    more_values : Value → Values → Values

unfoldable pub count : Values → ℕ
count no_value = 0
count (more_values v vs) = suc (count vs)

unfoldable pub every : (Value → Bool) → Values → Bool
every p no_value = true
every p (more_values v vs) = p v && every p vs

-- whole numbers from 0 to m - 1, and from -m to m - 1
abbrev pub natural_below : ℕ → Value → Bool
natural_below m (natural n) = ltb n m
natural_below m (negative n) = false
natural_below m (text s) = false
natural_below m (members vs) = false

abbrev pub signed_below : ℕ → Value → Bool
signed_below m (natural n) = ltb n m
signed_below m (negative n) = ltb n m
signed_below m (text s) = false
signed_below m (members vs) = false

-- strings of bytes whose length passes a test
abbrev pub text_of : (ℕ → Bool) → Value → Bool
text_of p (natural n) = false
text_of p (negative n) = false
text_of p (text s) = all is_byte s && p (length s)
text_of p (members vs) = false

abbrev pub members_of : (Values → Bool) → Value → Bool
members_of p (natural n) = false
members_of p (negative n) = false
members_of p (text s) = false
members_of p (members vs) = p vs

-- int<M>: two's complement signed integer type of M bits; uint<M>: unsigned integer type of M bits; bytes<M>: binary type of M bytes; address:
-- equivalent to uint160; bool: equivalent to uint8 restricted to the values 0 and 1; function: an address (20 bytes) followed by a function selector
-- (4 bytes), encoded identical to bytes24; bytes: dynamic sized byte sequence, its length is assumed to be of type uint256. Order 8: "any bytes in a
-- `string`"
unfoldable pub is_elementary_value : Elementary → Value → Bool
is_elementary_value (int (bits m)) v = signed_below (2 ^ (m - 1)) v
is_elementary_value (uint (bits m)) v = natural_below (2 ^ m) v
is_elementary_value (fixed_bytes (octets m)) v = text_of (λ n. eqb n m) v
is_elementary_value address v = natural_below (2 ^ 160) v
is_elementary_value bool v = natural_below 2 v
is_elementary_value function v = text_of (λ n. eqb n 24) v
is_elementary_value bytes v = text_of (λ n. ltb n (2 ^ 256)) v
is_elementary_value string v = text_of (λ n. ltb n (2 ^ 256)) v

-- "no open array of over 65,536 elements"
abbrev pub most_elements : ℕ
most_elements = 65536

-- (T1,T2,...,Tn): tuple consisting of the types T1, ..., Tn; <type>[M]: a fixed-length array of M elements; <type>[]: a variable-length array
unfoldable mutual
  pub is_value : Kind → Value → Bool
  is_value (elementary e) v = is_elementary_value e v
  is_value (tuple ks) v = members_of (λ vs. are_values ks vs) v
  is_value (array k (sized n)) v = members_of (λ vs. eqb (count vs) n && every (λ x. is_value k x) vs) v
  is_value (array k unsized) v = members_of (λ vs. leb (count vs) most_elements && every (λ x. is_value k x) vs) v

  pub are_values : Kinds → Values → Bool
  are_values no_kind no_value = true
  are_values no_kind (more_values v vs) = false
  are_values (more_kinds k ks) no_value = false
  are_values (more_kinds k ks) (more_values v vs) = is_value k v && are_values ks vs
