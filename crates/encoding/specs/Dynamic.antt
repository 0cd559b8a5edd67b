-- Which kinds are dynamic, and how long heads are: from the Solidity Contract ABI Specification, section Formal Specification of the Encoding, given
-- without quotation marks.
-- Assumes nothing.
use Rattle.std.specs.Prelude.{Bool, true, false, ◌||◌, List, [], ◌∷◌, ℕ, ◌+◌, ◌*◌}
use Rattle.kinds.specs.Kind.{Elementary, int, uint, fixed_bytes, address, bool, function, bytes, string, sized, unsized, Kind, elementary, tuple, array, Kinds, no_kind, more_kinds}

-- the following types are called dynamic: bytes; string; T[] for any T; T[k] for any dynamic T and any k >= 0; (T1,...,Tn) if Ti is dynamic for
-- some 1 <= i <= n. All other types are called static. Order 8: "`bytes`, `string`, every open array, fixed arrays of dynamic elements, and tuples
-- with a dynamic part are dynamic"
unfoldable pub is_open_ended : Elementary → Bool
is_open_ended (int w) = false
is_open_ended (uint w) = false
is_open_ended (fixed_bytes m) = false
is_open_ended address = false
is_open_ended bool = false
is_open_ended function = false
is_open_ended bytes = true
is_open_ended string = true

unfoldable mutual
  pub is_dynamic : Kind → Bool
  is_dynamic (elementary e) = is_open_ended e
  is_dynamic (tuple ks) = any_dynamic ks
  is_dynamic (array k (sized n)) = is_dynamic k
  is_dynamic (array k unsized) = true

  pub any_dynamic : Kinds → Bool
  any_dynamic no_kind = false
  any_dynamic (more_kinds k ks) = is_dynamic k || any_dynamic ks

-- the bytes that every value of a static kind takes: its words. Nothing is said of dynamic kinds
unfoldable mutual
  pub static_length : Kind → ℕ
  static_length (elementary e) = 32
  static_length (tuple ks) = static_lengths ks
  static_length (array k (sized n)) = n * static_length k
  static_length (array k unsized) = 0

  pub static_lengths : Kinds → ℕ
  static_lengths no_kind = 0
  static_lengths (more_kinds k ks) = static_length k + static_lengths ks

-- the bytes of a member's head: an offset, or the whole of a static value. That they are so many is a theorem
unfoldable pub head_length : Kind → ℕ
head_length k = elim (is_dynamic k) [ true ↦ 32 | false ↦ static_length k ]

-- those of several members, one by one and together
unfoldable pub head_lengths : Kinds → List ℕ
head_lengths no_kind = []
head_lengths (more_kinds k ks) = head_length k ∷ head_lengths ks

unfoldable pub heads_length : Kinds → ℕ
heads_length no_kind = 0
heads_length (more_kinds k ks) = head_length k + heads_length ks
