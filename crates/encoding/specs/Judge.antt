-- Whether bytes are the encoding of some values, computed: each place is looked at as the encoder would set it. That this is enc is a theorem.
-- Assumes nothing.
use Rattle.std.specs.Prelude.{Bool, true, false, ◌&&◌, List, [], ◌∷◌, ℕ, zero, suc, ◌+◌, ◌*◌, ◌-◌, ◌/◌, leb, ltb, eqb, length, take, drop, get_or, replicate, Option, None, Some}
use Rattle.kinds.specs.Bytes.{all, same}
use Rattle.kinds.specs.Kind.{bits, octets, Elementary, int, uint, fixed_bytes, address, bool, function, bytes, string, sized, unsized, Kind, elementary, tuple, array, Kinds, no_kind, more_kinds}
use Rattle.encoding.specs.Dynamic.{is_dynamic, head_length, heads_length}
use Rattle.encoding.specs.Words.{word, whole_words}
use Rattle.encoding.specs.Values.{most_elements}

-- the number that bytes stand for, the highest first, behind bytes that stand for v
abbrev pub be_from : ℕ → List ℕ → ℕ
be_from v [] = v
be_from v (c ∷ s) = be_from (v * 256 + c) s

abbrev pub be_value : List ℕ → ℕ
be_value s = be_from 0 s

-- every byte is c
abbrev pub all_are : ℕ → List ℕ → Bool
all_are c s = all (λ x. eqb x c) s

-- what a number is padded with on the left, by its first byte: "the sign repeated for `int`, zero otherwise"
unfoldable pub sign_byte : ℕ → ℕ
sign_byte c = elim (ltb c 128) [ true ↦ 0 | false ↦ 255 ]

-- whether a word is the encoding of a value of a static elementary kind
unfoldable pub is_word_of : Elementary → List ℕ → Bool
is_word_of (int (bits m)) w = all_are (sign_byte (get_or w (32 - m / 8) 0)) (take (32 - m / 8) w)
is_word_of (uint (bits m)) w = all_are 0 (take (32 - m / 8) w)
is_word_of (fixed_bytes (octets m)) w = all_are 0 (drop m w)
is_word_of address w = all_are 0 (take 12 w)
is_word_of bool w = ltb (get_or w 31 0) 2 && all_are 0 (take 31 w)
is_word_of function w = all_are 0 (drop 24 w)
is_word_of bytes w = false
is_word_of string w = false

abbrev pub given : {A B : Type 0} → Option A → (A → Option B) → Option B
given None f = None
given (Some a) f = f a

abbrev pub when : {A : Type 0} → Bool → Option A → Option A
when true r = r
when false r = None

-- n times what r reads
unfoldable pub repeated : ℕ → (ℕ → Option ℕ) → ℕ → Option ℕ
repeated zero r at = Some at
repeated (suc n) r at = given (r at) (λ e. repeated n r e)

-- a member to be read: whether its kind is dynamic, and where it ends if it begins at a place
pub data Slot : Type 0 where
  slot : Bool → (ℕ → Option ℕ) → Slot

-- Places in the data d, and where what begins there ends, if it is as the encoder sets it.
module _ (d : List ℕ) where
  abbrev pub word_at : ℕ → List ℕ
  word_at at = take 32 (drop at d)

  abbrev pub has_word : ℕ → Bool
  has_word at = leb (at + 32) (length d)

  -- a word that passes a test
  unfoldable pub tested : (List ℕ → Bool) → ℕ → Option ℕ
  tested p at = when (has_word at && p (word_at at)) (Some (at + 32))

  -- n bytes, and zeros up to the next whole word
  unfoldable pub filled : ℕ → ℕ → Option ℕ
  filled n at = when (leb (at + whole_words n) (length d) && all_are 0 (take (whole_words n - n) (drop (at + n) d))) (Some (at + whole_words n))

  -- a length, and so many bytes
  unfoldable pub string_at : ℕ → Option ℕ
  string_at at = when (has_word at) (filled (be_value (word_at at)) (at + 32))

  unfoldable pub leaf : Elementary → ℕ → Option ℕ
  leaf (int w) at = tested (λ u. is_word_of (int w) u) at
  leaf (uint w) at = tested (λ u. is_word_of (uint w) u) at
  leaf (fixed_bytes m) at = tested (λ u. is_word_of (fixed_bytes m) u) at
  leaf address at = tested (λ u. is_word_of address u) at
  leaf bool at = tested (λ u. is_word_of bool u) at
  leaf function at = tested (λ u. is_word_of function u) at
  leaf bytes at = string_at at
  leaf string at = string_at at

  -- members one after the other: the heads from h on, the tails from t on, offsets counted from base
  unfoldable pub follow : List Slot → ℕ → ℕ → ℕ → Option ℕ
  follow [] base h t = Some t
  follow (slot true r ∷ ss) base h t = when (has_word h && same (word_at h) (word (t - base))) (given (r t) (λ e. follow ss base (h + 32) e))
  follow (slot false r ∷ ss) base h t = given (r h) (λ e. follow ss base e t)

  -- members whose heads take n bytes
  unfoldable pub group : ℕ → List Slot → ℕ → Option ℕ
  group n ss at = when (leb (at + n) (length d)) (follow ss at at (at + n))

  unfoldable mutual
    pub end_of : Kind → ℕ → Option ℕ
    end_of (elementary e) at = leaf e at
    end_of (tuple ks) at = group (heads_length ks) (slots ks) at
    end_of (array k (sized n)) at = group (n * head_length k) (replicate n (slot (is_dynamic k) (λ a. end_of k a))) at
    end_of (array k unsized) at =
        let n = be_value (word_at at) in
        when (has_word at && leb n most_elements) (group (n * head_length k) (replicate n (slot (is_dynamic k) (λ a. end_of k a))) (at + 32))

    pub slots : Kinds → List Slot
    slots no_kind = []
    slots (more_kinds k ks) = slot (is_dynamic k) (λ a. end_of k a) ∷ slots ks

  -- values of several kinds one behind the other: so static ones stand
  unfoldable pub in_row : Kinds → ℕ → Option ℕ
  in_row no_kind at = Some at
  in_row (more_kinds k ks) at = given (end_of k at) (λ e. in_row ks e)

-- what was read ends at n
abbrev pub ends_at : ℕ → Option ℕ → Bool
ends_at n None = false
ends_at n (Some e) = eqb e n

-- the data are one encoding, and nothing stands behind it
unfoldable pub is_encoding : Kinds → List ℕ → Bool
is_encoding ks d = ends_at (length d) (end_of d (tuple ks) 0)
