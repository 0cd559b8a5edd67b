-- What the readers answer and leave, by the definitions: a reading's answer is told by the record of what was read.
-- Assumes nothing.
use Rattle.std.specs.Prelude.{◌≡◌, Bool, true, false, List, [], ◌++◌, ℕ, ◌+◌, ◌*◌, ◌-◌, ◌≤◌, ◌<◌, eqb, length, take, drop, Option, None, Some, Result, Ok, Err}
use Rattle.kinds.specs.Kind.{Suffix}
use Rattle.model.specs.declared.Refusal.{Refusal}
use Rattle.model.specs.declared.Refusal.TheVariants.{TooDeep}
use Rattle.model.specs.declared.Refused.{Refused}
use Rattle.model.specs.declared.Sort.{Sort}
use Rattle.model.specs.Answer.{refusal_at}
use Rattle.model.specs.Tree.{Field, field, unmarked}
use Rattle.model.specs.Parser.{Ans, got, bad, deep, Found, found, missing, Parser, on_ans, then, ◌>>=◌, return, option, optional_name}
use Rattle.model.specs.Reading.{FieldKind, run_kind, array_suffix, suffixes, marks, field_by, list, tuple_kind, can_specify_location}
use Rattle.model.specs.Record.{encode_base, encode_suffixes, encode_field, encode_fields}
use Rattle.value.specs.declared.Base.{Base}
use Rattle.value.specs.declared.Base.TheVariants as base
use Rattle.fields.specs.declared.Got.{Got}
use Rattle.fields.specs.declared.Failed.{Failed}
use Rattle.fields.specs.declared.Failed.TheVariants.{Bad, Deep}
use Rattle.fields.specs.declared.Bracket.{Bracket}

-- what a reading answers
abbrev pub Read : Type 0
Read = Result Got Failed

-- a reading up to n, whose record takes l bytes
abbrev pub read_to : ℕ → ℕ → Read
read_to n l = Ok (record { next = n; len = l })

abbrev pub bad_at : Refusal → ℕ → Failed
bad_at w p = Bad (refusal_at w p)

-- the refusal that a failure is: "10 the reader meets a 33rd open tuple"
abbrev pub refusal_of : Failed → Refused
refusal_of (Bad r) = r
refusal_of (Deep p) = refusal_at TooDeep p

-- an answer that fails
unfoldable pub failed : {A : Type 0} → Failed → Ans A
failed (Bad r) = bad r.refusal r.position
failed (Deep p) = deep p

-- what the cases of an answer say, and the bytes that are written
unfoldable pub to_read : Ans (List ℕ) → Read
to_read (got u n) = read_to n (length u)
to_read (bad w p) = Err (bad_at w p)
to_read (deep p) = Err (Deep p)

unfoldable pub bytes_of : Ans (List ℕ) → List ℕ
bytes_of (got u n) = u
bytes_of (bad w p) = []
bytes_of (deep p) = []

abbrev pub place_of : Failed → ℕ
place_of (Bad r) = r.position
place_of (Deep p) = p

-- where an answer lies: past `at` and within the text, and its record takes at most 10 bytes for each byte read, less k. It follows from the
-- definitions, and is there for `omega` to find
abbrev pub Within : ℕ → List ℕ → ℕ → Read → Type 0
Within k s at (Ok g) = (at < g.next) × (g.next ≤ length s) × (g.len + k + 10 * at ≤ 10 * g.next)
Within k s at (Err f) = place_of f ≤ length s

-- what the cases of a tuple's suffix say
unfoldable pub to_found : Option Bracket → Found Suffix
to_found None = missing
to_found (Some b) = found b.suffix b.next

abbrev pub Behind : List ℕ → ℕ → Option Bracket → Type 0
Behind s at None = Unit {0}
Behind s at (Some b) = (at + 2 ≤ b.next) × (b.next ≤ length s)

pub record BracketIs (s : List ℕ) (at : ℕ) (r : Option Bracket) : Type 0 where
  pub same : to_found r ≡ array_suffix s at
  pub behind : Behind s at r

-- what a reader asks that writes to a buffer, where d more tuples may open: a place within a text of at most 4,096 bytes, and 10 bytes of room for
-- each byte left and for each tuple, less k
pub record Room (k d : ℕ) (s : List ℕ) (at : ℕ) (b : List ℕ) : Type 0 where
  pub inside : at ≤ length s
  pub small : length s ≤ 4096
  pub room : 10 * (length s - at) + 10 * d ≤ length b + k
  pub short : length b ≤ 65536

-- a buffer begins with the bytes u. What follows them is not told
abbrev pub Begins : List ℕ → List ℕ → Type 0
Begins b u = take (length u) b ≡ u

-- a tuple's suffixes, and their records
pub record Grows (s : List ℕ) (at : ℕ) (b : List ℕ) (g : Got) : Type 0 where
  pub read : List Suffix
  pub same : suffixes s at ≡ got read g.next
  pub size : g.len ≡ length (encode_suffixes 4 read)
  pub wrote : Begins b (encode_suffixes 4 read)
  pub low : at ≤ g.next
  pub inside : g.next ≤ length s
  pub paid : g.len + 10 * at ≤ 10 * g.next

-- a data location may stand behind an elementary kind, with suffixes whose records take l bytes
abbrev pub located_base : Base → Bool
located_base (base.Int w) = false
located_base (base.Uint w) = false
located_base base.Address = false
located_base base.Bool = false
located_base (base.FixedBytes n) = false
located_base base.Function = false
located_base base.Bytes = true
located_base base.String = true

unfoldable pub located_by : Base → ℕ → Bool
located_by b l = elim (eqb l 0) [ true ↦ located_base b | false ↦ true ]

-- what stands behind a kind in a list of a sort
unfoldable pub behind_kind : Sort → FieldKind → Parser Field
behind_kind sort k = do
  m ← option (marks sort k) unmarked
  nm ← optional_name
  return (field m nm k.base k.suffixes)

-- the record of a field whose elementary kind begins at p
unfoldable pub leaf_of : Sort → List ℕ → ℕ → Ans (List ℕ)
leaf_of sort s p = on_ans (encode_field 4) (then (run_kind s p) (λ k n. behind_kind sort k s n))

-- what a reader does, where what it reads has the record that a tells: its buffer begins with that record
pub record Put (k : ℕ) (s : List ℕ) (at : ℕ) (b : List ℕ) (a : Ans (List ℕ)) (r : Read) : Type 0 where
  pub same : r ≡ to_read a
  pub within : Within k s at r
  pub wrote : Begins b (bytes_of a)

-- the bytes of a field's kind
unfoldable pub kind_bytes : FieldKind → List ℕ
kind_bytes k = encode_base 4 k.base ++ encode_suffixes 4 k.suffixes

-- what naming asks: room for what may be a name
pub record NamedRoom (s : List ℕ) (at len : ℕ) (b : List ℕ) : Type 0 where
  pub inside : at ≤ length s
  pub small : length s ≤ 4096
  pub room : 14 + len + (length s - at) ≤ length b
  pub short : length b ≤ 65536

-- and what it does, where the record of a kind that admits data locations stands behind the field's front
pub record NamedPut (s : List ℕ) (at : ℕ) (sort : Sort) (len : ℕ) (b b₁ : List ℕ) (g : Got) : Type 0 where
  pub name : ℕ
  pub size : g.len ≡ 14 + name + len
  pub inside : g.next ≤ length s
  pub low : at + name ≤ g.next
  pub same : (k : FieldKind) → can_specify_location k.base k.suffixes ≡ true → length (kind_bytes k) ≡ len → Ok g ≡ to_read (on_ans (encode_field 4) (behind_kind sort k s at))
  pub wrote : (k : FieldKind) → can_specify_location k.base k.suffixes ≡ true → length (kind_bytes k) ≡ len → Begins (drop 14 b) (kind_bytes k)
      → Begins b₁ (bytes_of (on_ans (encode_field 4) (behind_kind sort k s at)))

-- the records of what the readers read
abbrev pub field_of : Sort → ℕ → List ℕ → ℕ → Ans (List ℕ)
field_of sort d s at = on_ans (encode_field 4) (field_by sort (tuple_kind d) s at)

abbrev pub tuple_of : ℕ → List ℕ → ℕ → Ans (List ℕ)
tuple_of d s p = on_ans kind_bytes (tuple_kind d s p)

abbrev pub list_of : Sort → ℕ → List ℕ → ℕ → Ans (List ℕ)
list_of sort d s at = on_ans (encode_fields 4) (list (field_by sort (tuple_kind d)) s at)
