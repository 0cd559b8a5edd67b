-- Records: the encoding of trees, which trees are well formed, and the tree that bytes say.
-- Assumes nothing.
use Rattle.std.specs.Prelude.{Bool, true, false, ◌&&◌, ◌||◌, List, [], ◌∷◌, ◌++◌, ℕ, zero, suc, leb, eqb, length, take, drop, Option, None, Some}
use Rattle.kinds.specs.Bytes.{all, between, is_word}
use Rattle.kinds.specs.Kind.{BitWidth, bits, octets, is_bit_width, is_byte_length, is_elementary, Elementary, int, uint, fixed_bytes, address, bool, bytes, string, Suffix, sized, unsized}
use Rattle.model.specs.declared.Sort.{Sort}
use Rattle.model.specs.declared.Sort.TheVariants.{Plain, Parameter, Event}
use Rattle.model.specs.Tree.{Base, elementary, tuple, Field, field, Fields, no_field, more_fields, unmarked, Declaration}
use Rattle.model.specs.KindText.{Entry, entry, lookup, longest}
use Rattle.model.specs.Reading.{marks, deepest}
use Rattle.model.specs.Layout.{little_endian, le_value, record_of, Piece, piece, no_piece, piece_of}

-- The encoding, with the width of a length as a parameter. "Kinds in hex".
module _ (w : ℕ) where
  -- "1 int, 2 uint: width, 2 bytes. 5 bytesN: length, 2 bytes. 3 address, 4 bool, 6 function, 7 bytes, 8 string: no body."
  unfoldable pub encode_elementary : Elementary → List ℕ
  encode_elementary (int (bits n)) = record_of w 0x1 (little_endian 2 n)
  encode_elementary (uint (bits n)) = record_of w 0x2 (little_endian 2 n)
  encode_elementary address = record_of w 0x3 []
  encode_elementary bool = record_of w 0x4 []
  encode_elementary (fixed_bytes (octets n)) = record_of w 0x5 (little_endian 2 n)
  encode_elementary Elementary.function = record_of w 0x6 []
  encode_elementary bytes = record_of w 0x7 []
  encode_elementary string = record_of w 0x8 []

  -- "A fixed suffix: 8 bytes. B open suffix: no body."
  unfoldable pub encode_suffix : Suffix → List ℕ
  encode_suffix (sized n) = record_of w 0xA (little_endian 8 n)
  encode_suffix unsized = record_of w 0xB []

  unfoldable pub encode_suffixes : List Suffix → List ℕ
  encode_suffixes [] = []
  encode_suffixes (s ∷ ss) = encode_suffix s ++ encode_suffixes ss

  -- "11 name: its bytes."
  unfoldable pub encode_name : List ℕ → List ℕ
  encode_name nm = record_of w 0x11 nm

  -- "9 tuple: field records"; "10 field: mark, 2 bytes (1 indexed, else 0); name; kind; suffixes, innermost first."
  unfoldable mutual
    pub encode_base : Base → List ℕ
    encode_base (elementary e) = encode_elementary e
    encode_base (tuple fs) = record_of w 0x9 (encode_fields fs)

    pub encode_field : Field → List ℕ
    encode_field (field m nm b ss) = record_of w 0x10 (little_endian 2 m ++ (encode_name nm ++ (encode_base b ++ encode_suffixes ss)))

    pub encode_fields : Fields → List ℕ
    encode_fields no_field = []
    encode_fields (more_fields f fs) = encode_field f ++ encode_fields fs

  -- "12 list: fields."
  unfoldable pub encode_list : Fields → List ℕ
  encode_list fs = record_of w 0x12 (encode_fields fs)

  -- "20 function: mutability, 2 bytes (0 pure, 1 view, 2 none stated, 3 payable); name; inputs; outputs. 21 constructor: mutability (2 or 3);
  -- inputs. 22 event: anonymous, 2 bytes (0 or 1); name; inputs. 23 error: name; inputs."
  unfoldable pub encode : Declaration → List ℕ
  encode (Declaration.function m nm ins outs) = record_of w 0x20 (little_endian 2 m ++ (encode_name nm ++ (encode_list ins ++ encode_list outs)))
  encode (Declaration.constructor m ins) = record_of w 0x21 (little_endian 2 m ++ encode_list ins)
  encode (Declaration.event a nm ins) = record_of w 0x22 (little_endian 2 a ++ (encode_name nm ++ encode_list ins))
  encode (Declaration.error nm ins) = record_of w 0x23 (encode_name nm ++ encode_list ins)

-- Well-formed trees.

-- "names that are words (only a field's may be empty)"
abbrev pub is_field_name : List ℕ → Bool
is_field_name [] = true
is_field_name (c ∷ t) = is_word (c ∷ t)

-- a length that 8 bytes hold
abbrev pub is_suffix : Suffix → Bool
is_suffix (sized n) = leb n longest
is_suffix unsized = true

abbrev pub is_absent : {A : Type 0} → Option A → Bool
is_absent None = true
is_absent (Some a) = false

-- whether some word of a table stands for a mark
abbrev pub has_mark : List (Entry ℕ) → ℕ → Bool
has_mark [] m = false
has_mark (entry w n ∷ es) m = eqb m n || has_mark es m

-- "mark 1 only in an event's own list, and there no mark 0 with the name `indexed`". Order 1, of marks 2 and 3: "They stand only in a function's or
-- constructor's own lists, not inside tuples, at kinds that admit them. Such a field with mark 0 and the name `calldata` or `memory` is no longer
-- well formed." So, by the mark words of the list and the kind: a mark that one of them stands for, or 0 with a name that is none of them
unfoldable pub is_mark : List (Entry ℕ) → ℕ → List ℕ → Bool
is_mark es m nm = has_mark es m || (eqb m unmarked && is_absent (lookup es nm))

-- a field of a list of a sort, in which d tuples may nest
unfoldable mutual
  pub is_base : ℕ → Base → Bool
  is_base d (elementary e) = is_elementary e
  is_base zero (tuple fs) = false
  is_base (suc d) (tuple fs) = are_fields Plain d fs

  pub is_field : Sort → ℕ → Field → Bool
  is_field sort d (field m nm b ss) = is_mark (marks sort (record { base = b; suffixes = ss })) m nm && (is_field_name nm && (is_base d b && all is_suffix ss))

  pub are_fields : Sort → ℕ → Fields → Bool
  are_fields sort d no_field = true
  are_fields sort d (more_fields f fs) = is_field sort d f && are_fields sort d fs

abbrev pub are_inputs : Sort → Fields → Bool
are_inputs sort fs = are_fields sort deepest fs

-- "function: mutability, 2 bytes (0 pure, 1 view, 2 none stated, 3 payable)", "constructor: mutability (2 or 3)", "event: anonymous, 2 bytes (0 or 1)"
unfoldable pub is_declaration : Declaration → Bool
is_declaration (Declaration.function m nm ins outs) = leb m 3 && (is_word nm && (are_inputs Parameter ins && are_inputs Parameter outs))
is_declaration (Declaration.constructor m ins) = between 2 3 m && are_inputs Parameter ins
is_declaration (Declaration.event a nm ins) = leb a 1 && (is_word nm && are_inputs Event ins)
is_declaration (Declaration.error nm ins) = is_word nm && are_inputs Plain ins

-- "at most 40,960 bytes"
abbrev pub longest_record : ℕ
longest_record = 40960

unfoldable pub well_formed : Declaration → Bool
well_formed d = is_declaration d && leb (length (encode 4 d)) longest_record

-- a field by itself, as the kind call writes it: of no declaration's own list, so with mark 0
unfoldable pub well_formed_field : Field → Bool
well_formed_field f = is_field Plain deepest f && leb (length (encode_field 4 f)) longest_record

-- The tree that bytes say, if it is well formed.

abbrev pub given : {A B : Type 0} → Option A → (A → Option B) → Option B
given None f = None
given (Some a) f = f a

abbrev pub on_option : {A B : Type 0} → (A → B) → Option A → Option B
on_option f None = None
on_option f (Some a) = Some (f a)

abbrev pub when : {A : Type 0} → Bool → Option A → Option A
when true r = r
when false r = None

-- nothing is left
abbrev pub ended : {A : Type 0} → List ℕ → Option A → Option A
ended [] r = r
ended (c ∷ t) r = None

-- the record that bytes begin with, taken apart
abbrev pub on_piece : {A : Type 0} → Piece → (ℕ → List ℕ → List ℕ → Option A) → Option A
on_piece no_piece f = None
on_piece (piece k body r) f = f k body r

-- the same, if it is of kind k
abbrev pub of_kind : {A : Type 0} → ℕ → Piece → (List ℕ → List ℕ → Option A) → Option A
of_kind k p f = on_piece p (λ j body r. elim (eqb j k) [ true ↦ f body r | false ↦ None ])

-- a number that takes the whole of a body, in n bytes
abbrev pub wholly : {A : Type 0} → ℕ → List ℕ → (ℕ → Option A) → Option A
wholly n body f = elim (eqb (length body) n) [ true ↦ f (le_value body) | false ↦ None ]

-- a number of two bytes in front of a body
abbrev pub fronted : {A : Type 0} → List ℕ → (ℕ → List ℕ → Option A) → Option A
fronted body f = elim (leb 2 (length body)) [ true ↦ f (le_value (take 2 body)) (drop 2 body) | false ↦ None ]

-- what a number stands for
pub data Case (A : Type 0) : Type 0 where
  case : ℕ → A → Case A

abbrev pub select : {A : Type 0} → List (Case A) → A → ℕ → A
select [] d k = d
select (case n a ∷ cs) d k = elim (eqb n k) [ true ↦ a | false ↦ select cs d k ]

abbrev pub width_from : (BitWidth → Elementary) → List ℕ → Option Elementary
width_from f body = wholly 2 body (λ n. when (is_bit_width n) (Some (f (bits n))))

abbrev pub byte_length_from : List ℕ → Option Elementary
byte_length_from body = wholly 2 body (λ n. when (is_byte_length n) (Some (fixed_bytes (octets n))))

abbrev pub bodiless : Elementary → List ℕ → Option Elementary
bodiless e body = ended body (Some e)

abbrev pub elementary_cases : List (Case (List ℕ → Option Elementary))
elementary_cases =
    case 0x1 (width_from int)
    ∷ case 0x2 (width_from uint)
    ∷ case 0x3 (bodiless address)
    ∷ case 0x4 (bodiless bool)
    ∷ case 0x5 byte_length_from
    ∷ case 0x6 (bodiless Elementary.function)
    ∷ case 0x7 (bodiless bytes)
    ∷ case 0x8 (bodiless string)
    ∷ []

-- by its kind and body
unfoldable pub decode_elementary : ℕ → List ℕ → Option Elementary
decode_elementary k body = select elementary_cases (λ _. None) k body

abbrev pub suffix_cases : List (Case (List ℕ → Option Suffix))
suffix_cases = case 0xA (λ body. wholly 8 body (λ n. Some (sized n))) ∷ case 0xB (λ body. ended body (Some unsized)) ∷ []

unfoldable pub decode_suffix : ℕ → List ℕ → Option Suffix
decode_suffix k body = select suffix_cases (λ _. None) k body

-- an elementary kind, or a tuple whose fields T reads
unfoldable pub base_from : (List ℕ → Option Fields) → ℕ → List ℕ → Option Base
base_from T k body = elim (eqb k 0x9) [ true ↦ on_option tuple (T body) | false ↦ on_option elementary (decode_elementary k body) ]

module _ (w : ℕ) where
  -- records up to the end, at most k, each read by D of its kind and body, and put together by nil and cons
  abbrev pub each_by : {A L : Type 0} → (A → L → L) → (ℕ → List ℕ → Option A) → (List ℕ → Option L) → Piece → Option L
  each_by cons D R p = on_piece p (λ k body r. given (D k body) (λ a. on_option (cons a) (R r)))

  unfoldable pub each_in : {A L : Type 0} → L → (A → L → L) → (ℕ → List ℕ → Option A) → ℕ → List ℕ → Option L
  each_in nil cons D zero b = ended b (Some nil)
  each_in nil cons D (suc k) [] = Some nil
  each_in nil cons D (suc k) (c ∷ t) = each_by cons D (λ r. each_in nil cons D k r) (piece_of w (c ∷ t))

  -- a record takes two bytes at least
  abbrev pub each : {A L : Type 0} → L → (A → L → L) → (ℕ → List ℕ → Option A) → List ℕ → Option L
  each nil cons D b = each_in nil cons D (length b) b

  unfoldable pub decode_suffixes : List ℕ → Option (List Suffix)
  decode_suffixes b = each [] ◌∷◌ decode_suffix b

  -- a field of a list of a sort, by its kind and body, where B reads its base
  unfoldable pub field_from : Sort → (ℕ → List ℕ → Option Base) → ℕ → List ℕ → Option Field
  field_from sort B k body =
      when (eqb k 0x10)
      (fronted body (λ m r.
      of_kind 0x11 (piece_of w r) (λ nm r₁.
      on_piece (piece_of w r₁) (λ j base r₂.
      given (B j base) (λ b. given (decode_suffixes r₂) (λ ss. when (is_mark (marks sort (record { base = b; suffixes = ss })) m nm && is_field_name nm) (Some (field m nm b ss))))))))

  -- the fields of a tuple, where d tuples may nest
  unfoldable pub tuple_from : ℕ → List ℕ → Option Fields
  tuple_from zero body = None
  tuple_from (suc d) body = each no_field more_fields (field_from Plain (base_from (tuple_from d))) body

  -- a field, or the fields of a declaration's own list, of a sort
  unfoldable pub decode_field : Sort → ℕ → List ℕ → Option Field
  decode_field sort k body = field_from sort (base_from (tuple_from deepest)) k body

  unfoldable pub decode_fields : Sort → List ℕ → Option Fields
  decode_fields sort body = each no_field more_fields (decode_field sort) body

  abbrev pub list_from : {A : Type 0} → Sort → List ℕ → (Fields → List ℕ → Option A) → Option A
  list_from sort b f = of_kind 0x12 (piece_of w b) (λ body r. given (decode_fields sort body) (λ fs. f fs r))

  abbrev pub name_from : {A : Type 0} → List ℕ → (List ℕ → List ℕ → Option A) → Option A
  name_from b f = of_kind 0x11 (piece_of w b) (λ nm r. when (is_word nm) (f nm r))

  abbrev pub function_from : List ℕ → Option Declaration
  function_from body =
      fronted body (λ m r.
      name_from r (λ nm r₁.
      list_from Parameter r₁ (λ ins r₂.
      list_from Parameter r₂ (λ outs r₃. ended r₃ (when (leb m 3) (Some (Declaration.function m nm ins outs)))))))

  abbrev pub constructor_from : List ℕ → Option Declaration
  constructor_from body = fronted body (λ m r. list_from Parameter r (λ ins r₁. ended r₁ (when (between 2 3 m) (Some (Declaration.constructor m ins)))))

  abbrev pub event_from : List ℕ → Option Declaration
  event_from body =
      fronted body (λ a r. name_from r (λ nm r₁. list_from Event r₁ (λ ins r₂. ended r₂ (when (leb a 1) (Some (Declaration.event a nm ins))))))

  abbrev pub error_from : List ℕ → Option Declaration
  error_from body = name_from body (λ nm r. list_from Plain r (λ ins r₁. ended r₁ (Some (Declaration.error nm ins))))

  unfoldable pub decode_declaration : ℕ → List ℕ → Option Declaration
  decode_declaration k body =
      select (case 0x20 function_from ∷ case 0x21 constructor_from ∷ case 0x22 event_from ∷ case 0x23 error_from ∷ []) (λ _. None) k body

-- one record that is all of the bytes, at most 40,960
abbrev pub whole : {A : Type 0} → (ℕ → List ℕ → Option A) → List ℕ → Option A
whole D b = when (leb (length b) longest_record) (on_piece (piece_of 4 b) (λ k body r. ended r (D k body)))

-- the declaration that a record says
unfoldable pub decode : List ℕ → Option Declaration
decode b = whole (decode_declaration 4) b

-- the field that a record says by itself
unfoldable pub decode_lone : List ℕ → Option Field
decode_lone b = whole (decode_field 4 Plain) b
