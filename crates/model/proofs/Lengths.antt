-- How long the texts that are written of a record are: none is twice as long as the record is.
-- Assumes nothing.
use mathlib.Core.Path.{◌≡◌, refl, ap}
use mathlib.Core.Bool.{Bool, true, false≢true}
use mathlib.Core.List.{List, [], ◌∷◌, ◌++◌}
use Rattle.std.specs.Prelude.{Option, None, Some}
use Prim.Native.Nat.{ℕ, zero, suc, ◌+◌, ◌*◌, ◌≤◌, ◌<◌}
use native.Mathlib.Omega.{arith}
use lib.Dec.{leb, eqb}
use lib.ListN.{length, length-append}
use borrow.Author.Tests.{leb-true}
use Rattle.kinds.specs.Bytes.{ascii, all, between, is_word}
use Rattle.kinds.specs.Decimal.{decimal}
use Rattle.kinds.specs.Kind.{bits, octets, is_bit_width, is_elementary, Elementary, int, uint, fixed_bytes, address, bool, bytes, string, Suffix, sized, unsized, Kind, elementary_text, suffix_text, kind_text, list_text, rest_text, Prototype, canonical}
use Rattle.kinds.proofs.Logic.{left, right, width-most, byte-length-most}
use Rattle.kinds.proofs.Decimal.{decimal-short}
use Rattle.model.specs.declared.Refusal.{Refusal}
use Rattle.model.specs.declared.Sort.{Sort}
use Rattle.model.specs.declared.Sort.TheVariants.{Plain, Parameter, Event}
use Rattle.model.specs.Tree.{Base, elementary, tuple, Field, field, Fields, no_field, more_fields, Declaration, arrays, base_kind, kind_of, kinds_of, name_kinds}
use Rattle.model.specs.KindText.{longest}
use Rattle.model.specs.Layout.{little_endian, Bytes}
use Rattle.model.specs.Record.{encode_elementary, encode_suffix, encode_suffixes, encode_name, encode_base, encode_field, encode_fields, encode_list, encode, is_suffix, is_mark, is_field_name, is_base, is_field, are_fields, is_declaration, well_formed, well_formed_field, longest_record, decode, decode_lone, select}
use Rattle.model.specs.Reading.{locations, attributes, marks, deepest, mutabilities, keyword_text}
use Rattle.model.specs.Line.{canonical_text, signature_text, field_text}
use Rattle.model.specs.Answer.{Output, writes, refuses}
use Rattle.model.specs.Calls.{canonical_output, signature_output, kind_text_output, of_record, or_wrong_sort}
use Rattle.model.specs.Written.{suffixes_text, name_text, by_mark, mark_word, mark_text, written_base, written_field, written_list, written_rest}
use Rattle.model.specs.Full.{mutability_text, returns_text, anonymous_text, full_text, full_output}
use Rattle.model.proofs.Bounds.{tested, record_size, field-size}
use Rattle.model.proofs.Marks.{select_word}
use Rattle.model.proofs.Records.{decode-exactly, decode-lone-exactly}

-- a number of at most 999 has three digits
number_short : (m n : ℕ) → n ≤ m → m ≤ 999 → length (decimal n) ≤ 3
number_short m n h k = decimal-short 3 n (omega arith) (omega arith)

width-short : (m : ℕ) → is_bit_width m ≡ true → length (decimal m) ≤ 3
width-short m h = number_short 256 m (width-most m h) (omega arith)

elementary-short : (e : Elementary) → is_elementary e ≡ true → length (elementary_text e) ≤ 2 * length (encode_elementary 4 e)
unfolding is_elementary elementary_text encode_elementary
elementary-short (int (bits m)) h = simp (length-append, record_size) (omega (arith, width-short m h))
elementary-short (uint (bits m)) h = simp (length-append, record_size) (omega (arith, width-short m h))
elementary-short (fixed_bytes (octets m)) h = simp (length-append, record_size) (omega (arith, number_short 32 m (byte-length-most m h) (omega arith)))
elementary-short address h = simp record_size (omega arith)
elementary-short bool h = simp record_size (omega arith)
elementary-short Elementary.function h = simp record_size (omega arith)
elementary-short bytes h = simp record_size (omega arith)
elementary-short string h = simp record_size (omega arith)

-- a length of at most 2^64 - 1 has twenty
suffix-short : (s : Suffix) → is_suffix s ≡ true → length (suffix_text s) ≤ 2 * length (encode_suffix 4 s)
unfolding suffix_text encode_suffix little_endian
suffix-short (sized n) h = simp (length-append, record_size) (omega (arith, decimal-short 20 n (omega (arith, leb-true n longest h)) (omega arith)))
suffix-short unsized h = simp record_size (omega arith)

arrays-short : (ss : List Suffix) (k : Kind) → all is_suffix ss ≡ true → length (kind_text (arrays k ss)) ≤ length (kind_text k) + 2 * length (encode_suffixes 4 ss)
unfolding arrays kind_text encode_suffixes
arrays-short [] k h = omega arith
arrays-short (s ∷ ss) k h =
    simp length-append
    (omega (arith, arrays-short ss (Kind.array k s) (right (is_suffix s) h), length-append (kind_text k) (suffix_text s), suffix-short s (left (all is_suffix ss) h)))

-- a field, with a comma
module _ (sort : Sort) (d m : ℕ) (nm : List ℕ) (b : Base) (ss : List Suffix) (h : is_field sort d (field m nm b ss) ≡ true) where
  its-base : is_base d b ≡ true
  unfolding is_field
  its-base = left (all is_suffix ss) (right (is_field_name nm) (right (is_mark (marks sort (record { base = b; suffixes = ss })) m nm) h))

  its-suffixes : all is_suffix ss ≡ true
  unfolding is_field
  its-suffixes = right (is_base d b) (right (is_field_name nm) (right (is_mark (marks sort (record { base = b; suffixes = ss })) m nm) h))

  field-by : length (kind_text (base_kind b)) ≤ 2 * length (encode_base 4 b) → length (kind_text (kind_of (field m nm b ss))) + 28 ≤ 2 * length (encode_field 4 (field m nm b ss))
  unfolding kind_of
  field-by i = omega (arith, i, field-size m nm b ss, arrays-short ss (base_kind b) its-suffixes)

mutual
  unfolding is_base are_fields base_kind kinds_of encode_base encode_fields kind_text list_text rest_text

  base_short : (d : ℕ) (b : Base) → is_base d b ≡ true → length (kind_text (base_kind b)) ≤ 2 * length (encode_base 4 b)
  base_short d (elementary e) h = elementary-short e h
  base_short zero (tuple fs) h = absurd (false≢true h)
  base_short (suc d) (tuple fs) h = simp record_size (omega (arith, list-short Plain d fs h))

  field-short : (sort : Sort) (d : ℕ) (f : Field) → is_field sort d f ≡ true → length (kind_text (kind_of f)) + 28 ≤ 2 * length (encode_field 4 f)
  field-short sort d (field m nm b ss) h = field-by sort d m nm b ss h (base_short d b (its-base sort d m nm b ss h))

  list-short : (sort : Sort) (d : ℕ) (fs : Fields) → are_fields sort d fs ≡ true → length (list_text (kinds_of fs)) ≤ 2 * length (encode_fields 4 fs) + 1
  list-short sort d no_field h = omega arith
  list-short sort d (more_fields f fs) h = simp length-append (omega (arith, field-short sort d f (left (are_fields sort d fs) h), rest-short sort d fs (right (is_field sort d f) h)))

  rest-short : (sort : Sort) (d : ℕ) (fs : Fields) → are_fields sort d fs ≡ true → length (rest_text (kinds_of fs)) ≤ 2 * length (encode_fields 4 fs) + 1
  rest-short sort d no_field h = omega arith
  rest-short sort d (more_fields f fs) h = simp length-append (omega (arith, field-short sort d f (left (are_fields sort d fs) h), rest-short sort d fs (right (is_field sort d f) h)))

-- the lines of a declaration
list-line : (sort : Sort) (fs : Fields) → are_fields sort deepest fs ≡ true → length (kind_text (Kind.tuple (kinds_of fs))) + 10 ≤ 2 * length (encode_list 4 fs)
unfolding kind_text encode_list
list-line sort fs h = simp record_size (omega (arith, list-short sort deepest fs h))

name-size : (nm : List ℕ) → length (encode_name 4 nm) ≡ 6 + length nm
unfolding encode_name
name-size nm = record_size 0x11 nm

declaration-short : (d : Declaration) (p : Prototype) → is_declaration d ≡ true → name_kinds d ≡ Some p → length (canonical p) < 2 * length (encode 4 d)
unfolding is_declaration name_kinds canonical encode
declaration-short (Declaration.function m nm ins outs) p h e =
    let q : record { name = nm; kinds = kinds_of ins } ≡ p = cc in
    let i : are_fields Parameter deepest ins ≡ true = left (are_fields Parameter deepest outs) (right (is_word nm) (right (leb m 3) h)) in
    rw (← q) (simp (length-append, record_size, name-size) (omega (arith, list-line Parameter ins i)))
declaration-short (Declaration.constructor m ins) p h e = absurd (let z : ◌≡◌ {A = ℕ} 0 1 = cc in omega arith)
declaration-short (Declaration.event a nm ins) p h e =
    let q : record { name = nm; kinds = kinds_of ins } ≡ p = cc in
    let i : are_fields Event deepest ins ≡ true = right (is_word nm) (right (leb a 1) h) in
    rw (← q) (simp (length-append, record_size, name-size) (omega (arith, list-line Event ins i)))
declaration-short (Declaration.error nm ins) p h e =
    let q : record { name = nm; kinds = kinds_of ins } ≡ p = cc in
    let i : are_fields Plain deepest ins ≡ true = right (is_word nm) h in
    rw (← q) (simp (length-append, record_size, name-size) (omega (arith, list-line Plain ins i)))

signature-by : (d : Declaration) (u : List ℕ) → is_declaration d ≡ true → signature_text d ≡ Some u → length u < 2 * length (encode 4 d)
unfolding is_declaration signature_text canonical encode
signature-by (Declaration.function m nm ins outs) u h e =
    let q : canonical (record { name = nm; kinds = kinds_of ins }) ++ (ascii ":" ++ kind_text (Kind.tuple (kinds_of outs))) ≡ u = cc in
    let k = right (is_word nm) (right (leb m 3) h) in
    rw (← q) (simp (length-append, record_size, name-size) (omega (arith, list-line Parameter ins (left (are_fields Parameter deepest outs) k), list-line Parameter outs (right (are_fields Parameter deepest ins) k))))
signature-by (Declaration.constructor m ins) u h e = absurd (let z : ◌≡◌ {A = ℕ} 0 1 = cc in omega arith)
signature-by (Declaration.event a nm ins) u h e = absurd (let z : ◌≡◌ {A = ℕ} 0 1 = cc in omega arith)
signature-by (Declaration.error nm ins) u h e = absurd (let z : ◌≡◌ {A = ℕ} 0 1 = cc in omega arith)

-- what a call on a record writes is what its text is of the tree that the record says
pub refuses-not : {w : Refusal} {n : ℕ} {u : List ℕ} → refuses w n ≡ writes u → ⊥
refuses-not e = let z : ◌≡◌ {A = ℕ} 0 1 = cc in omega arith

text_of : (o : Option (List ℕ)) (u : List ℕ) → or_wrong_sort o ≡ writes u → o ≡ Some u
text_of None u e = absurd (refuses-not e)
text_of (Some v) u e = cc

pub said-by : {A : Type 0} (o : Option A) (f : A → Output) (u : List ℕ) → of_record o f ≡ writes u → (a : A) × (o ≡ Some a) × (f a ≡ writes u)
said-by None f u e = absurd (refuses-not e)
said-by (Some a) f u e = (a, refl, e)

-- `GEUSOMIN_LINE_MAX`: with the record's limit of 40,960 bytes, 81,920 are room enough for each of the three
module _ (b u : List ℕ) (h : Bytes b) where
  module _ (d : Declaration) (e : decode b ≡ Some d) where
    is_whole : is_declaration d ≡ true
    unfolding well_formed
    is_whole = left (leb (length (encode 4 d)) longest_record) ((decode-exactly b d h).0 e).0

    its-size : length b ≡ length (encode 4 d)
    its-size = ap length ((decode-exactly b d h).0 e).1

    its-line : (o : Option Prototype) → name_kinds d ≡ o → canonical_text d ≡ Some u → length u < 2 * length b
    unfolding canonical_text
    its-line None q f = absurd (let x : ◌≡◌ {A = Option (List ℕ)} None (Some u) = rw (canonical_text, q) at f in let z : ◌≡◌ {A = ℕ} 0 1 = cc in omega arith)
    its-line (Some p) q f =
        let x : canonical p ≡ u = let y : ◌≡◌ {A = Option (List ℕ)} (Some (canonical p)) (Some u) = rw (canonical_text, q) at f in cc in
        omega (arith, its-size, ap length x, declaration-short d p is_whole q)

  pub line-short : canonical_output b ≡ writes u → length u < 2 * length b
  unfolding canonical_output
  line-short e =
      let (d, q, f) = said-by (decode b) (λ x. or_wrong_sort (canonical_text x)) u e in
      its-line d q (name_kinds d) refl (text_of (canonical_text d) u f)

  pub signature-short : signature_output b ≡ writes u → length u < 2 * length b
  unfolding signature_output
  signature-short e =
      let (d, q, f) = said-by (decode b) (λ x. or_wrong_sort (signature_text x)) u e in
      omega (arith, its-size d q, signature-by d u (is_whole d q) (text_of (signature_text d) u f))

  pub kind-text-short : kind_text_output b ≡ writes u → length u < 2 * length b
  unfolding kind_text_output well_formed_field field_text
  kind-text-short e =
      let (g, q, f) = said-by (decode_lone b) (λ x. writes (field_text x)) u e in
      let (w, s) = (decode-lone-exactly b g h).0 q in
      let x : field_text g ≡ u = cc in
      omega (arith, ap length s, ap length x, field-short Plain deepest g (left (leb (length (encode_field 4 g)) longest_record) w))

-- Whole declarations: mark words and names too.

suffixes-short : (ss : List Suffix) → all is_suffix ss ≡ true → length (suffixes_text ss) ≤ 2 * length (encode_suffixes 4 ss)
unfolding suffixes_text encode_suffixes
suffixes-short [] h = omega arith
suffixes-short (s ∷ ss) h = simp length-append (omega (arith, suffix-short s (left (all is_suffix ss) h), suffixes-short ss (right (is_suffix s) h)))

name-short : (nm : List ℕ) → length (name_text nm) ≤ 1 + length nm
name-short [] = omega arith
name-short (c ∷ w) = omega arith

-- no word of a table has more than n bytes
module _ (n : ℕ) where
  abbrev is_short : List ℕ → Bool
  is_short w = leb (length w) n

  word-short : (w : List ℕ) → is_short w ≡ true → length (name_text w) ≤ 1 + n
  word-short w h = omega (arith, name-short w, leb-true (length w) n h)

pub mark-short : (m : ℕ) → length (mark_text m) ≤ 9
mark-short m = word-short 8 (mark_word m) (select_word (is_short 8) (attributes ++ locations) refl m)

mutability-short : (m : ℕ) → length (mutability_text m) ≤ 8
mutability-short m = word-short 7 (select (by_mark mutabilities) [] m) (select_word (is_short 7) mutabilities refl m)

anonymous-short : (a : ℕ) → length (anonymous_text a) ≤ 10
anonymous-short a = tested (λ u. length u ≤ 10) (eqb 1 a) (λ _. omega arith) (λ _. omega arith)

mutual
  unfolding is_base are_fields encode_base encode_fields written_base written_field written_list written_rest

  base-full : (d : ℕ) (b : Base) → is_base d b ≡ true → length (written_base b) ≤ 2 * length (encode_base 4 b)
  base-full d (elementary e) h = elementary-short e h
  base-full zero (tuple fs) h = absurd (false≢true h)
  base-full (suc d) (tuple fs) h = simp record_size (omega (arith, list_full Plain d fs h))

  field-full : (sort : Sort) (d : ℕ) (f : Field) → is_field sort d f ≡ true → length (written_field f) + 1 ≤ 2 * length (encode_field 4 f)
  field-full sort d (field m nm b ss) h =
      simp length-append
      (omega (arith, field-size m nm b ss, base-full d b (its-base sort d m nm b ss h), suffixes-short ss (its-suffixes sort d m nm b ss h), mark-short m, name-short nm))

  list_full : (sort : Sort) (d : ℕ) (fs : Fields) → are_fields sort d fs ≡ true → length (written_list fs) ≤ 2 * length (encode_fields 4 fs) + 1
  list_full sort d no_field h = omega arith
  list_full sort d (more_fields f fs) h = simp length-append (omega (arith, field-full sort d f (left (are_fields sort d fs) h), rest-full sort d fs (right (is_field sort d f) h)))

  rest-full : (sort : Sort) (d : ℕ) (fs : Fields) → are_fields sort d fs ≡ true → length (written_rest fs) ≤ 2 * length (encode_fields 4 fs) + 1
  rest-full sort d no_field h = omega arith
  rest-full sort d (more_fields f fs) h = simp length-append (omega (arith, field-full sort d f (left (are_fields sort d fs) h), rest-full sort d fs (right (is_field sort d f) h)))

returns-short : (outs : Fields) → are_fields Parameter deepest outs ≡ true → length (returns_text outs) ≤ 2 * length (encode_fields 4 outs) + 11
returns-short no_field h = omega arith
returns-short (more_fields f fs) h = omega (arith, list_full Parameter deepest (more_fields f fs) h)

declaration-full : (d : Declaration) → is_declaration d ≡ true → length (full_text d) < 2 * length (encode 4 d)
unfolding full_text keyword_text encode encode_list is_declaration
declaration-full (Declaration.function m nm ins outs) h =
    let i : are_fields Parameter deepest ins ≡ true = search (left, right) in
    let o : are_fields Parameter deepest outs ≡ true = search (left, right) in
    simp (length-append, record_size, name-size) (omega (arith, mutability-short m, list_full Parameter deepest ins i, returns-short outs o))
declaration-full (Declaration.constructor m ins) h =
    let i : are_fields Parameter deepest ins ≡ true = right (between 2 3 m) h in
    simp (length-append, record_size) (omega (arith, mutability-short m, list_full Parameter deepest ins i))
declaration-full (Declaration.event a nm ins) h =
    let i : are_fields Event deepest ins ≡ true = search (left, right) in
    simp (length-append, record_size, name-size) (omega (arith, anonymous-short a, list_full Event deepest ins i))
declaration-full (Declaration.error nm ins) h =
    let i : are_fields Plain deepest ins ≡ true = right (is_word nm) h in
    simp (length-append, record_size, name-size) (omega (arith, list_full Plain deepest ins i))

-- and for a whole declaration
pub full-short : (b u : List ℕ) → Bytes b → full_output b ≡ writes u → length u < 2 * length b
unfolding full_output
full-short b u h e =
    let (d, q, f) = said-by (decode b) (λ x. writes (full_text x)) u e in
    let x : full_text d ≡ u = cc in
    omega (arith, its-size b u h d q, ap length x, declaration-full d (is_whole b u h d q))
