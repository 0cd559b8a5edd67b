-- Records that are known to be encodings, taken apart.
-- Assumes nothing.
use mathlib.Core.Path.{◌≡◌, refl, ◌∙◌, ap}
use mathlib.Core.Bool.{Bool, true, false, ◌&&◌, and-eq-true_iff, false≢true}
use mathlib.Core.List.{List, [], ◌∷◌, ◌++◌}
use Rattle.std.specs.Prelude.{Some}
use Prim.Native.Nat.{ℕ, zero, suc, ◌+◌, ◌-◌, ◌≤◌, ◌<◌}
use native.Mathlib.Omega.{arith}
use lib.Dec.{leb}
use lib.ListN.{length, take, drop, length-append, length-drop}
use lib.Seq.{take_at, drop_at}
use borrow.Author.Tests.{leb-true}
use Rattle.kinds.specs.Bytes.{all}
use Rattle.kinds.specs.Kind.{bits, octets, Elementary, int, uint, fixed_bytes, address, bool, bytes, string, Suffix, sized, unsized}
use Rattle.kinds.proofs.Logic.{left, right}
use Rattle.model.specs.declared.Sort.TheVariants.{Plain}
use Rattle.model.specs.Tree.{Base, elementary, tuple, Field, field, Fields, no_field, more_fields}
use Rattle.model.specs.Reading.{FieldKind, can_specify_location, marks}
use Rattle.model.specs.Layout.{little_endian, le_value, record_of, Piece as Taken, piece, no_piece, piece_of}
use Rattle.model.specs.Record.{encode_elementary, encode_name, encode_base, encode_suffix, encode_suffixes, encode_field, encode_fields, is_mark, is_field_name, is_suffix, is_base, is_field, are_fields, longest_record}
use Rattle.model.proofs.Pieces.{le_length, le_read, record_length, piece-read}
use Rattle.model.proofs.Marks.{mark-fits}
use Rattle.record.specs.declared.Piece.{Piece}
use Rattle.record.specs.Parts.{taken, PieceIs, Headed}
use Rattle.record.specs.Encoded.{mark_in, name_in, kind_in, body_of, FieldsAre, FieldIs, KindIs, SuffixesAre, SomeFields, SomeField, SomeKind, SomeSuffixes}

-- where there is a record, there is its head
pub piece-headed : (b : List ℕ) (k : ℕ) (body r : List ℕ) → piece_of 4 b ≡ piece k body r → Headed b
unfolding piece_of
piece-headed b k body r e = go (leb 6 (le_value (take 4 b)) && leb (le_value (take 4 b)) (length b)) refl
  where
    is_piece : Taken → Bool
    is_piece no_piece = false
    is_piece (piece k body r) = true

    go : (t : Bool) → (leb 6 (le_value (take 4 b)) && leb (le_value (take 4 b)) (length b)) ≡ t → Headed b
    go true p = let (low, high) = (and-eq-true_iff _ _).0 p in record { low = leb-true _ _ low; inside = leb-true _ _ high }
    go false p = absurd (false≢true (ap is_piece (rw (piece_of, p) at e)))

-- the parts of a piece
kind-of_piece : Taken → ℕ
kind-of_piece no_piece = 0
kind-of_piece (piece k body r) = k

body-of_piece : Taken → List ℕ
body-of_piece no_piece = []
body-of_piece (piece k body r) = body

rest-of_piece : Taken → List ℕ
rest-of_piece no_piece = []
rest-of_piece (piece k body r) = r

-- a record and what stands behind it
pub record Stands (p : Piece) (k : ℕ) (body r : List ℕ) : Type 0 where
  pub kind : p.kind ≡ k
  pub body_is : p.body.now ≡ body
  pub rest-is : p.rest.now ≡ r

module _ (t : List ℕ) (k : ℕ) (body r : List ℕ) (e : t ≡ record_of 4 k body ++ r) (h : k < 65536) (s : length t ≤ longest_record) where
  pub stands_long : length t ≡ 6 + length body + length r
  stands_long = ap length e ∙ length-append (record_of 4 k body) r ∙ omega (arith, record_length 4 k body)

  there : piece_of 4 t ≡ piece k body r
  there = ap (piece_of 4) e ∙ piece-read 4 k body r h (omega (arith, stands_long))

  pub stands_headed : Headed t
  stands_headed = piece-headed t k body r there

  pub stands : (p : Piece) → PieceIs t (Some p) → Stands p k body r
  unfolding taken kind-of_piece body-of_piece rest-of_piece
  stands p i = let z : piece p.kind p.body.now p.rest.now ≡ piece k body r = i.same ∙ there in
      record { kind = ap kind-of_piece z; body_is = ap body-of_piece z; rest-is = ap rest-of_piece z }

-- Fields, one behind the other.

field_record : (f : Field) → encode_field 4 f ≡ record_of 4 0x10 (body_of f)
unfolding encode_field
field_record (field m nm b ss) = refl

-- the first of fields, and the others
pub record FirstField (p : Piece) (fs : Fields) : Type 0 where
  pub field : Field
  pub fields : Fields
  pub split : fs ≡ more_fields field fields
  pub kind : p.kind ≡ 0x10
  pub is : FieldIs p.body.now field
  pub rest : FieldsAre p.rest.now fields

pub no-fields : (b : List ℕ) (fs : Fields) → FieldsAre b fs → length b ≡ 0 → fs ≡ no_field
unfolding encode_fields
no-fields b no_field i h = refl
no-fields b (more_fields f fs) i h =
    absurd (omega (arith, ap length i.same, length-append (encode_field 4 f) (encode_fields 4 fs), ap length (field_record f), record_length 4 0x10 (body_of f)))

module _ (b : List ℕ) where
  fields_split : (fs : Fields) → FieldsAre b fs → 0 < length b → (f : Field) × (gs : Fields) × (fs ≡ more_fields f gs) × (b ≡ record_of 4 0x10 (body_of f) ++ encode_fields 4 gs)
  unfolding encode_fields
  fields_split no_field i h = absurd (omega (arith, ap length i.same))
  fields_split (more_fields f gs) i h = (f, gs, refl, i.same ∙ ap (λ x. x ++ encode_fields 4 gs) (field_record f))

  pub fields-headed : (q : SomeFields b) → 0 < length b → Headed b
  fields-headed q h = let (f, gs, e, same) = fields_split q.0 q.1 h in stands_headed b 0x10 (body_of f) (encode_fields 4 gs) same (omega arith) q.1.small

  pub first-field : (p : Piece) (fs : Fields) → FieldsAre b fs → 0 < length b → PieceIs b (Some p) → FirstField p fs
  unfolding are_fields
  first-field p fs i h j =
      let (f, gs, e, same) = fields_split fs i h in
      let s = stands b 0x10 (body_of f) (encode_fields 4 gs) same (omega arith) i.small p j in
      let w : are_fields i.sort i.d (more_fields f gs) ≡ true = rw e at i.well in
      let long : length p.body.now + length p.rest.now ≤ length b = omega (arith, j.covers) in
      record {
        field = f;
        fields = gs;
        split = e;
        kind = s.kind;
        is = record { same = s.body_is; small = omega (arith, i.small); sort = i.sort; d = i.d; well = left (are_fields i.sort i.d gs) w };
        rest = record { same = s.rest-is; small = omega (arith, i.small); sort = i.sort; d = i.d; well = right (is_field i.sort i.d f) w };
      }

-- Of a field's body: mark, name and kind.

-- n is the name's record, with the kind behind it
pub record FieldParts (body : List ℕ) (n : Piece) (f : Field) : Type 0 where
  pub mark : le_value (take 2 body) ≡ mark_in f
  pub name : n.body.now ≡ name_in f
  pub kind : KindIs n.rest.now (kind_in f)

module _ (body : List ℕ) where
  abbrev behind_name : Field → List ℕ
  behind_name (field m nm b ss) = encode_base 4 b ++ encode_suffixes 4 ss

  named-part : (f : Field) → FieldIs body f → drop 2 body ≡ record_of 4 0x11 (name_in f) ++ behind_name f
  unfolding encode_name
  named-part (field m nm b ss) i = ap (drop 2) i.same ∙ drop_at (little_endian 2 m) (encode_name 4 nm ++ (encode_base 4 b ++ encode_suffixes 4 ss)) 2 (le_length 2 m)

  dropped : length body ≤ longest_record → length (drop 2 body) ≤ longest_record
  dropped h = omega (arith, length-drop 2 body)

  pub field-long : (f : Field) → FieldIs body f → 8 ≤ length body
  field-long f i = omega (arith, stands_long (drop 2 body) 0x11 (name_in f) (behind_name f) (named-part f i) (omega arith) (dropped i.small), length-drop 2 body)

  pub named-headed : SomeField body → Headed (drop 2 body)
  named-headed q = stands_headed (drop 2 body) 0x11 (name_in q.0) (behind_name q.0) (named-part q.0 q.1) (omega arith) (dropped q.1.small)

  pub field-parts : (n : Piece) (f : Field) → FieldIs body f → PieceIs (drop 2 body) (Some n) → FieldParts body n f
  unfolding is_field marks
  field-parts n (field m nm b ss) i j =
      let kind : FieldKind = record { base = b; suffixes = ss } in
      let s = stands (drop 2 body) 0x11 nm (encode_base 4 b ++ encode_suffixes 4 ss) (named-part (field m nm b ss) i) (omega arith) (dropped i.small) n j in
      let w₁ = i.well in
      let marked : is_mark (marks i.sort kind) m nm ≡ true = left _ w₁ in
      let w₂ = right (is_mark (marks i.sort kind) m nm) w₁ in
      let w₃ = right (is_field_name nm) w₂ in
      record {
        mark = ap (λ x. le_value (take 2 x)) i.same ∙ ap le_value (take_at (little_endian 2 m) _ 2 (le_length 2 m)) ∙ le_read 2 m (mark-fits i.sort (can_specify_location b ss) m nm marked);
        name = s.body_is;
        kind = record {
          same = s.rest-is;
          small = omega (arith, j.covers, dropped i.small);
          d = i.d;
          base-well = left _ w₃;
          suffixes-well = right (is_base i.d b) w₃;
        };
      }

-- Of a kind: a tuple, or an elementary kind; and its suffixes.

-- the base's record
data BaseIs : Base → ℕ → List ℕ → Type 0 where
  leaf : (e : Elementary) (k : ℕ) (body : List ℕ) → encode_elementary 4 e ≡ record_of 4 k body → k < 9 → BaseIs (elementary e) k body
  nest : (fs : Fields) → BaseIs (tuple fs) 9 (encode_fields 4 fs)

record BaseThere (b : Base) : Type 0 where
  k : ℕ
  body : List ℕ
  same : encode_base 4 b ≡ record_of 4 k body
  small : k < 65536
  is : BaseIs b k body

leaf_there : (e : Elementary) (k : ℕ) (body : List ℕ) → encode_elementary 4 e ≡ record_of 4 k body → k < 9 → BaseThere (elementary e)
unfolding encode_base
leaf_there e k body s h = record { k = k; body = body; same = s; small = omega arith; is = leaf e k body s h }

base_there : (b : Base) → BaseThere b
unfolding encode_base encode_elementary
base_there (elementary (int (bits n))) = leaf_there (int (bits n)) 0x1 (little_endian 2 n) refl (omega arith)
base_there (elementary (uint (bits n))) = leaf_there (uint (bits n)) 0x2 (little_endian 2 n) refl (omega arith)
base_there (elementary (fixed_bytes (octets n))) = leaf_there (fixed_bytes (octets n)) 0x5 (little_endian 2 n) refl (omega arith)
base_there (elementary address) = leaf_there address 0x3 [] refl (omega arith)
base_there (elementary bool) = leaf_there bool 0x4 [] refl (omega arith)
base_there (elementary Elementary.function) = leaf_there Elementary.function 0x6 [] refl (omega arith)
base_there (elementary bytes) = leaf_there bytes 0x7 [] refl (omega arith)
base_there (elementary string) = leaf_there string 0x8 [] refl (omega arith)
base_there (tuple fs) = record { k = 0x9; body = encode_fields 4 fs; same = refl; small = omega arith; is = nest fs }

inner : (d : ℕ) (fs : Fields) → is_base d (tuple fs) ≡ true → are_fields Plain (d - 1) fs ≡ true
unfolding is_base
inner zero fs w = absurd (false≢true w)
inner (suc d) fs w = let z : suc d - 1 ≡ d = omega arith in rw z w

pub record TupleParts (p : Piece) (k : FieldKind) : Type 0 where
  pub fields : Fields
  pub split : k.base ≡ tuple fields
  pub is : FieldsAre p.body.now fields

pub record LeafParts (p : Piece) (k : FieldKind) : Type 0 where
  pub leaf : Elementary
  pub split : k.base ≡ elementary leaf
  pub same : encode_elementary 4 leaf ≡ record_of 4 p.kind p.body.now

pub record KindParts (p : Piece) (k : FieldKind) : Type 0 where
  pub nested : p.kind ≡ 9 → TupleParts p k
  pub leaf : (p.kind ≡ 9 → ⊥) → LeafParts p k
  pub suffixes : SuffixesAre p.rest.now k.suffixes

module _ (t : List ℕ) where
  base-part : (k : FieldKind) → KindIs t k → t ≡ record_of 4 (base_there k.base).k (base_there k.base).body ++ encode_suffixes 4 k.suffixes
  base-part k i = i.same ∙ ap (λ x. x ++ encode_suffixes 4 k.suffixes) (base_there k.base).same

  pub kind-headed : SomeKind t → Headed t
  kind-headed q = stands_headed t _ _ _ (base-part q.0 q.1) (base_there q.0.base).small q.1.small

  pub kind-least : (k : FieldKind) → KindIs t k → 6 ≤ length t
  kind-least k i = omega (arith, stands_long t _ _ _ (base-part k i) (base_there k.base).small i.small)

  pub kind-parts : (p : Piece) (k : FieldKind) → KindIs t k → PieceIs t (Some p) → KindParts p k
  kind-parts p k i j =
      let z = base_there k.base in
      let s = stands t z.k z.body (encode_suffixes 4 k.suffixes) (base-part k i) z.small i.small p j in
      let small : length p.body.now + length p.rest.now ≤ longest_record = omega (arith, j.covers, i.small) in
      let by : (b : Base) (n : ℕ) (c : List ℕ) → k.base ≡ b → BaseIs b n c → p.kind ≡ n → p.body.now ≡ c → KindParts p k
      = λ b n c e v f g. based b n c e v f g small s.rest-is in
      by k.base z.k z.body refl z.is s.kind s.body_is
    where
      based : (b : Base) (n : ℕ) (c : List ℕ) → k.base ≡ b → BaseIs b n c → p.kind ≡ n → p.body.now ≡ c → length p.body.now + length p.rest.now ≤ longest_record → p.rest.now ≡ encode_suffixes 4 k.suffixes → KindParts p k
      based b n c e (leaf x m u v h) f g small r = record {
        nested = λ w. absurd (omega arith);
        leaf = λ _. record { leaf = x; split = e; same = rw (f, g) v };
        suffixes = record { same = r; small = omega arith; well = i.suffixes-well };
      }
      based b n c e (nest fs) f g small r = record {
        nested = λ _. record {
          fields = fs;
          split = e;
          is = record { same = g; small = omega arith; sort = Plain; d = i.d - 1; well = inner i.d fs (rw e at i.base-well) };
        };
        leaf = λ w. absurd (w f);
        suffixes = record { same = r; small = omega arith; well = i.suffixes-well };
      }

-- Suffixes, one behind the other.

-- the number and the body of a suffix's record
abbrev pub suffix_code : Suffix → ℕ
suffix_code (sized n) = 0xA
suffix_code unsized = 0xB

abbrev pub suffix_body : Suffix → List ℕ
suffix_body (sized n) = little_endian 8 n
suffix_body unsized = []

suffix_record : (s : Suffix) → encode_suffix 4 s ≡ record_of 4 (suffix_code s) (suffix_body s)
unfolding encode_suffix
suffix_record (sized n) = refl
suffix_record unsized = refl

pub record FirstSuffix (p : Piece) (ss : List Suffix) : Type 0 where
  pub suffix : Suffix
  pub suffixes : List Suffix
  pub split : ss ≡ suffix ∷ suffixes
  pub kind : p.kind ≡ suffix_code suffix
  pub body_is : p.body.now ≡ suffix_body suffix
  pub well : is_suffix suffix ≡ true
  pub rest : SuffixesAre p.rest.now suffixes

pub no-suffixes : (b : List ℕ) (ss : List Suffix) → SuffixesAre b ss → length b ≡ 0 → ss ≡ []
unfolding encode_suffixes
no-suffixes b [] i h = refl
no-suffixes b (s ∷ ss) i h =
    absurd (omega (arith, ap length i.same, length-append (encode_suffix 4 s) (encode_suffixes 4 ss), ap length (suffix_record s), record_length 4 (suffix_code s) (suffix_body s)))

module _ (b : List ℕ) where
  suffixes_split : (ss : List Suffix) → SuffixesAre b ss → 0 < length b → (s : Suffix) × (os : List Suffix) × (ss ≡ s ∷ os) × (b ≡ record_of 4 (suffix_code s) (suffix_body s) ++ encode_suffixes 4 os)
  unfolding encode_suffixes
  suffixes_split [] i h = absurd (omega (arith, ap length i.same))
  suffixes_split (s ∷ os) i h = (s, os, refl, i.same ∙ ap (λ x. x ++ encode_suffixes 4 os) (suffix_record s))

  code-small : (s : Suffix) → suffix_code s < 65536
  code-small (sized n) = omega arith
  code-small unsized = omega arith

  pub suffixes-headed : (q : SomeSuffixes b) → 0 < length b → Headed b
  suffixes-headed q h = let (s, os, e, same) = suffixes_split q.0 q.1 h in stands_headed b _ _ _ same (code-small s) q.1.small

  pub first-suffix : (p : Piece) (ss : List Suffix) → SuffixesAre b ss → 0 < length b → PieceIs b (Some p) → FirstSuffix p ss
  first-suffix p ss i h j =
      let (s, os, e, same) = suffixes_split ss i h in
      let z = stands b _ _ _ same (code-small s) i.small p j in
      let w : all is_suffix (s ∷ os) ≡ true = rw e at i.well in
      record {
        suffix = s;
        suffixes = os;
        split = e;
        kind = z.kind;
        body_is = z.body_is;
        well = left (all is_suffix os) w;
        rest = record { same = z.rest-is; small = omega (arith, j.covers, i.small); well = right (is_suffix s) w };
      }
