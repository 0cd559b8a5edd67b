-- Whole declarations: where their records have what their canonical texts say, and two side by side.
-- Assumes nothing.
use mathlib.Core.Path.{◌≡◌, refl, sym, ◌∙◌, ap, ap₂}
use mathlib.Core.Logic.{◌↔◌}
use mathlib.Core.Bool.{Bool, true, false, false≢true, cond}
use mathlib.Core.List.{List, [], ◌∷◌, ◌++◌, append-nil}
use Rattle.std.specs.Prelude.{None, Some, nat_eq}
use Rattle.std.specs.Cmp.Lexicographic.{pointwise}
use Rattle.std.proofs.lemmas.Option.{none-some, same_Some}
use Rattle.std.proofs.lemmas.Slice.Eq.{bytes_eq-Decides}
use Prim.Native.Nat.{ℕ, ◌≤◌, ◌<◌}
use native.Mathlib.Omega.{arith}
use lib.Dec.{leb, lit<}
use lib.ListN.{length, drop, length-drop}
use lib.Seq.{drop_at}
use borrow.Author.Tests.{leb-true}
use Rattle.kinds.specs.Bytes.{same, is_word}
use Rattle.kinds.specs.Kind.{Kind, kind_text, canonical}
use Rattle.kinds.proofs.Logic.{left, right}
use Rattle.kinds.proofs.Joined.{canonical_injective}
use Rattle.model.specs.declared.Sort.{Sort}
use Rattle.model.specs.declared.Sort.TheVariants.{Plain, Parameter, Event}
use Rattle.model.specs.declared.Keyword.TheVariants as key
use Rattle.model.specs.Layout.{little_endian, record_of, piece, piece_of}
use Rattle.model.specs.Tree.{Fields, Declaration, kinds_of, name_kinds}
use Rattle.model.specs.Reading.{deepest, keyword_text}
use Rattle.model.specs.Record.{encode_name, encode_fields, encode_list, encode, are_fields, is_declaration, longest_record, well_formed, case, select, on_option, decode_field, decode_fields}
use Rattle.model.specs.Line.{keyword_in, canonical_text}
use Rattle.model.specs.Sheet.{repeats}
use Rattle.model.proofs.Bounds.{record_size}
use Rattle.model.proofs.Pieces.{le_length, piece-read}
use Rattle.model.proofs.Records.{inputs_spells}
use Rattle.model.proofs.Sheets.{repeats-same}
use Rattle.record.specs.declared.Piece.{Piece}
use Rattle.record.specs.Parts.{Headed, PieceIs}
use Rattle.record.specs.Encoded.{SomeFields}
use Rattle.record.specs.Texts.{fields_from, tuple_text_from}
use Rattle.record.proofs.Standing.{Stands, stands, stands_headed}
use Rattle.abi.specs.Writes.{line_from}
use Rattle.repeat.specs.declared.Line.{Line}
use Rattle.repeat.specs.Pairs.{ListsSame, RecordOf, Two, Repeats}
use Rattle.repeat.specs.Prints.{OneRecord}
use Rattle.repeat.specs.Said.{NameSaid, NameIs, LineSaid, LineIs}

-- the number of a declaration's record, and its body
unfoldable pub code_in : Declaration → ℕ
code_in (Declaration.function m nm ins outs) = 0x20
code_in (Declaration.constructor m ins) = 0x21
code_in (Declaration.event x nm ins) = 0x22
code_in (Declaration.error nm ins) = 0x23

unfoldable pub body_in : Declaration → List ℕ
body_in (Declaration.function m nm ins outs) = little_endian 2 m ++ (encode_name 4 nm ++ (encode_list 4 ins ++ encode_list 4 outs))
body_in (Declaration.constructor m ins) = little_endian 2 m ++ encode_list 4 ins
body_in (Declaration.event x nm ins) = little_endian 2 x ++ (encode_name 4 nm ++ encode_list 4 ins)
body_in (Declaration.error nm ins) = encode_name 4 nm ++ encode_list 4 ins

coded_so : (d : Declaration) → encode 4 d ≡ record_of 4 (code_in d) (body_in d)
unfolding code_in body_in encode
coded_so (Declaration.function m nm ins outs) = refl
coded_so (Declaration.constructor m ins) = refl
coded_so (Declaration.event x nm ins) = refl
coded_so (Declaration.error nm ins) = refl

code-small : (d : Declaration) → code_in d < 65536
unfolding code_in
code-small (Declaration.function m nm ins outs) = lit< tt
code-small (Declaration.constructor m ins) = lit< tt
code-small (Declaration.event x nm ins) = lit< tt
code-small (Declaration.error nm ins) = lit< tt

-- the bytes b begin with the name and the list of d
record Behind (d : Declaration) (b : List ℕ) : Type 0 where
  name : List ℕ
  fields : Fields
  sort : Sort
  rest : List ℕ
  bytes : b ≡ record_of 4 0x11 name ++ (encode_list 4 fields ++ rest)
  well : are_fields sort deepest fields ≡ true
  word : is_word name ≡ true
  text : canonical_text d ≡ Some (canonical (record { name = name; kinds = kinds_of fields }))

last-list : (nm : List ℕ) (fs : Fields) → encode_name 4 nm ++ encode_list 4 fs ≡ encode_name 4 nm ++ (encode_list 4 fs ++ [])
last-list nm fs = ap (λ u. encode_name 4 nm ++ u) (sym (append-nil (encode_list 4 fs)))

behind_error : (d : Declaration) → is_declaration d ≡ true → code_in d ≡ 0x23 → Behind d (body_in d)
unfolding code_in body_in is_declaration canonical_text name_kinds encode_name
behind_error (Declaration.function m nm ins outs) g z = absurd (omega arith)
behind_error (Declaration.constructor m ins) g z = absurd (omega arith)
behind_error (Declaration.event x nm ins) g z = absurd (omega arith)
behind_error (Declaration.error nm ins) g z = record { name = nm; fields = ins; sort = Plain; rest = []; bytes = last-list nm ins; well = right (is_word nm) g; word = left _ g; text = refl }

behind_number : (d : Declaration) → is_declaration d ≡ true → (code_in d ≡ 0x21 → ⊥) → (code_in d ≡ 0x23 → ⊥) → Behind d (drop 2 (body_in d))
unfolding code_in body_in is_declaration canonical_text name_kinds encode_name
behind_number (Declaration.function m nm ins outs) g y z =
    let h = right (leb m 3) g in
    record { name = nm; fields = ins; sort = Parameter; rest = encode_list 4 outs; bytes = drop_at (little_endian 2 m) _ 2 (le_length 2 m); well = left (are_fields Parameter deepest outs) (right (is_word nm) h); word = left _ h; text = refl }
behind_number (Declaration.constructor m ins) g y z = absurd (y refl)
behind_number (Declaration.event x nm ins) g y z =
    let h = right (leb x 1) g in
    record { name = nm; fields = ins; sort = Event; rest = []; bytes = drop_at (little_endian 2 x) _ 2 (le_length 2 x) ∙ last-list nm ins; well = right (is_word nm) h; word = left _ h; text = refl }
behind_number (Declaration.error nm ins) g y z = absurd (z refl)

constructor-none : (d : Declaration) → code_in d ≡ 0x21 → canonical_text d ≡ None
unfolding code_in canonical_text name_kinds
constructor-none (Declaration.function m nm ins outs) z = absurd (omega arith)
constructor-none (Declaration.constructor m ins) z = refl
constructor-none (Declaration.event x nm ins) z = absurd (omega arith)
constructor-none (Declaration.error nm ins) z = absurd (omega arith)

module _ (d : Declaration) (b : List ℕ) (h : Behind d b) (l : length b ≤ longest_record) where
  behind-headed : Headed b
  behind-headed = stands_headed b 0x11 h.name _ h.bytes (lit< tt) l

  behind-said : (n : Piece) → PieceIs b (Some n) → NameSaid d n
  behind-said n i =
      let s = stands b 0x11 h.name _ h.bytes (lit< tt) l n i in
      record { fields = h.fields; sort = h.sort; rest = h.rest; behind = s.rest-is; small = omega (arith, i.covers, l); well = h.well; word = rw s.body_is h.word; text = rw s.body_is h.text }

-- a declaration's record
module _ (t : List ℕ) (d : Declaration) (h : RecordOf t d) where
  pub short : length t ≤ longest_record
  unfolding well_formed
  short = omega (arith, ap length h.bytes, leb-true (length (encode 4 d)) longest_record (right (is_declaration d) h.well))

  shape : t ≡ record_of 4 (code_in d) (body_in d) ++ []
  shape = h.bytes ∙ coded_so d ∙ sym (append-nil _)

  valid : is_declaration d ≡ true
  unfolding well_formed
  valid = left (leb (length (encode 4 d)) longest_record) h.well

  pub record-headed : Headed t
  record-headed = stands_headed t (code_in d) (body_in d) [] shape (code-small d) short

  module _ (x : Piece) (i : PieceIs t (Some x)) where
    pub record_parts : Stands x (code_in d) (body_in d) []
    record_parts = stands t (code_in d) (body_in d) [] shape (code-small d) short x i

    body-short : length x.body.now ≤ longest_record
    body-short = omega (arith, i.covers, short)

    in-error : x.kind ≡ 0x23 → Behind d x.body.now
    in-error z = rw record_parts.body_is (behind_error d valid (sym record_parts.kind ∙ z))

    in-others : (x.kind ≡ 0x21 → ⊥) → (x.kind ≡ 0x23 → ⊥) → Behind d (drop 2 x.body.now)
    in-others y z = rw record_parts.body_is (behind_number d valid (λ q. y (record_parts.kind ∙ q)) (λ q. z (record_parts.kind ∙ q)))

pub record-long : (d : Declaration) (t : List ℕ) → RecordOf t d → 6 ≤ length t
record-long d t h = omega (arith, ap length (h.bytes ∙ coded_so d), record_size (code_in d) (body_in d))

-- the same with anything behind it
pub begins : (d : Declaration) → well_formed d ≡ true → (r t : List ℕ) → t ≡ encode 4 d ++ r → piece_of 4 t ≡ piece (code_in d) (body_in d) r
begins d g r t e =
    let s = short (encode 4 d) d (record { bytes = refl; well = g }) in
    ap (piece_of 4) (e ∙ ap (λ u. u ++ r) (coded_so d)) ∙ piece-read 4 (code_in d) (body_in d) r (code-small d) (omega (arith, s, ap length (coded_so d), record_size (code_in d) (body_in d)))

module _ (t : List ℕ) (p : OneRecord t) where
  pub one_headed : Headed t
  one_headed = record-headed t p.declaration p.one

  module _ (x : Piece) (i : PieceIs t (Some x)) where
    pub error-headed : x.kind ≡ 0x23 → Headed x.body.now
    error-headed z = behind-headed p.declaration x.body.now (in-error t p.declaration p.one x i z) (body-short t p.declaration p.one x i)

    others_short : length (drop 2 x.body.now) ≤ longest_record
    others_short = omega (arith, length-drop 2 x.body.now, body-short t p.declaration p.one x i)

    pub others-headed : (x.kind ≡ 0x21 → ⊥) → (x.kind ≡ 0x23 → ⊥) → (2 ≤ length x.body.now) × Headed (drop 2 x.body.now)
    others-headed y z =
        let h = behind-headed p.declaration (drop 2 x.body.now) (in-others t p.declaration p.one x i y z) others_short in
        (omega (arith, h.low, h.inside, length-drop 2 x.body.now), h)

module _ (t : List ℕ) (x : Piece) (i : PieceIs t (Some x)) where
  pub name-none : x.kind ≡ 0x21 → NameIs t None
  name-none z p = constructor-none p.declaration (sym (record_parts t p.declaration p.one x i).kind ∙ z)

  pub name-error : (n : Piece) → x.kind ≡ 0x23 → PieceIs x.body.now (Some n) → NameIs t (Some n)
  name-error n z j p = behind-said p.declaration x.body.now (in-error t p.declaration p.one x i z) (body-short t p.declaration p.one x i) n j

  pub name-others : (n : Piece) → (x.kind ≡ 0x21 → ⊥) → (x.kind ≡ 0x23 → ⊥) → PieceIs (drop 2 x.body.now) (Some n) → NameIs t (Some n)
  name-others n y z j p = behind-said p.declaration (drop 2 x.body.now) (in-others t p.declaration p.one x i y z) (others_short t p x i) n j

pub ruleset naming = (one_headed, error-headed, others-headed, name-none, name-error, name-others)

-- the fields of the list behind a name
module _ (d : Declaration) (n : Piece) (h : NameSaid d n) where
  list-shape : n.rest.now ≡ record_of 4 0x12 (encode_fields 4 h.fields) ++ h.rest
  unfolding encode_list
  list-shape = h.behind

  pub list-headed : Headed n.rest.now
  list-headed = stands_headed n.rest.now 0x12 (encode_fields 4 h.fields) h.rest list-shape (lit< tt) h.small

  pub line-said : (m : Piece) (l : Line) → PieceIs n.rest.now (Some m) → l.name.now ≡ n.body.now → l.fields.now ≡ m.body.now → LineSaid d l
  unfolding tuple_text_from fields_from decode_fields decode_field line_from canonical
  line-said m l i e f =
      let s = stands n.rest.now 0x12 (encode_fields 4 h.fields) h.rest list-shape (lit< tt) h.small m i in
      let b : l.fields.now ≡ encode_fields 4 h.fields = f ∙ s.body_is in
      let small : length l.fields.now ≤ longest_record = omega (arith, ap length f, i.covers, h.small) in
      let read : decode_fields 4 h.sort l.fields.now ≡ Some h.fields = ap (decode_fields 4 h.sort) b ∙ (inputs_spells 4 h.sort).to h.fields h.well (omega (arith, small, ap length b)) in
      let kinds : tuple_text_from h.sort deepest l.fields.now ≡ Some (kind_text (Kind.tuple (kinds_of h.fields))) = ap (on_option (λ fs. kind_text (Kind.tuple (kinds_of fs)))) read in
      record {
        fields = h.fields;
        listed = record { same = b; small = small; sort = h.sort; d = deepest; well = h.well };
        word = rw e h.word;
        text = rw e h.text;
        sort = h.sort;
        same = ap (on_option (λ u. l.name.now ++ u)) kinds ∙ ap (λ nm. Some (canonical (record { name = nm; kinds = kinds_of h.fields }))) e ∙ sym h.text;
      }

module _ (t : List ℕ) where
  pub line-headed : (p : OneRecord t) (n : Piece) → NameIs t (Some n) → Headed n.rest.now
  line-headed p n h = list-headed p.declaration n (h p)

  pub line_is : (n m : Piece) (l : Line) → NameIs t (Some n) → PieceIs n.rest.now (Some m) → l.name.now ≡ n.body.now → l.fields.now ≡ m.body.now → LineIs t (Some l)
  line_is n m l h i e f p = line-said p.declaration n (h p) m l i e f

-- the word that a declaration begins with, by the number of its record, and the number by the word
word_by : ℕ → List ℕ
word_by k = select (case 0x20 (keyword_text key.Function) ∷ case 0x21 (keyword_text key.Constructor) ∷ case 0x22 (keyword_text key.Event) ∷ []) (keyword_text key.Error) k

word-by : (d : Declaration) → keyword_text (keyword_in d) ≡ word_by (code_in d)
unfolding code_in word_by keyword_in
word-by (Declaration.function m nm ins outs) = refl
word-by (Declaration.constructor m ins) = refl
word-by (Declaration.event x nm ins) = refl
word-by (Declaration.error nm ins) = refl

code_by : List ℕ → ℕ
code_by t = cond (same t (keyword_text key.Function)) 0x20 (cond (same t (keyword_text key.Constructor)) 0x21 (cond (same t (keyword_text key.Event)) 0x22 0x23))

code_by_lem : (d : Declaration) → code_in d ≡ code_by (keyword_text (keyword_in d))
unfolding code_in code_by keyword_in keyword_text
code_by_lem (Declaration.function m nm ins outs) = refl
code_by_lem (Declaration.constructor m ins) = refl
code_by_lem (Declaration.event x nm ins) = refl
code_by_lem (Declaration.error nm ins) = refl

-- two tests that say the same
pub alike : {A : Type 0} (r s : Bool) → (r ≡ true) ↔ A → (s ≡ true) ↔ A → r ≡ s
alike true s f g = sym (g.1 (f.0 refl))
alike false true f g = f.1 (g.0 refl)
alike false false f g = refl

module _ (a b : List ℕ) (x y : Piece) (i : PieceIs a (Some x)) (j : PieceIs b (Some y)) where
  pub two-unlike : (x.kind ≡ y.kind → ⊥) → Repeats a b false
  two-unlike z p = go (repeats p.declaration p.declaration₁) refl
    where
      go : (r : Bool) → repeats p.declaration p.declaration₁ ≡ r → false ≡ repeats p.declaration p.declaration₁
      go true q = absurd (z ((record_parts a _ p.one x i).kind ∙ code_by_lem p.declaration ∙ ap code_by ((repeats-same _ _).0 q).0 ∙ sym (code_by_lem p.declaration₁) ∙ sym (record_parts b _ p.other y j).kind))
      go false q = sym q

  -- of one keyword the texts tell
  module _ (z : x.kind ≡ y.kind) (p : Two a b) where
    texts-tell : (r : Bool) → (r ≡ true) ↔ (canonical_text p.declaration ≡ canonical_text p.declaration₁) → r ≡ repeats p.declaration p.declaration₁
    texts-tell r f =
        let codes : code_in p.declaration ≡ code_in p.declaration₁ = sym (record_parts a _ p.one x i).kind ∙ z ∙ (record_parts b _ p.other y j).kind in
        let same = repeats-same p.declaration p.declaration₁ in
        alike r _ f (λ h. (same.0 h).1, λ h. same.1 (word-by p.declaration ∙ ap word_by codes ∙ sym (word-by p.declaration₁), h))

    abbrev one : OneRecord a
    one = record { declaration = p.declaration; one = p.one }

    abbrev other : OneRecord b
    other = record { declaration = p.declaration₁; one = p.other }

  module _ (z : x.kind ≡ y.kind) where
    pub two-none : LineIs a None → LineIs b None → Repeats a b true
    two-none f g p = texts-tell z p true (λ _. f (one z p) ∙ sym (g (other z p)), λ _. refl)

    pub one-none : (l : Line) → LineIs a (Some l) → LineIs b None → Repeats a b false
    one-none l f g p = texts-tell z p false (λ h. absurd (false≢true h), λ h. absurd (none-some _ (sym (g (other z p)) ∙ sym h ∙ (f (one z p)).text)))

    pub other-none : (m : Line) → LineIs a None → LineIs b (Some m) → Repeats a b false
    other-none m f g p = texts-tell z p false (λ h. absurd (false≢true h), λ h. absurd (none-some _ (sym (f (one z p)) ∙ h ∙ (g (other z p)).text)))

    module _ (l m : Line) (f : LineIs a (Some l)) (g : LineIs b (Some m)) where
      lines : (p : Two a b) → ((l.name.now ≡ m.name.now) × (kinds_of (f (one z p)).fields ≡ kinds_of (g (other z p)).fields)) ↔ (canonical_text p.declaration ≡ canonical_text p.declaration₁)
      lines p =
          let u = f (one z p) in
          let v = g (other z p) in (
            λ h. u.text ∙ ap₂ (λ nm ks. Some (canonical (record { name = nm; kinds = ks }))) h.0 h.1 ∙ sym v.text,
            λ h.
                let e = canonical_injective _ _ u.word v.word (same_Some _ _ (sym u.text ∙ h ∙ v.text)) in
                (ap (λ w. w.name) e, ap (λ w. w.kinds) e),
          )

      pub lines-ask : Two a b → SomeFields l.fields.now × SomeFields m.fields.now
      lines-ask p = let u = f (one z p) in let v = g (other z p) in ((u.fields, u.listed), (v.fields, v.listed))

      pub names-differ : (s : Bool) → s ≡ pointwise nat_eq l.name.now m.name.now → s ≡ false → Repeats a b s
      names-differ s e o p = texts-tell z p s (λ h. absurd (false≢true (sym o ∙ h)), λ h. e ∙ (bytes_eq-Decides _ _).1 ((lines p).1 h).0)

      pub lists-tell : (s : Bool) → s ≡ pointwise nat_eq l.name.now m.name.now → s ≡ true → (r : Bool) → ListsSame l.fields.now m.fields.now r → Repeats a b r
      lists-tell s e o r w p =
          let u = f (one z p) in
          let v = g (other z p) in
          let c = w.told u.fields v.fields u.listed v.listed in
          texts-tell z p r (λ h. (lines p).0 ((bytes_eq-Decides _ _).0 (sym e ∙ o), c.0 h), λ h. c.1 ((lines p).1 h).1)

pub ruleset comparing = (two-unlike, two-none, one-none, other-none, names-differ, lists-tell)
