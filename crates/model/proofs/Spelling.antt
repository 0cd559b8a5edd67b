-- Every kind of the ABI Specification, in each of its spellings, is read as that kind wherever a kind may stand.
-- Assumes nothing.
use mathlib.Core.Path.{◌≡◌, refl, sym, ◌∙◌, ap, ap₂}
use mathlib.Core.Bool.{Bool, true, false, false≢true}
use mathlib.Core.List.{List, [], ◌∷◌, ◌++◌, append_assoc, append-nil}
use Prim.Native.Nat.{ℕ, zero, suc, ◌+◌, ◌≤◌}
use native.Mathlib.Omega.{arith}
use lib.Dec.{eqb}
use lib.ListN.{length}
use borrow.Author.Tests.{eq-eqb}
use Rattle.kinds.specs.Bytes.{lparen, all, is_ascii}
use Rattle.kinds.specs.Kind.{is_kind, are_kinds, Elementary, Suffix, Kind, Kinds, no_kind, more_kinds, suffix_text, kind_text, list_text, rest_text}
use Rattle.kinds.proofs.Logic.{both, left, right, all_append}
use Rattle.model.specs.declared.Refusal.TheVariants.{Unknown}
use Rattle.model.specs.declared.Sort.{Sort}
use Rattle.model.specs.declared.Sort.TheVariants.{Plain, Parameter, Event}
use Rattle.model.specs.Tree.{Base, elementary, Field, field, unmarked, arrays, base_kind, kind_of, kinds_of, suffixes_of, base_of, fields_of, field_of}
use Rattle.model.specs.Text.{first}
use Rattle.model.specs.Parser.{got, bad}
use Rattle.model.specs.Reading.{can_specify_location, marks_by, marks, field_by, list, tuple_kind, deepest, longest_text, admit}
use Rattle.model.specs.Record.{is_suffix, is_mark, is_base, is_field, are_fields}
use Rattle.model.specs.Calls.{all_of, tuple_by, read_tuple, read_kind}
use Rattle.model.specs.Written.{suffixes_text, SpellsElementary, itself, SpellsKind, SpellsList, SpellsRest, fits, all_fit}
use Rattle.model.proofs.Stands.{peek-first, admit-ascii, Reads}
use Rattle.model.proofs.KindBack.{spelled-suffixes, spelled-word, word-ascii, suffix-ascii}
use Rattle.model.proofs.Readback.{is_end, ReadsBase, ReadsField, ReadsList, ReadsRest, base-lone, base_grouped, field-whole, list-empty, list-more, rest-empty, rest_more}
use Rattle.model.proofs.Tuples.{uncrowded, all-bare}

-- Fields without marks and names.

-- those of kinds have those kinds
pub arrays-last : (ss : List Suffix) (k : Kind) (s : Suffix) → arrays k (ss ++ (s ∷ [])) ≡ Kind.array (arrays k ss) s
unfolding arrays
arrays-last [] k s = refl
arrays-last (o ∷ ss) k s = arrays-last ss (Kind.array k o) s

mutual
  unfolding suffixes_of base_of base_kind arrays

  pub kind-field : (k : Kind) → kind_of (field_of k) ≡ k
  kind-field (Kind.elementary e) = refl
  kind-field (Kind.tuple ks) = ap Kind.tuple (kinds-fields ks)
  kind-field (Kind.array k s) = arrays-last (suffixes_of k) (base_kind (base_of k)) s ∙ ap (λ j. Kind.array j s) (kind-field k)

  pub kinds-fields : (ks : Kinds) → kinds_of (fields_of ks) ≡ ks
  kinds-fields no_kind = refl
  kinds-fields (more_kinds k ks) = ap₂ more_kinds (kind-field k) (kinds-fields ks)

-- they are well formed, in lists of every sort
bare-mark : (sort : Sort) (l : Bool) → is_mark (marks_by sort l) unmarked [] ≡ true
unfolding is_mark
bare-mark Plain l = refl
bare-mark Parameter true = refl
bare-mark Parameter false = refl
bare-mark Event l = refl

pub bare-field : (sort : Sort) (d : ℕ) (b : Base) (ss : List Suffix) → (is_base d b ≡ true) × (all is_suffix ss ≡ true) → is_field sort d (field unmarked [] b ss) ≡ true
unfolding is_field marks
bare-field sort d b ss h = both (bare-mark sort (can_specify_location b ss)) (both h.0 h.1)

mutual
  unfolding suffixes_of base_of is_kind fits is_base

  base-formed : (k : Kind) (d : ℕ) → is_kind k ≡ true → fits d k ≡ true → (is_base d (base_of k) ≡ true) × (all is_suffix (suffixes_of k) ≡ true)
  base-formed (Kind.elementary e) d h f = (h, refl)
  base-formed (Kind.tuple ks) zero h f = absurd (false≢true f)
  base-formed (Kind.tuple ks) (suc d) h f = (fields-formed ks Plain d h f, refl)
  base-formed (Kind.array k s) d h f =
      let (p, q) = base-formed k d h (left _ f) in
      (p, rw (all_append is_suffix (suffixes_of k) (s ∷ [])) (both q (both (right (fits d k) f) refl)))

  fields-formed : (ks : Kinds) (sort : Sort) (d : ℕ) → are_kinds ks ≡ true → all_fit d ks ≡ true → are_fields sort d (fields_of ks) ≡ true
  fields-formed no_kind sort d h f = refl
  fields-formed (more_kinds k ks) sort d h f =
      both (bare-field sort d (base_of k) (suffixes_of k) (base-formed k d (left _ h) (left _ f))) (fields-formed ks sort d (right (is_kind k) h) (right (fits d k) f))

-- Spellings.

-- canonical text is one
mutual
  unfolding kind_text

  pub kind-itself : (k : Kind) → SpellsKind k (kind_text k)
  kind-itself (Kind.elementary e) = itself e
  kind-itself (Kind.tuple ks) = (list_text ks, refl, list-itself ks)
  kind-itself (Kind.array k s) = (kind_text k, refl, kind-itself k)

  pub list-itself : (ks : Kinds) → SpellsList ks (list_text ks)
  list-itself no_kind = refl
  list-itself (more_kinds k ks) = (kind_text k, rest_text ks, refl, kind-itself k, rest-itself ks)

  rest-itself : (ks : Kinds) → SpellsRest ks (rest_text ks)
  rest-itself no_kind = refl
  rest-itself (more_kinds k ks) = (kind_text k, rest_text ks, refl, kind-itself k, rest-itself ks)

-- the text of a kind is that of a base, which is read, and of its suffixes
record InParts (k : Kind) (t : List ℕ) : Type 0 where
  front : List ℕ
  whole : t ≡ front ++ suffixes_text (suffixes_of k)
  base : ReadsBase (base_of k) front

suffixes-last : (ss : List Suffix) (s : Suffix) → suffixes_text (ss ++ (s ∷ [])) ≡ suffixes_text ss ++ suffix_text s
unfolding suffixes_text
suffixes-last [] s = append-nil (suffix_text s)
suffixes-last (o ∷ ss) s = rw (suffixes-last ss s, append_assoc)

array-text : (k : Kind) (s : Suffix) (t u v : List ℕ) → t ≡ u ++ suffix_text s → u ≡ v ++ suffixes_text (suffixes_of k) → t ≡ v ++ suffixes_text (suffixes_of (Kind.array k s))
unfolding suffixes_of
array-text k s t u v p q = rw (p, q, append_assoc, suffixes-last)

parts-array : {k : Kind} {t u : List ℕ} (s : Suffix) → t ≡ u ++ suffix_text s → InParts k u → InParts (Kind.array k s) t
unfolding base_of
parts-array {k} {t} {u} s e p = record { front = p.front; whole = array-text k s t u p.front e p.whole; base = p.base }

parts-field : {k : Kind} {t : List ℕ} → InParts k t → ReadsField (field_of k) t
parts-field {k} p = rw p.whole (rw (append-nil (suffixes_text (suffixes_of k))) at (field-whole unmarked [] (suffixes_of k) p.base))

mutual
  unfolding base_of suffixes_of suffixes_text

  parts : (k : Kind) (t : List ℕ) → SpellsKind k t → InParts k t
  parts (Kind.elementary e) t w = record { front = t; whole = sym (append-nil t); base = base-lone w }
  parts (Kind.tuple ks) t w = record { front = t; whole = sym (append-nil t); base = rw w.1 (base_grouped (list-parts ks w.0 w.2)) }
  parts (Kind.array k s) t w = parts-array s w.1 (parts k w.0 w.2)

  list-parts : (ks : Kinds) (t : List ℕ) → SpellsList ks t → ReadsList (fields_of ks) t
  list-parts no_kind t w = rw w list-empty
  list-parts (more_kinds k ks) t w = rw w.2 (list-more (parts-field (parts k w.0 w.3)) (rest-parts ks w.1 w.4))

  rest-parts : (ks : Kinds) (t : List ℕ) → SpellsRest ks t → ReadsRest (fields_of ks) t
  rest-parts no_kind t w = rw w rest-empty
  rest-parts (more_kinds k ks) t w = rw w.2 (rest_more (parts-field (parts k w.0 w.3)) (rest-parts ks w.1 w.4))

-- a kind as a field of a list of any sort, with `,` or `)` and anything behind
pub kind-spelled : (k : Kind) (t : List ℕ) → SpellsKind k t → (sort : Sort) (d : ℕ) → is_kind k ≡ true → fits d k ≡ true → (r : List ℕ) → is_end r ≡ true
    → Reads (field_by sort (tuple_kind d)) t r (field_of k)
kind-spelled k t w sort d h f r i =
    (parts-field (parts k t w)).reads sort d (bare-field sort d (base_of k) (suffixes_of k) (base-formed k d h f)) r i

-- the kinds of a list of any sort, with anything behind
pub kinds-spelled : (ks : Kinds) (t : List ℕ) → SpellsList ks t → (sort : Sort) (d : ℕ) → are_kinds ks ≡ true → all_fit d ks ≡ true → (r : List ℕ)
    → Reads (list (field_by sort (tuple_kind d))) t r (fields_of ks)
kinds-spelled ks t w sort d h f r = (list-parts ks t w).reads sort d (fields-formed ks sort d h f) r

-- The kind call.

-- a spelling that does not begin with `(` is an elementary kind's with suffixes
first_part : (u x : List ℕ) → eqb (first (u ++ x)) lparen ≡ false → eqb (first u) lparen ≡ false
first_part [] x h = refl
first_part (c ∷ u) x h = h

lone_parts : (k : Kind) (t : List ℕ) → SpellsKind k t → eqb (first t) lparen ≡ false
    → (e : Elementary) × (u : List ℕ) × (base_of k ≡ elementary e) × SpellsElementary e u × (t ≡ u ++ suffixes_text (suffixes_of k))
unfolding base_of suffixes_of suffixes_text
lone_parts (Kind.elementary e) t w h = (e, t, refl, w, sym (append-nil t))
lone_parts (Kind.tuple ks) t w h = absurd (false≢true (sym (rw w.1 at h)))
lone_parts (Kind.array k s) t w h =
    let (e, u, b, p, q) = lone_parts k w.0 w.2 (first_part w.0 (suffix_text s) (rw w.1 at h)) in
    (e, u, b, p, array-text k s t w.0 u w.1 q)

kind-call-spelled : (k : Kind) (t : List ℕ) → SpellsKind k t → (d : ℕ) → is_kind k ≡ true → fits d k ≡ true → eqb (first t) lparen ≡ false → read_kind t ≡ got (field_of k) 0
unfolding read_kind is_base
kind-call-spelled k t w d h f n =
    let (e, u, b, p, q) = lone_parts k t w n in
    let (v, ss) = base-formed k d h f in
    rw (read_kind, peek-first t 0 t refl, n, q, spelled-suffixes p (rw b at v) (suffixes_of k) ss, b)

-- spellings are ASCII
mutual
  kind-ascii : (k : Kind) (t : List ℕ) → SpellsKind k t → all is_ascii t ≡ true
  kind-ascii (Kind.elementary e) t w = word-ascii t (spelled-word w)
  kind-ascii (Kind.tuple ks) t w = rw w.1 (list-ascii ks w.0 w.2)
  kind-ascii (Kind.array k s) t w = rw (w.1, all_append) (both (kind-ascii k w.0 w.2) (suffix-ascii s))

  pub list-ascii : (ks : Kinds) (t : List ℕ) → SpellsList ks t → all is_ascii t ≡ true
  list-ascii no_kind t w = rw w
  list-ascii (more_kinds k ks) t w = rw (w.2, all_append) (both (kind-ascii k w.0 w.3) (rest-ascii ks w.1 w.4))

  rest-ascii : (ks : Kinds) (t : List ℕ) → SpellsRest ks t → all is_ascii t ≡ true
  rest-ascii no_kind t w = rw w
  rest-ascii (more_kinds k ks) t w = rw (w.2, all_append is_ascii) (both (kind-ascii k w.0 w.3) (rest-ascii ks w.1 w.4))

-- what begins with `(`
whole-field : (f : Field) (n m : ℕ) → m ≡ n → all_of n (got f m) ≡ got f 0
whole-field f n m e = rw (all_of, eq-eqb m n e)

tuple-call-spelled : (k : Kind) (t : List ℕ) → SpellsKind k t → is_kind k ≡ true → fits deepest k ≡ true → read_tuple t ≡ got (field_of k) 0
unfolding read_tuple
tuple-call-spelled k t w h f =
    let q : field_by Plain (tuple_kind deepest) t 0 ≡ got (field_of k) (0 + length t) = kind-spelled k t w Plain deepest h f [] refl t 0 (sym (append-nil t)) in
    ap (tuple_by t) (uncrowded k t w f)
    ∙ ap (λ b. elim b [ true ↦ all_of (length t) (field_by Plain (tuple_kind deepest) t 0) | false ↦ bad Unknown 0 ]) (all-bare k t w)
    ∙ ap (all_of (length t)) q
    ∙ whole-field (field_of k) (length t) (0 + length t) (omega arith)

pub kind-call-reads : (k : Kind) (t : List ℕ) → SpellsKind k t → is_kind k ≡ true → fits deepest k ≡ true → read_kind t ≡ got (field_of k) 0
unfolding read_kind
kind-call-reads k t w h f = go (eqb (first t) lparen) refl
  where
    go : (b : Bool) → eqb (first t) lparen ≡ b → read_kind t ≡ got (field_of k) 0
    go true e = rw (read_kind, peek-first t 0 t refl, e) (tuple-call-spelled k t w h f)
    go false e = kind-call-spelled k t w deepest h f e

pub kind-call_admits : (k : Kind) (t : List ℕ) → SpellsKind k t → is_kind k ≡ true → fits deepest k ≡ true → length t ≤ longest_text → admit read_kind t ≡ got (field_of k) 0
kind-call_admits k t w h f l = admit-ascii read_kind t (kind-ascii k t w) l ∙ kind-call-reads k t w h f
