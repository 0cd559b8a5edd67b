-- The texts that parts of a record stand for, where those parts are well formed, and how long they are.
-- Assumes nothing.
use Rattle.std.specs.Prelude.{Bool, true, false, ◌||◌, List, [], ◌∷◌, ◌++◌, ℕ, ◌≤◌, length, Option, None, Some}
use Rattle.kinds.specs.Bytes.{between}
use Rattle.kinds.specs.Kind.{Kind, elementary_text, suffix_text, kind_text}
use Rattle.model.specs.declared.Sort.{Sort}
use Rattle.model.specs.Tree.{Fields, no_field, more_fields, base_kind, kinds_of}
use Rattle.model.specs.KindText.{lookup}
use Rattle.model.specs.Reading.{locations, marks_by}
use Rattle.model.specs.Layout.{Piece, piece, no_piece, piece_of}
use Rattle.model.specs.Record.{is_absent, is_mark, given, on_option, on_piece, each, decode_elementary, decode_suffix, decode_suffixes, base_from, field_from, tuple_from}
use Rattle.model.specs.Line.{field_text}
use Rattle.model.specs.Written.{suffixes_text}

-- how long a text is, where there is one
abbrev pub size : Option (List ℕ) → Option ℕ
size = on_option length

-- a number that is at most n, where there is one
abbrev pub AtMost : ℕ → Option ℕ → Type 0
AtMost n None = Unit {0}
AtMost n (Some m) = m ≤ n

-- by a record's kind and body: an elementary kind, and a suffix
unfoldable pub elementary_from : ℕ → List ℕ → Option (List ℕ)
elementary_from k body = on_option elementary_text (decode_elementary k body)

unfoldable pub suffix_from : ℕ → List ℕ → Option (List ℕ)
suffix_from k body = on_option suffix_text (decode_suffix k body)

-- suffixes up to the end
unfoldable pub suffixes_from : List ℕ → Option (List ℕ)
suffixes_from b = on_option suffixes_text (decode_suffixes 4 b)

-- whether the kind whose base and suffixes stand there, if they are one, admits data locations: `bytes`, `string`, a tuple, or any with a suffix
abbrev pub is_more : List ℕ → Bool
is_more [] = false
is_more (c ∷ t) = true

abbrev pub located_at : Piece → Bool
located_at no_piece = false
located_at (piece k body r) = is_more r || between 0x7 0x9 k

unfoldable pub located_from : List ℕ → Bool
located_from t = located_at (piece_of 4 t)

-- whether a name is no data location
unfoldable pub is_free : List ℕ → Bool
is_free nm = is_absent (lookup locations nm)

-- whether a mark suits a name in a list of a sort, at the kind whose base and suffixes stand there
abbrev pub is_mark_at : Sort → List ℕ → ℕ → List ℕ → Bool
is_mark_at sort t m nm = is_mark (marks_by sort (located_from t)) m nm

-- by a record's kind and body: a base in which d tuples may nest
unfoldable pub base_text_from : ℕ → ℕ → List ℕ → Option (List ℕ)
base_text_from d k body = on_option (λ b. kind_text (base_kind b)) (base_from (tuple_from 4 d) k body)

-- a base and its suffixes, which is what stands behind a field's name
unfoldable pub kind_from : ℕ → List ℕ → Option (List ℕ)
kind_from d t = on_piece (piece_of 4 t) (λ k body r. given (base_text_from d k body) (λ u. on_option (λ v. u ++ v) (suffixes_from r)))

-- a field of a list of a sort by its record's kind and body, and all fields up to the end
unfoldable pub field_text_from : Sort → ℕ → ℕ → List ℕ → Option (List ℕ)
field_text_from sort d k body = on_option field_text (field_from 4 sort (base_from (tuple_from 4 d)) k body)

unfoldable pub fields_from : Sort → ℕ → List ℕ → Option Fields
fields_from sort d b = each 4 no_field more_fields (field_from 4 sort (base_from (tuple_from 4 d))) b

-- the fields' kinds in brackets
unfoldable pub tuple_text_from : Sort → ℕ → List ℕ → Option (List ℕ)
tuple_text_from sort d b = on_option (λ fs. kind_text (Kind.tuple (kinds_of fs))) (fields_from sort d b)
