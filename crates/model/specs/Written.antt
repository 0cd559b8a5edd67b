-- Trees written out: a field in full, and a kind in every spelling of the ABI Specification.
-- Assumes nothing.
use Rattle.std.specs.Prelude.{◌≡◌, Bool, true, false, ◌&&◌, List, [], ◌∷◌, ◌++◌, ℕ, zero, suc}
use Rattle.kinds.specs.Bytes.{ascii, space, comma, lparen, rparen}
use Rattle.kinds.specs.Kind.{bits, Elementary, int, uint, Suffix, Kind, Kinds, no_kind, more_kinds, elementary_text, suffix_text}
use Rattle.model.specs.Tree.{Base, elementary, tuple, Field, field, Fields, no_field, more_fields}
use Rattle.model.specs.KindText.{Entry, entry}
use Rattle.model.specs.Reading.{locations, attributes}
use Rattle.model.specs.Record.{Case, case, select, is_suffix}

-- suffixes, innermost first
unfoldable pub suffixes_text : List Suffix → List ℕ
suffixes_text [] = []
suffixes_text (s ∷ ss) = suffix_text s ++ suffixes_text ss

-- a space and the name, if any
abbrev pub name_text : List ℕ → List ℕ
name_text [] = []
name_text (c ∷ w) = space ∷ c ∷ w

-- the words of a table by the marks that they stand for
abbrev pub by_mark : List (Entry ℕ) → List (Case (List ℕ))
by_mark [] = []
by_mark (entry w m ∷ es) = case m w ∷ by_mark es

-- the word that stands for a mark, empty if none does
abbrev pub mark_word : ℕ → List ℕ
mark_word m = select (by_mark (attributes ++ locations)) [] m

-- a space and the mark word, if any
abbrev pub mark_text : ℕ → List ℕ
mark_text m = name_text (mark_word m)

-- a field is its kind, then a space and its mark word if any, then a space and its name if any. A tuple's components are written so, and fields are
-- parted by `,`
unfoldable mutual
  pub written_base : Base → List ℕ
  written_base (elementary e) = elementary_text e
  written_base (tuple fs) = lparen ∷ written_list fs

  pub written_field : Field → List ℕ
  written_field (field m nm b ss) = written_base b ++ (suffixes_text ss ++ (mark_text m ++ name_text nm))

  -- the fields of a list behind its `(`, with the `)`
  pub written_list : Fields → List ℕ
  written_list no_field = rparen ∷ []
  written_list (more_fields f fs) = written_field f ++ written_rest fs

  -- the fields behind the first
  pub written_rest : Fields → List ℕ
  written_rest no_field = rparen ∷ []
  written_rest (more_fields f fs) = comma ∷ (written_field f ++ written_rest fs)

-- the ABI Specification, section Types: `uint`, `int` are synonyms for `uint256`, `int256`; all else as canonical text has it
pub data SpellsElementary : Elementary → List ℕ → Type 0 where
  itself : (e : Elementary) → SpellsElementary e (elementary_text e)
  short_int : SpellsElementary (int (bits 256)) (ascii "int")
  short_uint : SpellsElementary (uint (bits 256)) (ascii "uint")

-- a text is a spelling of a kind
abbrev mutual
  pub SpellsKind : Kind → List ℕ → Type 0
  SpellsKind (Kind.elementary e) t = SpellsElementary e t
  SpellsKind (Kind.tuple ks) t = (u : List ℕ) × (t ≡ lparen ∷ u) × SpellsList ks u
  SpellsKind (Kind.array k s) t = (u : List ℕ) × (t ≡ u ++ suffix_text s) × SpellsKind k u

  -- of the kinds of a list behind its `(`, with the `)`
  pub SpellsList : Kinds → List ℕ → Type 0
  SpellsList no_kind t = t ≡ rparen ∷ []
  SpellsList (more_kinds k ks) t = (u v : List ℕ) × (t ≡ u ++ v) × SpellsKind k u × SpellsRest ks v

  -- of the kinds behind the first
  pub SpellsRest : Kinds → List ℕ → Type 0
  SpellsRest no_kind t = t ≡ rparen ∷ []
  SpellsRest (more_kinds k ks) t = (u v : List ℕ) × (t ≡ comma ∷ (u ++ v)) × SpellsKind k u × SpellsRest ks v

-- what the readers' limits leave of the specification's kinds: array lengths of at most 2^64 - 1, and d nested tuples
unfoldable mutual
  pub fits : ℕ → Kind → Bool
  fits d (Kind.elementary e) = true
  fits zero (Kind.tuple ks) = false
  fits (suc d) (Kind.tuple ks) = all_fit d ks
  fits d (Kind.array k s) = fits d k && is_suffix s

  pub all_fit : ℕ → Kinds → Bool
  all_fit d no_kind = true
  all_fit d (more_kinds k ks) = fits d k && all_fit d ks
