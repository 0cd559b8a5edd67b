-- What the writers ask and leave: a text that the record stands for, and room for it. Each writes at the front of what it is lent.
-- Assumes nothing.
use Rattle.std.specs.Prelude.{◌≡◌, List, [], ◌∷◌, ◌++◌, ℕ, ◌≤◌, length, drop, Option, Some}
use Rattle.kinds.specs.Bytes.{ascii}
use Rattle.model.specs.declared.Sort.{Sort}
use Rattle.model.specs.Record.{on_option, case, select}
use Rattle.record.specs.Texts.{base_text_from, kind_from, tuple_text_from}

-- the words of elementary kinds by their records' kinds, of those with a number and of the others; a record is of one of them
unfoldable pub number_word : ℕ → List ℕ
number_word k = select (case 0x1 (ascii "int") ∷ case 0x2 (ascii "uint") ∷ []) (ascii "bytes") k

unfoldable pub lone_word : ℕ → List ℕ
lone_word k = select (case 0x3 (ascii "address") ∷ case 0x4 (ascii "bool") ∷ case 0x6 (ascii "function") ∷ case 0x7 (ascii "bytes") ∷ []) (ascii "string") k

-- the bytes u are put in at the front, and r is their length
pub record Put (u b b₁ : List ℕ) (r : ℕ) : Type 0 where
  pub same : b₁ ≡ u ++ drop (length u) b
  pub long : r ≡ length u

-- there is a text, and room for it
pub record Room (t : Option (List ℕ)) (b : List ℕ) : Type 0 where
  pub text : List ℕ
  pub same : t ≡ Some text
  pub room : length text ≤ length b

-- the text is put in
abbrev pub Wrote : Option (List ℕ) → List ℕ → List ℕ → ℕ → Type 0
Wrote t b b₁ r = (u : List ℕ) → t ≡ Some u → Put u b b₁ r

-- the same for a base and its suffixes, in which some number of tuples may nest
pub record KindRoom (t b : List ℕ) : Type 0 where
  pub d : ℕ
  pub at : Room (kind_from d t) b

abbrev pub KindWrote : List ℕ → List ℕ → List ℕ → ℕ → Type 0
KindWrote t b b₁ r = (d : ℕ) → Room (kind_from d t) b → Wrote (kind_from d t) b b₁ r

-- for a base, by its record's kind and body
pub record BaseRoom (k : ℕ) (body b : List ℕ) : Type 0 where
  pub d : ℕ
  pub at : Room (base_text_from d k body) b

abbrev pub BaseWrote : ℕ → List ℕ → List ℕ → List ℕ → ℕ → Type 0
BaseWrote k body b b₁ r = (d : ℕ) → Room (base_text_from d k body) b → Wrote (base_text_from d k body) b b₁ r

-- for the fields of a list or a tuple, in brackets
pub record FieldsRoom (t b : List ℕ) : Type 0 where
  pub sort : Sort
  pub d : ℕ
  pub at : Room (tuple_text_from sort d t) b

abbrev pub FieldsWrote : List ℕ → List ℕ → List ℕ → ℕ → Type 0
FieldsWrote t b b₁ r = (sort : Sort) (d : ℕ) → Room (tuple_text_from sort d t) b → Wrote (tuple_text_from sort d t) b b₁ r

-- and for a line: a name, and a list in brackets
unfoldable pub line_from : Sort → ℕ → List ℕ → List ℕ → Option (List ℕ)
line_from sort d name fields = on_option (λ u. name ++ u) (tuple_text_from sort d fields)

pub record LineRoom (name fields b : List ℕ) : Type 0 where
  pub sort : Sort
  pub d : ℕ
  pub at : Room (line_from sort d name fields) b

abbrev pub LineWrote : List ℕ → List ℕ → List ℕ → List ℕ → ℕ → Type 0
LineWrote name fields b b₁ r = (sort : Sort) (d : ℕ) → Room (line_from sort d name fields) b → Wrote (line_from sort d name fields) b b₁ r
