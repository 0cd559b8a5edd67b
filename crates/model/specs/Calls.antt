-- What each call writes, or why it refuses. `outcome` and `after` of Answer say the rest.
-- Assumes nothing.
use Rattle.std.specs.Prelude.{◌≡◌, Bool, true, false, ◌&&◌, ◌||◌, not, cond, List, [], ◌∷◌, ℕ, zero, suc, eqb, length, Option, None, Some}
use Rattle.kinds.specs.Bytes.{lparen, rparen, rbracket, is_letter}
use Rattle.kinds.specs.Kind.{Prototype, canonical as canonicalLine}
use Rattle.model.specs.declared.Refusal.TheVariants.{TooDeep, Unknown, NotWellFormed, WrongSort}
use Rattle.model.specs.declared.Keyword.{Keyword}
use Rattle.model.specs.declared.Call.{Call}
use Rattle.model.specs.declared.Sort.TheVariants.{Plain}
use Rattle.model.specs.Text.{blank, peek}
use Rattle.model.specs.Tree.{elementary, Field, field, unmarked, Declaration, kind_of, field_of, name_kinds}
use Rattle.model.specs.KindText.{Result, ok, err, Spelled, from_str}
use Rattle.model.specs.Parser.{Ans, got, bad, deep}
use Rattle.model.specs.Reading.{field_by, tuple_kind, deepest, admit, parse}
use Rattle.model.specs.Record.{encode, encode_field, decode, decode_lone}
use Rattle.model.specs.Line.{keyword_in, canonical_text, signature_text, field_text, name_of, field_name}
use Rattle.model.specs.Answer.{Output, writes, refuses}

-- what was read is written by E
unfoldable pub written : {A : Type 0} → (A → List ℕ) → Ans A → Output
written E (got a n) = writes (E a)
written E (bad w p) = refuses w p
written E (deep p) = refuses TooDeep p

-- the five reading calls
unfoldable pub read_output : Call → List ℕ → Output
read_output c s = written (encode 4) (parse c s)

-- "The kind call reads a whole text as a kind and writes a field with mark 0 and an empty name"; its errors stand at position 0
abbrev pub lone_field : Result Spelled → Ans Field
lone_field (ok k) = got (field unmarked [] (elementary k.kind) k.suffixes) 0
lone_field (err w) = bad w 0

-- Order 3: "A kind text starting with `(` is read so".

-- "Where some beginning of the text has 33 more `(` than `)`, it gets 10 at the first such `(`": the place of that `(`, where the text begins at
-- the place p and l more tuples may open before it. A `)` makes room for one more, whatever it closes
abbrev pub open_by : ℕ → ℕ → (ℕ → Option ℕ) → Option ℕ
open_by zero p R = Some p
open_by (suc l) p R = R l

unfoldable pub crowded : ℕ → ℕ → List ℕ → Option ℕ
crowded l p [] = None
crowded l p (c ∷ t) = cond (eqb c lparen) (open_by l p (λ k. crowded k (suc p) t)) (cond (eqb c rparen) (crowded (suc l) (suc p) t) (crowded l (suc p) t))

-- "no blanks, no names": no blank stands anywhere, and no letter directly behind a `)` or `]`, since a name that no blank stands before can begin
-- nowhere else. b says whether a `)` or `]` stands before the text
abbrev pub closes : ℕ → Bool
closes c = eqb c rparen || eqb c rbracket

unfoldable pub is_bare : Bool → List ℕ → Bool
is_bare b [] = true
is_bare b (c ∷ t) = eqb (blank (c ∷ t)) 0 && (not (b && is_letter c) && is_bare (closes c) t)

-- "otherwise what doesn't fit, a bad component included, gets 13": what was read has to end where the text does, at n
abbrev pub all_of : ℕ → Ans Field → Ans Field
all_of n (got f p) = elim (eqb p n) [ true ↦ got f 0 | false ↦ bad Unknown 0 ]
all_of n (bad w p) = bad Unknown 0
all_of n (deep p) = bad Unknown 0

-- "`(T1,...,Tn)` with suffixes", "components of any accepted kind, digits only in a tuple's own suffix": as a tuple is read in a list
abbrev pub tuple_by : List ℕ → Option ℕ → Ans Field
tuple_by s (Some p) = deep p
tuple_by s None = elim (is_bare false s) [ true ↦ all_of (length s) (field_by Plain (tuple_kind deepest) s 0) | false ↦ bad Unknown 0 ]

unfoldable pub read_tuple : List ℕ → Ans Field
read_tuple s = tuple_by s (crowded deepest 0 s)

unfoldable pub read_kind : List ℕ → Ans Field
read_kind s = elim (eqb (peek s 0) lparen) [ true ↦ read_tuple s | false ↦ lone_field (from_str s) ]

unfoldable pub kind_output : List ℕ → Output
kind_output s = written (encode_field 4) (admit read_kind s)

-- "15 record not well formed (or of the wrong sort: a field where a declaration is due), position 0. 16 canonical or name of a constructor, or
-- signature of anything but a function, position 0." "for records 15, 16, 20"
abbrev pub or_wrong_sort : Option (List ℕ) → Output
or_wrong_sort None = refuses WrongSort 0
or_wrong_sort (Some u) = writes u

abbrev pub of_record : {A : Type 0} → Option A → (A → Output) → Output
of_record None f = refuses NotWellFormed 0
of_record (Some a) f = f a

unfoldable pub canonical_output : List ℕ → Output
canonical_output b = of_record (decode b) (λ d. or_wrong_sort (canonical_text d))

unfoldable pub signature_output : List ℕ → Output
signature_output b = of_record (decode b) (λ d. or_wrong_sort (signature_text d))

unfoldable pub kind_text_output : List ℕ → Output
kind_text_output b = of_record (decode_lone b) (λ f. writes (field_text f))

-- "The name call hands back the name's own bytes within the record, of a declaration or field"
abbrev pub name_by : Option Declaration → Option Field → Output
name_by (Some d) f = or_wrong_sort (name_of d)
name_by None f = of_record f (λ g. writes (field_name g))

unfoldable pub name_output : List ℕ → Output
name_output b = name_by (decode b) (decode_lone b)

-- "A text is accepted as a function, event or error if the general call or the call named for that keyword, lent enough, reads it so": with this
-- name and these kinds. A named call reads its own keyword only
pub record AcceptedAs (s : List ℕ) (p : Prototype) : Type 0 where
  pub call : Call
  pub declaration : Declaration
  pub place : ℕ
  pub reads : parse call s ≡ got declaration place
  pub says : name_kinds declaration ≡ Some p

-- lists of texts, each accepted with the name and kinds at its place of the other list: "one claim about whole lists of any lengths"
pub data AllAccepted : List (List ℕ) → List Prototype → Type 0 where
  no_text : AllAccepted [] []
  one-text : {s : List ℕ} {p : Prototype} {ss : List (List ℕ)} {ps : List Prototype} → AcceptedAs s p → AllAccepted ss ps → AllAccepted (s ∷ ss) (p ∷ ps)

-- what is read of a line: the record that is written of it says the same name and kinds, and its line is the same
pub record SameLine (k : Keyword) (p : Prototype) (b : List ℕ) : Type 0 where
  pub declaration : Declaration
  pub says : decode b ≡ Some declaration
  pub keyword : keyword_in declaration ≡ k
  pub same : name_kinds declaration ≡ Some p
  pub name : name_output b ≡ writes p.name
  pub canonical : canonical_output b ≡ writes (canonicalLine p)

-- what is read of the kind text of a field: the record that is written of it says the same kind, without a mark and names, and its kind text is the
-- same
pub record SameKind (f : Field) (b : List ℕ) : Type 0 where
  pub tree : Field
  pub says : decode_lone b ≡ Some tree
  pub bare : tree ≡ field_of (kind_of f)
  pub same : kind_of tree ≡ kind_of f
  pub text : kind_text_output b ≡ writes (field_text f)
