-- Reading declarations, side by side with the Rust's functions of the same names.
-- Assumes nothing.
use Rattle.std.specs.Prelude.{Bool, true, false, List, [], ◌∷◌, ℕ, zero, suc, ◌+◌, ltb, eqb, length, drop, Option, None, Some}
use Rattle.kinds.specs.Bytes.{ascii, comma, lparen, rparen, lbracket, rbracket, is_digit}
use Rattle.kinds.specs.Kind.{Elementary, int, uint, fixed_bytes, address, bool, bytes, string, Suffix}
use Rattle.model.specs.declared.Refusal.TheVariants.{ExpectOpen, ExpectClose, ExpectDeclaration, TooLong, NotUtf8}
use Rattle.model.specs.declared.Keyword.{Keyword}
use Rattle.model.specs.declared.Keyword.TheVariants as key
use Rattle.model.specs.declared.Call.{Call}
use Rattle.model.specs.declared.Call.TheVariants as call
use Rattle.model.specs.declared.Sort.{Sort}
use Rattle.model.specs.declared.Sort.TheVariants.{Plain, Parameter, Event}
use Rattle.model.specs.Text.{span, one, skip, peek, run_length, part, valid_length}
use Rattle.model.specs.Tree.{Base, elementary, tuple, Field, field, Fields, no_field, more_fields, unmarked, indexed, in_calldata, in_memory, is_pure, is_view, not_stated, is_payable, Declaration}
use Rattle.model.specs.KindText.{Result, ok, err, Entry, entry, inside, starts, Spelled, from_str}
use Rattle.model.specs.Parser.{Found, found, missing, Ans, got, bad, deep, Parser, on_ans, then, ◌>>=◌, ◌>>◌, return, look, take_char, keyword_of, ident, keyword, option, optional_name, end}

-- a field's kind: its base, and its suffixes, innermost first
pub record FieldKind : Type 0 where
  pub base : Base
  pub suffixes : List Suffix

-- "Other kinds are the run up to a blank, `,` or `)`"
abbrev pub of_run : Result Spelled → ℕ → ℕ → Ans FieldKind
of_run (ok k) p n = got (record { base = elementary k.kind; suffixes = k.suffixes }) n
of_run (err w) p n = bad w p

unfoldable pub run_kind : Parser FieldKind
run_kind s p = let n = run_length (drop p s) in
    of_run (from_str (part s p n)) p (p + n)

abbrev pub closed : Option Suffix → Found (Unit {0}) → Found Suffix
closed None r = missing
closed (Some o) missing = missing
closed (Some o) (found _ n) = found o n

abbrev pub opened : List ℕ → Found (Unit {0}) → Found Suffix
opened s missing = missing
opened s (found _ n) = let d = span (one is_digit) (drop n s) in
    closed (inside (part s n d)) (look rbracket s (n + d))

-- `array_suffix`: "`[`, digits at once or none, `]`". Digits that are no number, or one over the longest, leave the suffix unread
unfoldable pub array_suffix : List ℕ → ℕ → Found Suffix
array_suffix s at = opened s (look lbracket s at)

abbrev pub suffixes_by : (ℕ → Ans (List Suffix)) → ℕ → Found Suffix → Ans (List Suffix)
suffixes_by R at missing = got [] at
suffixes_by R at (found o n) = on_ans (λ ss. o ∷ ss) (R n)

-- "Suffixes follow", at most k
unfoldable pub suffixes_in : ℕ → Parser (List Suffix)
suffixes_in zero s at = got [] at
suffixes_in (suc k) s at = suffixes_by (suffixes_in k s) at (array_suffix s at)

-- a suffix takes two bytes at least
unfoldable pub suffixes : Parser (List Suffix)
suffixes s at = suffixes_in (length s) s at

-- `field_kind`, where T reads a tuple kind from its `(`
unfoldable pub field_kind : Parser FieldKind → Parser FieldKind
field_kind T s at = let p = skip s at in
    elim (eqb (peek s p) lparen) [ true ↦ T s p | false ↦ run_kind s p ]

-- "looked for only at arrays, tuples, `bytes` and `string`": `can_specify_location`
abbrev pub is_located : Elementary → Bool
is_located (int w) = false
is_located (uint w) = false
is_located (fixed_bytes n) = false
is_located address = false
is_located bool = false
is_located Elementary.function = false
is_located bytes = true
is_located string = true

abbrev pub can_specify_location : Base → List Suffix → Bool
can_specify_location (elementary e) [] = is_located e
can_specify_location (tuple fs) [] = true
can_specify_location b (o ∷ ss) = true

-- "In function and constructor lists it is `calldata` or `memory`". Order 1: "Keep the place word."
abbrev pub locations : List (Entry ℕ)
locations = entry (ascii "calldata") in_calldata ∷ entry (ascii "memory") in_memory ∷ []

-- "In an event's own list the mark is `indexed`."
abbrev pub attributes : List (Entry ℕ)
attributes = entry (ascii "indexed") indexed ∷ []

-- the mark words of a list of a sort and the marks that they stand for, at a kind that admits data locations or not:
-- "a tuple holds fields, without marks"
abbrev pub marks_by : Sort → Bool → List (Entry ℕ)
marks_by Plain l = []
marks_by Parameter true = locations
marks_by Parameter false = []
marks_by Event l = attributes

-- the mark words of a field
unfoldable pub marks : Sort → FieldKind → List (Entry ℕ)
marks sort k = marks_by sort (can_specify_location k.base k.suffixes)

-- `field`, `parameter_field` and `event_field`: "A field is a kind, then a mark, then an optional name."
unfoldable pub field_by : Sort → Parser FieldKind → Parser Field
field_by sort T = do
  k ← field_kind T
  m ← option (marks sort k) unmarked
  nm ← optional_name
  return (field m nm k.base k.suffixes)

-- the end of a list
unfoldable pub closing : Parser Fields
closing s at = on_ans (λ _. no_field) (take_char rparen ExpectClose s at)

-- "A field that fails, unless by refusal 10, ends the list there: the error is the missing `)` at the outermost list, where that field or its
-- comma would begin." R reads on behind the field
abbrev pub follow : (ℕ → Ans Fields) → List ℕ → ℕ → Ans Field → Ans Fields
follow R s at (got f n) = on_ans (more_fields f) (R n)
follow R s at (bad w p) = closing s at
follow R s at (deep p) = deep p

abbrev pub rest_by : Parser Field → (ℕ → Ans Fields) → List ℕ → ℕ → Found (Unit {0}) → Ans Fields
rest_by F R s at missing = closing s at
rest_by F R s at (found _ n) = follow R s at (F s n)

-- behind a field, where F reads a field: `,` and more fields, at most k, or the end
unfoldable pub rest : Parser Field → ℕ → Parser Fields
rest F zero s at = closing s at
rest F (suc k) s at = rest_by F (rest F k s) s at (look comma s at)

-- "`(`, fields parted by `,`, `)`", behind the `(`. A text has fewer commas than bytes
unfoldable pub list : Parser Field → Parser Fields
list F s at = follow (rest F (length s) s) s at (F s at)

-- `tuple_kind` from its `(`, where d more tuples may open: "10 the reader meets a 33rd open tuple (a declaration's own list isn't one), position its `(`"
unfoldable pub tuple_kind : ℕ → Parser FieldKind
tuple_kind zero s p = deep p
tuple_kind (suc d) s p =
    then (list (field_by Plain (tuple_kind d)) s (p + 1))
    (λ fs n. on_ans (λ ss. record { base = tuple fs; suffixes = ss }) (suffixes s n))

-- "32 nested tuples read": how many may be open at once
abbrev pub deepest : ℕ
deepest = 32

-- `fields`: a declaration's own list, which "isn't one" of the open tuples
unfoldable pub fields : Sort → Parser Fields
fields sort = do
  take_char lparen ExpectOpen
  list (field_by sort (tuple_kind deepest))

-- "A function then has at most one of `pure`, `view`, `payable`"
abbrev pub mutabilities : List (Entry ℕ)
mutabilities = entry (ascii "pure") is_pure ∷ entry (ascii "view") is_view ∷ entry (ascii "payable") is_payable ∷ []

-- Order 2: "the Solidity grammar allows `external` and `public`". "Neither visibility word is stored.": all that is known of one is that it stands there
abbrev pub visibilities : List (Entry Bool)
visibilities = entry (ascii "external") true ∷ entry (ascii "public") true ∷ []

-- whether a visibility word stands there
unfoldable pub visibility : Parser Bool
visibility = option visibilities false

-- one that may stand there unless one stood before
abbrev pub visibility_unless : Bool → Parser Bool
visibility_unless true = return true
visibility_unless false = visibility

-- Order 2: "After a function's inputs, at most one of these and at most one mutability word may stand, in either order.": a visibility word if there
-- is one, a mutability word if there is one, and where there was no visibility word, one again. A second word of either sort is left to `end`: it
-- "is refused with 7 at that word"
unfoldable pub modifiers : Parser ℕ
modifiers = do
  v ← visibility
  m ← option mutabilities not_stated
  visibility_unless v
  return m

abbrev pub returns_by : ℕ → Found (Unit {0}) → List ℕ → Ans Fields
returns_by at missing s = got no_field at
returns_by at (found _ n) s = fields Parameter s n

-- "and after it optionally `returns` with a list"
unfoldable pub returns : Parser Fields
returns s at = returns_by at (keyword_of (entry (ascii "returns") tt ∷ []) s at) s

-- "one of the four keywords"
unfoldable pub keyword_text : Keyword → List ℕ
keyword_text key.Function = ascii "function"
keyword_text key.Constructor = ascii "constructor"
keyword_text key.Event = ascii "event"
keyword_text key.Error = ascii "error"

-- `function`
unfoldable pub function : Parser Declaration
function = do
  keyword (keyword_text key.Function)
  nm ← ident
  ins ← fields Parameter
  m ← modifiers
  outs ← returns
  return (Declaration.function m nm ins outs)

-- `constructor`: "A constructor may have `payable`"
unfoldable pub constructor : Parser Declaration
constructor = do
  keyword (keyword_text key.Constructor)
  ins ← fields Parameter
  m ← option (entry (ascii "payable") is_payable ∷ []) not_stated
  return (Declaration.constructor m ins)

-- `event`: "an event `anonymous`"
unfoldable pub event : Parser Declaration
event = do
  keyword (keyword_text key.Event)
  nm ← ident
  ins ← fields Event
  a ← option (entry (ascii "anonymous") 1 ∷ []) 0
  return (Declaration.event a nm ins)

-- `error`
unfoldable pub error : Parser Declaration
error = do
  keyword (keyword_text key.Error)
  nm ← ident
  ins ← fields Plain
  return (Declaration.error nm ins)

-- `Parser::exec`: a whole text
unfoldable pub exec : Parser Declaration → List ℕ → Ans Declaration
exec p s = then (p s 0) (λ d n. on_ans (λ _. d) (end s n))

abbrev pub parser_of : Keyword → Parser Declaration
parser_of key.Function = function
parser_of key.Constructor = constructor
parser_of key.Event = event
parser_of key.Error = error

-- "it tests whether the text starts, unskipped, with `function`, `constructor`, `event` or `error`"
abbrev pub keywords : List Keyword
keywords = key.Function ∷ key.Constructor ∷ key.Event ∷ key.Error ∷ []

abbrev pub opening_of : List Keyword → List ℕ → Option Keyword
opening_of [] s = None
opening_of (k ∷ ks) s = elim (starts (keyword_text k) s) [ true ↦ Some k | false ↦ opening_of ks s ]

-- the keyword that a call wants: "the general call wants the one it saw"
unfoldable pub wanted : Call → List ℕ → Option Keyword
wanted call.General s = opening_of keywords s
wanted call.Function s = Some key.Function
wanted call.Constructor s = Some key.Constructor
wanted call.Event s = Some key.Event
wanted call.Error s = Some key.Error

-- "4 none of the four openings, position 0"
abbrev pub read_by : Option Keyword → List ℕ → Ans Declaration
read_by None s = bad ExpectDeclaration 0
read_by (Some k) s = exec (parser_of k) s

unfoldable pub read_declaration : Call → List ℕ → Ans Declaration
read_declaration c s = read_by (wanted c s) s

-- "8 over 4,096 bytes, position 0. 9 not UTF-8, position the length of the longest valid prefix." Both come first
abbrev pub longest_text : ℕ
longest_text = 4096

unfoldable pub admit : {A : Type 0} → (List ℕ → Ans A) → List ℕ → Ans A
admit f s =
    elim (ltb longest_text (length s)) [
      | true ↦ bad TooLong 0
      | false ↦ elim (ltb (valid_length s) (length s)) [ true ↦ bad NotUtf8 (valid_length s) | false ↦ f s ]
    ]

-- what a reading call reads
unfoldable pub parse : Call → List ℕ → Ans Declaration
parse c s = admit (read_declaration c) s
