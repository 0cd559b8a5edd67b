-- Order 5, sheets: texts of many declarations, a line each, and the records of what they say.
-- Assumes nothing.
use Rattle.std.specs.Prelude.{◌≡◌, Bool, true, false, ◌&&◌, ◌||◌, List, [], ◌∷◌, ◌++◌, ℕ, zero, suc, ◌+◌, leb, ltb, eqb, length, Option, None, Some}
use Rattle.kinds.specs.Bytes.{all, same}
use Rattle.model.specs.declared.Refusal.{Refusal}
use Rattle.model.specs.declared.Refusal.TheVariants.{TooDeep, SheetTooLong, TooManyDeclarations, Repeated}
use Rattle.model.specs.declared.Call.TheVariants as call
use Rattle.model.specs.Text.{skip}
use Rattle.model.specs.Tree.{Declaration}
use Rattle.model.specs.Parser.{Ans, got, bad, deep}
use Rattle.model.specs.Reading.{keyword_text, parse}
use Rattle.model.specs.Layout.{record_of, piece_of}
use Rattle.model.specs.Record.{encode, longest_record, is_absent, well_formed, given, on_option, when, ended, on_piece, each, decode_declaration}
use Rattle.model.specs.Line.{keyword_in, canonical_text}
use Rattle.model.specs.Answer.{Output, writes, refuses}
use Rattle.model.specs.Calls.{read_output}

abbrev pub line_feed : ℕ
line_feed = 10

-- "21 text over 65,536 bytes"
abbrev pub longest_sheet : ℕ
longest_sheet = 65536

-- "22 more than 512 declarations"
abbrev pub most_declarations : ℕ
most_declarations = 512

-- Lines.

-- a byte in front of the first of some lines
abbrev pub ahead : ℕ → List (List ℕ) → List (List ℕ)
ahead c [] = (c ∷ []) ∷ []
ahead c (l ∷ ls) = (c ∷ l) ∷ ls

-- "A sheet text has one declaration a line, parted by line feeds": so there is one line more than line feeds
unfoldable pub lines_of : List ℕ → List (List ℕ)
lines_of [] = [] ∷ []
lines_of (c ∷ t) = elim (eqb c line_feed) [ true ↦ [] ∷ lines_of t | false ↦ ahead c (lines_of t) ]

-- "A line of blanks only is passed over, however long."
unfoldable pub is_blank_line : List ℕ → Bool
is_blank_line l = eqb (skip l 0) (length l)

-- a declaration, and the line that it stands on
pub record Placed : Type 0 where
  pub line : ℕ
  pub declaration : Declaration

-- what is read of lines: all that they say; or why a line is refused, its number, and the position within it
pub data Lines : Type 0 where
  says : List Placed → Lines
  fails : Refusal → ℕ → ℕ → Lines

-- some declarations before those of more lines
abbrev pub onto : List Placed → Lines → Lines
onto ps (says qs) = says (ps ++ qs)
onto ps (fails w n p) = fails w n p

-- "Of several refused lines the first counts.": what was read of line n, and what is read of the lines behind it
abbrev pub on_line : ℕ → Ans Declaration → Lines → Lines
on_line n (got d p) r = onto (record { line = n; declaration = d } ∷ []) r
on_line n (bad w p) r = fails w n p
on_line n (deep p) r = fails TooDeep n p

-- "one declaration a line, ... each read by the general call"; the first line has the number n
unfoldable pub read_lines : ℕ → List (List ℕ) → Lines
read_lines n [] = says []
read_lines n (l ∷ ls) = elim (is_blank_line l) [ true ↦ read_lines (suc n) ls | false ↦ on_line n (parse call.General l) (read_lines (suc n) ls) ]

abbrev pub declarations : List Placed → List Declaration
declarations [] = []
declarations (p ∷ ps) = p.declaration ∷ declarations ps

-- the line of the declaration with i before it
abbrev pub line_at : ℕ → List Placed → ℕ
line_at i [] = 0
line_at zero (p ∷ ps) = p.line
line_at (suc i) (p ∷ ps) = line_at i ps

-- Repeats.

-- "same keyword and same canonical text (or a second constructor)"; only constructors have no canonical text
abbrev pub same_text : Option (List ℕ) → Option (List ℕ) → Bool
same_text None None = true
same_text None (Some u) = false
same_text (Some t) None = false
same_text (Some t) (Some u) = same t u

unfoldable pub repeats : Declaration → Declaration → Bool
repeats d e = same (keyword_text (keyword_in d)) (keyword_text (keyword_in e)) && same_text (canonical_text d) (canonical_text e)

-- whether some of es is repeated by d
unfoldable pub has : List Declaration → Declaration → Bool
has [] d = false
has (e ∷ es) d = repeats e d || has es d

-- how many declarations come before the first one that repeats an earlier one, where es come before them all
unfoldable pub first_repeat : List Declaration → List Declaration → Option ℕ
first_repeat es [] = None
first_repeat es (d ∷ ds) = elim (has es d) [ true ↦ Some 0 | false ↦ on_option suc (first_repeat (es ++ (d ∷ [])) ds) ]

-- Records.

-- "The sheet record, kind hex 30, holds the declaration records in order."
unfoldable pub encode_all : List Declaration → List ℕ
encode_all [] = []
encode_all (d ∷ ds) = encode 4 d ++ encode_all ds

unfoldable pub encode_sheet : List Declaration → List ℕ
encode_sheet ds = record_of 4 0x30 (encode_all ds)

-- "It is well formed with at most 512 well-formed declarations that 23 below wouldn't refuse."
unfoldable pub is_sheet : List Declaration → Bool
is_sheet ds = leb (length ds) most_declarations && is_absent (first_repeat [] ds)

unfoldable pub well_formed_sheet : List Declaration → Bool
well_formed_sheet ds = all well_formed ds && is_sheet ds

-- "The 40,960 bytes bind each declaration, not the sheet."
abbrev pub declaration_in : ℕ → List ℕ → Option Declaration
declaration_in k body = when (leb (6 + length body) longest_record) (decode_declaration 4 k body)

unfoldable pub decode_all : List ℕ → Option (List Declaration)
decode_all b = each 4 [] ◌∷◌ declaration_in b

-- the declarations that a sheet record says, if it is well formed
abbrev pub sheet_from : ℕ → List ℕ → Option (List Declaration)
sheet_from k body = when (eqb k 0x30) (given (decode_all body) (λ ds. when (is_sheet ds) (Some ds)))

unfoldable pub decode_sheet : List ℕ → Option (List Declaration)
decode_sheet b = on_piece (piece_of 4 b) (λ k body r. ended r (sheet_from k body))

-- The call.

-- "A refusal carries the line, counted from 1 (0 for 15 and 20), and the position within it."
pub record OnLine : Type 0 where
  pub output : Output
  pub line : ℕ

abbrev pub refuses_on : Refusal → ℕ → ℕ → OnLine
refuses_on w n p = record { output = refuses w p; line = n }

abbrev pub writes_sheet : List Declaration → OnLine
writes_sheet ds = record { output = writes (encode_sheet ds); line = 0 }

-- "Every number from 21 on, later ones too, has position 0."
abbrev pub or_repeat : Option ℕ → List Placed → OnLine
or_repeat (Some i) ps = refuses_on Repeated (line_at i ps) 0
or_repeat None ps = writes_sheet (declarations ps)

-- "22 more than 512 declarations, at the 513th, found after all lines have read; 23 ..., at the earliest such later line, after 22 and before 20"
unfoldable pub sheet_by : Lines → OnLine
sheet_by (fails w n p) = refuses_on w n p
sheet_by (says ps) =
    elim (ltb most_declarations (length ps)) [ true ↦ refuses_on TooManyDeclarations (line_at most_declarations ps) 0 | false ↦ or_repeat (first_repeat [] (declarations ps)) ps ]

-- "21 text over 65,536 bytes, first of all and at line 0"
unfoldable pub sheet_output : List ℕ → OnLine
sheet_output s = elim (ltb longest_sheet (length s)) [ true ↦ refuses_on SheetTooLong 0 0 | false ↦ sheet_by (read_lines 1 (lines_of s)) ]

-- "An accepted sheet equals its lines read singly.": bytes that are the records, one behind the other, that the general call writes of the lines
-- that are not blank
pub data Singly : List (List ℕ) → List ℕ → Type 0 where
  no_line_lem : Singly [] []
  blank-line : {l : List ℕ} {ls : List (List ℕ)} {u : List ℕ} → is_blank_line l ≡ true → Singly ls u → Singly (l ∷ ls) u
  one_line : {l r : List ℕ} {ls : List (List ℕ)} {u : List ℕ} → is_blank_line l ≡ false → read_output call.General l ≡ writes r → Singly ls u → Singly (l ∷ ls) (r ++ u)
