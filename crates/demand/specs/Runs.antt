-- Runs of the calls: what a call was lent, what it answered and what it left, in the form that its contract ensures; and what demand 3 and the
-- orders 3, 4, 5 and 13 say of them.
-- Assumes nothing.
use Rattle.std.specs.Prelude.{◌≡◌, true, false, List, [], ◌∷◌, ◌++◌, ℕ, ◌≤◌, length, take, Some}
use Rattle.kinds.specs.Bytes.{space}
use Rattle.kinds.specs.Kind.{Prototype}
use Rattle.kinds.specs.Signatures.{Signature}
use Rattle.model.specs.declared.Keyword.{Keyword}
use Rattle.model.specs.declared.Keyword.TheVariants as key
use Rattle.model.specs.declared.Call.{Call}
use Rattle.model.specs.declared.Call.TheVariants as call
use Rattle.model.specs.Tree.{Field, Declaration, kind_of, field_of, name_kinds, signature_of}
use Rattle.model.specs.Parser.{got}
use Rattle.model.specs.Reading.{keyword_text, parse}
use Rattle.model.specs.Layout.{Bytes}
use Rattle.model.specs.Record.{decode, decode_lone}
use Rattle.model.specs.Line.{keyword_in}
use Rattle.model.specs.Answer.{accepted, said, outcome, after, handed, refusal_number, Answer}
use Rattle.model.specs.Sheet.{is_blank_line, sheet_output}
use Rattle.model.specs.Calls.{read_output, kind_output, canonical_output, signature_output, kind_text_output, name_output, AcceptedAs}
use Rattle.model.specs.Full.{full_output, Takes}

-- a reading call on a text, which was lent `room` and left it as `left`
pub record ReadRun (c : Call) (text room left : List ℕ) (r : Answer) : Type 0 where
  pub says : said r ≡ outcome (length room) (read_output c text)
  pub leaves : left ≡ after room (read_output c text)

-- the kind call on a text
pub record KindRun (text room left : List ℕ) (r : Answer) : Type 0 where
  pub says : said r ≡ outcome (length room) (kind_output text)
  pub leaves : left ≡ after room (kind_output text)

-- the sheet call on a text; the number that it was lent is left as `line`
pub record SheetRun (text room left : List ℕ) (line : ℕ) (r : Answer) : Type 0 where
  pub says : said r ≡ outcome (length room) (sheet_output text).output
  pub leaves : left ≡ after room (sheet_output text).output
  pub lines : line ≡ (sheet_output text).line

-- the canonical call on a record
pub record CanonicalRun (b room left : List ℕ) (r : Answer) : Type 0 where
  pub says : said r ≡ outcome (length room) (canonical_output b)
  pub leaves : left ≡ after room (canonical_output b)

-- the signature call on a record
pub record SignatureRun (b room left : List ℕ) (r : Answer) : Type 0 where
  pub says : said r ≡ outcome (length room) (signature_output b)
  pub leaves : left ≡ after room (signature_output b)

-- the full text call on a record
pub record FullRun (b room left : List ℕ) (r : Answer) : Type 0 where
  pub says : said r ≡ outcome (length room) (full_output b)
  pub leaves : left ≡ after room (full_output b)

-- the kind-text call on a record
pub record KindTextRun (b room left : List ℕ) (r : Answer) : Type 0 where
  pub says : said r ≡ outcome (length room) (kind_text_output b)
  pub leaves : left ≡ after room (kind_text_output b)

-- the name call on a record
pub record NameRun (b name : List ℕ) (refusal : ℕ) : Type 0 where
  pub hands : name ≡ handed (name_output b)
  pub tells : refusal ≡ refusal_number (name_output b)

-- "A text is accepted as a function, event or error if the general call or the call named for that keyword, lent enough, reads it so": with the
-- name and kinds p; l is what the canonical call wrote of the record that was written
pub record LineOf (s : List ℕ) (p : Prototype) (l : List ℕ) : Type 0 where
  pub reads : AcceptedAs s p
  pub room : List ℕ
  pub left : List ℕ
  pub answer : Answer
  pub n : ℕ
  pub reading : ReadRun reads.call s room left answer
  pub read : said answer ≡ accepted n
  pub line-room : List ℕ
  pub line-left : List ℕ
  pub line-answer : Answer
  pub m : ℕ
  pub writing : CanonicalRun (take n left) line-room line-left line-answer
  pub written : said line-answer ≡ accepted m
  pub line : l ≡ take m line-left

-- lists of texts, each with its name and kinds and its line at the same place
pub data LinesOf : List (List ℕ) → List Prototype → List (List ℕ) → Type 0 where
  no_text : LinesOf [] [] []
  one-text : {s l : List ℕ} {p : Prototype} {ss ls : List (List ℕ)} {ps : List Prototype} → LineOf s p l → LinesOf ss ps ls → LinesOf (s ∷ ss) (p ∷ ps) (l ∷ ls)

-- "Join each list's canonical texts end to end, without separators."
unfoldable pub end_to_end : List (List ℕ) → List ℕ
end_to_end [] = []
end_to_end (l ∷ ls) = l ++ end_to_end ls

-- "Its keyword, one space and its canonical text"
unfoldable pub line_text : Keyword → List ℕ → List ℕ
line_text k l = keyword_text k ++ (space ∷ l)

-- a run that read a line: "That record has the same name, kinds and canonical text." It says the same keyword too, the name call hands that name
-- back, and the canonical call, lent enough, writes that line
pub record ReadBack (k : Keyword) (p : Prototype) (line left : List ℕ) (r : Answer) : Type 0 where
  pub n : ℕ
  pub read : said r ≡ accepted n
  pub tree : Declaration
  pub says : decode (take n left) ≡ Some tree
  pub keyword : keyword_in tree ≡ k
  pub same : name_kinds tree ≡ Some p
  pub name : (nm : List ℕ) (refusal : ℕ) → NameRun (take n left) nm refusal → (nm ≡ p.name) × (refusal ≡ 0)
  pub again : (room₁ left₁ : List ℕ) (r₁ : Answer) → length line ≤ length room₁ → CanonicalRun (take n left) room₁ left₁ r₁ → (said r₁ ≡ accepted (length line)) × (take (length line) left₁ ≡ line)

-- a run of the kind call that read the kind text of a field "as the same kind": the record says the field of that kind, without a mark and names,
-- and the kind-text call, lent enough, writes that text again
pub record KindReadBack (f : Field) (text left : List ℕ) (r : Answer) : Type 0 where
  pub n : ℕ
  pub read : said r ≡ accepted n
  pub tree : Field
  pub says : decode_lone (take n left) ≡ Some tree
  pub bare : tree ≡ field_of (kind_of f)
  pub same : kind_of tree ≡ kind_of f
  pub again : (room₁ left₁ : List ℕ) (r₁ : Answer) → length text ≤ length room₁ → KindTextRun (take n left) room₁ left₁ r₁ → (said r₁ ≡ accepted (length text)) × (take (length text) left₁ ≡ text)

-- Order 5: "An accepted sheet equals its lines read singly.": bytes that are records, one behind the other, each of which the general call writes of a
-- line, whenever it is lent enough; of blank lines there is none
pub data ReadSingly : List (List ℕ) → List ℕ → Type 0 where
  no_line_lem : ReadSingly [] []
  blank-line : {l : List ℕ} {ls : List (List ℕ)} {u : List ℕ} → is_blank_line l ≡ true → ReadSingly ls u → ReadSingly (l ∷ ls) u
  one_line : {l b : List ℕ} {ls : List (List ℕ)} {u : List ℕ} → is_blank_line l ≡ false
      → ((room left : List ℕ) (r : Answer) → length b ≤ length room → ReadRun call.General l room left r → (said r ≡ accepted (length b)) × (take (length b) left ≡ b))
      → ReadSingly ls u → ReadSingly (l ∷ ls) (b ++ u)

-- Order 13: "The condition covers functions read since order 2." A text that the general call or the function call accepted as a function with the
-- signature f; b is the record that it wrote
pub record FunctionRead (s : List ℕ) (f : Signature) (b : List ℕ) : Type 0 where
  pub call : Call
  pub takes : Takes key.Function call
  pub declaration : Declaration
  pub place : ℕ
  pub reads : parse call s ≡ got declaration place
  pub says : signature_of declaration ≡ Some f
  pub room : List ℕ
  pub left : List ℕ
  pub answer : Answer
  pub n : ℕ
  pub reading : ReadRun call s room left answer
  pub read : said answer ≡ accepted n
  pub written : b ≡ take n left

-- bytes of any origin that are a well-formed function record with the signature f
pub record FunctionRecord (b : List ℕ) (f : Signature) : Type 0 where
  pub bytes : Bytes b
  pub declaration : Declaration
  pub decoded : decode b ≡ Some declaration
  pub says : signature_of declaration ≡ Some f

-- the line l that the signature call wrote of the record b
pub record SignatureWritten (b l : List ℕ) : Type 0 where
  pub room : List ℕ
  pub left : List ℕ
  pub answer : Answer
  pub n : ℕ
  pub writing : SignatureRun b room left answer
  pub written : said answer ≡ accepted n
  pub line : l ≡ take n left

-- a function by its text or by its record, with its signature and its line
pub data FunctionIn : List ℕ → Signature → List ℕ → Type 0 where
  by-text : {s b l : List ℕ} {f : Signature} → FunctionRead s f b → SignatureWritten b l → FunctionIn s f l
  by_record : {b l : List ℕ} {f : Signature} → FunctionRecord b f → SignatureWritten b l → FunctionIn b f l

-- lists of functions, texts and records in any mix, each with its signature and its line at the same place
pub data SignaturesOf : List (List ℕ) → List Signature → List (List ℕ) → Type 0 where
  no_function : SignaturesOf [] [] []
  one_function : {x l : List ℕ} {f : Signature} {xs ls : List (List ℕ)} {fs : List Signature} → FunctionIn x f l → SignaturesOf xs fs ls → SignaturesOf (x ∷ xs) (f ∷ fs) (l ∷ ls)
