-- A strip is taken apart into the lines, or the signatures, that were joined on it.
-- Assumes nothing.
use mathlib.Core.Path.{◌≡◌, ◌∙◌, subst}
use mathlib.Core.Bool.{true}
use mathlib.Core.List.{List, [], ◌∷◌, ◌++◌}
use Rattle.std.specs.Prelude.{Option, None, Some}
use Prim.Native.Nat.{ℕ}
use lib.ListN.{length}
use Rattle.kinds.specs.Kind.{canonical}
use Rattle.kinds.specs.Signatures.{Signature}
use Rattle.kinds.proofs.Logic.{left}
use Rattle.model.specs.Record.{is_declaration, well_formed}
use Rattle.model.specs.Answer.{writes}
use Rattle.model.specs.Line.{canonical_text}
use Rattle.model.specs.Calls.{canonical_output}
use Rattle.model.proofs.Records.{decode-exactly}
use Rattle.model.proofs.Bounds.{In}
use Rattle.model.proofs.Sound.{Proper, proper}
use Rattle.strip.specs.Strip.{next_line, next_signature}
use Rattle.strip.proofs.Lines.{line_first, signature-first, no_line_lem, no_signature_lem}
use Rattle.demand.specs.Runs.{SignaturesOf, no_function, one_function, end_to_end}
use Rattle.demand.specs.Strips.{TakenApart, nothing_left, one_piece, RecordLine, RecordLines, no_record, one_record}
use Rattle.demand.proofs.Demand.{ran}
use Rattle.demand.proofs.Signatures.{function-is}

-- pieces that the rule finds in front of anything come apart
module _ (next : List ℕ → Option ℕ) where
  abbrev First : List ℕ → Type 0
  First l = (rest : List ℕ) → next (l ++ rest) ≡ Some (length l)

  abbrev AllFirst : List (List ℕ) → Type 0
  AllFirst [] = Unit {0}
  AllFirst (l ∷ ls) = First l × AllFirst ls

  apart : next [] ≡ None → (ls : List (List ℕ)) → AllFirst ls → TakenApart next (end_to_end ls) ls
  unfolding end_to_end
  apart e [] h = nothing_left (λ r run. run.says ∙ e)
  apart e (l ∷ ls) h = one_piece (λ r run. run.says ∙ h.0 (end_to_end ls)) (apart e ls h.1)

-- the line of a record is a canonical text whose name is a word
record_first : {b l : List ℕ} → RecordLine b l → (rest : List ℕ) → next_line (l ++ rest) ≡ Some (length l)
unfolding canonical_output canonical_text well_formed
record_first {b} {l} x rest =
    let p = x.prototype in
    let d = x.declaration in
    let w : is_declaration d ≡ true = left _ ((decode-exactly b d x.bytes).0 x.decoded).0 in
    let h : Proper p = subst (In Proper) x.says (proper d w) in
    let out : canonical_output b ≡ writes (canonical p) = rw (canonical_output, x.decoded, canonical_text, x.says) in
    let same : l ≡ canonical p = x.line ∙ (ran (canonical_output b) (canonical p) out x.room x.left x.answer x.writing.says x.writing.leaves x.n x.written).1 in
    rw same (line_first p rest h.name)

records_first : {bs ls : List (List ℕ)} → RecordLines bs ls → AllFirst next_line ls
records_first no_record = tt
records_first (one_record x more) = (record_first x, records_first more)

-- the joined canonical texts of any well-formed function, event or error records, taken apart line by line
pub lines-apart : {bs ls : List (List ℕ)} → RecordLines bs ls → TakenApart next_line (end_to_end ls) ls
lines-apart {ls = ls} h = apart next_line no_line_lem ls (records_first h)

signatures_first : {xs ls : List (List ℕ)} {fs : List Signature} → SignaturesOf xs fs ls → AllFirst next_signature ls
signatures_first no_function = tt
signatures_first (one_function {f = f} x more) = (λ rest. rw (function-is x).0 (signature-first f rest (function-is x).1), signatures_first more)

-- joined signatures, taken apart one by one
pub signatures_apart : {xs ls : List (List ℕ)} {fs : List Signature} → SignaturesOf xs fs ls → TakenApart next_signature (end_to_end ls) ls
signatures_apart {ls = ls} h = apart next_signature no_signature_lem ls (signatures_first h)
