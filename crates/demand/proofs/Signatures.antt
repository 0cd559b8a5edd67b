-- Order 13 of the calls themselves: signatures that the signature call wrote, joined, are equal exactly where the functions agree.
-- Assumes nothing.
use mathlib.Core.Path.{◌≡◌, refl, sym, ◌∙◌, ap₂}
use mathlib.Core.Logic.{◌↔◌}
use mathlib.Core.Bool.{true}
use mathlib.Core.List.{List, ◌++◌}
use Rattle.std.specs.Prelude.{Some}
use Prim.Native.Nat.{ℕ, ◌≤◌}
use lib.ListN.{length}
use Rattle.kinds.specs.Bytes.{is_word}
use Rattle.kinds.specs.Signatures.{Signature, signature, joined_signatures, signatures_named, SignaturesAgree}
use Rattle.kinds.proofs.Logic.{both}
use Rattle.kinds.proofs.Signatures.{signatures_agree}
use Rattle.model.specs.declared.Keyword.TheVariants as key
use Rattle.model.specs.declared.Call.{Call}
use Rattle.model.specs.Tree.{Declaration, signature_of}
use Rattle.model.specs.Parser.{got}
use Rattle.model.specs.Reading.{parse}
use Rattle.model.specs.Record.{encode, well_formed}
use Rattle.model.specs.Answer.{writes, needed, Answer}
use Rattle.model.specs.Calls.{written, read_output, signature_output}
use Rattle.model.specs.Full.{Takes}
use Rattle.model.proofs.Records.{decode-exactly, encode-bytes}
use Rattle.model.proofs.Sound.{read-well-formed}
use Rattle.model.proofs.Signatures.{signature-written, signature-named}
use Rattle.demand.specs.Runs.{ReadRun, SignatureRun, FunctionRead, FunctionRecord, SignatureWritten, FunctionIn, by-text, by_record, SignaturesOf, no_function, one_function, end_to_end}
use Rattle.demand.proofs.Demand.{ran, enough}

-- what is read of a text is written as a function record that says the same
read_record : {s b : List ℕ} {f : Signature} → FunctionRead s f b → FunctionRecord b f
unfolding read_output written
read_record {s} {b} {f} x =
    let d = x.declaration in
    let w : well_formed d ≡ true = read-well-formed x.call s d x.place x.reads in
    let out : read_output x.call s ≡ writes (encode 4 d) = rw (read_output, x.reads) in
    let there : b ≡ encode 4 d = x.written ∙ (ran (read_output x.call s) (encode 4 d) out x.room x.left x.answer x.reading.says x.reading.leaves x.n x.read).1 in
    record {
      bytes = rw there (encode-bytes d w);
      declaration = d;
      decoded = rw there ((decode-exactly (encode 4 d) d (encode-bytes d w)).1 (w, refl));
      says = x.says;
    }

-- the line of a function record is the text of its signature, and its name is a word
module _ {b l : List ℕ} {f : Signature} (x : FunctionRecord b f) (y : SignatureWritten b l) where
  line-is : l ≡ signature f
  line-is =
      let out : signature_output b ≡ writes (signature f) = signature-written b x.declaration f x.decoded x.says in
      y.line ∙ (ran (signature_output b) (signature f) out y.room y.left y.answer y.writing.says y.writing.leaves y.n y.written).1

named-is : {b : List ℕ} {f : Signature} → FunctionRecord b f → is_word f.name ≡ true
named-is {b} {f} x = signature-named x.declaration f ((decode-exactly b x.declaration x.bytes).0 x.decoded).0 x.says

pub function-is : {x l : List ℕ} {f : Signature} → FunctionIn x f l → (l ≡ signature f) × (is_word f.name ≡ true)
function-is (by-text x y) = (line-is (read_record x) y, named-is (read_record x))
function-is (by_record x y) = (line-is x y, named-is x)

all_signatures : {xs ls : List (List ℕ)} {fs : List Signature} → SignaturesOf xs fs ls → (end_to_end ls ≡ joined_signatures fs) × (signatures_named fs ≡ true)
unfolding end_to_end joined_signatures signatures_named
all_signatures no_function = (refl, refl)
all_signatures (one_function x more) = (ap₂ ◌++◌ (function-is x).0 (all_signatures more).0, both (function-is x).1 (all_signatures more).1)

-- "Two lists of functions whose signature texts joined are equal bytes must be equally long and agree place by place in name, inputs and outputs, kinds
-- only, and the other way round."
pub joined_signatures_lem : {xs ys ls ms : List (List ℕ)} {fs gs : List Signature} → SignaturesOf xs fs ls → SignaturesOf ys gs ms → (end_to_end ls ≡ end_to_end ms) ↔ SignaturesAgree fs gs
joined_signatures_lem {fs = fs} {gs = gs} a b =
    let (p, n) = all_signatures a in
    let (q, m) = all_signatures b in
    let (to, from) = signatures_agree fs gs n m in
    (λ e. to (sym p ∙ e ∙ q), λ g. p ∙ from g ∙ sym q)

-- every function record has a line: the signature call, lent enough, writes it
pub record_signed : {b : List ℕ} {f : Signature} → FunctionRecord b f → (room left : List ℕ) (r : Answer) → needed (signature_output b) ≤ length room → SignatureRun b room left r → SignatureWritten b (signature f)
unfolding needed
record_signed {b} {f} x room left r h run =
    let out : signature_output b ≡ writes (signature f) = signature-written b x.declaration f x.decoded x.says in
    let e = enough (signature_output b) (signature f) out room left r run.says run.leaves (rw (out, needed) at h) in
    record {
      room = room;
      left = left;
      answer = r;
      n = length (signature f);
      writing = run;
      written = e;
      line = sym (ran (signature_output b) (signature f) out room left r run.says run.leaves (length (signature f)) e).1;
    }

-- and every text that is read as a function has a record: the call that reads it, lent enough, writes it
pub text-read : (s : List ℕ) (c : Call) (d : Declaration) (n : ℕ) (f : Signature) → Takes key.Function c → parse c s ≡ got d n → signature_of d ≡ Some f
    → (room left : List ℕ) (r : Answer) → needed (read_output c s) ≤ length room → ReadRun c s room left r → FunctionRead s f (encode 4 d)
unfolding read_output written needed
text-read s c d n f t reads says room left r h run =
    let out : read_output c s ≡ writes (encode 4 d) = rw (read_output, reads) in
    let e = enough (read_output c s) (encode 4 d) out room left r run.says run.leaves (rw (out, needed) at h) in
    record {
      call = c;
      takes = t;
      declaration = d;
      place = n;
      reads = reads;
      says = says;
      room = room;
      left = left;
      answer = r;
      n = length (encode 4 d);
      reading = run;
      read = e;
      written = sym (ran (read_output c s) (encode 4 d) out room left r run.says run.leaves (length (encode 4 d)) e).1;
    }
