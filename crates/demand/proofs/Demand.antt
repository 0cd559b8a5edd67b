-- Demand 3 and the orders 3 and 4 of the calls themselves: every fact about a run is one that the call's contract ensures.
-- Assumes nothing.
use mathlib.Core.Path.{◌≡◌, refl, sym, ◌∙◌, ap, ap₂}
use mathlib.Core.Logic.{◌↔◌}
use mathlib.Core.Bool.{Bool, true, false}
use mathlib.Core.List.{List, ◌++◌}
use Rattle.std.specs.Prelude.{Some}
use Prim.Native.Nat.{ℕ, ◌≤◌}
use native.Mathlib.Omega.{arith}
use lib.Dec.{ltb}
use lib.ListN.{length, take, drop}
use lib.Seq.{take_at}
use borrow.Author.Tests.{le-ltb}
use Rattle.kinds.specs.Kind.{Prototype, canonical}
use Rattle.kinds.specs.Joined.{joined, Agree}
use Rattle.model.specs.declared.Call.{Call}
use Rattle.model.specs.declared.Call.TheVariants as call
use Rattle.model.specs.Tree.{Field, Declaration, name_kinds}
use Rattle.model.specs.Parser.{got}
use Rattle.model.specs.Reading.{longest_text, parse}
use Rattle.model.specs.Layout.{Bytes}
use Rattle.model.specs.Record.{encode, decode, decode_lone, well_formed}
use Rattle.model.specs.Line.{keyword_in, canonical_text, field_text, line}
use Rattle.model.specs.Answer.{accepted, refused, Output, writes, needed, said, outcome, after, handed, refusal_number, Answer}
use Rattle.model.specs.Calls.{written, read_output, kind_output, canonical_output, kind_text_output, AcceptedAs, AllAccepted, SameKind}
use Rattle.model.specs.Calls as calls
use Rattle.model.specs.Full.{full_text, full_output, Takes}
use Rattle.model.proofs.Records.{decode-exactly, encode-bytes}
use Rattle.model.proofs.Sound.{read-well-formed}
use Rattle.model.proofs.KindReads.{kind-back}
use Rattle.model.proofs.Full.{full_back}
use Rattle.model.proofs.Demand.{joined_texts, line-back}
use Rattle.demand.specs.Runs.{ReadRun, KindRun, CanonicalRun, FullRun, KindTextRun, LineOf, LinesOf, no_text, one-text, end_to_end, line_text, ReadBack, KindReadBack}

-- what an answer says is one thing
accepted-same : {m n : ℕ} → accepted m ≡ accepted n → m ≡ n
accepted-same e = cc

accepted-not : {n w p : ℕ} → refused w p ≡ accepted n → ⊥
accepted-not e = let z : ◌≡◌ {A = ℕ} 0 1 = cc in omega arith

-- a run that accepted wrote what there was to write; and one that was lent enough accepted
module _ (o : Output) (u : List ℕ) (e : o ≡ writes u) (room left : List ℕ) (r : Answer) (says : said r ≡ outcome (length room) o) (leaves : left ≡ after room o) where
  pub ran : (n : ℕ) → said r ≡ accepted n → (n ≡ length u) × (take n left ≡ u)
  unfolding outcome after
  ran n f = go (ltb (length room) (length u)) refl (sym f ∙ rw e at says) (rw e at leaves)
    where
      go : (t : Bool) → ltb (length room) (length u) ≡ t → accepted n ≡ outcome (length room) (writes u) → left ≡ after room (writes u) → (n ≡ length u) × (take n left ≡ u)
      go true h g l = absurd (accepted-not (sym (rw (outcome, h) at g)))
      go false h g l =
          let long : n ≡ length u = accepted-same (rw (outcome, h) at g) in
          let there : left ≡ u ++ drop (length u) room = rw (after, h) at l in
          (long, rw (long, there) (take_at u (drop (length u) room) (length u) refl))

  pub enough : length u ≤ length room → said r ≡ accepted (length u)
  unfolding outcome
  enough h = rw (e, outcome, le-ltb (length room) (length u) h) at says

-- the record that is written of an accepted text has this line
line_of : (c : Call) (s : List ℕ) (d : Declaration) (n : ℕ) (p : Prototype) → parse c s ≡ got d n → name_kinds d ≡ Some p → canonical_output (encode 4 d) ≡ writes (canonical p)
unfolding canonical_output canonical_text
line_of c s d n p e f =
    let w : well_formed d ≡ true = read-well-formed c s d n e in
    let q : decode (encode 4 d) ≡ Some d = (decode-exactly (encode 4 d) d (encode-bytes d w)).1 (w, refl) in
    rw (canonical_output, q, canonical_text, f)

line-written : {s l : List ℕ} {p : Prototype} → LineOf s p l → l ≡ canonical p
unfolding read_output written
line-written {s} {l} {p} f =
    let a = f.reads in
    let out : read_output a.call s ≡ writes (encode 4 a.declaration) = rw (read_output, a.reads) in
    let (_, there) = ran (read_output a.call s) (encode 4 a.declaration) out f.room f.left f.answer f.reading.says f.reading.leaves f.n f.read in
    let lined : canonical_output (take f.n f.left) ≡ writes (canonical p) = ap canonical_output there ∙ line_of a.call s a.declaration a.place p a.reads a.says in
    let (_, same) = ran (canonical_output (take f.n f.left)) (canonical p) lined f.line-room f.line-left f.line-answer f.writing.says f.writing.leaves f.m f.written in
    f.line ∙ same

all-accepted : {ss ls : List (List ℕ)} {ps : List Prototype} → LinesOf ss ps ls → AllAccepted ss ps
all-accepted no_text = calls.no_text
all-accepted (one-text f r) = calls.one-text f.reads (all-accepted r)

all_lines : {ss ls : List (List ℕ)} {ps : List Prototype} → LinesOf ss ps ls → end_to_end ls ≡ joined ps
unfolding end_to_end joined
all_lines no_text = refl
all_lines (one-text f r) = ap₂ ◌++◌ (line-written f) (all_lines r)

-- T3: "The joined bytes are equal exactly when the lists are equally long and agree place by place in name and kinds."
pub joined-lines : {ss ts ls ms : List (List ℕ)} {ps qs : List Prototype} → LinesOf ss ps ls → LinesOf ts qs ms → (end_to_end ls ≡ end_to_end ms) ↔ Agree ps qs
joined-lines a b =
    let (to, from) = joined_texts (all-accepted a) (all-accepted b) in
    (λ e. to (sym (all_lines a) ∙ e ∙ all_lines b), λ g. all_lines a ∙ from g ∙ sym (all_lines b))

-- every accepted text has a line: the call that reads it, lent enough, accepts it, and the canonical call, lent enough, writes of that record the
-- canonical text of its name and kinds
module _ (s : List ℕ) (p : Prototype) (a : AcceptedAs s p) (room left : List ℕ) (r : Answer)
    (lent : needed (read_output a.call s) ≤ length room) (run : ReadRun a.call s room left r) where
  what-is-read : read_output a.call s ≡ writes (encode 4 a.declaration)
  unfolding read_output written
  what-is-read = rw (read_output, a.reads)

  pub text-accepted : said r ≡ accepted (needed (read_output a.call s))
  unfolding needed
  text-accepted =
      rw (what-is-read, needed)
      (enough (read_output a.call s) (encode 4 a.declaration) what-is-read room left r run.says run.leaves (rw (what-is-read, needed) at lent))

  -- the record that is written
  record_written : take (needed (read_output a.call s)) left ≡ encode 4 a.declaration
  unfolding needed
  record_written = (ran (read_output a.call s) (encode 4 a.declaration) what-is-read room left r run.says run.leaves (needed (read_output a.call s)) text-accepted).1

  pub text-lined : (line-room line-left : List ℕ) (line-answer : Answer) → needed (canonical_output (take (needed (read_output a.call s)) left)) ≤ length line-room
      → CanonicalRun (take (needed (read_output a.call s)) left) line-room line-left line-answer → LineOf s p (canonical p)
  unfolding needed
  text-lined line-room line-left line-answer h writing =
      let out : canonical_output (take (needed (read_output a.call s)) left) ≡ writes (canonical p)
      = ap canonical_output record_written ∙ line_of a.call s a.declaration a.place p a.reads a.says in
      let o : Output = canonical_output (take (needed (read_output a.call s)) left) in
      let said-so : said line-answer ≡ accepted (length (canonical p)) = enough o (canonical p) out line-room line-left line-answer writing.says writing.leaves (rw (out, needed) at h) in
      record {
        reads = a;
        room = room;
        left = left;
        answer = r;
        n = needed (read_output a.call s);
        reading = run;
        read = text-accepted;
        line-room = line-room;
        line-left = line-left;
        line-answer = line-answer;
        m = length (canonical p);
        writing = writing;
        written = said-so;
        line = sym (ran o (canonical p) out line-room line-left line-answer writing.says writing.leaves (length (canonical p)) said-so).1;
      }

-- and so has every well-formed function, event or error record
pub record_lined : (b : List ℕ) (d : Declaration) (p : Prototype) → decode b ≡ Some d → name_kinds d ≡ Some p → (room left : List ℕ) (r : Answer) → needed (canonical_output b) ≤ length room
    → CanonicalRun b room left r → (said r ≡ accepted (length (canonical p))) × (take (length (canonical p)) left ≡ canonical p)
unfolding canonical_output canonical_text needed
record_lined b d p says same room left r h run =
    let out : canonical_output b ≡ writes (canonical p) = rw (canonical_output, says, canonical_text, same) in
    let e = enough (canonical_output b) (canonical p) out room left r run.says run.leaves (rw (out, needed) at h) in
    (e, (ran (canonical_output b) (canonical p) out room left r run.says run.leaves (length (canonical p)) e).1)

-- T4: "Its keyword, one space and its canonical text, if together at most 4,096 bytes, are accepted by the general call, given room for the record
-- that it writes. That record has the same name, kinds and canonical text." The bytes b are a "well-formed function, event or error record", of
-- which the canonical call wrote the line
module _ (b : List ℕ) (d : Declaration) (p : Prototype) (bytes : Bytes b) (says : decode b ≡ Some d) (same : name_kinds d ≡ Some p)
    (room left : List ℕ) (r : Answer) (m : ℕ) (run : CanonicalRun b room left r) (wrote : said r ≡ accepted m) where
  line-is : take m left ≡ canonical p
  unfolding canonical_output canonical_text
  line-is = (ran (canonical_output b) (canonical p) (rw (canonical_output, says, canonical_text, same)) room left r run.says run.leaves m wrote).1

  text-is : line_text (keyword_in d) (take m left) ≡ line (keyword_in d) p
  unfolding line_text line
  text-is = rw line-is

  pub line-reads-back : length (line_text (keyword_in d) (take m left)) ≤ longest_text → (room₁ left₁ : List ℕ) (r₁ : Answer) → needed (read_output call.General (line_text (keyword_in d) (take m left))) ≤ length room₁
      → ReadRun call.General (line_text (keyword_in d) (take m left)) room₁ left₁ r₁ → ReadBack (keyword_in d) p (take m left) left₁ r₁
  unfolding handed refusal_number needed
  line-reads-back h room₁ left₁ r₁ k run₁ =
      let (c, out, s) = line-back b d p bytes says same (rw text-is at h) in
      let here : read_output call.General (line_text (keyword_in d) (take m left)) ≡ writes c = ap (read_output call.General) text-is ∙ out in
      let o : Output = read_output call.General (line_text (keyword_in d) (take m left)) in
      let fits : length c ≤ length room₁ = rw (here, needed) at k in
      let (_, there) = ran o c here room₁ left₁ r₁ run₁.says run₁.leaves (length c) (enough o c here room₁ left₁ r₁ run₁.says run₁.leaves (omega arith)) in
      record {
        n = length c;
        read = enough o c here room₁ left₁ r₁ run₁.says run₁.leaves (omega arith);
        tree = s.declaration;
        says = ap decode there ∙ s.says;
        keyword = s.keyword;
        same = s.same;
        name = λ nm refusal q. (q.hands ∙ rw (there, s.name), q.tells ∙ rw (there, s.name));
        again = λ room₂ left₂ r₂ j q.
            let w : canonical_output (take (length c) left₁) ≡ writes (take m left) = ap canonical_output there ∙ s.canonical ∙ ap writes (sym line-is) in
            let e = enough _ (take m left) w room₂ left₂ r₂ q.says q.leaves j in
            (e, (ran _ (take m left) w room₂ left₂ r₂ q.says q.leaves (length (take m left)) e).1);
      }

-- a run of the kind call on the kind text of a field that is read as the same kind
pub kind-read-back : (f : Field) (t c : List ℕ) → t ≡ field_text f → kind_output t ≡ writes c → SameKind f c → (room left : List ℕ) (r : Answer) → needed (kind_output t) ≤ length room
    → KindRun t room left r → KindReadBack f t left r
unfolding needed
kind-read-back f t c is here s room left r k run =
    let e = enough (kind_output t) c here room left r run.says run.leaves (rw (here, needed) at k) in
    let (_, there) = ran (kind_output t) c here room left r run.says run.leaves (length c) e in
    record {
      n = length c;
      read = e;
      tree = s.tree;
      says = ap decode_lone there ∙ s.says;
      bare = s.bare;
      same = s.same;
      again = λ room₁ left₁ r₁ j q.
          let w : kind_text_output (take (length c) left) ≡ writes t = ap kind_text_output there ∙ s.text ∙ ap writes (sym is) in
          let g = enough _ t w room₁ left₁ r₁ q.says q.leaves j in
          (g, (ran _ t w room₁ left₁ r₁ q.says q.leaves (length t) g).1);
    }

-- Order 3: "Every field's kind text of at most 4,096 bytes must then read as the same kind." The bytes b are a well-formed field record, of which the
-- kind-text call wrote the text
module _ (b : List ℕ) (f : Field) (bytes : Bytes b) (says : decode_lone b ≡ Some f) (room left : List ℕ) (r : Answer) (m : ℕ) (run : KindTextRun b room left r) (wrote : said r ≡ accepted m) where
  kind-is : take m left ≡ field_text f
  unfolding kind_text_output
  kind-is = (ran (kind_text_output b) (field_text f) (rw (kind_text_output, says)) room left r run.says run.leaves m wrote).1

  pub kind-reads-back : length (take m left) ≤ longest_text → (room₁ left₁ : List ℕ) (r₁ : Answer) → needed (kind_output (take m left)) ≤ length room₁ → KindRun (take m left) room₁ left₁ r₁
      → KindReadBack f (take m left) left₁ r₁
  kind-reads-back h room₁ left₁ r₁ k run₁ =
      let (c, out, s) = kind-back b f bytes says (rw kind-is at h) in
      kind-read-back f (take m left) c kind-is (ap kind_output kind-is ∙ out) s room₁ left₁ r₁ k run₁

-- Order 4: "Read again, a line of at most 4,096 bytes gives the identical record." The bytes b are a well-formed declaration's record, of which the full
-- text call wrote the line; it is read by the general call or the call named for its keyword, lent at least as many bytes as the record has
module _ (b : List ℕ) (d : Declaration) (bytes : Bytes b) (says : decode b ≡ Some d) (room left : List ℕ) (r : Answer) (m : ℕ) (run : FullRun b room left r) (wrote : said r ≡ accepted m) where
  full_is : take m left ≡ full_text d
  unfolding full_output
  full_is = (ran (full_output b) (full_text d) (rw (full_output, says)) room left r run.says run.leaves m wrote).1

  pub full-reads-back : length (take m left) ≤ longest_text → (c : Call) → Takes (keyword_in d) c → (room₁ left₁ : List ℕ) (r₁ : Answer) → length b ≤ length room₁
      → ReadRun c (take m left) room₁ left₁ r₁ → (said r₁ ≡ accepted (length b)) × (take (length b) left₁ ≡ b)
  full-reads-back h c t room₁ left₁ r₁ k run₁ =
      let here : read_output c (take m left) ≡ writes b = ap (read_output c) full_is ∙ full_back b d c t bytes says (rw full_is at h) in
      let e = enough (read_output c (take m left)) b here room₁ left₁ r₁ run₁.says run₁.leaves k in
      (e, (ran (read_output c (take m left)) b here room₁ left₁ r₁ run₁.says run₁.leaves (length b) e).1)
