-- Demand 3, of the definitions of the calls: joined lines of accepted texts come apart, and the line of a well-formed record reads back.
-- Assumes nothing.
use mathlib.Core.Path.{◌≡◌, refl, ap}
use mathlib.Core.Logic.{◌↔◌}
use mathlib.Core.Bool.{true}
use mathlib.Core.List.{List}
use Rattle.std.specs.Prelude.{Some}
use Prim.Native.Nat.{ℕ, suc, ◌≤◌}
use lib.ListN.{length}
use Rattle.kinds.specs.Kind.{Prototype}
use Rattle.kinds.specs.Joined.{joined, named, Agree}
use Rattle.kinds.proofs.Logic.{both}
use Rattle.kinds.proofs.Joined.{joined_agree}
use Rattle.model.specs.declared.Call.TheVariants as call
use Rattle.model.specs.Tree.{Declaration, name_kinds}
use Rattle.model.specs.Reading.{longest_text}
use Rattle.model.specs.Layout.{Bytes}
use Rattle.model.specs.Record.{encode, decode, well_formed}
use Rattle.model.specs.Line.{keyword_in, canonical_text, name_of, line}
use Rattle.model.specs.Answer.{writes}
use Rattle.model.specs.Calls.{written, read_output, canonical_output, name_output, AllAccepted, no_text, one-text, SameLine}
use Rattle.model.proofs.Records.{decode-exactly, encode-bytes}
use Rattle.model.proofs.Sound.{accepted-proper, read-well-formed}
use Rattle.model.proofs.Lines.{line_reads}

-- every name of accepted texts is a word
accepted-named : {ss : List (List ℕ)} {ps : List Prototype} → AllAccepted ss ps → named ps ≡ true
unfolding named
accepted-named no_text = refl
accepted-named (one-text {s} {p} a r) = both (accepted-proper s p a).name (accepted-named r)

-- the lists are equally long
pub accepted-long : {ss : List (List ℕ)} {ps : List Prototype} → AllAccepted ss ps → length ss ≡ length ps
accepted-long no_text = refl
accepted-long (one-text a r) = ap suc (accepted-long r)

-- T3: "Take any two lists of texts .. The joined bytes are equal exactly when the lists are equally long and agree place by place in name and kinds."
pub joined_texts : {ss ts : List (List ℕ)} {ps qs : List Prototype} → AllAccepted ss ps → AllAccepted ts qs → (joined ps ≡ joined qs) ↔ Agree ps qs
joined_texts {ps = ps} {qs = qs} a b = joined_agree ps qs (accepted-named a) (accepted-named b)

-- the outputs of a record that says d
name-of : (d : Declaration) (p : Prototype) → name_kinds d ≡ Some p → name_of d ≡ Some p.name
unfolding name_kinds name_of
name-of (Declaration.function m nm ins outs) p e = cc
name-of (Declaration.constructor m ins) p e = cc
name-of (Declaration.event a nm ins) p e = cc
name-of (Declaration.error nm ins) p e = cc

-- T4: "take any well-formed function, event or error record. Its keyword, one space and its canonical text, if together at most 4,096 bytes, are
-- accepted by the general call, given room for the record that it writes. That record has the same name, kinds and canonical text."
pub line-back : (b : List ℕ) (d : Declaration) (p : Prototype) → Bytes b → decode b ≡ Some d → name_kinds d ≡ Some p
    → length (line (keyword_in d) p) ≤ longest_text
    → (c : List ℕ) × (read_output call.General (line (keyword_in d) p) ≡ writes c) × SameLine (keyword_in d) p c
unfolding read_output written canonical_output canonical_text name_output
line-back b d p y e n h =
    let w : well_formed d ≡ true = ((decode-exactly b d y).0 e).0 in
    let (x, at, r, s, k) = line_reads d p w n h in
    let v : well_formed x ≡ true = read-well-formed call.General (line (keyword_in d) p) x at r in
    let q : decode (encode 4 x) ≡ Some x = (decode-exactly (encode 4 x) x (encode-bytes x v)).1 (v, refl) in (
      encode 4 x,
      rw r,
      record {
        declaration = x;
        says = q;
        keyword = k;
        same = s;
        name = rw (q, name-of x p s);
        canonical = rw (q, s);
      },
    )
