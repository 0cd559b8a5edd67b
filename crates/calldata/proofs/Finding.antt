-- A function's inputs, by what the check of its record found, and how long their heads are.
-- Assumes nothing.
use mathlib.Core.Path.{◌≡◌, refl, ◌∙◌, ap, subst}
use mathlib.Core.List.{List}
use Rattle.std.specs.Prelude.{Option, None, Some, Result, Ok, Err, MatchResult}
use Rattle.std.proofs.Common.{Fits, w8}
use Rattle.std.specs.Borrow.{Bor}
use Prim.Native.Nat.{ℕ, ◌≤◌, ◌<◌}
use native.Mathlib.Omega.{arith}
use lib.ListN.{get_or}
use borrow.Author.Tests.{lt-ltb}
use Rattle.model.specs.declared.Sort.TheVariants.{Parameter}
use Rattle.model.specs.declared.Keyword.{Keyword}
use Rattle.model.specs.declared.Keyword.TheVariants as keyword
use Rattle.model.specs.declared.Refusal.{Refusal}
use Rattle.model.specs.declared.Refusal.TheVariants.{NotWellFormed, WrongSort, CallTooLong}
use Rattle.model.specs.Tree.{Fields, Declaration, kinds_of}
use Rattle.model.specs.Layout.{Bytes}
use Rattle.model.specs.Reading.{deepest}
use Rattle.model.specs.Record.{decode, decode_lone}
use Rattle.model.specs.Calls.{of_record}
use Rattle.record.specs.declared.Measured.{Measured}
use Rattle.record.specs.declared.Checked.{Checked}
use Rattle.record.specs.declared.Checked.TheVariants as checked
use Rattle.record.specs.Says.{Says}
use Rattle.record.specs.Encoded.{FieldsAre, SomeFields}
use Rattle.model.proofs.Records.{inputs_spells}
use Rattle.encoding.specs.Dynamic.{heads_length}
use Rattle.extent.specs.declared.Extent.{Extent}
use Rattle.extent.specs.Extents.{ExtentsOf}
use Rattle.calldata.specs.Calls.{inputs_of, of_inputs, of_function, most_bytes, heads_by, heads_output, judged_by, check_output}
use Rattle.calldata.specs.Parts.{FieldsRead, SomeRead, InputsIn, NoInputs, Limited, TooLong, ShortIn, Refuses}

-- Where there are none.

no_function : (b : List ℕ) (d : Declaration) → decode b ≡ Some d → inputs_of d ≡ None → NoInputs b WrongSort
unfolding of_function
no_function b d e z f = ap (λ o. of_record o (λ x. of_inputs (inputs_of x) f)) e ∙ ap (λ o. of_inputs o f) z

no_declaration : (b : List ℕ) → decode b ≡ None → NoInputs b NotWellFormed
unfolding of_function
no_declaration b e f = ap (λ o. of_record o (λ x. of_inputs (inputs_of x) f)) e

module _ (b : List ℕ) (r : Option Checked) (i : Says (decode b) (decode_lone b) r) where
  found : (c : Checked) → r ≡ Some c → Says (decode b) (decode_lone b) (Some c)
  found c e = subst (Says (decode b) (decode_lone b)) e i

  module _ {nm : Bor (List ℕ)} {l : Measured} {u : Option Measured} where
    pub function-inputs : r ≡ Some (checked.Declared keyword.Function nm l u) → InputsIn b l.bytes.now
    unfolding of_function
    function-inputs e =
        let f = (found (checked.Declared keyword.Function nm l u) e).0 in
        let read : FieldsRead l.bytes.now f.ins = record { same = f.inputs.same; short = f.inputs.short } in
        record { fields = f.ins; read = read; same = λ g. ap (λ o. of_record o (λ d. of_inputs (inputs_of d) g)) f.same }

    pub other-inputs : (k : Keyword) → (k ≡ keyword.Function → ⊥) → r ≡ Some (checked.Declared k nm l u) → NoInputs b WrongSort
    other-inputs keyword.Function z e = absurd (z refl)
    other-inputs keyword.Constructor z e = absurd (found (checked.Declared keyword.Constructor nm l u) e).0
    other-inputs keyword.Event z e = no_function b _ (found (checked.Declared keyword.Event nm l u) e).0.same refl
    other-inputs keyword.Error z e = no_function b _ (found (checked.Declared keyword.Error nm l u) e).0.same refl

  pub constructor-inputs : {l : Measured} → r ≡ Some (checked.Constructor l) → NoInputs b WrongSort
  constructor-inputs {l} e = no_function b _ (found (checked.Constructor l) e).0.same refl

  pub field-inputs : {nm : Bor (List ℕ)} {l : Measured} → r ≡ Some (checked.Field nm l) → NoInputs b NotWellFormed
  field-inputs {nm} {l} e = no_declaration b (found (checked.Field nm l) e).0

  pub none-inputs : r ≡ None → NoInputs b NotWellFormed
  none-inputs e = let z : (decode b ≡ None) × (decode_lone b ≡ None) = subst (Says (decode b) (decode_lone b)) e i in no_declaration b z.0

pub ruleset inputs = (function-inputs, other-inputs, constructor-inputs, field-inputs, none-inputs)

-- Heads within the limit.

-- what was read is what is encoded: a slice is of bytes
fields-are : (b : List ℕ) (fs : Fields) → ((j : ℕ) → Fits w8 (get_or b j 0)) → FieldsRead b fs → FieldsAre b fs
unfolding Bytes
fields-are b fs B r =
    let (well, same) = (inputs_spells 4 Parameter).from b fs (λ j. let byte = B j in omega arith) r.same in
    record { same = same; small = r.short; sort = Parameter; d = deepest; well = well }

module _ {b : List ℕ} (B : (j : ℕ) → Fits w8 (get_or b j 0)) where
  pub read-some : SomeRead b → SomeFields b
  read-some (fs, r) = (fs, fields-are b fs B r)

  module _ {e : Extent} (x : ExtentsOf b e) where
    pub too_long : most_bytes < e.head → TooLong b CallTooLong
    too_long h = record { why = refl; all = λ fs r. omega (arith, (x.all fs (fields-are b fs B r)).head) }

    pub not-long : e.head ≤ most_bytes → Limited b b
    not-long h = record { all = λ fs r. let i = fields-are b fs B r in record { is = i; small = omega (arith, (x.all fs i).head) } }

pub ruleset limits = (read-some, too_long, not-long)

-- what a call is about
module _ (b : List ℕ) where
  pub refused : {w : Refusal} → NoInputs b w → Refuses b w
  unfolding heads_output check_output
  refused h = record { heads = h heads_by; check = λ d. h (judged_by d) }

  pub call-is : {bytes : List ℕ} (r : Result (Bor (List ℕ)) Refusal) → InputsIn b bytes → MatchResult r (λ s. Limited bytes s.now) (λ w. TooLong bytes w)
      → MatchResult r (λ s. ShortIn b s.now) (λ w. Refuses b w)
  unfolding heads_output check_output heads_by judged_by
  call-is (Ok s) i x = record { fields = i.fields; short = x.all i.fields i.read; same = i.same }
  call-is (Err w) i x =
      let l = lt-ltb most_bytes (heads_length (kinds_of i.fields)) (x.all i.fields i.read) in
      record { heads = i.same heads_by ∙ rw (heads_by, l, x.why); check = λ d. i.same (judged_by d) ∙ rw (judged_by, l, x.why) }
