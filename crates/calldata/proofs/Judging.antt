-- Data judged by what the check of the record found, and when they are accepted.
-- Assumes nothing.
use Rattle.std.specs.Prelude.{Ok}
use mathlib.Core.Path.{◌≡◌, refl, sym, ◌∙◌, ap}
use mathlib.Core.Logic.{◌↔◌}
use mathlib.Core.Bool.{Bool, true, false, ◌||◌}
use mathlib.Core.List.{List, [], ◌∷◌}
use Rattle.std.specs.Prelude.{Option, None, Some}
use Prim.Native.Nat.{ℕ, ◌≤◌, ◌<◌}
use native.Mathlib.Omega.{arith}
use lib.Dec.{leb, ltb}
use lib.ListN.{length}
use borrow.Author.Tests.{lt-ltb, le-ltb, ltb-false}
use Rattle.kinds.specs.Bytes.{all, is_word}
use Rattle.kinds.specs.Kind.{Kind, Kinds, are_kinds}
use Rattle.kinds.proofs.Logic.{left, right}
use Rattle.model.specs.declared.Sort.TheVariants.{Parameter}
use Rattle.model.specs.declared.Refusal.TheVariants.{CallTooLong, NotAnEncoding}
use Rattle.model.specs.Tree.{Fields, kinds_of, Declaration}
use Rattle.model.specs.Layout.{Bytes}
use Rattle.model.specs.Reading.{deepest}
use Rattle.model.specs.Record.{is_declaration, well_formed, decode}
use Rattle.model.specs.Answer.{accepted, refused, Output, writes, refuses, number, said, outcome, Answer, refusing}
use Rattle.model.specs.Calls.{of_record}
use Rattle.model.proofs.Records.{decode-exactly}
use Rattle.model.proofs.Sound.{fields_are_kinds}
use Rattle.layout.specs.Buffer.{put}
use Rattle.layout.proofs.Answers.{ends-refused, ends-written}
use Rattle.encoding.specs.Dynamic.{heads_length}
use Rattle.encoding.specs.Words.{is_byte}
use Rattle.encoding.specs.Values.{members, Values, are_values}
use Rattle.encoding.specs.Encoding.{enc, parts}
use Rattle.encoding.specs.Judge.{is_encoding}
use Rattle.encoding.proofs.Members.{assembled-length}
use Rattle.encoding.proofs.Lengths.{parts-long}
use Rattle.encoding.proofs.Exactly.{encoding_exactly}
use Rattle.judge.specs.Fits.{Encoded}
use Rattle.calldata.specs.Calls.{inputs_of, of_inputs, most_bytes, of_function, judged_by, check_output, IsCall}
use Rattle.calldata.proofs.Short.{never}
use Rattle.calldata.specs.Parts.{ShortIn}

-- The call.

-- what is left where nothing is too long
abbrev by_test : Bool → Output
by_test t = elim t [ true ↦ writes [] | false ↦ refuses NotAnEncoding 0 ]

within : (ks : Kinds) (d : List ℕ) → heads_length ks ≤ most_bytes → length d ≤ most_bytes → judged_by d ks ≡ by_test (is_encoding ks d)
unfolding judged_by
within ks d h l = rw (judged_by, le-ltb most_bytes (heads_length ks) h, le-ltb most_bytes (length d) l)

module _ {b bytes : List ℕ} (i : ShortIn b bytes) (d : List ℕ) where
  pub check_long : most_bytes < length d → (r : Answer) → r ≡ refusing CallTooLong 0 → said r ≡ outcome 0 (check_output b d)
  unfolding check_output judged_by
  check_long h r e =
      let short = le-ltb most_bytes (heads_length (kinds_of i.fields)) i.short.small in
      let o : check_output b d ≡ refuses CallTooLong 0 = i.same (judged_by d) ∙ rw (judged_by, short, lt-ltb most_bytes (length d) h) in
      (ends-refused (check_output b d) [] r CallTooLong 0 e o).0

  module _ (h : length d ≤ most_bytes) (t : Bool) (y : Encoded bytes d t) where
    judged : (v : Bool) → t ≡ v → check_output b d ≡ by_test v
    unfolding check_output
    judged v e = i.same (judged_by d) ∙ within (kinds_of i.fields) d i.short.small h ∙ ap by_test (sym (y i.fields i.short.is) ∙ e)

    pub check_good : t ≡ true → said (Ok 0) ≡ outcome 0 (check_output b d)
    unfolding put
    check_good e = (ends-written (check_output b d) [] (Ok 0) [] [] refl (judged true e) (omega arith) refl).0

    pub check_bad : t ≡ false → (r : Answer) → r ≡ refusing NotAnEncoding 0 → said r ≡ outcome 0 (check_output b d)
    check_bad e r f = (ends-refused (check_output b d) [] r NotAnEncoding 0 f (judged false e)).0

-- When data are accepted.

-- a call that writes nothing is accepted where it does not refuse
pub nothing_written : (o : Output) → (outcome 0 o ≡ accepted 0) ↔ (o ≡ writes [])
unfolding outcome number
nothing_written (writes []) = (λ _. refl, λ _. refl)
nothing_written (writes (c ∷ u)) = (λ e. absurd (no_room e), λ e. absurd (let y : ◌≡◌ {A = ℕ} 0 1 = cc in omega arith))
  where
    no_room : outcome 0 (writes (c ∷ u)) ≡ accepted 0 → ⊥
    no_room e =
        let z : refused 20 0 ≡ accepted 0 = rw (outcome, lt-ltb 0 (length (c ∷ u)) (omega arith), number) at e in
        let y : ◌≡◌ {A = ℕ} 0 1 = cc in omega arith
nothing_written (refuses w p) = (λ e. absurd (let y : ◌≡◌ {A = ℕ} 0 1 = cc in omega arith), λ e. never e)

inputs-kinds : (m : ℕ) (nm : List ℕ) (ins outs : Fields) → well_formed (Declaration.function m nm ins outs) ≡ true → are_kinds (kinds_of ins) ≡ true
unfolding well_formed is_declaration
inputs-kinds m nm ins outs w = fields_are_kinds ins Parameter deepest (left _ (right (is_word nm) (right (leb m 3) (left _ w))))

-- the heads are a part of the data
heads-inside : (ks : Kinds) (vs : Values) → are_kinds ks ≡ true → are_values ks vs ≡ true → heads_length ks ≤ length (enc (Kind.tuple ks) (members vs))
unfolding enc
heads-inside ks vs g t = omega (arith, parts-long ks g vs t, assembled-length (parts ks vs))

module _ (ks : Kinds) (d : List ℕ) (g : are_kinds ks ≡ true) (q : all is_byte d ≡ true) where
  good-values : judged_by d ks ≡ writes [] → (length d ≤ most_bytes) × ((vs : Values) × (are_values ks vs ≡ true) × (d ≡ enc (Kind.tuple ks) (members vs)))
  unfolding judged_by
  good-values e = by_heads (ltb most_bytes (heads_length ks)) (ltb most_bytes (length d)) refl (is_encoding ks d) refl e
    where
      by_heads : (a c : Bool) → ltb most_bytes (length d) ≡ c → (t : Bool) → is_encoding ks d ≡ t
          → elim (a || c) as (λ _. Output) [ true ↦ refuses CallTooLong 0 | false ↦ by_test t ] ≡ writes []
          → (length d ≤ most_bytes) × ((vs : Values) × (are_values ks vs ≡ true) × (d ≡ enc (Kind.tuple ks) (members vs)))
      by_heads true c h t u f = never f
      by_heads false true h t u f = never f
      by_heads false false h true u f = (ltb-false most_bytes (length d) h, (encoding_exactly ks d g q).0 u)
      by_heads false false h false u f = never f

  values-good : length d ≤ most_bytes → (vs : Values) → are_values ks vs ≡ true → d ≡ enc (Kind.tuple ks) (members vs) → judged_by d ks ≡ writes []
  values-good h vs t e =
      within ks d (omega (arith, heads-inside ks vs g t, ap length e)) h ∙ ap by_test ((encoding_exactly ks d g q).1 (vs, t, e))

-- "accepted exactly if they are the specification's encoding of some values": of the kinds of the inputs of the function that the record says, within
-- the limit
pub accepted-exactly : (b d : List ℕ) → Bytes b → all is_byte d ≡ true → (outcome 0 (check_output b d) ≡ accepted 0) ↔ IsCall b d
unfolding check_output of_function
accepted-exactly b d B q = (λ e. to (decode b) refl ((nothing_written (check_output b d)).0 e), λ c. (nothing_written (check_output b d)).1 (from c))
  where
    kinds : (m : ℕ) (nm : List ℕ) (ins outs : Fields) → decode b ≡ Some (Declaration.function m nm ins outs) → are_kinds (kinds_of ins) ≡ true
    kinds m nm ins outs e = inputs-kinds m nm ins outs ((decode-exactly b (Declaration.function m nm ins outs) B).0 e).0

    to : (o : Option Declaration) → decode b ≡ o → of_record o (λ x. of_inputs (inputs_of x) (judged_by d)) ≡ writes [] → IsCall b d
    to (Some (Declaration.function m nm ins outs)) e f =
        let (h, (vs, t, g)) = good-values (kinds_of ins) d (kinds m nm ins outs e) q f in
        record { mutability = m; name = nm; inputs = ins; outputs = outs; says = e; values = vs; good = t; same = g; short = h }
    to (Some (Declaration.constructor m ins)) e f = never f
    to (Some (Declaration.event a nm ins)) e f = never f
    to (Some (Declaration.error nm ins)) e f = never f
    to None e f = never f

    from : IsCall b d → check_output b d ≡ writes []
    from c =
        ap (λ o. of_record o (λ x. of_inputs (inputs_of x) (judged_by d))) c.says
        ∙ values-good (kinds_of c.inputs) d (kinds c.mutability c.name c.inputs c.outputs c.says) q c.short c.values c.good c.same
