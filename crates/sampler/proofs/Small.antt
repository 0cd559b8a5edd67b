-- The kinds of the sampler are short and nest little, and the kind call reads each.
-- Assumes nothing.
use mathlib.Core.Path.{◌≡◌, refl, sym, ◌∙◌, ap}
use mathlib.Core.Bool.{Bool, true, ◌&&◌}
use mathlib.Core.List.{List}
use Rattle.std.specs.Prelude.{Some, slice_get}
use Prim.Native.Nat.{ℕ, zero, suc, ◌≤◌}
use native.Mathlib.Omega.{arith}
use lib.Dec.{leb}
use lib.ListN.{length}
use borrow.Author.Tests.{leb-true}
use Rattle.kinds.specs.Bytes.{all}
use Rattle.kinds.specs.Decimal.{decimal, digits}
use Rattle.kinds.specs.Kind.{Kind, is_elementary, is_kind, elementary_text, suffix_text, kind_text}
use Rattle.kinds.proofs.Logic.{left, right}
use Rattle.model.specs.Tree.{Field, field_of}
use Rattle.model.specs.Parser.{got}
use Rattle.model.specs.Reading.{deepest, admit}
use Rattle.model.specs.Record.{encode_field, decode_lone, well_formed_field}
use Rattle.model.specs.Line.{field_text}
use Rattle.model.specs.Answer.{writes}
use Rattle.model.specs.Calls.{read_kind, kind_output, SameKind}
use Rattle.model.specs.Written.{fits}
use Rattle.model.proofs.Records.{decode-lone-exactly, encode-field-bytes}
use Rattle.model.proofs.Sound.{kind-well-formed}
use Rattle.model.proofs.Spelling.{kind-field, kind-itself, kind-call_admits}
use Rattle.model.proofs.KindReads.{kind-back}
use Rattle.sampler.specs.Sampler.{chains, spread, kinds_in, lists_in, sampled}
use Rattle.sampler.proofs.Elements.{all-at}

is_small : Kind → Bool
is_small k = is_kind k && (fits deepest k && leb (length (kind_text k)) 25)

all_small : (w : ℕ) → w ≤ 4 → all is_small (sampled w) ≡ true
unfolding is_small sampled kinds_in lists_in spread chains is_kind is_elementary fits kind_text elementary_text suffix_text decimal digits
all_small zero h = refl
all_small (suc zero) h = refl
all_small (suc (suc zero)) h = refl
all_small (suc (suc (suc zero))) h = refl
all_small (suc (suc (suc (suc zero)))) h = refl
all_small (suc (suc (suc (suc (suc w))))) h = absurd (omega arith)

module _ (w i : ℕ) (k : Kind) (high : w ≤ 4) (at : slice_get (sampled w) i ≡ Some k) where
  small : is_small k ≡ true
  small = all-at is_small (sampled w) i k (all_small w high) at

  is-kind : is_kind k ≡ true
  unfolding is_small
  is-kind = left _ small

  nests_little : fits deepest k ≡ true
  unfolding is_small
  nests_little = left _ (right (is_kind k) small)

  pub is-short : length (kind_text k) ≤ 25
  unfolding is_small
  is-short = leb-true (length (kind_text k)) 25 (right (fits deepest k) (right (is_kind k) small))

  -- "the kind call reads it": as the field of that kind, without a mark and names
  pub sample_reads : admit read_kind (kind_text k) ≡ got (field_of k) 0
  sample_reads = kind-call_admits k (kind_text k) (kind-itself k) is-kind nests_little (omega (arith, is-short))

  -- what is written of that field says the kind, and its kind text is the same
  pub sample_back : (c : List ℕ) × (kind_output (kind_text k) ≡ writes c) × SameKind (field_of k) c
  unfolding field_text
  sample_back =
      let f : Field = field_of k in
      let v : well_formed_field f ≡ true = kind-well-formed (kind_text k) f 0 sample_reads in
      let bytes = encode-field-bytes f v in
      let says : decode_lone (encode_field 4 f) ≡ Some f = (decode-lone-exactly (encode_field 4 f) f bytes).1 (v, refl) in
      let same : field_text f ≡ kind_text k = ap kind_text (kind-field k) in
      let (c, out, s) = kind-back (encode_field 4 f) f bytes says (omega (arith, is-short, ap length same)) in
      (c, ap kind_output (sym same) ∙ out, s)
