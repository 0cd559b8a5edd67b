-- Order 14 of the calls themselves: "Each kind of the weight appears, none twice, and the kind call reads it."
-- Assumes nothing.
use mathlib.Core.Path.{◌≡◌, sym, ◌∙◌, ap}
use mathlib.Core.List.{List}
use Rattle.std.specs.Prelude.{Some, slice_get}
use Rattle.std.proofs.lemmas.Option.{same_Some}
use Prim.Native.Nat.{ℕ, ◌≤◌}
use lib.ListN.{length, take}
use Rattle.kinds.specs.Kind.{Kind, kind_text}
use Rattle.model.specs.Tree.{kind_of, field_of}
use Rattle.model.specs.Record.{decode_lone}
use Rattle.model.specs.Line.{field_text}
use Rattle.model.specs.Answer.{accepted, writes, needed, said, Answer}
use Rattle.model.specs.Calls.{kind_output, SameKind}
use Rattle.model.proofs.Spelling.{kind-field}
use Rattle.layout.proofs.Answers.{accepted-is}
use Rattle.sampler.specs.Sampler.{weight, sampled, sample_output}
use Rattle.sampler.proofs.Sampled.{sampled-exactly, sampled-once}
use Rattle.sampler.proofs.Counts.{There, written-there, sample_there}
use Rattle.sampler.proofs.Small.{sample_back}
use Rattle.demand.specs.Runs.{KindRun, KindReadBack}
use Rattle.demand.specs.Samples.{SampleRun}
use Rattle.demand.proofs.Demand.{ran, enough, kind-read-back}

same_bytes : {u v : List ℕ} → writes u ≡ writes v → u ≡ v
same_bytes e = cc

-- a run of the sampler that wrote n bytes
module _ (w i : ℕ) (room left : List ℕ) (r : Answer) (n : ℕ) (run : SampleRun w i room left r) (wrote : said r ≡ accepted n) where
  -- there is a kind of that weight and that index
  pub sample_found : There w i
  sample_found = let (u, e, _, _) = accepted-is (sample_output w i) (length room) n (sym wrote ∙ run.says) in written-there w i u e

  -- and the bytes are its text
  pub sample_text : take n left ≡ kind_text sample_found.kind
  sample_text = (ran (sample_output w i) (kind_text sample_found.kind) sample_found.output room left r run.says run.leaves n wrote).1

  -- "the kind call reads it": lent enough, as that kind
  pub sample_reads-back : (room₁ left₁ : List ℕ) (r₁ : Answer) → needed (kind_output (take n left)) ≤ length room₁ → KindRun (take n left) room₁ left₁ r₁
      → KindReadBack (field_of sample_found.kind) (take n left) left₁ r₁
  unfolding field_text
  sample_reads-back room₁ left₁ r₁ h run₁ =
      let k = sample_found.kind in
      let (c, out, s) = sample_back w i k sample_found.high sample_found.at in
      kind-read-back (field_of k) (take n left) c (sample_text ∙ ap kind_text (sym (kind-field k))) (ap kind_output sample_text ∙ out) s room₁ left₁ r₁ h run₁

-- "Each kind of the weight appears": some index has it, at which every run that is lent enough writes its text
pub sample_appears : (k : Kind) (w : ℕ) → weight k ≡ Some w → w ≤ 4 → (i : ℕ) × ((room left : List ℕ) (r : Answer) → length (kind_text k) ≤ length room → SampleRun w i room left r
    → (said r ≡ accepted (length (kind_text k))) × (take (length (kind_text k)) left ≡ kind_text k))
sample_appears k w h high =
    let (i, at) = (sampled-exactly w k).1 h in
    let out : sample_output w i ≡ writes (kind_text k) = sample_there w i k high at in (
      i,
      λ room left r l run.
          let e = enough (sample_output w i) (kind_text k) out room left r run.says run.leaves l in
          (e, (ran (sample_output w i) (kind_text k) out room left r run.says run.leaves (length (kind_text k)) e).1),
    )

-- kinds whose texts are read as one are one
same_kind : (k j : Kind) (c d : List ℕ) → c ≡ d → SameKind (field_of k) c → SameKind (field_of j) d → k ≡ j
same_kind k j c d e s t =
    let tree : s.tree ≡ t.tree = same_Some _ _ (sym s.says ∙ ap decode_lone e ∙ t.says) in
    sym (kind-field k) ∙ sym s.same ∙ ap kind_of tree ∙ t.same ∙ kind-field j

-- "none twice": two runs that wrote the same text were asked for the same
pub sample_once : (w i : ℕ) (room left : List ℕ) (r : Answer) (n : ℕ) → SampleRun w i room left r → said r ≡ accepted n
    → (v j : ℕ) (room₁ left₁ : List ℕ) (r₁ : Answer) (m : ℕ) → SampleRun v j room₁ left₁ r₁ → said r₁ ≡ accepted m
    → take n left ≡ take m left₁ → (w ≡ v) × (i ≡ j)
sample_once w i room left r n run wrote v j room₁ left₁ r₁ m run₁ wrote₁ e =
    let f = sample_found w i room left r n run wrote in
    let g = sample_found v j room₁ left₁ r₁ m run₁ wrote₁ in
    let text : kind_text f.kind ≡ kind_text g.kind = sym (sample_text w i room left r n run wrote) ∙ e ∙ sample_text v j room₁ left₁ r₁ m run₁ wrote₁ in
    let (c, out, s) = sample_back w i f.kind f.high f.at in
    let (d, out₁, t) = sample_back v j g.kind g.high g.at in
    let kind : f.kind ≡ g.kind = same_kind f.kind g.kind c d (same_bytes (sym out ∙ ap kind_output text ∙ out₁)) s t in
    let weighs : weight g.kind ≡ Some w = ap weight (sym kind) ∙ (sampled-exactly w f.kind).0 (i, f.at) in
    let same : w ≡ v = same_Some _ _ (sym weighs ∙ (sampled-exactly v g.kind).0 (j, g.at)) in
    (same, sampled-once v i j g.kind (ap (λ u. slice_get (sampled u) i) (sym same) ∙ f.at ∙ ap Some kind) g.at)
