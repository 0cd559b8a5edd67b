-- How the call ends: no such sample, no room for it, or written.
-- Assumes nothing.
use mathlib.Core.Path.{◌≡◌, refl, sym, ◌∙◌, ap}
use mathlib.Core.List.{List, [], ◌++◌}
use Rattle.std.specs.Prelude.{Ok, Err, IsErrAnd}
use Prim.Native.Nat.{ℕ, ◌≤◌, ◌<◌}
use lib.ListN.{length}
use Rattle.kinds.specs.Kind.{kind_text}
use Rattle.model.specs.declared.Refusal.{Refusal}
use Rattle.model.specs.declared.Refused.{Refused}
use Rattle.model.specs.declared.Refusal.TheVariants.{NoSuchSample, NoRoom}
use Rattle.model.specs.Answer.{writes, said, outcome, after, Answer, refusing, at_start}
use Rattle.layout.specs.Buffer.{put}
use Rattle.layout.specs.Answers.{Ends}
use Rattle.layout.proofs.Answers.{ends-refused, ends-full, ends-written}
use Rattle.sampler.specs.Sampler.{sample_output}
use Rattle.sampler.specs.Places.{count_of, kind_at}
use Rattle.sampler.proofs.Counts.{counted, kind_there, kind_output, not_there}
use Rattle.sampler.proofs.Small.{is-short}

module _ (w i : ℕ) (b : List ℕ) (why : Refusal) (m : (why ≡ NoSuchSample) × (count_of w ≤ i)) where
  none_ends : Ends (sample_output w i) b b (refusing NoSuchSample 0)
  none_ends = ends-refused (sample_output w i) b (refusing NoSuchSample 0) NoSuchSample 0 refl (not_there w i m.1)

  pub none_says : (r : Answer) → IsErrAnd r (λ f. f ≡ at_start why) → said r ≡ outcome (length b) (sample_output w i)
  none_says (Ok n) e = absurd e
  none_says (Err f) e = rw (e, m.0) none_ends.0

  pub none_left : b ≡ after b (sample_output w i)
  none_left = none_ends.1

module _ (w i : ℕ) (h : i < count_of w) where
  pub text_short : length (kind_text (kind_at w i)) ≤ 25
  text_short = is-short w i (kind_at w i) (counted w i h).high (kind_there w i h)

  -- written into an empty text
  module _ (b s t : List ℕ) (start : s ≡ []) (x : t ≡ s ++ kind_text (kind_at w i)) where
    is_text : t ≡ kind_text (kind_at w i)
    is_text = rw start at x

    module _ (l : length b < length t) (r : Refused) (e : r ≡ at_start NoRoom) where
      full_ends : Ends (sample_output w i) b b (Err r)
      full_ends = ends-full (sample_output w i) b (Err r) t (ap Err e) (kind_output w i h ∙ ap writes (sym is_text)) l

      pub full_says : said (Err r) ≡ outcome (length b) (sample_output w i)
      full_says = full_ends.0

      pub full_left : b ≡ after b (sample_output w i)
      full_left = full_ends.1

    module _ (l : length t ≤ length b) where
      written_ends : Ends (sample_output w i) b (put 0 t b) (Ok (length t))
      written_ends = ends-written (sample_output w i) b (Ok (length t)) t (put 0 t b) refl (kind_output w i h ∙ ap writes (sym is_text)) l refl

      pub written_says : (n : ℕ) → n ≡ length t → said (Ok n) ≡ outcome (length b) (sample_output w i)
      written_says n e = rw e written_ends.0

      pub written_left : (b₁ : List ℕ) → b₁ ≡ put 0 t b → b₁ ≡ after b (sample_output w i)
      written_left b₁ e = e ∙ written_ends.1

pub ruleset sampling = (none_says, none_left, text_short, full_says, full_left, written_says, written_left)
