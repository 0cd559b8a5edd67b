-- Runs of the sampler.
-- Assumes nothing.
use Rattle.std.specs.Prelude.{◌≡◌, List, ℕ, length}
use Rattle.model.specs.Answer.{said, outcome, after, Answer}
use Rattle.sampler.specs.Sampler.{sample_output}

-- the sampler on a weight and an index, which was lent `room` and left it as `left`
pub record SampleRun (weight index : ℕ) (room left : List ℕ) (r : Answer) : Type 0 where
  pub says : said r ≡ outcome (length room) (sample_output weight index)
  pub leaves : left ≡ after room (sample_output weight index)
