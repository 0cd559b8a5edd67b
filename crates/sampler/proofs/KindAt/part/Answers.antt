use Rattle.sampler.proofs.Counts.{weight_low}
use Rattle.sampler.proofs.Parts.{list_there}
use Rattle.sampler.proofs.KindAt.part.Goals as goal

pub words_of-words-requires : goal.words_of-words-requires
words_of-words-requires c = weight_low _ _ c.args.self.there

pub overflow_sub-weight : goal.overflow_sub-weight
overflow_sub-weight c = weight_low _ _ c.args.self.there

pub invariant_of-result-2 : goal.invariant_of-result-2
invariant_of-result-2 c =
    record { there = list_there _ _ c.args.self.there _ c.words_of-words.ensures c.if-self-words.false _ c.kinds_of-arrays.ensures.0 c.if-place-arrays.false }
