use Rattle.sampler.proofs.Parts.{Passing}
use Rattle.sampler.proofs.ListAt.split.Given as goal

abbrev pub invariant-loop-first : goal.invariant-loop-first
invariant-loop-first l = Passing l.self.weight l.self.index l.first l.place
