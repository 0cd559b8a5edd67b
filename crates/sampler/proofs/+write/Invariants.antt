use Prim.Native.Nat.{◌+◌, ◌*◌}
use lib.ListN.{length}
use Rattle.kinds.specs.Kind.{kind_text, list_text, rest_text}
use Rattle.sampler.specs.Places.{kind_at, list_at}
use Rattle.sampler.proofs.+write.Given as goal

abbrev pub decreases-KindAt::write : goal.decreases-KindAt::write
decreases-KindAt::write l = 2 * length (kind_text (kind_at l.self.weight l.self.index))

abbrev pub decreases-ListAt::write : goal.decreases-ListAt::write
decreases-ListAt::write l = 2 * length (list_text (list_at l.self.weight l.self.index))

abbrev pub decreases-ListAt::write_rest : goal.decreases-ListAt::write_rest
decreases-ListAt::write_rest l = 2 * length (rest_text (list_at l.self.weight l.self.index)) + 1
