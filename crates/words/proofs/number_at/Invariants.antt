use Rattle.std.proofs.Common.{◌≡◌, take}
use Rattle.encoding.specs.Judge.{be_value}
use Rattle.words.specs.Places.{capped}
use Rattle.words.proofs.number_at.Given as goal

abbrev pub invariant-loop-b : goal.invariant-loop-b
invariant-loop-b l = l.v ≡ capped (be_value (take l.b-index l.b-items))
