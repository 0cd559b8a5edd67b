use Rattle.model.specs.Text.{tails}
use Rattle.text.proofs.Characters.{Tails}
use Rattle.text.proofs.tails.Given as goal

abbrev pub invariant-loop-c : goal.invariant-loop-c
invariant-loop-c l = Tails (tails l.k l.v l.t) l.bytes l.code l.c-index
