use Rattle.text.proofs.Numbers.{Digits}
use Rattle.text.proofs.plain.Given as goal

abbrev pub invariant-loop-c : goal.invariant-loop-c
invariant-loop-c l = Digits l.limit l.t l.n l.c-index
