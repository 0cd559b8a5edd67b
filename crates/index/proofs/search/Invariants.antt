use Rattle.index.proofs.Searching.{Searching}
use Rattle.index.proofs.search.Given as goal

abbrev pub invariant-loop-known : goal.invariant-loop-known
invariant-loop-known l =
    goal.iterator-loop-known.can_next l.known-iterator
    × goal.iterator-loop-known.is_finite l.known-iterator
    × Searching l.sheet l.text l.known-iterator l.compared
