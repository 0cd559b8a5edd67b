use mathlib.Core.Bool.{Bool}
use Rattle.repeat.specs.Noted.{Looked}
use Rattle.repeat.proofs.Noting.{LookedIn}
use Rattle.repeat.proofs.Notes.repeats.Given as goal

-- what is left of the two decides
abbrev pub invariant-loop-known : goal.invariant-loop-known
invariant-loop-known g l =
    (goal.iterator-loop-known g).can_next l.known-iterator
    × (goal.iterator-loop-known g).is_finite l.known-iterator
    × ((b : Bool) → LookedIn (goal.F-post g l.same) l.print l.known-iterator b → Looked (goal.F-post g l.same) l.print l.self.prints.items l.self.places.items b)
