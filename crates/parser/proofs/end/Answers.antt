use Rattle.parser.proofs.Listing.{Last, end-from, last-behind, last-here, end-here, end-more}
use Rattle.parser.proofs.end.Goals as goal
use Rattle.parser.proofs.end.Goals.{in-Some, in-None}

pub look-last-requires : goal.look-last-requires
look-last-requires c = (end-from _ _ _ c.look-first.ensures _ c.behind.ensures _ c.in-Some.is).1

pub returns-then-is_some : goal.returns-then-is_some
returns-then-is_some c =
    let k : Last c.args.s.now c.args.at c.match-behind.last = elim c.match-behind.branch [
      | in-Some w ↦ last-behind _ _ _ c.look-first.ensures _ c.behind.ensures _ w.in-Some.is _ _ w.look-last.ensures w.last-is
      | in-None w ↦ last-here _ _ _ c.look-first.ensures _ c.behind.ensures _ w.in-None.is w.last-is
    ] in
    end-more _ _ _ k _ c.is_some.ensures c.if-is_some.true

pub returns : goal.returns
returns c =
    let k : Last c.args.s.now c.args.at c.match-behind.last = elim c.match-behind.branch [
      | in-Some w ↦ last-behind _ _ _ c.look-first.ensures _ c.behind.ensures _ w.in-Some.is _ _ w.look-last.ensures w.last-is
      | in-None w ↦ last-here _ _ _ c.look-first.ensures _ c.behind.ensures _ w.in-None.is w.last-is
    ] in
    end-here _ _ _ k _ c.is_some.ensures c.if-is_some.false
