use Rattle.std.proofs.Common.{arith}
use Rattle.parser.proofs.Listing.{did-exit, room_part, list-unopened, list-from, list-failed, list-got}
use Rattle.parser.proofs.field_list.Goals as goal

pub returns-in_err-from : goal.returns-in_err-from
returns-in_err-from c = did-exit _ _ _ _ _ _ _ c.from_residual.ensures.1 (list-unopened _ _ _ _ _ c.look.ensures c.take.ensures _ c.in_err-from.was)

pub list-requires : goal.list-requires
list-requires c =
    let p = list-from _ _ c.args.sort _ _ c.look.ensures c.take.ensures _ c.in_ok-from.was in
    room_part 32 32 6 _ _ _ _ c.requires (omega arith) p.1 (omega arith)

pub returns-in_err-list : goal.returns-in_err-list
returns-in_err-list c =
    did-exit _ _ _ _ _ _ _ c.from_residual-in_err-list.ensures.1
    (list-failed _ _ _ _ _ c.look.ensures c.take.ensures _ c.in_ok-from.was _ _ c.list.ensures _ c.in_err-list.was)

pub returns : goal.returns
returns c =
    list-got _ _ _ _ _ c.look.ensures c.take.ensures _ c.in_ok-from.was _ _ c.list.ensures _ _ _ _ (omega arith) c.in_ok-list.was c.header.ensures
