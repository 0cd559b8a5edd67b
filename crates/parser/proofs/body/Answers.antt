use Rattle.std.proofs.Common.{arith}
use Rattle.parser.proofs.Listing.{room_part}
use Rattle.parser.proofs.Wholes.{whole-exit, parts-fail, parts-paid, unended, body-got}
use Rattle.parser.proofs.body.Goals as goal

pub parts-requires : goal.parts-requires
parts-requires c = room_part 36 35 _ _ _ _ _ c.requires (omega arith) c.requires.inside (omega arith)

pub returns-in_err-parts : goal.returns-in_err-parts
returns-in_err-parts c = whole-exit _ _ _ _ c.from_residual.ensures.1 (parts-fail _ _ _ _ _ c.parts.ensures _ c.in_err-parts.was)

pub end-requires : goal.end-requires
end-requires c = (parts-paid _ _ _ _ _ c.parts.ensures _ c.in_ok-parts.was).1

pub returns-in_err-next : goal.returns-in_err-next
returns-in_err-next c =
    whole-exit _ _ _ _ c.from_residual-in_err-next.ensures.1 (unended _ _ _ _ _ c.parts.ensures _ c.in_ok-parts.was _ c.end.ensures _ c.in_err-next.was)

pub returns : goal.returns
returns c =
    body-got _ _ _ _ _ c.parts.ensures _ c.in_ok-parts.was _ c.end.ensures _ _ _ _ _ c.front_length-from.ensures.0 (omega arith) c.in_ok-next.was c.front.ensures
