use Rattle.parser.proofs.Wholes.{whole-exit, unopened, keyword-within, exec-body, room_behind}
use Rattle.parser.proofs.exec.Goals as goal

pub returns-in_err-at : goal.returns-in_err-at
returns-in_err-at c = whole-exit _ _ _ _ c.from_residual.ensures.1 (unopened _ _ _ c.keyword.ensures _ c.in_err-at.was)

pub body-requires : goal.body-requires
body-requires c = room_behind _ _ _ c.requires (keyword-within _ _ _ c.keyword.ensures _ c.in_ok-at.was)

pub returns : goal.returns
returns c = exec-body _ _ _ c.keyword.ensures _ c.in_ok-at.was _ _ c.body.ensures
