use Rattle.calldata.proofs.Telling.{put-head}
use Rattle.calldata.proofs.write_head.Goals as goal

pub returns : goal.returns
returns c = put-head _ _ _ _ _ c.requires c.from.ensures c.put4.ensures
