use Rattle.full.proofs.Lines.{list-is}
use Rattle.full.proofs.list_length.Goals as goal

pub returns : goal.returns
returns c = list-is _ c.requires _ c.extra_fields.ensures
