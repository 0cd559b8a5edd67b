use Rattle.index.proofs.Places.{room-enough}
use Rattle.index.proofs.long_line_is.Goals as goal

pub line_is-requires : goal.line_is-requires
line_is-requires c = record { one = c.requires; room = room-enough _ c.requires }
