use Rattle.std.proofs.Common.{sym}
use Rattle.value.proofs.Suffixes.{length-sized, length-open}
use Rattle.value.proofs.Suffix.record_length.Goals as goal

pub returns-in-Some : goal.returns-in-Some
returns-in-Some c = sym (length-sized _ _ c.self.view_is _ c.in-Some.is)

pub returns-in-None : goal.returns-in-None
returns-in-None c = sym (length-open _ _ c.self.view_is c.in-None.is)
