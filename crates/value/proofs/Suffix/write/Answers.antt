use Rattle.std.proofs.Common.{arith}
use Rattle.value.proofs.Suffixes.{length-sized, length-open, puts-sized, puts-open}
use Rattle.value.proofs.Written.{length-headed}
use Rattle.value.proofs.Suffix.write.Goals as goal

pub header-requires : goal.header-requires
header-requires c = let l = length-sized _ _ c.self.view_is _ c.in-Some.is in omega arith

pub put8-requires : goal.put8-requires
put8-requires c =
    let l = length-sized _ _ c.self.view_is _ c.in-Some.is in
    let m = length-headed _ _ _ _ _ (omega arith) (omega arith) c.header.ensures in
    omega arith

pub header-requires-in-None : goal.header-requires-in-None
header-requires-in-None c = let l = length-open _ _ c.self.view_is c.in-None.is in omega arith

pub returns-in-Some : goal.returns-in-Some
returns-in-Some c = puts-sized _ _ c.self.view_is _ _ _ _ _ c.in-Some.is c.requires c.header.ensures c.put8.ensures

pub returns-in-None : goal.returns-in-None
returns-in-None c = puts-open _ _ c.self.view_is _ _ _ c.in-None.is c.header-in-None.ensures
