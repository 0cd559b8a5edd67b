use Rattle.std.proofs.Common.{arith}
use Rattle.value.proofs.Written.{length-numbered, length-bare, length-headed, puts-numbered, puts-bare}
use Rattle.value.proofs.Base.write.Goals as goal

pub header-requires : goal.header-requires
header-requires c = let l = length-numbered _ _ _ c.parts.ensures _ c.in_default-Some.is-1 in omega arith

pub put2-requires : goal.put2-requires
put2-requires c =
    let l = length-numbered _ _ _ c.parts.ensures _ c.in_default-Some.is-1 in
    let m = length-headed _ _ _ _ _ (omega arith) (omega arith) c.header.ensures in
    omega arith

pub header-requires-in_default-None : goal.header-requires-in_default-None
header-requires-in_default-None c = let l = length-bare _ _ _ c.parts.ensures c.in_default-None.is-1 in omega arith

pub returns-in_default-Some : goal.returns-in_default-Some
returns-in_default-Some c = puts-numbered _ _ _ c.parts.ensures _ _ _ _ _ c.in_default-Some.is-1 c.requires c.header.ensures c.put2.ensures

pub returns-in_default-None : goal.returns-in_default-None
returns-in_default-None c = puts-bare _ _ _ c.parts.ensures _ _ _ c.in_default-None.is-1 c.header-in_default-None.ensures
