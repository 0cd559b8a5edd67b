use Rattle.std.proofs.Common.{rules}
use mathlib.Core.Path.{refl}
use native.Mathlib.Omega.{arith}
use Rattle.static_kinds.proofs.Leaves.{told, answers, function-ends}
use Rattle.static_kinds.proofs.leaf.Goals as goal

pub get2-requires : goal.get2-requires
get2-requires c = ((told c.args.t _ refl c.requires.0.0 c.requires.0.1).width (omega (arith, c.in-1.is))).0

pub int_word-requires : goal.int_word-requires
int_word-requires c = (c.requires.1.inside, ((told c.args.t _ c.get2.ensures.0 c.requires.0.0 c.requires.0.1).width (omega (arith, c.in-1.is))).1)

pub returns-in-1 : goal.returns-in-1
returns-in-1 c = answers c.args.t _ c.get2.ensures.0 _ _ _ 1 c.in-1.is c.int_word.ensures

pub get2-requires-in-2 : goal.get2-requires-in-2
get2-requires-in-2 c = ((told c.args.t _ refl c.requires.0.0 c.requires.0.1).width (omega (arith, c.in-2.is))).0

pub uint_word-requires : goal.uint_word-requires
uint_word-requires c = (c.requires.1.inside, ((told c.args.t _ c.get2-in-2.ensures.0 c.requires.0.0 c.requires.0.1).width (omega (arith, c.in-2.is))).1)

pub returns-in-2 : goal.returns-in-2
returns-in-2 c = answers c.args.t _ c.get2-in-2.ensures.0 _ _ _ 2 c.in-2.is c.uint_word.ensures

pub get2-requires-in-5 : goal.get2-requires-in-5
get2-requires-in-5 c = ((told c.args.t _ refl c.requires.0.0 c.requires.0.1).octets (omega (arith, c.in-5.is))).0

pub bytes_word-requires : goal.bytes_word-requires
bytes_word-requires c = (c.requires.1.inside, ((told c.args.t _ c.get2-in-5.ensures.0 c.requires.0.0 c.requires.0.1).octets (omega (arith, c.in-5.is))).1)

pub returns-in-5 : goal.returns-in-5
returns-in-5 c = answers c.args.t _ c.get2-in-5.ensures.0 _ _ _ 5 c.in-5.is c.bytes_word.ensures

pub returns-in-3 : goal.returns-in-3
returns-in-3 c = answers c.args.t _ refl _ _ _ 3 c.in-3.is c.address_word.ensures

pub returns-in-4 : goal.returns-in-4
returns-in-4 c = answers c.args.t _ refl _ _ _ 4 c.in-4.is c.bool_word.ensures

pub returns-in_default : goal.returns-in_default
returns-in_default c = function-ends c.args.t _ refl _ _ _ (search rules) (search rules) (search rules) (search rules) (search rules) c.function_word.ensures
