use Rattle.extent.proofs.Reaches.{open_suffixed, fixed-long, dynamic-suffixed, static-suffixed}
use Rattle.extent.proofs.Extent.suffixed.Goals as goal

pub returns-then-suffix-eq-OPEN : goal.returns-then-suffix-eq-OPEN
returns-then-suffix-eq-OPEN c = open_suffixed c.args.suffix c.args.self c.if-suffix-eq-OPEN.true

pub returns-then-self : goal.returns-then-self
returns-then-self c = dynamic-suffixed c.args.suffix c.args.self c.if-suffix-eq-OPEN.false c.if-self.true

pub get8-requires : goal.get8-requires
get8-requires c = fixed-long c.args.suffix c.requires c.if-suffix-eq-OPEN.false

pub returns : goal.returns
returns c = static-suffixed c.args.suffix c.args.self c.if-suffix-eq-OPEN.false c.if-self.false _ _ c.get8.ensures c.times.ensures.0
