use native.Mathlib.Omega.{arith}
use Rattle.text.specs.Found.{is_plain}
use Rattle.text.proofs.Eights.{known_bytes, lead_span}
use Rattle.text.proofs.plains.Goals as goal

pub returns : goal.returns
returns c = (lead_span is_plain _ _ _ _ _ (known_bytes _ (λ i. omega (arith, c.type_inv.t i))) c.requires c.get8.ensures c.stops.ensures c.lead.ensures.0, c.lead.ensures.1)
