use native.Mathlib.Omega.{arith}
use Rattle.text.specs.Found.{is_alphabetic}
use Rattle.text.proofs.Eights.{known_bytes, lead_span}
use Rattle.text.proofs.letters.Goals as goal

pub returns : goal.returns
returns c = (lead_span is_alphabetic _ _ _ _ _ (known_bytes _ (λ i. omega (arith, c.type_inv.t i))) c.requires c.get8.ensures c.others.ensures c.lead.ensures.0, c.lead.ensures.1)
