use Rattle.calldata.proofs.Finding.{too_long, not-long}
use Rattle.calldata.proofs.limited.Goals as goal

pub returns-then-of_fields-gt-LIMIT : goal.returns-then-of_fields-gt-LIMIT
returns-then-of_fields-gt-LIMIT c = too_long c.type_inv.inputs c.of_fields.ensures c.if-of_fields-gt-LIMIT.true

pub returns : goal.returns
returns c = not-long c.type_inv.inputs c.of_fields.ensures c.if-of_fields-gt-LIMIT.false
