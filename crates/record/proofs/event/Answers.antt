use Rattle.record.proofs.Places.{numbered-part, name-stands, inputs-stand}
use Rattle.record.proofs.event.Goals as goal

pub returns-clause-within : goal.returns-clause-within
returns-clause-within c =
    let behind = numbered-part _ c.in_ok-anonymous.anonymous c.in_ok-anonymous.ensures in
    (behind _ (name-stands _ c.in_ok-name.name c.in_ok-name.ensures), behind _ (inputs-stand _ c.in_ok-name.name c.in_ok-name.ensures _ c.in_ok-inputs.inputs c.in_ok-inputs.ensures), tt)
