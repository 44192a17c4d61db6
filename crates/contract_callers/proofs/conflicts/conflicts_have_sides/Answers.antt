use Rattle.contract_callers.proofs.conflicts.conflicts_have_sides.Goals as goal

pub returns : goal.returns
returns c = λ model dep is among.
    let parts = c.systems_have_parts.ensures model dep is among in
    (parts.from, parts.to, parts.order, parts.is)
