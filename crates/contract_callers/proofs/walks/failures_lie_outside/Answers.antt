use Rattle.contract_callers.proofs.walks.failures_lie_outside.Goals as goal

pub returns : goal.returns
returns c = λ extents visits f ranked first.
    (c.failures_are_the_first.ensures.first extents visits f ranked first).outside
