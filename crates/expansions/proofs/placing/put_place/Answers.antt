use Rattle.expansions.proofs.placing.put_place.Goals as goal

pub returns-in_ok-push-in-Some-clause-put : goal.returns-in_ok-push-in-Some-clause-put
returns-in_ok-push-in-Some-clause-put c =
    record { place = c.in-Some.place; found = c.in-Some.ensures.found; put = c.in_ok-push-in-Some.ensures.items }
