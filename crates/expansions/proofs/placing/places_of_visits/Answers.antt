use Rattle.expansions.proofs.placing.places_of_visits.Goals as goal

pub place_rest-requires-clause-spot : goal.place_rest-requires-clause-spot
place_rest-requires-clause-spot c = c.in_ok-spot.ensures.spot c.args.params.now

pub place_rest-requires-clause-rest : goal.place_rest-requires-clause-rest
place_rest-requires-clause-rest c = c.in_ok-spot.ensures.rest c.args.params.now
