-- The schedule is one for each program of the model whose covers are held; else the line tells what keeps the order.
use Rattle.plan_search.proofs.BetweenLemmas.{are_between}
use Rattle.plan_search.proofs.SearchLemmas.{found_of, kept_of}
use Rattle.plan_search.proofs.schedules.schedule_of.Goals as goal

pub search-requires : goal.search-requires
search-requires c = are_between c.args.model.now c.args.deps.now c.requires

pub returns-in-Ok-clause-found : goal.returns-in-Ok-clause-found
returns-in-Ok-clause-found c =
    found_of c.args.budget c.args.deps.now c.args.model.now c.in-Ok.schedule c.requires c.in-Ok.ensures.search

pub returns-in-Err-clause-kept : goal.returns-in-Err-clause-kept
returns-in-Err-clause-kept c =
    kept_of c.args.budget c.args.deps.now c.args.model.now c.in-Err.kept c.line_of_kept-line.result
    c.in-Err.ensures.search c.line_of_kept-line.ensures
