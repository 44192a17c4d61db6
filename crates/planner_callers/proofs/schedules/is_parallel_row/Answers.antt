use Rattle.planner_callers.proofs.schedules.is_parallel_row.Goals as goal

pub returns : goal.returns
returns c = λ r is.
    let marked = c.is_parallel.ensures.exact r is in (
      marked.before,
      marked.rows,
      marked.behind,
      marked.at,
      marked.remaining,
      marked.schedule,
      marked.whole,
      marked.place,
      marked.own,
      marked.began,
      marked.exact,
    )
