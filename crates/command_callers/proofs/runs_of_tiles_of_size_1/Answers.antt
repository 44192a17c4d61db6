use Rattle.command_callers.proofs.runs_of_tiles_of_size_1.Goals as goal

pub returns : goal.returns
returns c =
    λ words budget source source_after out out_after err err_after answered is.
    let prints = c.printed_loops_run_the_kernel.ensures words 1 budget source source_after out out_after err err_after
    answered is in
    let runs = prints.4 in (
      prints.0,
      prints.1,
      prints.2,
      prints.3,
      (
        runs.loops.plan,
        runs.loops.trees,
        runs.loops.planned,
        runs.loops.read,
        λ params has.
            let r = runs.runs params has in
            (r.walk, (λ run may. (r.once run may, r.walked_visits run may)), r.in_order, r.marked, r.free, r.arrays),
      ),
      prints.5,
      prints.6,
    )
