use Rattle.run_callers.proofs.cores.values_of_plans.Goals as goal

pub returns-clause-reads : goal.returns-clause-reads
returns-clause-reads c = λ plan contents v is shaped at.
    c.plans_execute_the_kernel.ensures.reads plan contents 0 v is shaped at
