use Rattle.run_callers.proofs.cores.reads_of_the_first_place.Goals as goal

pub returns : goal.returns
returns c = λ plan is some. c.instances_read_few.ensures plan 0 is some
