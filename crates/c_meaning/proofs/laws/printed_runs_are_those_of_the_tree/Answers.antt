use Rattle.c_meaning.proofs.Wholes.{program_runs, program_makes}
use Rattle.c_meaning.proofs.laws.printed_runs_are_those_of_the_tree.Goals as goal

pub returns-clause-runs : goal.returns-clause-runs
returns-clause-runs c = program_runs

pub returns-clause-all : goal.returns-clause-all
returns-clause-all c = program_makes
