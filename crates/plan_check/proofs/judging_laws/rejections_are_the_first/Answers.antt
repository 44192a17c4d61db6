use Rattle.scop_syntax.proofs.Common.{length}
use Rattle.iteration_domains.specs.Model.{model_of}
use Rattle.plan_check.proofs.FirstFaults.{fault_line, first_fault}
use Rattle.plan_check.proofs.judging_laws.rejections_are_the_first.Goals as goal

pub returns-clause-first : goal.returns-clause-first
returns-clause-first c = first_fault

pub returns-clause-line : goal.returns-clause-line
returns-clause-line c program text r f = fault_line (model_of program) (length f.before) f.stage f.behind r f.fault
