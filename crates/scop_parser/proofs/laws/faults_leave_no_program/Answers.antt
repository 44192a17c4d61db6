use Rattle.scop_parser.proofs.UniquePrograms.{no-program}
use Rattle.scop_parser.proofs.laws.faults_leave_no_program.Goals as goal

pub returns : goal.returns
returns c = no-program
