use Rattle.scop_syntax.proofs.Common.{refl}
use Rattle.std.specs.Fmt.{digits}
use Rattle.report_text.proofs.schedule_laws.a_schedule_and_its_text.Goals as goal

pub returns : goal.returns
unfolding digits
returns c = refl
