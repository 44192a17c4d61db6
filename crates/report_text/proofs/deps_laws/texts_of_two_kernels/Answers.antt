use Rattle.scop_syntax.proofs.Common.{refl}
use Rattle.std.specs.Fmt.{digits}
use Rattle.report_text.proofs.EvenText.{even_text_is}
use Rattle.report_text.proofs.deps_laws.texts_of_two_kernels.Goals as goal

pub returns-clause-copy : goal.returns-clause-copy
unfolding digits
returns-clause-copy c = refl

pub returns-clause-even : goal.returns-clause-even
returns-clause-even c = even_text_is
