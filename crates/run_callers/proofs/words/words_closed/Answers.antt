use Rattle.scop_syntax.proofs.Common.{ap, is_some}
use Rattle.run_callers.proofs.words.words_closed.Goals as goal

pub returns : goal.returns
returns c = λ contents shaped holds d cell.
    (c.close.ensures.results contents shaped holds).arrays (ap is_some c.requires.single) d cell
