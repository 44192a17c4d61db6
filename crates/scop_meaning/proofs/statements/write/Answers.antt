use Rattle.scop_syntax.proofs.Common.{◌∙◌}
use Rattle.scop_meaning.proofs.statements.write.Goals as goal

pub returns-clause-ready : goal.returns-clause-ready
returns-clause-ready c = record {
  shape = c.set_cell.ensures.shape ∙ c.requires.ready.shape;
  counts = c.requires.ready.counts;
}
