use Rattle.scop_expressions.specs.Tree.{name}
use Rattle.text_callers.proofs.meanings.formulas_stand_at_their_tokens.Goals as goal

pub returns-clause-nodes : goal.returns-clause-nodes
returns-clause-nodes c = c.formulas_stand_at_their_tokens.ensures.nodes name

pub returns-clause-kernel : goal.returns-clause-kernel
returns-clause-kernel c = λ text tokens k is. (c.formulas_stand_at_their_tokens.ensures.kernel text tokens k is).void
