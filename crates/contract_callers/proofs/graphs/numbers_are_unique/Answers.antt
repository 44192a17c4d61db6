use Rattle.scop_syntax.proofs.Common.{ap}
use Rattle.stmt_graph.specs.Graph.{number_in}
use Rattle.contract_callers.proofs.graphs.numbers_are_unique.Goals as goal

pub returns : goal.returns
returns c = λ n edges f g s first second.
    ap (λ numbers. number_in numbers s) (c.numberings_are_unique.ensures n edges f g first second)
