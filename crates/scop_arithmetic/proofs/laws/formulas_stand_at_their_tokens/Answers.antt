use Rattle.scop_units.specs.Words.{words_of, grammar_tokens}
use Rattle.scop_arithmetic.proofs.TokenPlaces.{own_nodes, kernel_stands}
use Rattle.scop_arithmetic.proofs.laws.formulas_stand_at_their_tokens.Goals as goal

pub returns-clause-nodes : goal.returns-clause-nodes
returns-clause-nodes c = own_nodes

pub returns-clause-kernel : goal.returns-clause-kernel
returns-clause-kernel c text tokens k is =
    kernel_stands (grammar_tokens tokens) (words_of text tokens) k 64 256 is.spells
