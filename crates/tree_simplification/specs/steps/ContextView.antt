-- The context that a value of the code stands for.
use Rattle.tree_simplification.specs.steps.Context.{Context}
use Rattle.tree_simplification.specs.declared.context.Context.{Context as CodeContext}

abbrev pub context_of : CodeContext → Context
context_of c = record { loops = c.loops; parameters = c.parameters; natural = c.natural; rows = c.rows.items }
