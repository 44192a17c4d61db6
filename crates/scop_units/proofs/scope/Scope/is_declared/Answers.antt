use Rattle.scop_syntax.proofs.Common.{◌∙◌}
use Rattle.scop_units.proofs.OrderedNames.{among_found}
use Rattle.scop_units.proofs.scope.Scope.is_declared.Goals as goal

pub returns : goal.returns
returns c = c.contains.ensures ∙ among_found (λ n. n.items) c.args.word.now c.args.self.now.declared.keys
