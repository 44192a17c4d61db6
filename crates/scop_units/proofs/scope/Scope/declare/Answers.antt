use Rattle.scop_syntax.proofs.Common.{Bool, ap}
use Rattle.scop_lexer.specs.Bytes.{Text}
use Rattle.scop_units.specs.View.{scope_of}
use Rattle.scop_units.proofs.OrderedNames.{among_inserted}
use Rattle.scop_units.proofs.scope.Scope.declare.Goals as goal

pub returns-clause-scope : goal.returns-clause-scope
returns-clause-scope c =
    let old = c.args.self.now in
    ap (λ (d : Text → Bool). record (scope_of old) { declared = d })
    (among_inserted (λ n. n.items) c.args.name old.declared.keys c.insert.new.self.keys c.in_ok-insert.ensures.keys)
