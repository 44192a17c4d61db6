use Rattle.scop_syntax.proofs.Common.{rules, ◌≡◌, Some}
use Rattle.affine_forms.specs.Parts.{variables_of}
use Rattle.plan_check.specs.Derivations.{named}
use Rattle.plan_check.proofs.SoundDerivations.{named_kept, named_sized}
use Rattle.plan_check.proofs.lines.sum_of_terms.Goals as goal

pub sum_of-requires-clause-sized : goal.sum_of-requires-clause-sized
sum_of-requires-clause-sized c =
    let rows = c.args.rows.now in
    let terms = c.args.terms.now in
    let found : named rows terms ≡ Some c.deref.result.now = search rules in
    named_kept (λ f. variables_of f ≡ c.args.variables) rows terms c.deref.result.now c.requires.sized
    found

pub sum_of-requires-clause-each : goal.sum_of-requires-clause-each
sum_of-requires-clause-each c =
    let rows = c.args.rows.now in
    let terms = c.args.terms.now in
    let found : named rows terms ≡ Some c.deref.result.now = search rules in
    named_sized rows terms c.deref.result.now found
