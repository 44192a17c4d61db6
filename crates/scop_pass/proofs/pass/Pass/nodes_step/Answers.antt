use Rattle.scop_syntax.proofs.Common.{◌∙◌, ℕ, Option, ap, subst}
use Rattle.scop_roles.specs.Formula.{Formula}
use Rattle.scop_roles.specs.Resolving.{formula_of_nodes}
use Rattle.scop_pass.specs.Machine.{expects, formula_step}
use Rattle.scop_pass.specs.Passing.{Comes, pending_of, state_of}
use Rattle.scop_units.specs.Scopes.{look}
use Rattle.scop_units.specs.View.{scope_of, scope_within, words_in}
use Rattle.scop_pass.proofs.pass.Pass.nodes_step.Goals as goal

pub returns-in-Ok : goal.returns-in-Ok
returns-in-Ok c =
    let words = words_in c.args.words.now in
    let q = pending_of c.args.pending in
    let scope = scope_of c.args.self.now.scope in
    subst (λ (f : Formula). Comes c.formula_step.result (state_of c.formula_step.new.self)
    (formula_step q words (expects (state_of c.args.self.now) q) f))
    (c.in-Ok.ensures
    ∙ ap (λ (o : Option ℕ). formula_of_nodes (look words (scope_within words scope o)) c.args.first_at c.args.nodes.now)
    c.inner_of.ensures)
    c.formula_step.ensures
