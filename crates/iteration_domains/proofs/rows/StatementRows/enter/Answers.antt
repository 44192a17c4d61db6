use Rattle.scop_syntax.proofs.Common.{All, List, [], ◌∷◌, subst, sym, arith, test_form, test_of}
use Rattle.scop_syntax.specs.declared.tree.Test.{Test}
use Rattle.iteration_domains.specs.Path.{scopes_of, shown}
use Rattle.iteration_domains.specs.Sizes.{CanCompose}
use Rattle.iteration_domains.specs.Standing.{CanEnter}
use Rattle.iteration_domains.specs.declared.rows.Scope.{Scope}
use Rattle.iteration_domains.specs.declared.rows.Scope.TheVariants.{Under}
use Rattle.iteration_domains.proofs.Surroundings.{tests_compose}
use Rattle.iteration_domains.proofs.rows.StatementRows.enter.Goals as goal

pub enter_guard-requires : goal.enter_guard-requires
enter_guard-requires c =
    let s = c.args.self.now in
    let guard = c.in-Under.guard in
    let can : CanEnter (shown s) (scopes_of (Under guard ∷ [])) =
    subst (λ (x : Scope). CanEnter (shown s) (scopes_of (x ∷ []))) c.in-Under.is c.requires in
    let small = can.small in
    let all = tests_compose s.variables s.forms.items guard.now.tests.items can.sized (omega arith) can.scopes.0 in
    record {
      tests = subst (λ (ts : List Test). All (λ test. CanCompose s.variables s.forms.items (test_form (test_of
          test))) ts)
          (sym c.as_slice.ensures.value) all;
    }
