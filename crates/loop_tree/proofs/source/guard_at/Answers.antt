use Rattle.scop_syntax.proofs.Common.{◌≡◌, ℕ, ◌+◌, All, List, length, subst, sym, rules, ◌∙◌, Affine, test_of}
use Rattle.scop_syntax.specs.declared.tree.Test.{Test}
use Rattle.iteration_domains.specs.Path.{path_of}
use Rattle.loop_tree.specs.Source.{point_at}
use Rattle.loop_tree.specs.steps.Placing.{CanTest}
use Rattle.loop_tree.proofs.Placings.{can_tests}
use Rattle.loop_tree.proofs.source.guard_at.Goals as goal

pub tests_at-requires : goal.tests_at-requires
tests_at-requires c =
    let p = path_of c.args.path.now in
    let tests = c.args.guarded.now.tests.items in
    let named : c.len.result ≡ length p.loops = search rules in
    let forms = c.as_slice-2.ensures.value ∙ c.in_ok-forms.ensures in
    subst (λ (d : ℕ). All (λ test. CanTest (d + p.parameters) c.as_slice-2.result.now (test_of test))
    c.as_slice.result.now) (sym named)
    (subst (λ (fs : List Affine). All (λ test. CanTest (length p.loops + p.parameters) fs (test_of test))
    c.as_slice.result.now) (sym forms)
    (subst (λ (ts : List Test). All (λ test. CanTest (length p.loops + p.parameters) (point_at p) (test_of test)) ts)
    (sym c.as_slice.ensures.value) (can_tests p tests c.requires.place c.requires.tests)))
