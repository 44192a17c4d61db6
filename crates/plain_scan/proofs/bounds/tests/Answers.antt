use Rattle.scop_syntax.proofs.Common.{◌≡◌, ◌∙◌, List, map, ap, sym, append-nil, Affine}
use Rattle.std.proofs.Common.{take_all}
use Rattle.integer_sets.specs.Constraints.{Constraints}
use Rattle.loop_tree.specs.Tree.{equal}
use Rattle.plain_scan.proofs.bounds.tests.Goals as goal

pub loop-form-2-init : goal.loop-form-2-init
loop-form-2-init c =
    let forms = c.equalities-form-items.result.now in
    let equalities = c.args.set.now.system.equalities in
    let eqs : forms ≡ equalities =
    c.equalities-form-items.ensures.forms ∙ ap (λ (s : Constraints). s.equalities) c.system.ensures in
    c.loop-form.invariant
    ∙ (ap (λ (fs : List Affine). map equal fs) (take_all c.loop-form.form-index forms c.loop-form-test.false ∙ eqs)
    ∙ sym (append-nil (map equal equalities)))
