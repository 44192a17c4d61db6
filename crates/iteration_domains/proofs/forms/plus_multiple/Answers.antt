use Rattle.scop_syntax.proofs.Common.{◌≡◌, ℤ, Ok, Err, rules, FitsSigned, to_z, of_z, pos, subst, w128, to_z-of_z}
use Rattle.scop_syntax.proofs.Common.{Affine}
use Rattle.integer_sets.specs.FormStop.TheVariants.{Wide as TooWide}
use Rattle.integer_sets.specs.FormGives.{Fails}
use Rattle.integer_sets.specs.FormRuns.{forms_sum_run}
use Rattle.iteration_domains.proofs.SmallRuns.{sum_small}
use Rattle.iteration_domains.proofs.forms.plus_multiple.Goals as goal

pub unreachable-requires : goal.unreachable-requires
unreachable-requires c =
    let f = c.args.form.now in
    let g = c.args.other.now in
    let k = c.args.factor in
    let w = c.in-Err-Wide.field-0-0 in
    let fit : FitsSigned w128 k = search rules in
    let ok = sum_small f k g c.requires.sized c.requires.small in
    let fails : Fails (TooWide w) (forms_sum_run (pos 1) f (to_z w128 (of_z w128 k)) g) =
    rw c.in-Err-Wide.field-0-is at c.in-Err-Wide.ensures.run in
    let run : forms_sum_run (pos 1) f k g ≡ Err w =
    subst (λ (z : ℤ). forms_sum_run (pos 1) f z g ≡ Err w) (to_z-of_z w128 k fit) fails in
    cc

pub returns-in-Ok : goal.returns-in-Ok
returns-in-Ok c =
    let f = c.args.form.now in
    let g = c.args.other.now in
    let k = c.args.factor in
    let fit : FitsSigned w128 k = search rules in
    let ok = sum_small f k g c.requires.sized c.requires.small in
    let h : Affine = c.in-Ok.sum in
    let gives : forms_sum_run (pos 1) f (to_z w128 (of_z w128 k)) g ≡ Ok h = c.in-Ok.ensures.run in
    let run : forms_sum_run (pos 1) f k g ≡ Ok h =
    subst (λ (z : ℤ). forms_sum_run (pos 1) f z g ≡ Ok h) (to_z-of_z w128 k fit) gives in
    cc
