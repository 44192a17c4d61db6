use Rattle.whole_numbers.proofs.Common.{rules, ◌≡◌, pos, negsuc, ◌-ℤ◌, sum_of_forms, multiple_of_form}
use Rattle.affine_forms.specs.Gives.{Fails}
use Rattle.affine_forms.specs.Runs.{forms_difference_run}
use Rattle.quast_joins.proofs.JoinForms.{less_put}
use Rattle.quast_joins.proofs.Sizes.{never_wide}
use Rattle.quast_joins.proofs.forms.less_by_one.Goals as goal

pub returns : goal.returns
returns c =
    let f = c.args.first.now in
    let g = c.args.second.now in
    let d = c.in-Ok.difference in
    let entries : d ≡ sum_of_forms (multiple_of_form (pos 1) f) (multiple_of_form (negsuc 0) g) = search rules in
    let cs : c.in-Ok-of.form.coefficients ≡ d.coefficients = search rules in
    let k : c.in-Ok-of.form.constant ≡ d.constant -ℤ pos 1 = search rules in
    less_put f g d c.in-Ok-of.form entries cs k

pub unreachable-requires : goal.unreachable-requires
unreachable-requires c =
    let f = c.args.first.now in
    let g = c.args.second.now in
    let run : Fails c.in-Err-Wide.field-0 (forms_difference_run (pos 1) f (pos 1) g) = search rules in
    let wide = rw c.in-Err-Wide.field-0-is at run in
    absurd (never_wide f g c.in-Err-Wide.field-0-0 c.requires.first c.requires.second wide)
