use Rattle.whole_numbers.proofs.Common.{◌≡◌, pos, ◌≤ℤ◌, ◌<ℤ◌, [], ◌∷◌, ◌++◌, Ok, FitsSigned, refl, rules, arith, w128}
use Rattle.whole_numbers.proofs.Common.{ints, IsFloor, floor, floor_is, floor_unique}
use Rattle.affine_forms.specs.Runs.{value_run as form_run}
use Rattle.quast_trees.proofs.value.push_quotient.Goals as goal

pub returns-in-Ok-push : goal.returns-in-Ok-push
returns-in-Ok-push c =
    let value = c.in-Ok.value in
    let divisor = c.args.divisor in
    let q = c.in-Ok-floor_div.quotient in
    let fits_value : FitsSigned w128 value = search rules in
    let fits_divisor : FitsSigned w128 divisor = search rules in
    let fits_q : FitsSigned w128 q = search rules in
    let point : c.deref.result.now ≡ c.args.point.now.items = c.deref.ensures.value in
    let run : form_run c.args.form.now c.deref.result.now ≡ Ok value = search rules in
    let f : IsFloor value divisor q = search rules in
    let h : pos 1 ≤ℤ divisor = search rules in
    let positive : pos 0 <ℤ divisor = omega (arith, ints) in
    let e = floor_unique value divisor (floor value divisor) q positive (floor_is value divisor positive) f in
    let pushed : c.push.new.self.items ≡ c.args.point.now.items ++ q ∷ [] = search rules in
    rw (← point, run, e, point, pushed) refl
