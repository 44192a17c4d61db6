use Rattle.scop_syntax.proofs.Common.{rules, ◌≡◌, ◌∙◌, ap, pos, FitsSigned, ◌<ℤ◌, ◌-ℤ◌, w64, w128, to_z-of_z}
use Rattle.c_printer.specs.Reading.{quotient}
use Rattle.c_printer.specs.steps.Reading.{narrow}
use Rattle.c_printer.proofs.NarrowNumbers.{quotient_over, quotient_under, quotient_nearest}
use Rattle.c_printer.proofs.read_forms.quotient.Goals as goal

pub returns-then-by-gt0 : goal.returns-then-by-gt0
returns-then-by-gt0 c =
    let stride : FitsSigned w64 c.args.stride = c.ranges.stride in
    let start : FitsSigned w64 c.args.start = c.ranges.start in
    let number : FitsSigned w128 c.args.number = c.ranges.number in
    let by : c.from-by.result ≡ c.args.stride = simp to_z-of_z at c.from-by.ensures in
    let first : c.from-first.result ≡ c.args.start = simp to_z-of_z at c.from-first.ensures in
    let wide : FitsSigned w128 c.from-by.result = search rules in
    let broad : FitsSigned w128 c.from-first.result = search rules in
    let above : pos 0 <ℤ c.from-by.result = search rules in
    let told = simp to_z-of_z at c.difference_over.ensures in
    λ z is. told ∙ quotient_over c.args.stride c.args.start c.args.number _ _ by first above
    ∙ (ap (λ y. narrow (quotient c.args.stride (y -ℤ c.args.start))) is
    ∙ quotient_nearest c.args.stride c.args.start z stride start)

pub returns-then-by-lt0 : goal.returns-then-by-lt0
returns-then-by-lt0 c =
    let stride : FitsSigned w64 c.args.stride = c.ranges.stride in
    let start : FitsSigned w64 c.args.start = c.ranges.start in
    let number : FitsSigned w128 c.args.number = c.ranges.number in
    let by : c.from-by.result ≡ c.args.stride = simp to_z-of_z at c.from-by.ensures in
    let first : c.from-first.result ≡ c.args.start = simp to_z-of_z at c.from-first.ensures in
    let wide : FitsSigned w128 c.from-by.result = search rules in
    let broad : FitsSigned w128 c.from-first.result = search rules in
    let size : FitsSigned w128 (pos 0 -ℤ c.from-by.result) = search rules in
    let below : c.from-by.result <ℤ pos 0 = search rules in
    let told = simp to_z-of_z at c.difference_over-then-by-lt0.ensures in
    λ z is. told ∙ quotient_under c.args.stride c.args.start c.args.number _ _ by first below
    ∙ (ap (λ y. narrow (quotient c.args.stride (y -ℤ c.args.start))) is
    ∙ quotient_nearest c.args.stride c.args.start z stride start)
