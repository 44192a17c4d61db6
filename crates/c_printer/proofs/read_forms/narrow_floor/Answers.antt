use Rattle.scop_syntax.proofs.Common.{rules, ◌∙◌, ap, FitsSigned, w128, to_z-of_z}
use Rattle.c_printer.specs.steps.Reading.{narrow}
use Rattle.c_printer.proofs.NarrowNumbers.{floor_told}
use Rattle.c_printer.proofs.read_forms.narrow_floor.Goals as goal

pub returns-in-Ok : goal.returns-in-Ok
returns-in-Ok c =
    let fit : FitsSigned w128 c.in-Ok.quotient = search rules in
    let number : FitsSigned w128 c.args.number = c.ranges.number in
    let divisor : FitsSigned w128 c.args.divisor = c.ranges.divisor in
    let narrowed = simp to_z-of_z at c.narrow.ensures in
    let floored = simp to_z-of_z at c.in-Ok.ensures in
    narrowed ∙ ap narrow (floor_told c.args.number c.args.divisor c.in-Ok.quotient c.requires floored)
