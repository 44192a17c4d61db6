use Rattle.scop_syntax.proofs.Common.{◌≡◌, ℤ, List, pos, ap, rules, ◌∙◌, form_of, zeros, replicate-zeros}
use Rattle.loop_tree.specs.Tree.{Bound}
use Rattle.loop_tree.proofs.source.first_bound.Goals as goal

abbrev made : List ℤ → Bound
made cs = record { form = form_of cs (pos 0); divisor = pos 1 }

pub returns-in-Ok : goal.returns-in-Ok
returns-in-Ok c =
    let zero : c.in-Ok.coefficients.items ≡ zeros c.args.variables =
    c.in-Ok.ensures.items_if_clones_equal (search rules) ∙ replicate-zeros c.args.variables in
    ap made zero
