use Rattle.scop_syntax.proofs.Common.{◌≡◌, ◌+◌, ◌∙◌, ap, arith, refl}
use Rattle.integer_sets.specs.Parts.{variables_of}
use Rattle.iteration_domains.proofs.FixedForms.{length-shifted}
use Rattle.iteration_domains.proofs.outside.push_shifted.Goals as goal

pub with_row-requires : goal.with_row-requires
with_row-requires c =
    let domain = c.args.domain.now in
    let none = c.requires.parameters in
    let whole : domain.dimensions ≡ domain.dimensions + domain.parameters = omega arith in
    ap variables_of c.in_ok-row.ensures
    ∙ (length-shifted (variables_of c.args.form.now) _ c.args.constant c.args.form.now refl ∙ (c.requires.sized ∙ whole))
