use Rattle.scop_syntax.proofs.Common.{rules, ◌≡◌, [], ◌∷◌, ◌++◌, map, fold, ap, ap₂, ◌∙◌}
use Rattle.std.specs.Box.{with_value}
use Rattle.scop_expressions.specs.Op.TheVariants as op
use Rattle.scop_roles.specs.Formula.{argument_of, formula_of, binary, with_argument}
use Rattle.scop_roles.proofs.Views.{formula_commas}
use Rattle.scop_roles.proofs.Chains.{made_more}
use Rattle.scop_roles.proofs.formula.next_argument.Goals as goal

pub returns-in-Ok : goal.returns-in-Ok
returns-in-Ok c =
    let f = formula_of c.args.first.value in
    let gs = c.args.between.items in
    let comma = c.args.comma in
    let before : c.replace-value.result ≡ c.args.last.value = search rules in
    let after : c.replace-value.new.dest ≡ c.args.argument = search rules in
    let more : c.push_behind.new.values.items ≡ gs ++ record { value = c.replace-value.result; comma = comma } ∷ [] =
    c.in-Ok.ensures in
    formula_commas c.args.first c.push_behind.new.values (with_value c.args.last c.replace-value.new.dest) c.args.at
    ∙ ap₂ (λ g h. binary op.Comma g h c.args.at) (ap (λ xs. fold with_argument f (map argument_of xs)) more
    ∙ made_more argument_of with_argument f gs record { value = c.replace-value.result; comma = comma }
    ∙ ap (λ v. binary op.Comma (fold with_argument f (map argument_of gs)) (formula_of v) comma) before)
    (ap formula_of after)
