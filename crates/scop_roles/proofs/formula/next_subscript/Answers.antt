use Rattle.scop_syntax.proofs.Common.{rules, ◌≡◌, [], ◌∷◌, ◌++◌, map, fold, ap, ap₂, ◌∙◌}
use Rattle.std.specs.Box.{with_value}
use Rattle.scop_roles.specs.Formula.{formula_of, index}
use Rattle.scop_roles.proofs.Views.{formula_index}
use Rattle.scop_roles.proofs.Chains.{made_more}
use Rattle.scop_roles.proofs.formula.next_subscript.Goals as goal

pub returns-in-Ok : goal.returns-in-Ok
returns-in-Ok c =
    let p = formula_of c.args.place.value in
    let es = c.args.earlier.items in
    let before : c.replace-before.result ≡ c.args.last.value = search rules in
    let after : c.replace-before.new.dest ≡ c.args.subscript = search rules in
    let more : c.push_behind.new.values.items ≡ es ++ c.args.last.value ∷ [] =
    c.in-Ok.ensures ∙ ap (λ x. es ++ x ∷ []) before in
    formula_index c.args.place c.push_behind.new.values (with_value c.args.last c.replace-before.new.dest)
    ∙ ap₂ index (ap (λ xs. fold index p (map formula_of xs)) more
    ∙ made_more formula_of index p es c.args.last.value) (ap formula_of after)
