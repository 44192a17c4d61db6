use Rattle.scop_syntax.proofs.Common.{rules, ◌≤◌, length, map, fold}
use Rattle.scop_roles.specs.Formula.{formula_of, index}
use Rattle.scop_roles.proofs.Chains.{HasForms, makes_next, makes_whole}
use Rattle.scop_roles.proofs.values.push_forms.Goals as goal

pub loop-subscript-preserved : goal.loop-subscript-preserved
loop-subscript-preserved c p xs h =
    let n = c.args.entries in
    let l = c.loop-subscript in
    makes_next formula_of index (HasForms n l.forms.items xs) (HasForms n c.push_form.new.forms.items xs)
    c.args.subscripts.now l.subscript-index c.subscript-item.result
    (fold index p (map formula_of c.args.subscripts.now)) c.subscript-item.is c.loop-subscript-test.true
    (λ q before. c.in-Ok.ensures q xs before) (l.invariant p xs h)

pub returns : goal.returns
returns c p xs h =
    let l = c.loop-subscript in
    let past : length c.args.subscripts.now ≤ l.subscript-index = search rules in
    makes_whole formula_of index (HasForms c.args.entries l.forms.items xs) c.args.subscripts.now l.subscript-index
    (fold index p (map formula_of c.args.subscripts.now)) past (l.invariant p xs h)
