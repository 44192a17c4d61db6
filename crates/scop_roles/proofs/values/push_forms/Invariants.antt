use Rattle.scop_syntax.proofs.Common.{List, map, drop, fold, Affine}
use Rattle.scop_roles.specs.Formula.{Formula, formula_of, index}
use Rattle.scop_roles.proofs.Chains.{HasForms, Makes}
use Rattle.scop_roles.proofs.values.push_forms.Given as goal

abbrev pub invariant-loop-subscript : goal.invariant-loop-subscript
invariant-loop-subscript l =
    (p : Formula) (xs : List Affine) → HasForms l.entries l.fn.forms.items xs p
    → Makes index (HasForms l.entries l.forms.items xs) (map formula_of (drop l.subscript-index l.subscripts))
    (fold index p (map formula_of l.subscripts))
