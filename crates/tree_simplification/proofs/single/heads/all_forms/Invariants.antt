use Rattle.scop_syntax.proofs.Common.{◌≡◌, ◌^◌, ◌++◌, drop, map, All, composed}
use Rattle.loop_tree.specs.Shape.{IsUpTo}
use Rattle.tree_simplification.proofs.single.heads.all_forms.Given as goal

abbrev pub invariant-loop-form : goal.invariant-loop-form
invariant-loop-form l =
    (l.all.items ++ map (λ f. composed f l.forms l.variables) (drop l.form-index l.old)
    ≡ map (λ f. composed f l.forms l.variables) l.old)
    × All (IsUpTo (2 ^ 45)) l.all.items
