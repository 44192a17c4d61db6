use Rattle.whole_numbers.proofs.Common.{rules, ◌≡◌, ◌∙◌, ◌+◌, ap, ap₂, subst, pos, ℕ, ℤ, List, get_or, map, FitsSigned}
use Rattle.whole_numbers.proofs.Common.{IfOk, w128, to_z-of_z, floor, Affine, form_of}
use Rattle.tableau_rows.specs.Moves.{row_at}
use Rattle.checked_tableau.specs.Nodes.{divided, padded, part_of}
use Rattle.pip_solver.proofs.LeafTrees.{divided-line}
use Rattle.pip_solver.proofs.leaf.divided_part.Goals as goal

pub returns-in-Ok : goal.returns-in-Ok
returns-in-Ok c =
    let line = c.line-line.result.now in
    let n = c.unknowns-at.result in
    let row = row_at c.args.rows.now.rows c.args.row in
    let d = get_or line 0 (pos 0) in
    let k : n ≡ c.args.rows.now.unknowns = search rules in
    let f0 : FitsSigned w128 d = search rules in
    let f1 : FitsSigned w128 (get_or line (n + 1) (pos 0)) = search rules in
    let fr : FitsSigned w128 c.floor_of.result = search rules in
    let cs = simp to_z-of_z at c.in-Ok.ensures in
    let r = simp to_z-of_z at c.floor_of.ensures in
    let made = simp to_z-of_z at c.padded.ensures in
    let form : form_of c.deref.result.now c.floor_of.result
    ≡ divided row.denominator (part_of c.args.rows.now.unknowns row) =
    ap₂ (λ (zs : List ℤ) (z : ℤ). form_of zs z)
    (c.deref.ensures.value ∙ cs ∙ ap (λ (zs : List ℤ). map (λ z. floor z d) zs) c.split_at.ensures.back) r
    ∙ divided-line n line row c.line-line.ensures.line ∙ ap (λ (j : ℕ). divided row.denominator (part_of j row)) k in
    subst (λ (g : Affine). IfOk c.padded.result (λ f. f ≡ padded c.args.bound g)) form made
