use Rattle.whole_numbers.proofs.Common.{◌≡◌, ◌∙◌, ℤ, List, [], map, ap, sym, Affine}
use Rattle.quast_trees.specs.Source.{Forms}
use Rattle.quast_trees.specs.Tree.{Tree, leaf}
use Rattle.quast_trees.specs.Postfix.{tree_of}
use Rattle.quast_trees.specs.Leaf.{found}
use Rattle.quast_trees.specs.Value.{value}
use Rattle.pip_solver.proofs.LeafPoints.{values-constant}
use Rattle.pip_solver.proofs.point.point_of.Goals as goal

pub returns-in-Ok : goal.returns-in-Ok
returns-in-Ok c =
    let l = c.in-Forms.leaf.now in
    let tree : tree_of c.args.quast.now ≡ leaf l = sym c.root.ensures ∙ c.in-Forms.ensures in
    let items : c.in-Ok.point.items ≡ map (λ f. f.constant) l.forms =
    c.in-Ok.ensures ∙ ap (λ (fs : List Affine). map (λ f. f.constant) fs)
    (c.deref.ensures.value ∙ ap (λ (m : Forms). m.forms) c.leaf.view_is) in (
      l.source,
      ap (λ (t : Tree). value t []) tree
          ∙ ap (λ (zs : List ℤ). found l.source zs) (values-constant l.forms ∙ sym items),
    )
