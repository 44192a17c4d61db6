use Rattle.whole_numbers.proofs.Common.{◌≡◌, ap, ◌∙◌, length, rules}
use Rattle.quast_trees.specs.Tree.{count}
use Rattle.quast_trees.specs.Postfix.{tree_of}
use Rattle.quast_trees.proofs.WrittenNodes.{length-written}
use Rattle.quast_trees.proofs.quast.Quast.count.Goals as goal

pub returns : goal.returns
returns c =
    let e : length c.self.inside.nodes.items ≡ count (tree_of c.args.self.now) =
    ap length c.self.invariant.spelled ∙ length-written _ ∙ ap (λ q. count (tree_of q)) c.self.view_is in
    search rules
