use Rattle.whole_numbers.proofs.Common.{rules, ◌≡◌, List, length, ap, ◌∙◌}
use Rattle.quast_trees.specs.Postfix.{standing}
use Rattle.quast_trees.specs.declared.node.Node.{Node}
use Rattle.quast_trees.proofs.TreeStack.{length-starts}
use Rattle.quast_trees.proofs.builder.Builder.count.Goals as goal

pub returns : goal.returns
returns c =
    let e : length c.self.inside.starts.items ≡ length (standing c.args.self.now) =
    ap length c.self.invariant.begin ∙ length-starts (standing c.self.inside.nodes.items)
    ∙ ap (λ (nodes : List Node). length (standing nodes)) c.self.view_is in
    search rules
