use Rattle.whole_numbers.proofs.Common.{rules, ◌≡◌, ◌++◌, ◌∷◌, [], List, ℕ, length, take, ap, sym, subst, ◌∙◌}
use Rattle.whole_numbers.proofs.Common.{take-append_seam}
use Rattle.quast_trees.specs.Postfix.{IsStack, built, standing}
use Rattle.quast_trees.specs.declared.node.Node.{Node}
use Rattle.quast_trees.proofs.TreeStack.{standing-more, started}
use Rattle.quast_trees.proofs.builder.Builder.start.Goals.{After-truncate}
use Rattle.quast_trees.proofs.builder.Builder.start.Goals as goal

pub invariant_of-self : goal.invariant_of-self
invariant_of-self c =
    subst (λ (ns : List Node). IsStack ns c.self.inside.starts.items) (sym c.in-Err.ensures.kept) c.self.invariant

-- the nodes are as before
kept : (c : After-truncate) → c.truncate.new.self.items ≡ c.self.inside.nodes.items
kept c =
    let nodes = c.self.inside.nodes.items in
    let size : length nodes ≡ c.len-nodes.result = search rules in
    c.truncate.ensures.items ∙ ap (λ (ns : List Node). take c.len-nodes.result ns) c.in-Ok.ensures.pushed
    ∙ subst (λ (n : ℕ). take n (nodes ++ c.args.leaf ∷ []) ≡ nodes) size (take-append_seam nodes (c.args.leaf ∷ []))

pub invariant_of-self-in-Err-push : goal.invariant_of-self-in-Err-push
invariant_of-self-in-Err-push c =
    let nodes = kept c in
    let starts = c.in-Err-push.ensures.items in
    rw (nodes, starts) c.self.invariant

pub invariant_of-self-in-Ok-push : goal.invariant_of-self-in-Ok-push
invariant_of-self-in-Ok-push c =
    let i = c.self.inside in
    let nodes = c.in-Ok.ensures.pushed in
    let starts = c.in-Ok-push.ensures.items in
    let size : length i.nodes.items ≡ c.len-nodes.result = search rules in
    rw (nodes, starts, ← size) (started i.nodes.items i.starts.items c.args.leaf c.requires c.self.invariant)

pub returns-in-Err-clause-kept : goal.returns-in-Err-clause-kept
returns-in-Err-clause-kept c = c.in-Err.ensures.kept ∙ c.self.view_is

pub returns-in-Err-push-clause-kept : goal.returns-in-Err-push-clause-kept
returns-in-Err-push-clause-kept c = kept c ∙ c.self.view_is

pub returns-in-Ok-push-clause-pushed : goal.returns-in-Ok-push-clause-pushed
returns-in-Ok-push-clause-pushed c =
    let nodes = c.self.inside.nodes.items in
    ap standing c.in-Ok.ensures.pushed ∙ standing-more nodes c.args.leaf
    ∙ ap (λ (ns : List Node). built (standing ns) c.args.leaf) c.self.view_is
