use Rattle.whole_numbers.proofs.Common.{rules, ◌≡◌, ◌≤◌, ◌-◌, ◌++◌, [], ◌∷◌, ◌<◌, length, take, get_or, ap, ◌∙◌, arith}
use Rattle.quast_trees.specs.Postfix.{standing}
use Rattle.quast_trees.specs.declared.node.Node.TheVariants as node
use Rattle.quast_trees.proofs.TreeStack.{length-starts, joins}
use Rattle.quast_trees.proofs.builder.Builder.branch.Goals as goal

pub overflow_sub-top : goal.overflow_sub-top
overflow_sub-top c =
    let nodes = c.self.inside.nodes.items in
    let size : length c.self.inside.starts.items ≡ length (standing nodes) =
    ap length c.self.invariant.begin ∙ length-starts (standing nodes) in
    let two : 2 ≤ length (standing nodes) = search rules in
    let is : c.len-top.result ≡ length c.self.inside.starts.items = search rules in
    omega arith

pub index-requires : goal.index-requires
index-requires c =
    let nodes = c.self.inside.nodes.items in
    let size : length c.self.inside.starts.items ≡ length (standing nodes) =
    ap length c.self.invariant.begin ∙ length-starts (standing nodes) in
    let two : 2 ≤ length (standing nodes) = search rules in
    let is : c.len-top.result ≡ length c.self.inside.starts.items = search rules in
    let goal_is : c.len-top.result - 1 < length c.self.inside.starts.items = omega arith in
    search rules

pub overflow_sub-second : goal.overflow_sub-second
overflow_sub-second c =
    let nodes = c.self.inside.nodes.items in
    let places = c.self.inside.starts.items in
    let two : 2 ≤ length (standing nodes) = search rules in
    let j = joins nodes places c.args.test c.index.result.now c.self.invariant two in
    let is : c.len-top.result ≡ length places = search rules in
    let len : c.len.result ≡ length nodes = search rules in
    let read : c.index.result.now ≡ get_or places (c.len-top.result - 1) c.index.result.now = search rules in
    let at = read ∙ ap (λ n. get_or places (n - 1) c.index.result.now) is in
    let inside = j.inside in
    omega arith

pub invariant_of-self-in-Ok : goal.invariant_of-self-in-Ok
invariant_of-self-in-Ok c =
    let nodes = c.self.inside.nodes.items in
    let places = c.self.inside.starts.items in
    let two : 2 ≤ length (standing nodes) = search rules in
    let j = joins nodes places c.args.test c.index.result.now c.self.invariant two in
    let is : c.len-top.result ≡ length places = search rules in
    let len : c.len.result ≡ length nodes = search rules in
    let read : c.index.result.now ≡ get_or places (c.len-top.result - 1) c.index.result.now = search rules in
    let at = read ∙ ap (λ n. get_or places (n - 1) c.index.result.now) is in
    let pushed : c.push.new.list.items ≡ nodes ++ node.Branch c.args.test (c.len.result - c.index.result.now)
    ∷ [] = search rules in
    let kept : c.truncate.new.self.items ≡ take (c.len-top.result - 1) places = search rules in
    rw (pushed, kept, len, at, is) j.stack
