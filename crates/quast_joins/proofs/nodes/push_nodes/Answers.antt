use Rattle.quast_joins.proofs.Common.{rules, ◌≤◌, ◌<◌, List, length, sym, subst, standing, join, Placed_node, paired}
use Rattle.quast_joins.proofs.Common.{pairs, join_step}
use Rattle.quast_joins.proofs.Steps.{Builds, join_builds}
use Rattle.quast_joins.proofs.Marks.{begun, step_at, ended}
use Rattle.quast_joins.proofs.nodes.push_nodes.Goals as goal

pub loop-at-init : goal.loop-at-init
loop-at-init c =
    let m = c.requires.nodes in
    let o = c.requires.others in
    let t = join c.args.way c.args.variables m.tree o.tree in
    begun (join_step c.args.way c.args.variables (pairs c.args.others.now c.args.binds.now)) c.args.variables
    c.args.nodes.now c.args.rounds.now (standing c.args.builder.now) t m
    (subst (λ (bs : List Placed_node). Builds (join_step c.args.way c.args.variables bs)
    (paired 0 m.tree) t) (sym o.paired_is)
    (join_builds c.args.way c.args.variables 0 m.tree o.tree))

pub push_join-requires-clause-takes : goal.push_join-requires-clause-takes
push_join-requires-clause-takes c =
    let inside : c.loop-at.at < length c.args.nodes.now = search rules in
    (step_at (join_step c.args.way c.args.variables (pairs c.args.others.now c.args.binds.now)) c.args.variables
    c.args.nodes.now c.args.rounds.now (standing c.args.builder.now) c.loop-at.at (standing c.loop-at.builder)
    c.index-nodes-at.result c.requires.nodes inside c.index-nodes-at.is c.loop-at.invariant).takes

pub push_join-requires-clause-node : goal.push_join-requires-clause-node
push_join-requires-clause-node c =
    let inside : c.loop-at.at < length c.args.nodes.now = search rules in
    (step_at (join_step c.args.way c.args.variables (pairs c.args.others.now c.args.binds.now)) c.args.variables
    c.args.nodes.now c.args.rounds.now (standing c.args.builder.now) c.loop-at.at (standing c.loop-at.builder)
    c.index-nodes-at.result c.requires.nodes inside c.index-nodes-at.is c.loop-at.invariant).fits

pub loop-at-preserved : goal.loop-at-preserved
loop-at-preserved c =
    let inside : c.loop-at.at < length c.args.nodes.now = search rules in
    (step_at (join_step c.args.way c.args.variables (pairs c.args.others.now c.args.binds.now)) c.args.variables
    c.args.nodes.now c.args.rounds.now (standing c.args.builder.now) c.loop-at.at (standing c.loop-at.builder)
    c.index-nodes-at.result c.requires.nodes inside c.index-nodes-at.is c.loop-at.invariant).next
    (standing c.push_join.new.builder) c.in-Ok.ensures

pub returns : goal.returns
returns c =
    let past : length c.args.nodes.now ≤ c.loop-at.at = search rules in
    ended (join_step c.args.way c.args.variables (pairs c.args.others.now c.args.binds.now)) c.args.variables
    c.args.nodes.now c.args.rounds.now (standing c.args.builder.now) c.loop-at.at (standing c.loop-at.builder)
    c.requires.nodes past c.loop-at.invariant
