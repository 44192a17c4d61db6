use Rattle.quast_joins.proofs.Common.{rules, ◌≤◌, ◌<◌, length, standing, under, under_step}
use Rattle.quast_joins.proofs.Steps.{under_builds}
use Rattle.quast_joins.proofs.Marks.{begun, step_at, ended}
use Rattle.quast_joins.proofs.nodes.push_all_under.Goals as goal

pub loop-at-init : goal.loop-at-init
loop-at-init c =
    let m = c.requires.nodes in
    begun (under_step c.args.way c.args.variables c.args.more c.args.leaf.now) c.args.variables c.args.nodes.now
    c.args.binds.now (standing c.args.builder.now)
    (under c.args.way c.args.variables c.args.more c.args.leaf.now 0 m.tree) m
    (under_builds c.args.way c.args.variables c.args.more c.args.leaf.now 0 m.tree)

pub push_under-requires-clause-takes : goal.push_under-requires-clause-takes
push_under-requires-clause-takes c =
    let inside : c.loop-at.at < length c.args.nodes.now = search rules in
    (step_at (under_step c.args.way c.args.variables c.args.more c.args.leaf.now) c.args.variables c.args.nodes.now
    c.args.binds.now (standing c.args.builder.now) c.loop-at.at (standing c.loop-at.builder)
    c.index-nodes-at.result c.requires.nodes inside c.index-nodes-at.is c.loop-at.invariant).takes

pub push_under-requires-clause-node : goal.push_under-requires-clause-node
push_under-requires-clause-node c =
    let inside : c.loop-at.at < length c.args.nodes.now = search rules in
    (step_at (under_step c.args.way c.args.variables c.args.more c.args.leaf.now) c.args.variables c.args.nodes.now
    c.args.binds.now (standing c.args.builder.now) c.loop-at.at (standing c.loop-at.builder)
    c.index-nodes-at.result c.requires.nodes inside c.index-nodes-at.is c.loop-at.invariant).fits

pub loop-at-preserved : goal.loop-at-preserved
loop-at-preserved c =
    let inside : c.loop-at.at < length c.args.nodes.now = search rules in
    (step_at (under_step c.args.way c.args.variables c.args.more c.args.leaf.now) c.args.variables c.args.nodes.now
    c.args.binds.now (standing c.args.builder.now) c.loop-at.at (standing c.loop-at.builder)
    c.index-nodes-at.result c.requires.nodes inside c.index-nodes-at.is c.loop-at.invariant).next
    (standing c.push_under.new.builder) c.in-Ok.ensures

pub returns : goal.returns
returns c =
    let past : length c.args.nodes.now ≤ c.loop-at.at = search rules in
    ended (under_step c.args.way c.args.variables c.args.more c.args.leaf.now) c.args.variables c.args.nodes.now
    c.args.binds.now (standing c.args.builder.now) c.loop-at.at (standing c.loop-at.builder)
    c.requires.nodes past c.loop-at.invariant
