use Rattle.quast_joins.proofs.Common.{rules, ◌≤◌, ◌<◌, length, standing, moved, moved_step}
use Rattle.quast_joins.proofs.Steps.{moved_builds}
use Rattle.quast_joins.proofs.Marks.{begun, step_at, ended}
use Rattle.quast_joins.proofs.nodes.push_all_moved.Goals as goal

pub loop-at-init : goal.loop-at-init
loop-at-init c =
    let m = c.requires in
    begun (moved_step c.args.variables c.args.more) c.args.variables c.args.nodes.now
    c.args.binds.now (standing c.args.builder.now)
    (moved c.args.variables c.args.more m.tree) m
    (moved_builds c.args.variables c.args.more 0 m.tree)

pub push_moved-requires-clause-takes : goal.push_moved-requires-clause-takes
push_moved-requires-clause-takes c =
    let inside : c.loop-at.at < length c.args.nodes.now = search rules in
    (step_at (moved_step c.args.variables c.args.more) c.args.variables c.args.nodes.now
    c.args.binds.now (standing c.args.builder.now) c.loop-at.at (standing c.loop-at.builder)
    c.index-nodes-at.result c.requires inside c.index-nodes-at.is c.loop-at.invariant).takes

pub push_moved-requires-clause-node : goal.push_moved-requires-clause-node
push_moved-requires-clause-node c =
    let inside : c.loop-at.at < length c.args.nodes.now = search rules in
    (step_at (moved_step c.args.variables c.args.more) c.args.variables c.args.nodes.now
    c.args.binds.now (standing c.args.builder.now) c.loop-at.at (standing c.loop-at.builder)
    c.index-nodes-at.result c.requires inside c.index-nodes-at.is c.loop-at.invariant).fits

pub loop-at-preserved : goal.loop-at-preserved
loop-at-preserved c =
    let inside : c.loop-at.at < length c.args.nodes.now = search rules in
    (step_at (moved_step c.args.variables c.args.more) c.args.variables c.args.nodes.now
    c.args.binds.now (standing c.args.builder.now) c.loop-at.at (standing c.loop-at.builder)
    c.index-nodes-at.result c.requires inside c.index-nodes-at.is c.loop-at.invariant).next
    (standing c.push_moved.new.builder) c.in-Ok.ensures

pub returns : goal.returns
returns c =
    let past : length c.args.nodes.now ≤ c.loop-at.at = search rules in
    ended (moved_step c.args.variables c.args.more) c.args.variables c.args.nodes.now
    c.args.binds.now (standing c.args.builder.now) c.loop-at.at (standing c.loop-at.builder)
    c.requires past c.loop-at.invariant
