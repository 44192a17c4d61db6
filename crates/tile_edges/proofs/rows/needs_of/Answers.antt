use Rattle.scop_syntax.proofs.Common.{◌∙◌, ◌+◌, arith, get_or, length, ap, length-set, in_at}
use Rattle.tile_edges.proofs.RowLists.{counted_more}
use Rattle.tile_edges.proofs.rows.needs_of.Goals as goal

pub count_one-requires : goal.count_one-requires
count_one-requires c =
    let targets = c.args.targets.now in
    let long = c.loop-at.invariant.long in
    let less = c.requires (get_or targets c.loop-at.at 0) (in_at targets c.loop-at.at 0 (omega arith)) in
    omega (arith, long, less)

pub loop-at-preserved : goal.loop-at-preserved
loop-at-preserved c =
    let targets = c.args.targets.now in
    let at = c.loop-at.at in
    let counts = c.loop-at.needs.items in
    let long = c.loop-at.invariant.long in
    let less = c.requires (get_or targets at 0) (in_at targets at 0 (omega arith)) in
    let set = c.in_ok-count_one.ensures in
    let same = ap length set ∙ length-set counts (get_or targets at 0) (get_or counts (get_or targets at 0) 0 + 1) in
    record {
      long = omega (arith, long, same);
      counts = counted_more targets counts c.count_one.new.counts.items at c.args.tiles (omega (arith, long, less)) set
          c.loop-at.invariant.counts;
    }
