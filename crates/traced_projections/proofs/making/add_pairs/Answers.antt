use Rattle.whole_numbers.proofs.Common.{◌+◌, ap, drop, List, Ok, Err}
use Rattle.traced_projections.specs.Tracing.{Row}
use Rattle.traced_projections.specs.Eliminating.{Source, pairs, pairs_with}
use Rattle.traced_projections.proofs.Additions.{adds_more, adds_none, adds_stop, ahead, ended}
use Rattle.traced_projections.proofs.making.add_pairs.Goals as goal

pub loop-row-preserved : goal.loop-row-preserved
loop-row-preserved c d r h =
    let t = c.args.traced.now in
    let others = c.args.others.now in
    let f : List Row → List Source = λ rs. pairs t c.args.most rs others in
    let k = c.loop-row.row-index in
    let rows = c.args.rows.now in
    let x = c.row-item.result in
    c.loop-row.invariant d r (adds_more c.args.dimension (pairs_with t c.args.most x others) (f (drop (k + 1) rows))
    (f (drop k rows)) c.loop-row.out.items c.add_pairs_with.new.out.items d r
    (ap f (ahead k rows x c.loop-row-test.true c.row-item.is)) c.in-Ok.ensures h)

pub returns-in-Err : goal.returns-in-Err
returns-in-Err c =
    let t = c.args.traced.now in
    let others = c.args.others.now in
    let f : List Row → List Source = λ rs. pairs t c.args.most rs others in
    let k = c.loop-row.row-index in
    let rows = c.args.rows.now in
    let x = c.row-item.result in
    let new = c.add_pairs_with.new.out.items in
    let stop = c.in-Err.stop in
    c.loop-row.invariant new (Err stop) (adds_stop c.args.dimension (pairs_with t c.args.most x others)
    (f (drop (k + 1) rows)) (f (drop k rows)) c.loop-row.out.items new new stop
    (ap f (ahead k rows x c.loop-row-test.true c.row-item.is)) c.in-Err.ensures)

pub returns : goal.returns
returns c =
    let f : List Row → List Source = λ rs. pairs c.args.traced.now c.args.most rs c.args.others.now in
    let k = c.loop-row.row-index in
    let out = c.loop-row.out.items in
    c.loop-row.invariant out (Ok tt) (adds_none c.args.dimension (f (drop k c.args.rows.now)) out
    (ap f (ended k c.args.rows.now c.loop-row-test.false)))
