use Rattle.whole_numbers.proofs.Common.{rules, ◌+◌, ap, [], ◌∷◌, drop, map, Ok, Err}
use Rattle.traced_projections.specs.Eliminating.{Adds, single}
use Rattle.traced_projections.proofs.Additions.{adds_more, adds_none, adds_stop, ahead, ended}
use Rattle.traced_projections.proofs.making.add_singles.Goals as goal

pub loop-row-preserved : goal.loop-row-preserved
loop-row-preserved c d r h =
    let f = single c.args.traced.now c.args.equalities.now in
    let k = c.loop-row.row-index in
    let rows = c.args.rows.now in
    let x = c.row-item.result in
    let old = c.loop-row.out.items in
    let new = c.add.new.rows.items in
    let first : Adds c.args.dimension (f x ∷ []) old new (Ok tt) = search rules in
    c.loop-row.invariant d r (adds_more c.args.dimension (f x ∷ []) (map f (drop (k + 1) rows)) (map f (drop k rows))
    old new d r (ap (map f) (ahead k rows x c.loop-row-test.true c.row-item.is)) first h)

pub returns-in-Err-add : goal.returns-in-Err-add
returns-in-Err-add c =
    let f = single c.args.traced.now c.args.equalities.now in
    let k = c.loop-row.row-index in
    let rows = c.args.rows.now in
    let x = c.row-item.result in
    let old = c.loop-row.out.items in
    let new = c.add.new.rows.items in
    let stop = c.in-Err-add.stop in
    let first : Adds c.args.dimension (f x ∷ []) old new (Err stop) = search rules in
    c.loop-row.invariant new (Err stop) (adds_stop c.args.dimension (f x ∷ []) (map f (drop (k + 1) rows))
    (map f (drop k rows)) old new new stop (ap (map f) (ahead k rows x c.loop-row-test.true c.row-item.is)) first)

pub returns : goal.returns
returns c =
    let f = single c.args.traced.now c.args.equalities.now in
    let k = c.loop-row.row-index in
    let rows = c.args.rows.now in
    let out = c.loop-row.out.items in
    c.loop-row.invariant out (Ok tt) (adds_none c.args.dimension (map f (drop k rows)) out
    (ap (map f) (ended k rows c.loop-row-test.false)))
