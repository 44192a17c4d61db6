use Rattle.whole_numbers.proofs.Common.{◌∙◌, ◌+◌, ap, [], ◌∷◌, drop, Ok, Err}
use Rattle.traced_projections.specs.Eliminating.{pair, pairs_with}
use Rattle.traced_projections.proofs.Additions.{adds_more, adds_none, adds_stop, ahead, ended, few_first}
use Rattle.traced_projections.proofs.making.add_pairs_with.Goals as goal

pub loop-other-preserved : goal.loop-other-preserved
loop-other-preserved c d r h =
    let t = c.args.traced.now in
    let f = pairs_with t c.args.most c.args.row.now in
    let k = c.loop-other.other-index in
    let others = c.args.others.now in
    let x = c.other-item.result in
    let rest = f (drop (k + 1) others) in
    c.loop-other.invariant d r (adds_more c.args.dimension (f (x ∷ [])) rest (f (drop k others))
    c.loop-other.out.items c.add_pair.new.out.items d r
    (ap f (ahead k others x c.loop-other-test.true c.other-item.is)
    ∙ few_first c.args.most (pair t c.args.row.now x) rest)
    c.in-Ok.ensures h)

pub returns-in-Err : goal.returns-in-Err
returns-in-Err c =
    let t = c.args.traced.now in
    let f = pairs_with t c.args.most c.args.row.now in
    let k = c.loop-other.other-index in
    let others = c.args.others.now in
    let x = c.other-item.result in
    let rest = f (drop (k + 1) others) in
    let new = c.add_pair.new.out.items in
    let stop = c.in-Err.stop in
    c.loop-other.invariant new (Err stop) (adds_stop c.args.dimension (f (x ∷ [])) rest (f (drop k others))
    c.loop-other.out.items new new stop
    (ap f (ahead k others x c.loop-other-test.true c.other-item.is)
    ∙ few_first c.args.most (pair t c.args.row.now x) rest)
    c.in-Err.ensures)

pub returns : goal.returns
returns c =
    let f = pairs_with c.args.traced.now c.args.most c.args.row.now in
    let k = c.loop-other.other-index in
    let others = c.args.others.now in
    let out = c.loop-other.out.items in
    c.loop-other.invariant out (Ok tt) (adds_none c.args.dimension (f (drop k others)) out
    (ap f (ended k others c.loop-other-test.false)))
