use Rattle.whole_numbers.proofs.Common.{rules, ◌≡◌, ◌<◌, ◌≤◌, length, min, get_or, arith, add-one}
use Rattle.quast_joins.proofs.Counts.{tested_past, tested_more}
use Rattle.quast_joins.proofs.count.common_loops.Goals as goal

pub loop-at-preserved : goal.loop-at-preserved
loop-at-preserved c =
    let ks = c.loops_round-loops.result.now in
    let ls = c.loops_round-others.result.now in
    let fs = c.args.first.now.forms in
    let gs = c.args.second.now.forms in
    let at = c.loop-at.at in
    let inside : at < min (min (length ks) (length ls)) (min (length fs) (length gs)) = search rules in
    let same : get_or ks at 0 ≡ get_or ls at 0 = search rules in
    let m = tested_more ks ls fs gs at 0 0 inside same in
    let n = add-one at in
    let so_far = c.loop-at.invariant in
    rw n (omega arith)

pub returns : goal.returns
returns c =
    let ks = c.loops_round-loops.result.now in
    let ls = c.loops_round-others.result.now in
    let fs = c.args.first.now.forms in
    let gs = c.args.second.now.forms in
    let at = c.loop-at.at in
    let past : min (min (length ks) (length ls)) (min (length fs) (length gs)) ≤ at = search rules in
    let none = tested_past ks ls fs gs at past in
    let here : c.min.result ≡ at = search rules in
    let so_far = c.loop-at.invariant in
    search rules
