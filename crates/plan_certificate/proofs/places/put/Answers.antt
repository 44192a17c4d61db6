use Rattle.scop_syntax.proofs.Common.{rules, ◌≡◌, ◌<◌, ◌≤◌, length, subst, arith, List, ℕ, OnOk}
use Rattle.plan_certificate.specs.steps.Places.{parallel_place}
use Rattle.plan_certificate.proofs.TightestPlaces.{put_behind, put_tighter}
use Rattle.plan_certificate.proofs.places.put.Goals as goal

pub returns-then-at-len : goal.returns-then-at-len
returns-then-at-len c =
    let rows = c.args.rows.now in
    let ps = c.args.places.now.items in
    let is : c.parallel_place-at.result ≡ parallel_place rows c.args.place ps = search rules in
    let past : length ps ≤ parallel_place rows c.args.place ps = omega (arith, is) in
    subst (λ (ks : List ℕ). OnOk c.push.result (c.push.new.list.items ≡ ks)) (put_behind rows c.args.place ps past)
    c.push.ensures.pushed

pub returns : goal.returns
returns c =
    let rows = c.args.rows.now in
    let ps = c.args.places.now.items in
    let is : c.parallel_place-at.result ≡ parallel_place rows c.args.place ps = search rules in
    let inside : c.parallel_place-at.result < length ps = omega arith in
    put_tighter rows c.args.place ps c.parallel_place-at.result c.index.result.now c.tighter.result is inside
    c.index.ensures c.tighter.ensures
