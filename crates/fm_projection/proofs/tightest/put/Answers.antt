use Rattle.whole_numbers.proofs.Common.{rules, set, sym, ◌≡◌, ◌<◌, ◌≤◌, length, subst, arith, List, OnOk, ints, Affine}
use Rattle.fm_projection.specs.Tightest.{with_row}
use Rattle.fm_projection.specs.steps.Places.{parallel_place}
use Rattle.fm_projection.proofs.TightestRows.{put_behind, put_tighter, put_looser}
use Rattle.fm_projection.proofs.tightest.put.Goals as goal

pub returns-then-place-len : goal.returns-then-place-len
returns-then-place-len c =
    let fs = c.args.rows.now.items in
    let g = c.args.form.now in
    let is : c.parallel_place-place.result ≡ parallel_place g fs = search rules in
    let past : length fs ≤ parallel_place g fs = omega (arith, is) in
    subst (λ (hs : List Affine). OnOk c.push_copy.result (c.push_copy.new.forms.items ≡ hs)) (put_behind fs g past)
    (search rules)

pub returns-in-Ok : goal.returns-in-Ok
returns-in-Ok c =
    let fs = c.args.rows.now.items in
    let g = c.args.form.now in
    let f = c.index.result.now in
    let place = c.parallel_place-place.result in
    let is : place ≡ parallel_place g fs = search rules in
    let inside : place < length fs = omega arith in
    let copy : c.in-Ok.copy ≡ g = search rules in
    subst (λ (h : Affine). set fs place h ≡ with_row fs g) (sym copy)
    (put_tighter fs g f place is inside c.index.ensures (omega (arith, ints)))

pub returns-else-constant : goal.returns-else-constant
returns-else-constant c =
    let fs = c.args.rows.now.items in
    let g = c.args.form.now in
    let place = c.parallel_place-place.result in
    let is : place ≡ parallel_place g fs = search rules in
    let inside : place < length fs = omega arith in
    put_looser fs g c.index.result.now place is inside c.index.ensures (omega (arith, ints))
