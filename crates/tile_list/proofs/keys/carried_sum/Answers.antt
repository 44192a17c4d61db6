use Rattle.scop_syntax.proofs.Common.{rules, ◌≡◌, ◌∙◌, ℕ, ◌+◌, ◌*◌, ◌^◌, ◌<◌, ◌≤◌, ℤ, List, ◌∷◌, pos, ap, ap₂, subst, sym, arith}
use Rattle.scop_syntax.proofs.Common.{length, get_or, drop, drop_all, drop_more, if◌then◌else◌, to_z, of_z, ◌+ℤ◌}
use Rattle.scop_syntax.proofs.Common.{FitsSigned, w64, w128, ints, to_z-of_z, unsigned_abs, abs_at_most, abs_sum}
use Rattle.scop_syntax.proofs.Common.{fits_signed_from_abs}
use Rattle.loop_tree.specs.Tiling.{TileRow}
use Rattle.tile_list.specs.steps.Keys.{carried}
use Rattle.tile_list.proofs.keys.carried_sum.Goals as goal
use Rattle.tile_list.proofs.keys.carried_sum.Goals.{After-carried_by-sum}

-- a coordinate more
carried_more : (rows : List TileRow) (tile : List ℤ) (k : ℕ) (row : TileRow) (sum x new whole : ℤ) → k < length rows
    → k < length tile → row ≡ get_or rows k row → x ≡ (if row.carries then get_or tile k (pos 0) else pos 0)
    → new ≡ sum +ℤ x → sum +ℤ carried (drop k rows) (drop k tile) ≡ whole
    → new +ℤ carried (drop (k + 1) rows) (drop (k + 1) tile) ≡ whole
carried_more rows tile k row sum x new whole inside there is share gained so_far =
    let here : carried (drop k rows) (drop k tile) ≡ x +ℤ carried (drop (k + 1) rows) (drop (k + 1) tile) =
    ap₂ carried (drop_more rows k row inside ∙ ap (λ (r : TileRow). r ∷ drop (k + 1) rows) (sym is))
    (drop_more tile k (pos 0) there)
    ∙ ap (λ (y : ℤ). y +ℤ carried (drop (k + 1) rows) (drop (k + 1) tile)) (sym share) in
    omega (arith, ints, here, gained, so_far)

-- so many numbers of 64 bits, and one more
sum_small : (k : ℕ) (sum x : ℤ) → unsigned_abs sum ≤ k * 2 ^ 63 → FitsSigned w64 x
    → unsigned_abs (sum +ℤ x) ≤ (k + 1) * 2 ^ 63
sum_small k sum x small fits =
    let size = abs_at_most x (2 ^ 63) (omega (arith, ints, fits)) (omega (arith, ints, fits)) in
    let both = abs_sum sum x in
    omega (arith, size, both, small)

-- the sum has room
sum_fits : (c : After-carried_by-sum)
    → FitsSigned w128 (to_z w128 c.loop-place.sum-bits +ℤ c.carried_by-sum.result)
sum_fits c =
    let sum = to_z w128 c.loop-place.sum-bits in
    let small = sum_small c.loop-place.place sum c.carried_by-sum.result c.loop-place.invariant.small
    c.carried_by-sum.ensures.small in
    let few : length c.args.rows.now < 2 ^ 63 = search rules in
    let inside = c.loop-place-test.true in
    fits_signed_from_abs w128 (sum +ℤ c.carried_by-sum.result) (omega (arith, small, few, inside))

held : (c : After-carried_by-sum) → to_z w128 (of_z w128 c.carried_by-sum.result) ≡ c.carried_by-sum.result
held c =
    let fits = c.carried_by-sum.ensures.small in
    to_z-of_z w128 c.carried_by-sum.result (omega (arith, ints, fits))

pub overflow_add-sum : goal.overflow_add-sum
overflow_add-sum c =
    let at = (goal.at.overflow_add-sum c).After-carried_by-sum in
    subst (λ (y : ℤ). FitsSigned w128 (to_z w128 c.loop-place.sum-bits +ℤ y)) (sym (held at)) (sum_fits at)

pub loop-place-preserved : goal.loop-place-preserved
loop-place-preserved c =
    let at = (goal.at.loop-place-preserved c).After-carried_by-sum in
    let rows = c.args.rows.now in
    let tile = c.args.tile.now in
    let k = c.loop-place.place in
    let sum = to_z w128 c.loop-place.sum-bits in
    let x = c.carried_by-sum.result in
    let fits : FitsSigned w64 (get_or tile k (pos 0)) = search rules in
    let share = simp to_z-of_z at c.carried_by-sum.ensures.is in
    let new_is : to_z w128 (of_z w128 (sum +ℤ to_z w128 (of_z w128 x))) ≡ sum +ℤ x =
    ap (λ (y : ℤ). to_z w128 (of_z w128 (sum +ℤ y))) (held at) ∙ to_z-of_z w128 (sum +ℤ x) (sum_fits at) in
    let inside = c.loop-place-test.true in
    let long = c.requires in
    record {
      sum = carried_more rows tile k c.index-rows-place.result sum x _ (carried rows tile) inside
          (omega (arith, inside, long)) c.index-rows-place.is share new_is c.loop-place.invariant.sum;
      small = subst (λ (y : ℤ). unsigned_abs y ≤ (k + 1) * 2 ^ 63) (sym new_is)
          (sum_small k sum x c.loop-place.invariant.small c.carried_by-sum.ensures.small);
    }

pub returns : goal.returns
returns c =
    let k = c.loop-place.place in
    let none = ap (λ (rs : List TileRow). carried rs (drop k c.args.tile.now))
    (drop_all k c.args.rows.now c.loop-place-test.false) in
    let whole = c.loop-place.invariant.sum in
    omega (arith, ints, none, whole)
