use Rattle.scop_syntax.proofs.Common.{rules, ◌≡◌, ◌∙◌, ℕ, ◌+◌, ◌*◌, ◌^◌, ◌<◌, ◌≤◌, ℤ, List, ◌∷◌, pos, ap, subst, sym, arith}
use Rattle.scop_syntax.proofs.Common.{length, get_or, drop, drop_all, drop_more, if◌then◌else◌, to_z, of_z, ◌+ℤ◌}
use Rattle.scop_syntax.proofs.Common.{FitsSigned, w64, w128, ints, to_z-of_z, unsigned_abs, abs_at_most, abs_sum}
use Rattle.scop_syntax.proofs.Common.{fits_signed_from_abs, floor, value_of}
use Rattle.loop_tree.specs.Tiling.{TileRow, wave_sum}
use Rattle.tile_edges.proofs.finding.shares.Goals as goal
use Rattle.tile_edges.proofs.finding.shares.Goals.{After-share-sum}

-- a row more
sum_more : (size : ℤ) (turns : List ℤ) (rows : List TileRow) (k : ℕ) (row : TileRow) (sum x new whole : ℤ)
    → k < length rows → row ≡ get_or rows k row
    → x ≡ (if row.carries then floor (value_of row.form turns) size else pos 0)
    → new ≡ sum +ℤ x → sum +ℤ wave_sum size (drop k rows) turns ≡ whole
    → new +ℤ wave_sum size (drop (k + 1) rows) turns ≡ whole
sum_more size turns rows k row sum x new whole inside is share gained so_far =
    let here : wave_sum size (drop k rows) turns ≡ x +ℤ wave_sum size (drop (k + 1) rows) turns =
    ap (λ (rs : List TileRow). wave_sum size rs turns)
    (drop_more rows k row inside ∙ ap (λ (r : TileRow). r ∷ drop (k + 1) rows) (sym is))
    ∙ ap (λ (y : ℤ). y +ℤ wave_sum size (drop (k + 1) rows) turns) (sym share) in
    omega (arith, ints, here, gained, so_far)

-- so many numbers of 64 bits, and one more
sum_small : (k : ℕ) (sum x : ℤ) → unsigned_abs sum ≤ k * 2 ^ 63 → FitsSigned w64 x
    → unsigned_abs (sum +ℤ x) ≤ (k + 1) * 2 ^ 63
sum_small k sum x small fits =
    let size = abs_at_most x (2 ^ 63) (omega (arith, ints, fits)) (omega (arith, ints, fits)) in
    let both = abs_sum sum x in
    omega (arith, size, both, small)

-- the sum has room
sum_fits : (c : After-share-sum) → FitsSigned w128 (to_z w128 c.loop-place.sum-bits +ℤ c.share-sum.result)
sum_fits c =
    let sum = to_z w128 c.loop-place.sum-bits in
    let small = sum_small c.loop-place.place sum c.share-sum.result c.loop-place.invariant.small
    c.share-sum.ensures.small in
    let few : length c.args.rows.now < 2 ^ 63 = search rules in
    let inside = c.loop-place-test.true in
    fits_signed_from_abs w128 (sum +ℤ c.share-sum.result) (omega (arith, small, few, inside))

held : (c : After-share-sum) → to_z w128 (of_z w128 c.share-sum.result) ≡ c.share-sum.result
held c =
    let fits = c.share-sum.ensures.small in
    to_z-of_z w128 c.share-sum.result (omega (arith, ints, fits))

pub overflow_add-sum : goal.overflow_add-sum
overflow_add-sum c =
    let at = (goal.at.overflow_add-sum c).After-share-sum in
    subst (λ (y : ℤ). FitsSigned w128 (to_z w128 c.loop-place.sum-bits +ℤ y)) (sym (held at)) (sum_fits at)

pub loop-place-preserved : goal.loop-place-preserved
loop-place-preserved c =
    let at = (goal.at.loop-place-preserved c).After-share-sum in
    let rows = c.args.rows.now in
    let k = c.loop-place.place in
    let sum = to_z w128 c.loop-place.sum-bits in
    let x = c.share-sum.result in
    let new_is : to_z w128 (of_z w128 (sum +ℤ to_z w128 (of_z w128 x))) ≡ sum +ℤ x =
    ap (λ (y : ℤ). to_z w128 (of_z w128 (sum +ℤ y))) (held at) ∙ to_z-of_z w128 (sum +ℤ x) (sum_fits at) in
    record {
      sum = sum_more (pos c.args.size) c.args.turns.now rows k c.index-rows-place.result sum x _
          (wave_sum (pos c.args.size) rows c.args.turns.now) c.loop-place-test.true c.index-rows-place.is
          c.share-sum.ensures.is new_is c.loop-place.invariant.sum;
      small = subst (λ (y : ℤ). unsigned_abs y ≤ (k + 1) * 2 ^ 63) (sym new_is)
          (sum_small k sum x c.loop-place.invariant.small c.share-sum.ensures.small);
    }

pub returns : goal.returns
returns c =
    let none = ap (λ (rs : List TileRow). wave_sum (pos c.args.size) rs c.args.turns.now)
    (drop_all c.loop-place.place c.args.rows.now c.loop-place-test.false) in
    let whole = c.loop-place.invariant.sum in
    omega (arith, ints, none, whole)
