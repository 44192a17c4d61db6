use Rattle.scop_syntax.proofs.Common.{ℕ, ℤ, List, length, ◌<◌, ◌≤◌, ◌^◌, subst, sym, arith, slice_index_or}
use Rattle.scop_syntax.proofs.Common.{unsigned_abs}
use Rattle.loop_tree.proofs.Placings.{entries_small}
use Rattle.loop_tree.proofs.source.narrow.Goals as goal

pub narrow_numbers-requires : goal.narrow_numbers-requires
narrow_numbers-requires c =
    let small = c.requires in
    subst (λ (xs : List ℤ). (k : ℕ) → (d : ℤ) → k < length xs → unsigned_abs (slice_index_or xs k d) ≤ 2 ^ 50)
    (sym c.coefficients.ensures) (entries_small (2 ^ 50) c.args.form.now.coefficients (omega (arith, small)))
