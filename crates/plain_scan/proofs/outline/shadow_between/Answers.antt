use Rattle.scop_syntax.proofs.Common.{rules, ℤ, ◌≤ℤ◌, [], ◌∷◌, FitsSigned, w128, to_z-of_z}
use Rattle.integer_sets.specs.Points.{Satisfies}
use Rattle.plain_scan.proofs.AppendedRows.{low_high, small_both}
use Rattle.plain_scan.proofs.outline.shadow_between.Goals as goal

pub returns-in-Ok-clause-found : goal.returns-in-Ok-clause-found
returns-in-Ok-clause-found c =
    let n = c.numbers_alone-numbers.result in
    let are = c.numbers_alone-numbers.ensures in
    let low = c.in-Some.low in
    let high = c.in-Some-high.high in
    let fits : FitsSigned w128 low = search rules in
    let fits2 : FitsSigned w128 high = search rules in
    let small = small_both n low high c.in-Some.is c.in-Some-high.is are.small in
    let between : (x : ℤ) → Satisfies c.args.alone.now (x ∷ []) → (low ≤ℤ x) × (x ≤ℤ high) =
    λ x h. low_high n low high x c.in-Some.is c.in-Some-high.is (are.between x h) in
    record {
      rows = c.in-Ok.ensures;
      between = simp to_z-of_z between;
      small = simp to_z-of_z small;
    }
