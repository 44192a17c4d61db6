use Rattle.std.proofs.Common.{◌≡◌, ◌++◌, take, drop, pos, map}
use Rattle.wide_math.specs.Floor.{floor}
use Rattle.affine_forms.proofs.row.divide_row.Given as goal

abbrev pub invariant-loop-at : goal.invariant-loop-at
invariant-loop-at l =
    take l.at l.row ++ map (λ x. floor x (pos l.divisor)) (drop l.at l.row)
    ≡ map (λ x. floor x (pos l.divisor)) l.fn.row
