use Rattle.std.proofs.Common.{◌≡◌, ℤ, Result, take, drop}
use Rattle.wide_math.specs.declared.Wide.{Wide}
use Rattle.affine_forms.specs.InPlace.{TurnsAs}
use Rattle.affine_forms.specs.Runs.{map_run}
use Rattle.affine_forms.proofs.Steps.{with_front}
use Rattle.affine_forms.proofs.row.map_in_place.Given as goal

abbrev pub invariant-loop-at : goal.invariant-loop-at
invariant-loop-at g l = (run : ℤ → Result ℤ Wide) → TurnsAs (goal.F-post g l.step) run
    → with_front (take l.at l.row) (map_run run (drop l.at l.row)) ≡ map_run run l.fn.row
