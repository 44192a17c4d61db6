use Rattle.std.proofs.Common.{◌≡◌, ℤ, Result, take, drop}
use Rattle.wide_math.specs.declared.Wide.{Wide}
use Rattle.affine_forms.specs.InPlace.{CombinesAs}
use Rattle.affine_forms.specs.Runs.{zip_run}
use Rattle.affine_forms.proofs.Steps.{with_front}
use Rattle.affine_forms.proofs.row.zip_in_place.Given as goal

abbrev pub invariant-loop-at : goal.invariant-loop-at
invariant-loop-at g l = (run : ℤ → ℤ → Result ℤ Wide) → CombinesAs (goal.F-post g l.step) run
    → with_front (take l.at l.row) (zip_run run (drop l.at l.row) (drop l.at l.other))
    ≡ zip_run run l.fn.row l.other
