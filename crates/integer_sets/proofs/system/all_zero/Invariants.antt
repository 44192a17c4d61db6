use Rattle.std.proofs.Common.{◌≡◌, drop}
use Rattle.integer_sets.specs.Runs.{each_run, is_zero}
use Rattle.integer_sets.proofs.system.all_zero.Given as goal

abbrev pub invariant-loop-form : goal.invariant-loop-form
invariant-loop-form l =
    each_run is_zero (drop l.form-index l.forms) l.point
    ≡ each_run is_zero l.forms l.point
