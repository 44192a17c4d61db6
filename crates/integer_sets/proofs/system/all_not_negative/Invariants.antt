use Rattle.std.proofs.Common.{◌≡◌, drop}
use Rattle.integer_sets.specs.Runs.{each_run, is_not_negative}
use Rattle.integer_sets.proofs.system.all_not_negative.Given as goal

abbrev pub invariant-loop-form : goal.invariant-loop-form
invariant-loop-form l =
    each_run is_not_negative (drop l.form-index l.forms) l.point
    ≡ each_run is_not_negative l.forms l.point
