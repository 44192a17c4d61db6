use Rattle.scop_units.specs.View.{head_of, scope_of}
use Rattle.scop_units.proofs.Parts.{loop_clean}
use Rattle.scop_units.proofs.loops.loop_of.Goals as goal

pub form-requires : goal.form-requires
form-requires c =
    let clean = loop_clean (scope_of c.args.scope.now) (head_of c.args.head.now) c.requires.faultless in
    rw c.entries-entries.ensures clean.0

pub condition_form-requires-clause-faultless : goal.condition_form-requires-clause-faultless
condition_form-requires-clause-faultless c =
    let clean = loop_clean (scope_of c.args.scope.now) (head_of c.args.head.now) c.requires.faultless in
    rw c.entries-entries.ensures clean.1

pub condition_form-requires-clause-compares : goal.condition_form-requires-clause-compares
condition_form-requires-clause-compares c =
    let clean = loop_clean (scope_of c.args.scope.now) (head_of c.args.head.now) c.requires.faultless in
    rw c.entries-entries.ensures clean.2
