-- Each parameter so far has a value.
use Rattle.scop_syntax.proofs.Common.{◌≡◌, take, drop}
use Rattle.data_text.specs.Cases.{missing, params_of}
use Rattle.data_text.proofs.parameters.params_said.Given as goal

abbrev pub invariant-loop-i : goal.invariant-loop-i
invariant-loop-i l = record {
  none : missing l.i (drop l.i l.values) ≡ missing 0 l.values;
  params : l.params.items ≡ params_of (take l.i l.values);
}
