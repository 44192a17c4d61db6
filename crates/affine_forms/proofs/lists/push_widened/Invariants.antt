use Rattle.std.proofs.Common.{◌≡◌, ◌++◌, map, drop}
use Rattle.wide_math.specs.Affine.{widened}
use Rattle.affine_forms.proofs.lists.push_widened.Given as goal

abbrev pub invariant-loop-form : goal.invariant-loop-form
invariant-loop-form l =
    l.out.items ++ map (widened l.place) (drop l.form-index l.forms) ≡ l.fn.out.items ++ map (widened l.place) l.forms
