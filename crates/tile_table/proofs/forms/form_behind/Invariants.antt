use Rattle.scop_syntax.proofs.Common.{◌≡◌, ◌<◌, ℕ, get_or, length, map, pos}
use Rattle.scop_syntax.specs.declared.limits.TheConstants.{MOST_LOOPS}
use Rattle.tile_table.specs.steps.Forms.{number_form}
use Rattle.tile_table.specs.steps.Same.{IsSame}
use Rattle.tile_table.proofs.forms.form_behind.Given as goal

abbrev pub invariant-loop-at : goal.invariant-loop-at
invariant-loop-at l = record {
  count : length l.coefficients.items ≡ l.at;
  each : (i : ℕ) → i < l.at → IsSame (get_or l.coefficients.items i (pos 0))
      (get_or (number_form MOST_LOOPS l.before l.extents l.subscripts (map (λ h. h.now) l.heads) l.params).coefficients i
      (pos 0));
}
