use Rattle.whole_numbers.proofs.Common.{◌≡◌, ◌-◌, ◌+◌, ◌*◌, length, take, drop}
use Rattle.affine_forms.proofs.Steps.{with_front}
use Rattle.tableau_rows.specs.Moves.{buffer_run, HeadsPositive}
use Rattle.checked_tableau.proofs.pivot.pivot_rows.Given as goal

abbrev pub invariant-loop-at : goal.invariant-loop-at
invariant-loop-at l =
    (l.start + (l.count - l.at) * length l.pivot ≡ length l.cells)
    × (with_front (take l.start l.cells) (buffer_run l.row l.column l.pivot l.at (l.count - l.at)
    (drop l.start l.cells))
    ≡ buffer_run l.row l.column l.pivot 0 l.count l.fn.cells)
    × HeadsPositive (length l.pivot) (l.count - l.at) (drop l.start l.cells)
