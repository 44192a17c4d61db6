use Rattle.std.proofs.Common.{◌≡◌, drop}
use Rattle.wide_math.specs.Content.{content_from}
use Rattle.affine_forms.proofs.row.content.Given as goal

abbrev pub invariant-loop-at : goal.invariant-loop-at
invariant-loop-at l = content_from l.content (drop l.at l.row) ≡ content_from l.start l.row
