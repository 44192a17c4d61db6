use Rattle.whole_numbers.proofs.Common.{rules, pos}
use Rattle.wide_math.specs.Checked.{difference_of}
use Rattle.pip_solver.proofs.forms.oppose.Goals as goal

pub returns : goal.returns
returns c = c.map_in_place.ensures (difference_of (pos 0)) (λ x r fits gave. search rules)
