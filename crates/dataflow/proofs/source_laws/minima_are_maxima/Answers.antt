use Rattle.dataflow.proofs.Common.{[], length, refl, goes_on_last}
use Rattle.dataflow.proofs.Maxima.{flip-order, flip_twice}
use Rattle.dataflow.proofs.ProblemPoints.{all_below-values}
use Rattle.dataflow.proofs.source_laws.minima_are_maxima.Goals as goal

pub returns-clause-values : goal.returns-clause-values
returns-clause-values c = λ top xs.
    all_below-values top (length xs) 0 (length xs) xs xs refl refl (goes_on_last [] xs)

pub returns-clause-order : goal.returns-clause-order
returns-clause-order c = flip-order

pub returns-clause-twice : goal.returns-clause-twice
returns-clause-twice c = flip_twice
