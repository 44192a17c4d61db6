use Rattle.scop_syntax.proofs.Common.{ap, length, sym, []}
use Rattle.contract_callers.proofs.conflicts.conflicts_of_kernels_without_parameters.Goals as goal

pub returns-clause-points : goal.returns-clause-points
returns-clause-points c = λ program marked dep xs ys is none among point.
    c.conflicts_are_the_points_of_the_systems.ensures.points program [] marked dep xs ys is (sym (ap length none)) among
    point

pub returns-clause-conflicts : goal.returns-clause-conflicts
returns-clause-conflicts c = λ program marked i j conflict none free.
    let conflicts = c.conflicts_are_the_points_of_the_systems.ensures.conflicts program [] marked i j conflict in
    let found = conflicts free (sym (ap length none)) tt in
    (found.0, found.1, found.4)

pub returns-clause-one : goal.returns-clause-one
returns-clause-one c = λ program dep other xs ys first second source target.
    c.conflicts_are_the_points_of_the_systems.ensures.one program [] dep other xs ys first second
    (ap (λ e. e.statement) source) (ap (λ e. e.access) source)
    (ap (λ e. e.statement) target) (ap (λ e. e.access) target)
