use Rattle.scop_syntax.proofs.Common.{ap, length, sym, []}
use Rattle.contract_callers.proofs.conflicts.last_writers_of_kernels_without_parameters.Goals as goal

pub returns-clause-last : goal.returns-clause-last
returns-clause-last c = λ program i j w b cell none touches last.
    let size = sym (ap length none) in
    let found = c.last_writers_are_last_points.ensures.last program [] i j w b cell size tt touches last in
    (found.0, found.1, found.3)

pub returns-clause-latest : goal.returns-clause-latest
returns-clause-latest c = λ program i j w b cell dep xs is none touches last point write end.
    let latest = c.last_writers_are_last_points.ensures.latest program [] i j w b cell dep xs in
    let found = latest is (sym (ap length none)) touches last point write end in
    (found.0, found.1, found.3, found.4)

pub returns-clause-initial : goal.returns-clause-initial
returns-clause-initial c = λ program j w b cell dep xs is none touches last point write end.
    let initial = c.last_writers_are_last_points.ensures.initial program [] j w b cell dep xs in
    initial is (sym (ap length none)) touches last point write end
