use Rattle.scop_syntax.proofs.Common.{ap, length, sym, []}
use Rattle.contract_callers.proofs.conflicts.writers_of_kernels_without_parameters.Goals as goal

pub returns-clause-points : goal.returns-clause-points
returns-clause-points c = λ program k j u w b cell none touches writes.
    let size = sym (ap length none) in
    let found = c.earlier_writers_are_points.ensures.points program [] k j u w b cell size tt touches writes in
    (found.0, found.1)

pub returns-clause-writers : goal.returns-clause-writers
returns-clause-writers c = λ program j w b cell dep xs is none touches point write end.
    let size = sym (ap length none) in
    let writers = c.earlier_writers_are_points.ensures.writers program [] j w b cell dep xs in
    let found = writers is size touches point write end in
    (found.0, found.1, found.2)
