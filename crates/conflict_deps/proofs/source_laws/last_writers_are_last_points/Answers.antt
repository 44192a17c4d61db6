use Rattle.scop_syntax.proofs.Common.{walk_of}
use Rattle.conflict_deps.proofs.Sources.{last_writes, no_later, none_before}
use Rattle.conflict_deps.proofs.source_laws.last_writers_are_last_points.Goals as goal

pub returns-clause-last : goal.returns-clause-last
returns-clause-last c = λ program params i j w b cell count up touches is.
    let last = c.last_writers_are_greatest_places.ensures.last (walk_of program params) j cell i is in
    let u = last_writes program params i j cell last in
    let p = c.earlier_writers_are_points.ensures.points program params i j u.0 w b cell count up touches u.1 in
    (p.0, u.0, u.1, p.1, p.2, p.3)

pub returns-clause-latest : goal.returns-clause-latest
returns-clause-latest c = λ program params i j w b cell dep xs is_kernel count touches is point write target.
    let last = c.last_writers_are_greatest_places.ensures.last (walk_of program params) j cell i is in
    let p = c.earlier_writers_are_points.ensures.writers program params j w b cell dep xs is_kernel count touches point
    write target in
    (p.0, p.1, p.2, p.4, no_later program params i j p.0 p.1 cell last p.2)

pub returns-clause-initial : goal.returns-clause-initial
returns-clause-initial c = λ program params j w b cell dep xs is_kernel count touches is point write target.
    let p = c.earlier_writers_are_points.ensures.writers program params j w b cell dep xs is_kernel count touches point
    write target in
    none_before program params j p.0 p.1 cell
    (c.last_writers_are_greatest_places.ensures.initial (walk_of program params) j cell is) p.2
