-- The answer of the index check.
use Rattle.std.specs.Prelude.{◌+◌}
use Rattle.scop_syntax.specs.Failures.{Failure}
use Rattle.scop_meaning.specs.declared.index.Outside.{Outside}

-- a failure with the statement and the dimension counted from 1, and the access from 0
abbrev pub outside_of : Failure → Outside
outside_of f =
    record { stmt = f.visit.number + 1; access = f.access; dim = f.dimension + 1; value = f.value; extent = f.extent }
