use Rattle.scop_syntax.proofs.Common.{◌≡◌, ◌++◌, drop, map, values, size_of}
use Rattle.iteration_domains.specs.Outside.{outside_dimensions}
use Rattle.iteration_domains.proofs.outside.push_subscripts.Given as goal

abbrev pub invariant-loop-at : goal.invariant-loop-at
invariant-loop-at l =
    l.out.items
    ++ outside_dimensions l.domain l.forms (drop l.at l.subscripts)
    (drop l.at (map size_of (values l.extents l.params)))
    ≡ l.fn.out.items ++ outside_dimensions l.domain l.forms l.subscripts (map size_of (values l.extents l.params))
