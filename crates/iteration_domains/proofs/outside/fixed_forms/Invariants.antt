use Rattle.scop_syntax.proofs.Common.{◌≡◌, ◌++◌, drop, map, form_of, zeros}
use Rattle.iteration_domains.specs.Outside.{fixed_forms}
use Rattle.iteration_domains.proofs.outside.fixed_forms.Given as goal

abbrev pub invariant-loop-param : goal.invariant-loop-param
invariant-loop-param l =
    l.forms.items ++ map (form_of (zeros l.turns)) (drop l.param-index l.params) ≡ fixed_forms l.turns l.params
