use Rattle.scop_syntax.proofs.Common.{◌≡◌, ◌++◌, map, drop}
use Rattle.tile_skew.specs.ScanSets.{domain_form}
use Rattle.tile_skew.proofs.sets.push_domain.Given as goal

abbrev pub invariant-loop-form : goal.invariant-loop-form
invariant-loop-form l =
    l.out.items ++ map (domain_form l.layout) (drop l.form-index l.forms)
    ≡ l.fn.out.items ++ map (domain_form l.layout) l.forms
