-- Where no subscript lies outside, there is no first that does.
use Rattle.scop_syntax.proofs.Common.{◌≡◌, List, None, ap, subst, sym, ℕ, option_map, layout, first_outside, program_of}
use Rattle.scop_syntax.proofs.Common.{walk_of}
use Rattle.scop_meaning.specs.Outside.{outside_of}
use Rattle.polypar.proofs.index_check.outside_in.Goals as goal

pub returns-in-Ok-true : goal.returns-in-Ok-true
returns-in-Ok-true c =
    let program = program_of c.args.kernel.now in
    let params = c.args.params.now in
    let none = c.failures_are_the_first.ensures.none (layout program params) (walk_of program params)
    (c.in-Ok-true.ensures c.in-Ok-true.field-0-test) in
    subst (λ (es : List (List ℕ)). None ≡ option_map outside_of (first_outside es (walk_of program params)))
    (sym c.requires.extents) (sym (ap (option_map outside_of) none))
