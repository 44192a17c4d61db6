-- No subscript lies outside, so the case may be run.
use Rattle.scop_syntax.proofs.Common.{◌≡◌, ℕ, List, None, subst, option_map, layout, first_outside, program_of, walk_of}
use Rattle.scop_meaning.specs.Outside.{outside_of}
use Rattle.scop_meaning.proofs.OutsideAccesses.{none_found}
use Rattle.polypar.proofs.input.run_case.Goals as goal

pub run_inside-requires-clause-inside : goal.run_inside-requires-clause-inside
run_inside-requires-clause-inside g c =
    let program = program_of c.args.kernel.now in
    let params = c.args.case.now.params.items in
    let limits = c.requires.limits in
    let lent = subst (λ ps. None ≡ option_map outside_of (first_outside c.args.case.now.extents (walk_of program ps)))
    c.deref.ensures.value c.in-None.ensures in
    let none = subst (λ (es : List (List ℕ)). None ≡ option_map outside_of (first_outside es (walk_of program params)))
    c.requires.extents lent in
    c.failures_are_the_first.ensures.inside (layout program params) (walk_of program params)
    (c.accesses_have_the_ranks_of_arrays.ensures program params limits.kernel limits.count)
    (none_found (first_outside (layout program params) (walk_of program params)) none)

pub returns-in-None : goal.returns-in-None
returns-in-None g c = c.run_inside.ensures
