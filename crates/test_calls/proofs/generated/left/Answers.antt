use Rattle.scop_syntax.proofs.Common.{subst, sym, AreInside, layout, program_of, walk_of}
use Rattle.test_calls.proofs.generated.left.Goals as goal

pub run_plain-requires-clause-inside : goal.run_plain-requires-clause-inside
run_plain-requires-clause-inside c =
    let program = program_of c.in_ok-kernel.kernel in
    subst (λ ps. AreInside (layout program ps) (walk_of program ps)) (sym c.deref.ensures.value)
    c.in_ok-kernel.ensures.inside
