-- The arrays so far and those to come are all arrays.
use Rattle.scop_syntax.proofs.Common.{◌≡◌, ◌++◌, drop, map, form_of}
use Rattle.kernel_gen.specs.Programs.{arrays_of}
use Rattle.kernel_gen.proofs.parts.arrays.Given as goal

abbrev pub invariant-loop-at : goal.invariant-loop-at
invariant-loop-at l =
    l.arrays.items
    ++ arrays_of (map (λ n. n.now) (drop l.at l.names)) l.parameters_before
    (map (λ f. form_of f.0.now f.1) l.extents)
    ≡ arrays_of (map (λ n. n.now) l.names) l.parameters_before (map (λ f. form_of f.0.now f.1) l.extents)
