use Rattle.scop_syntax.proofs.Common.{rules, ◌≡◌, ℤ, pos, [], ◌∷◌, length, arith, ◌≤ℤ◌, ints, length-map, All-nil}
use Rattle.scop_syntax.proofs.Common.{All-cons, HasParameters, program_of}
use Rattle.test_calls.proofs.loop_trees.is_triangle.Goals as goal

pub visits_are-requires : goal.visits_are-requires
visits_are-requires c =
    let program = program_of c.in_ok-kernel.kernel in
    let P : ℤ → Type 0 = λ p. (pos 0 ≤ℤ p) × (p ≤ℤ pos 65536) in
    let count : 1 ≡ length program.parameters = search (rules, length-map) in
    let has : HasParameters program (pos 4 ∷ []) = record {
      kernel = c.in_ok-kernel.ensures;
      count = count;
      parameters = All-cons P (pos 4) [] (omega (arith, ints), omega (arith, ints)) (All-nil P);
    } in
    c.in_ok-tree.ensures (pos 4 ∷ []) has
