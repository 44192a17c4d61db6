-- As many loops of the source's tree stand in one another as of the kernel.
use Rattle.scop_syntax.proofs.Common.{◌≡◌, ℕ, zero, suc, ◌+◌, ◌-◌, List, [], length, subst, arith, IsKernel, IsTree}
use Rattle.scop_syntax.proofs.Common.{AreTrees, ranks_of, Tree, loop, guard, statement, Trees, none, more, Program}
use Rattle.scop_syntax.proofs.Common.{statements_in}
use Rattle.iteration_domains.specs.Path.{Path, path_at}
use Rattle.loop_tree.specs.Shape.{NestsTo, NestAllTo}
use Rattle.loop_tree.specs.Source.{in_loop, in_guard, source, sources, source_of}

mutual
  nests : (path : Path) (t : Tree) (k : ℕ) (ranks : List ℕ) (n loops comparisons : ℕ)
      → IsTree ranks n loops comparisons t → NestsTo loops (source path t k)
  nests path (loop head body) k ranks n zero comparisons h = absurd (omega (arith, h.0))
  nests path (loop head body) k ranks n (suc m) comparisons h =
      let e : suc m - 1 ≡ m = omega arith in
      subst (λ l. NestAllTo l (sources (in_loop path head k) body k)) e
      (nests_all (in_loop path head k) body k ranks (n + 1) (suc m - 1) comparisons h.3)
  nests path (guard tests body) k ranks n loops comparisons h =
      nests_all (in_guard path tests) body k ranks n loops (comparisons - length tests) h.4
  nests path (statement s) k ranks n loops comparisons h = tt

  nests_all : (path : Path) (ts : Trees) (k : ℕ) (ranks : List ℕ) (n loops comparisons : ℕ)
      → AreTrees ranks n loops comparisons ts → NestAllTo loops (sources path ts k)
  nests_all path none k ranks n loops comparisons h = tt
  nests_all path (more t ts) k ranks n loops comparisons h = (
    nests path t k ranks n loops comparisons h.0,
    nests_all path ts (k + statements_in t) ranks n loops comparisons h.1,
  )

-- five at most
pub source_nests : (program : Program) → IsKernel program → NestAllTo 5 (source_of program)
source_nests program is =
    nests_all (path_at (length program.parameters) [] []) program.body 0 (ranks_of program) (length program.parameters)
    5 16 is.body
