-- What stands round a statement of a well-formed kernel.
use Rattle.whole_numbers.proofs.Common.{◌≡◌, ℕ, suc, ◌+◌, ◌-◌, ◌≤◌, ℤ, List, length, inl, inr, subst, sym, arith}
use Rattle.scop_syntax.specs.Tree.{Tree, loop, guard, statement, Trees, none, more, Program}
use Rattle.scop_syntax.specs.Members.{In}
use Rattle.scop_syntax.specs.Walk.{statements_in, walk_of}
use Rattle.scop_syntax.specs.Statements.{Placed, in_loop_of, in_guard_of, placed, placed_all, statements_of, loops_in}
use Rattle.scop_syntax.specs.Statements.{comparisons_in, Runs, visit_of}
use Rattle.scop_syntax.specs.Kernel.{IsStatement, IsTree, AreTrees, IsKernel, AreScopes, IsPlaced, ranks_of}
use Rattle.scop_syntax.proofs.Members.{in_append, in_map_from}
use Rattle.scop_syntax.proofs.Statements.{stands_all}

-- a statement within at most so many loops and comparisons
abbrev Within : List ℕ → ℕ → ℕ → ℕ → Placed → Type 0
Within rs n ls cs p =
    AreScopes n p.scopes × (loops_in p.scopes ≤ ls) × (comparisons_in p.scopes ≤ cs)
    × IsStatement rs (n + loops_in p.scopes) p.body

mutual
  placed_within : (rs : List ℕ) (n ls cs : ℕ) (t : Tree) (m : ℕ) (p : Placed) → IsTree rs n ls cs t
      → In p (placed t m) → Within rs n ls cs p
  placed_within rs n ls cs (loop head body) m p is h =
      let q = in_map_from (in_loop_of m head) p (placed_all body m) h in
      let w = all_within rs (n + 1) (ls - 1) cs body m q.0 is.3 q.1 in
      let few = is.0 in
      let l = w.1 in
      let deep : n + 1 + loops_in q.0.scopes ≡ n + suc (loops_in q.0.scopes) = omega arith in
      subst (Within rs n ls cs) (sym q.2)
      ((is.1, w.0), omega arith, w.2, subst (λ k. IsStatement rs k q.0.body) deep w.3)
  placed_within rs n ls cs (guard tests body) m p is h =
      let q = in_map_from (in_guard_of tests) p (placed_all body m) h in
      let w = all_within rs n ls (cs - length tests) body m q.0 is.4 q.1 in
      let few = is.1 in
      let c = w.2 in
      subst (Within rs n ls cs) (sym q.2) ((is.2, w.0), w.1, omega arith, w.3)
  placed_within rs n ls cs (statement s) m p is (inl e) =
      let deep : n ≡ n + 0 = omega arith in
      subst (Within rs n ls cs) (sym e) (tt, omega arith, omega arith, subst (λ k. IsStatement rs k s) deep is)
  placed_within rs n ls cs (statement s) m p is (inr h) = absurd h

  all_within : (rs : List ℕ) (n ls cs : ℕ) (ts : Trees) (m : ℕ) (p : Placed) → AreTrees rs n ls cs ts
      → In p (placed_all ts m) → Within rs n ls cs p
  all_within rs n ls cs none m p is h = absurd h
  all_within rs n ls cs (more t ts) m p is h = elim (in_append p (placed t m) (placed_all ts (m + statements_in t)) h) [
    | inl g ↦ placed_within rs n ls cs t m p is.0 g
    | inr g ↦ all_within rs n ls cs ts (m + statements_in t) p is.1 g
  ]

pub kernel_placed : (program : Program) (p : Placed) → IsKernel program → In p (statements_of program)
    → IsPlaced (ranks_of program) (length program.parameters) p
kernel_placed program p is h =
    let w = all_within (ranks_of program) (length program.parameters) 5 16 program.body 0 p is.body h in
    record { scopes = w.0; few_loops = w.1; few_comparisons = w.2; body = w.3 }

pub kernel_stands : (program : Program) (params : List ℤ) (p : Placed) (xs : List ℤ) → IsKernel program
    → length params ≡ length program.parameters
    → In p (statements_of program) → Runs p.scopes params xs → In (visit_of p params xs) (walk_of program params)
kernel_stands program params p xs is count h runs =
    stands_all (ranks_of program) 5 16 program.body 0 params p xs
    (subst (λ n. AreTrees (ranks_of program) n 5 16 program.body) (sym count) is.body) h runs
