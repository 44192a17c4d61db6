-- A text is long enough for the steps of its reading.
use Rattle.scop_syntax.proofs.Common.{ℕ, suc, ◌+◌, ◌≤◌, true, false, List, [], ◌∷◌, ◌++◌, length, decimal, arith, codes}
use Rattle.scop_syntax.proofs.Common.{slice_get, if◌then◌else◌, Program, standings_of}
use Rattle.std.proofs.lemmas.List.{length-append}
use Rattle.scop_lexer.specs.Bytes.{Text}
use Rattle.loop_tree.specs.Tree.{Bounds, only, besides, Test, Tree, loop, guard, instance, Trees, none, more}
use Rattle.c_printer.specs.Forms.{names_in, loop_name}
use Rattle.c_printer.specs.Statements.{between}
use Rattle.c_printer.specs.Nodes.{bound_text, bounds_text, lower_text, upper_text, test_text, tests_text, body_text}
use Rattle.c_printer.specs.Nodes.{indent, head_text, pragma_text, closing_text, node_text, nodes_text}
use Rattle.c_printer.proofs.BoundsRead.{depth}
use Rattle.c_printer.proofs.NodesRead.{steps, steps_all}

-- a text is as long as its parts
both_le : (a b : Text) (n m k : ℕ) → k ≤ n + m → n ≤ length a → m ≤ length b → k ≤ length (a ++ b)
both_le a b n m k l h g = let e = length-append a b in omega (arith, e, h, g, l)

back_le : (a b : Text) (n : ℕ) → n ≤ length b → n ≤ length (a ++ b)
back_le a b n h = let e = length-append a b in omega (arith, e, h)

front_le : (a b : Text) (n : ℕ) → n ≤ length a → n ≤ length (a ++ b)
front_le a b n h = let e = length-append a b in omega (arith, e, h)

-- a text between two others that begins with a byte
between_some : (c : ℕ) (front middle end : Text) → 1 ≤ length (between (c ∷ front) middle end)
unfolding between
between_some c front middle end = omega arith

bounds_le : (divided : Text) (c : ℕ) (chosen : Text) (names : List Text) (loops : ℕ) (bs : Bounds)
    → depth bs ≤ length (bounds_text divided (c ∷ chosen) names loops bs)
bounds_le divided c chosen names loops (only b) = omega arith
bounds_le divided c chosen names loops (besides b bs) =
    let inner = bounds_text divided (c ∷ chosen) names loops bs in
    both_le (between (c ∷ chosen) (bound_text divided names loops b) (codes ", ")) (inner ++ codes ")") 1 (depth bs)
    (suc (depth bs)) (omega arith) (between_some c chosen (bound_text divided names loops b) (codes ", "))
    (front_le inner (codes ")") (depth bs) (bounds_le divided c chosen names loops bs))

lower_le : (names : List Text) (loops : ℕ) (bs : Bounds) → depth bs ≤ length (lower_text names loops bs)
unfolding lower_text
lower_le names loops bs = bounds_le (codes "pp_ceild(") 112 (codes "p_max(") names loops bs

upper_le : (names : List Text) (loops : ℕ) (bs : Bounds) → depth bs ≤ length (upper_text names loops bs)
unfolding upper_text
upper_le names loops bs = bounds_le (codes "pp_floord(") 112 (codes "p_min(") names loops bs

more_tests_le : (names : List Text) (loops : ℕ) (tests : List Test)
    → length tests ≤ length (tests_text false names loops tests)
more_tests_le names loops [] = omega arith
more_tests_le names loops (test ∷ tests) =
    both_le (codes " && ") (test_text names loops test ++ tests_text false names loops tests) 1 (length tests)
    (suc (length tests)) (omega arith) (omega arith)
    (back_le (test_text names loops test) (tests_text false names loops tests) (length tests)
    (more_tests_le names loops tests))

tests_le : (names : List Text) (loops : ℕ) (tests : List Test)
    → length tests ≤ suc (length (tests_text true names loops tests))
tests_le names loops [] = omega arith
tests_le names loops (test ∷ tests) =
    let h = back_le (test_text names loops test) (tests_text false names loops tests) (length tests)
    (more_tests_le names loops tests) in
    omega (arith, h)

head_le : (name : Text) (names : List Text) (loops : ℕ) (lo up : Bounds)
    → suc (depth lo + depth up) ≤ length (head_text name names loops lo up)
head_le name names loops lo up =
    let lower = lower_text names loops lo in
    let upper = upper_text names loops up in
    let first = between (codes "for (int64_t ") name (codes " = ") in
    let second = between (codes "; ") name (codes " <= ") in
    let third = between (codes "; ") name (codes "++) {\n") in
    both_le first (lower ++ (second ++ (upper ++ third))) 1 (depth lo + depth up) (suc (depth lo + depth up))
    (omega arith) (between_some 102 (codes "or (int64_t ") name (codes " = "))
    (both_le lower (second ++ (upper ++ third)) (depth lo) (depth up) (depth lo + depth up) (omega arith)
    (lower_le names loops lo)
    (back_le second (upper ++ third) (depth up) (front_le upper third (depth up) (upper_le names loops up))))

closing_le : (level : ℕ) → 2 ≤ length (closing_text level)
unfolding closing_text
closing_le level = back_le (indent level) (codes "}\n") 2 (omega arith)

guard_le : (tests : Text) → suc (suc (length tests)) ≤ length (between (codes "if (") tests (codes ") {\n"))
unfolding between
guard_le tests = let e = length-append tests (codes ") {\n") in omega (arith, e)

mutual
  node_le : (program : Program) (level loops : ℕ) (t : Tree) → suc (steps t) ≤ length (node_text program level loops t)
  node_le program level loops (loop flag lo up body) =
      let mark : Text = if flag then pragma_text level else [] in
      let head = head_text (loop_name loops) (names_in program.parameters loops) loops lo up in
      let said = nodes_text program (suc level) (suc loops) body in
      let d = depth lo + depth up in
      back_le mark (head ++ (said ++ closing_text level)) (suc (suc (d + steps_all body)))
      (both_le head (said ++ closing_text level) (suc d) (suc (steps_all body)) (suc (suc (d + steps_all body)))
      (omega arith) (head_le (loop_name loops) (names_in program.parameters loops) loops lo up)
      (both_le said (closing_text level) (steps_all body) 1 (suc (steps_all body)) (omega arith)
      (nodes_le program (suc level) (suc loops) body) (let c = closing_le level in omega (arith, c))))
  node_le program level loops (guard tests body) =
      let names = names_in program.parameters loops in
      let asked = tests_text true names loops tests in
      let said = nodes_text program (suc level) loops body in
      let t = tests_le names loops tests in
      let g = guard_le asked in
      both_le (between (codes "if (") asked (codes ") {\n")) (said ++ closing_text level) (suc (length tests))
      (suc (steps_all body)) (suc (suc (length tests + steps_all body))) (omega arith) (omega (arith, t, g))
      (both_le said (closing_text level) (steps_all body) 1 (suc (steps_all body)) (omega arith)
      (nodes_le program (suc level) loops body) (let c = closing_le level in omega (arith, c)))
  node_le program level loops (instance n turns) =
      let names = names_in program.parameters loops in
      let said = body_text program names loops (slice_get (standings_of program) n) turns in
      back_le (between (codes "{ /* S") (decimal (suc n)) (codes " */ ")) (said ++ codes "; }\n") 2
      (back_le said (codes "; }\n") 2 (omega arith))

  pub nodes_le : (program : Program) (level loops : ℕ) (ts : Trees)
      → steps_all ts ≤ length (nodes_text program level loops ts)
  nodes_le program level loops none = omega arith
  nodes_le program level loops (more t ts) =
      let said = node_text program level loops t in
      let others = nodes_text program level loops ts in
      back_le (indent level) (said ++ others) (suc (steps t + steps_all ts))
      (both_le said others (suc (steps t)) (steps_all ts) (suc (steps t + steps_all ts)) (omega arith)
      (node_le program level loops t) (nodes_le program level loops ts))
