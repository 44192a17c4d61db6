-- The statements gathered down the tree are those of the program, in textual order.
use Rattle.whole_numbers.proofs.Common.{◌≡◌, ◌∙◌, ap, ap₂, sym, refl, ℕ, ◌+◌, List, [], ◌∷◌, ◌++◌, map, append-nil}
use Rattle.whole_numbers.proofs.Common.{map-append}
use Rattle.std.proofs.lemmas.List.{append_assoc}
use Rattle.scop_syntax.specs.Tree.{Head, Test, Tree, loop, guard, statement, Trees, none, more, Program}
use Rattle.scop_syntax.specs.Walk.{statements_in}
use Rattle.scop_syntax.specs.Statements.{Placed, placed, placed_all, in_loop_of, in_guard_of}
use Rattle.scop_syntax.specs.Standings.{Standing, standing, heads_in, standings_of}
use Rattle.scop_syntax.specs.steps.Gathered.{gathered, gathered_all}

-- a statement within loops that stands within others
abbrev behind : List Head → Placed → Standing
behind heads p = standing (heads ++ heads_in p.scopes) p.body

of_loop : (heads : List Head) (n : ℕ) (head : Head) (ps : List Placed)
    → map (behind (heads ++ (head ∷ []))) ps ≡ map (behind heads) (map (in_loop_of n head) ps)
of_loop heads n head [] = refl
of_loop heads n head (p ∷ ps) =
    ap₂ (λ (hs : List Head) (ss : List Standing). standing hs p.body ∷ ss)
    (append_assoc heads (head ∷ []) (heads_in p.scopes)) (of_loop heads n head ps)

of_guard : (heads : List Head) (tests : List Test) (ps : List Placed)
    → map (behind heads) ps ≡ map (behind heads) (map (in_guard_of tests) ps)
of_guard heads tests [] = refl
of_guard heads tests (p ∷ ps) = ap (λ (ss : List Standing). behind heads p ∷ ss) (of_guard heads tests ps)

mutual
  gathered_is : (heads : List Head) (t : Tree) (n : ℕ) → gathered heads t ≡ map (behind heads) (placed t n)
  gathered_is heads (loop head body) n =
      gathered_all_is (heads ++ (head ∷ [])) body n ∙ of_loop heads n head (placed_all body n)
  gathered_is heads (guard tests body) n = gathered_all_is heads body n ∙ of_guard heads tests (placed_all body n)
  gathered_is heads (statement s) n = ap (λ (hs : List Head). standing hs s ∷ []) (sym (append-nil heads))

  gathered_all_is : (heads : List Head) (ts : Trees) (n : ℕ)
      → gathered_all heads ts ≡ map (behind heads) (placed_all ts n)
  gathered_all_is heads none n = refl
  gathered_all_is heads (more t ts) n =
      ap₂ (λ (xs ys : List Standing). xs ++ ys) (gathered_is heads t n) (gathered_all_is heads ts (n + statements_in t))
      ∙ sym (map-append (behind heads) (placed t n) (placed_all ts (n + statements_in t)))

-- those of a whole program
pub program_gathered : (program : Program) → gathered_all [] program.body ≡ standings_of program
program_gathered program = gathered_all_is [] program.body 0
