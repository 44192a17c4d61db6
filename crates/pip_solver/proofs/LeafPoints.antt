-- The point of a tree that is one leaf.
use Rattle.whole_numbers.proofs.Common.{◌≡◌, ℕ, ◌+◌, ℤ, ◌+ℤ◌, List, [], ◌∷◌, map, refl, subst, ap₂, arith, Option, Some}
use Rattle.whole_numbers.proofs.Common.{None, Ok, Vec, ints, Affine, values_of, dot, dot-nil}
use Rattle.std.specs.declared.alloc.Global.{Global}
use Rattle.std.specs.Option.{ForSome, IfNone}
use Rattle.tableau_rows.specs.Problem.{Problem, IsLexmin, IsEmpty, Speaks, problem_of}
use Rattle.checked_tableau.specs.declared.problem.Problem.{Problem as Posed}
use Rattle.quast_trees.specs.Tree.{Tree}
use Rattle.quast_trees.specs.Leaf.{Leaf}
use Rattle.checked_tableau.specs.Nodes.{lexmin_run}
use Rattle.checked_tableau.specs.Leaves.{IsAnswer, IsOneLeaf}
use Rattle.checked_tableau.proofs.SingleLeaf.{lexmin-alone}
use Rattle.pip_solver.specs.Solving.{IsGiven, solved}
use Rattle.pip_solver.proofs.ProblemRuns.{IsSized}

-- without variables a form's value is its constant
pub values-constant : (fs : List Affine) → values_of fs [] ≡ map (λ f. f.constant) fs
values-constant [] = refl
values-constant (f ∷ fs) =
    let e : dot f.coefficients [] +ℤ f.constant ≡ f.constant = (let z = dot-nil f.coefficients in omega (arith, ints)) in
    ap₂ (λ (z : ℤ) (zs : List ℤ). z ∷ zs) e (values-constant fs)

-- the tree of a problem without parameters
pub found-alone : (budget left : ℕ) (problem : Posed) (tree : Tree) → IsSized problem → problem.parameters ≡ 0
    → solved budget problem ≡ Ok (tree, left) → IsOneLeaf tree
found-alone budget left problem tree sized flat run =
    let own : problem.unknowns + problem.parameters ≡ problem.unknowns = omega (arith, flat) in
    lexmin-alone budget problem.unknowns problem.rows.items problem.context.items tree left
    (subst (λ (k : ℕ). Speaks k problem.rows.items) own sized.rows)
    (subst (λ (k : ℕ). Speaks k problem.context.items) flat sized.context)
    (subst (λ (k : ℕ). lexmin_run budget k (problem_of problem.unknowns problem.rows.items) problem.context.items
    ≡ Ok (tree, left)) flat run)

-- a leaf's answer, as the point that it gives
pub given-least : (problem : Problem) (leaf : Leaf) (point : Option (Vec ℤ Global)) → IsGiven point leaf
    → IsAnswer problem [] leaf → ForSome point (λ x. IsLexmin problem [] x.items)
given-least problem leaf None given right x is = cc
given-least problem leaf (Some y) given right x is =
    let same : y ≡ x = cc in
    subst (λ (v : Vec ℤ Global). IsLexmin problem [] v.items) same
    (subst (λ (l : Leaf). IsAnswer problem [] l) given.1 right)

pub given-none : (problem : Problem) (leaf : Leaf) (point : Option (Vec ℤ Global)) → IsGiven point leaf
    → IsAnswer problem [] leaf → IfNone point (IsEmpty problem [])
given-none problem leaf None given right = subst (λ (l : Leaf). IsAnswer problem [] l) given right
given-none problem leaf (Some x) given right = tt
