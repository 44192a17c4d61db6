-- The source's own tree is one of the kept order.
use Rattle.scop_syntax.proofs.Common.{◌≡◌, ◌^◌, ℕ, ℤ, List, [], length, map, subst, sym, arith, IsKernel, HasParameters}
use Rattle.scop_syntax.proofs.Common.{Program, instance, walk_of}
use Rattle.loop_tree.specs.Conditions.{CanWalk}
use Rattle.loop_tree.specs.Marks.{FlatAll}
use Rattle.loop_tree.specs.Plans.{Conflict}
use Rattle.loop_tree.specs.Shape.{AreSerial, NestAllTo, TreesAreOf, TreesAreOver, TreesAreUpTo}
use Rattle.loop_tree.specs.Source.{source_of}
use Rattle.loop_tree.specs.Tiling.{IsGoodPlan, kept}
use Rattle.loop_tree.specs.Tree.{Trees}
use Rattle.loop_tree.specs.Walk.{visits}
use Rattle.planned_trees.specs.Trees.{AreTreesOf}
use Rattle.plan_tree.proofs.ConflictFreedom.{serial_is_free}
use Rattle.plan_tree.proofs.Nests.{source_nests}

-- what is known of the trees of a program's source
pub record IsSource (program : Program) (ts : Trees) : Type 0 where
  pub tree : ts ≡ source_of program
  pub visits_are : (params : List ℤ) → length params ≡ length program.parameters
      → visits ts params ≡ map instance (walk_of program params)
  pub walked : (params : List ℤ) → HasParameters program params → CanWalk ts params []
  pub flat : FlatAll ts
  pub serial : AreSerial ts
  pub over : TreesAreOver (length program.parameters) ts
  pub instances : TreesAreOf program ts
  pub small : TreesAreUpTo (2 ^ 45) ts

pub kept_trees : (program : Program) (marked : List ℕ) (ts : Trees) → IsKernel program
    → ((params : List ℤ) → IsGoodPlan program params kept) → IsSource program ts → AreTreesOf program marked kept ts
kept_trees program marked ts is good s =
    record {
      flat = s.flat;
      statements = s.instances;
      over = s.over;
      small = s.small;
      nested = (5, omega arith, subst (NestAllTo 5) (sym s.tree) (source_nests program is));
      even = tt;
      fits = λ params has. (s.walked params has).fits;
      carry_out = λ params has. record {
        good = λ i j c free. good params i j c;
        exact = s.visits_are params has.count;
        free = λ none. serial_is_free (Conflict program params) ts params [] s.serial;
        marked = s.serial;
      };
    }
