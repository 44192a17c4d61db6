use Rattle.scop_syntax.proofs.Common.{◌^◌, [], length, ap, subst, sym, ◌∙◌, program_of}
use Rattle.loop_tree.specs.Conditions.{CanWalk}
use Rattle.loop_tree.specs.Marks.{FlatAll}
use Rattle.loop_tree.specs.Shape.{AreSerial, TreesAreOf, TreesAreOver, TreesAreUpTo}
use Rattle.loop_tree.specs.Tree.{Trees}
use Rattle.loop_tree.specs.Walk.{visits}
use Rattle.loop_tree.proofs.tree.Tree.of_source.Goals as goal

pub returns-clause-visits : goal.returns-clause-visits
returns-clause-visits c = λ params count.
    ap (λ (ts : Trees). visits ts params) c.in_ok-tree.ensures
    ∙ c.source_trees_visit_the_walk.ensures.visits (program_of c.args.kernel.now) params c.requires count

pub returns-clause-walk : goal.returns-clause-walk
returns-clause-walk c = λ params has.
    subst (λ (ts : Trees). CanWalk ts params []) (sym c.in_ok-tree.ensures)
    (c.source_trees_visit_the_walk.ensures.walk (program_of c.args.kernel.now) params has)

pub returns-clause-flat : goal.returns-clause-flat
returns-clause-flat c =
    subst FlatAll (sym c.in_ok-tree.ensures)
    (c.source_trees_visit_the_walk.ensures.flat (program_of c.args.kernel.now) c.requires)

pub returns-clause-serial : goal.returns-clause-serial
returns-clause-serial c =
    subst AreSerial (sym c.in_ok-tree.ensures)
    (c.source_trees_visit_the_walk.ensures.serial (program_of c.args.kernel.now))

pub returns-clause-over : goal.returns-clause-over
returns-clause-over c =
    subst (TreesAreOver (length (program_of c.args.kernel.now).parameters)) (sym c.in_ok-tree.ensures)
    (c.source_trees_visit_the_walk.ensures.over (program_of c.args.kernel.now) c.requires)

pub returns-clause-instances : goal.returns-clause-instances
returns-clause-instances c =
    subst (TreesAreOf (program_of c.args.kernel.now)) (sym c.in_ok-tree.ensures)
    (c.source_trees_visit_the_walk.ensures.instances (program_of c.args.kernel.now))

pub returns-clause-small : goal.returns-clause-small
returns-clause-small c =
    subst (TreesAreUpTo (2 ^ 45)) (sym c.in_ok-tree.ensures)
    (c.source_trees_visit_the_walk.ensures.small (program_of c.args.kernel.now) c.requires)
