use Rattle.scop_syntax.proofs.Common.{[], subst, sym, zero, All-nil, IfOk-weaker}
use Rattle.loop_tree.specs.Fits.{AreSmallTrees}
use Rattle.loop_tree.specs.Marks.{MarksAll}
use Rattle.loop_tree.specs.Shape.{NestAllTo, TreesAreOver}
use Rattle.loop_tree.specs.View.{trees_in}
use Rattle.plain_scan.specs.Scanning.{flags, mark_of}
use Rattle.planner_callers.proofs.scans.scanned_tree.Goals as goal

pub returns-clause-exact : goal.returns-clause-exact
returns-clause-exact c = IfOk-weaker c.scan.result _ _ (λ t is. is.exact [] (All-nil _)) c.scan.ensures.scan

pub returns-clause-iterators : goal.returns-clause-iterators
returns-clause-iterators c = IfOk-weaker c.scan.result _ _ (λ t is. is.iterators [] (All-nil _)) c.scan.ensures.scan

pub returns-clause-fits : goal.returns-clause-fits
returns-clause-fits c = IfOk-weaker c.scan.result _ _
    (λ t is none. is.fits [] (All-nil _) (sym none)) c.scan.ensures.scan

pub returns-clause-small : goal.returns-clause-small
returns-clause-small c = IfOk-weaker c.scan.result _ _ (λ t is. is.small) c.scan.ensures.scan

pub returns-clause-numbers : goal.returns-clause-numbers
returns-clause-numbers c = IfOk-weaker c.scan.result _ _
    (λ t is none. subst (λ n. AreSmallTrees n (trees_in t)) none is.numbers) c.scan.ensures.scan

pub returns-clause-over : goal.returns-clause-over
returns-clause-over c = IfOk-weaker c.scan.result _ _
    (λ t is none. subst (λ n. TreesAreOver n (trees_in t)) none is.over) c.scan.ensures.scan

pub returns-clause-nested : goal.returns-clause-nested
returns-clause-nested c = IfOk-weaker c.scan.result _ _
    (λ t is none. subst (λ n. NestAllTo n (trees_in t)) none is.nested) c.scan.ensures.scan

pub returns-clause-instances : goal.returns-clause-instances
returns-clause-instances c = IfOk-weaker c.scan.result _ _ (λ t is. is.instances) c.scan.ensures.scan

pub returns-clause-flat : goal.returns-clause-flat
returns-clause-flat c = IfOk-weaker c.scan.result _ _ (λ t is. is.flat) c.scan.ensures.scan

pub returns-clause-marks : goal.returns-clause-marks
returns-clause-marks c = IfOk-weaker c.scan.result _ _
    (λ t is none. subst (λ n. MarksAll (flags (mark_of c.args.sets.now) zero n) (trees_in t)) none is.marks)
    c.scan.ensures.scan

pub returns-clause-empty : goal.returns-clause-empty
returns-clause-empty c = IfOk-weaker c.scan.result _ _ (λ t is. is.empty) c.scan.ensures.scan

pub returns-clause-stops : goal.returns-clause-stops
returns-clause-stops c = c.scan.ensures.stops
