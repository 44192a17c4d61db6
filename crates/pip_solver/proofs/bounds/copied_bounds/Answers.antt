use Rattle.whole_numbers.proofs.Common.{◌∙◌, arith, take_all}
use Rattle.pip_solver.proofs.CopiedLists.{copied_more}
use Rattle.pip_solver.proofs.bounds.copied_bounds.Goals as goal

pub loop-bound-preserved : goal.loop-bound-preserved
loop-bound-preserved c =
    copied_more c.args.bounds.now c.loop-bound.bound-index c.bound-item.result c.loop-bound.all.items
    c.push_copy.new.bounds.items (omega arith) c.bound-item.is c.loop-bound.invariant c.in-Ok-push_copy.ensures

pub returns : goal.returns
returns c = c.loop-bound.invariant ∙ take_all c.loop-bound.bound-index c.args.bounds.now (omega arith)
