use Rattle.scop_syntax.proofs.Common.{◌∙◌, ap, ◌++◌, ◌∷◌, [], Affine}
use Rattle.conflict_deps.proofs.Shapes.{turns_step}
use Rattle.conflict_deps.proofs.forms.push_equal_turns.Goals as goal

pub loop-at-preserved : goal.loop-at-preserved
loop-at-preserved c =
    turns_step c.args.variables c.args.loops c.loop-at.at c.loop-at.out.items c.push.new.list.items
    c.args.out.now.items c.loop-at.invariant
    (c.in_ok-push.ensures.pushed ∙ ap (λ (f : Affine). c.loop-at.out.items ++ f ∷ []) c.in_ok-equality.ensures)
