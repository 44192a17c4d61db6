use Rattle.scop_syntax.proofs.Common.{[], List, append-nil, refl, subst, Instance}
use Rattle.loop_tree.proofs.visitor.can_skip.Goals as goal

pub returns-then-skip : goal.returns-then-skip
returns-then-skip g c = λ l s.
    subst (λ (k : List Instance). g.V.Visitor.stands c.skip.new.self k) (append-nil l)
    (c.skip.ensures.seen c.if-skip.true l [] s refl)
