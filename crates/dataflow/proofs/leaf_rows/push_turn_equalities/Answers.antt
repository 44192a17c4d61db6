use Rattle.dataflow.proofs.Common.{◌≡◌, ◌+◌, ◌++◌, length, subst, sym, arith, All-get_or, Affine, turn_equalities}
use Rattle.dataflow.proofs.Common.{HoldsOpposite}
use Rattle.dataflow.proofs.LeafLoops.{equality_end, equality_more, free_at}
use Rattle.dataflow.proofs.LeafShapes.{can_place}
use Rattle.dataflow.proofs.leaf_rows.push_turn_equalities.Goals as goal

pub push_turn_equality-requires-clause-form : goal.push_turn_equality-requires-clause-form
push_turn_equality-requires-clause-form c =
    let l = c.args.layout in
    let f = c.index-forms-step.result in
    let P : Affine → Type 0 = λ g. length g.coefficients ≡ l.parameters + l.turns + l.binds in
    can_place l l.binds f c.requires.small
    (subst P (sym c.index-forms-step.is)
    (All-get_or P c.args.forms.now c.loop-step.step f c.loop-step-test.true c.requires.forms)) (omega arith)

pub push_turn_equality-requires-clause-free : goal.push_turn_equality-requires-clause-free
push_turn_equality-requires-clause-free c =
    free_at c.args.layout c.args.from (length c.args.forms.now) c.loop-step.step c.loop-step-test.true
    c.requires.free

pub push_turn_equality-requires-clause-held : goal.push_turn_equality-requires-clause-held
push_turn_equality-requires-clause-held c =
    let f = c.index-forms-step.result in
    subst HoldsOpposite (sym c.index-forms-step.is)
    (All-get_or HoldsOpposite c.args.forms.now c.loop-step.step f c.loop-step-test.true c.requires.held)

pub loop-step-preserved : goal.loop-step-preserved
loop-step-preserved c =
    let l = c.args.layout in
    equality_more l c.args.from c.args.forms.now c.loop-step.step c.index-forms-step.result c.loop-step.out.items
    c.push_turn_equality.new.out.items
    (c.args.out.now.items ++ turn_equalities l c.args.from c.args.forms.now) c.index-forms-step.is
    c.loop-step-test.true c.loop-step.invariant c.in_ok-push_turn_equality.ensures

pub returns : goal.returns
returns c =
    equality_end c.args.layout c.args.from c.args.forms.now c.loop-step.step c.loop-step.out.items _
    c.loop-step-test.false c.loop-step.invariant
