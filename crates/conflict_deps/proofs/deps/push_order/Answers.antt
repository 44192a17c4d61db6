use Rattle.conflict_deps.proofs.Common.{Bool, refl, subst, sym, GainsTests, order_at}
use Rattle.conflict_deps.proofs.Shapes.{later_gained, turns_gained}
use Rattle.conflict_deps.proofs.deps.push_order.Goals as goal

pub returns-in_ok-push_later_turn : goal.returns-in_ok-push_later_turn
returns-in_ok-push_later_turn c =
    let n = c.args.variables in
    let d = c.args.loops in
    let k = c.args.equal in
    subst (λ (b : Bool). GainsTests n c.args.rows.now
    (record { equalities = c.push_equal_turns.new.out; rows = c.push_later_turn.new.out }) (order_at n d k b).rows)
    (sym c.if-later.true)
    (later_gained n d k c.args.rows.now _ c.in_ok-push_equal_turns.ensures c.in_ok-push_later_turn.ensures)

pub returns-else-later : goal.returns-else-later
returns-else-later c =
    let n = c.args.variables in
    let d = c.args.loops in
    let k = c.args.equal in
    subst (λ (b : Bool). GainsTests n c.args.rows.now
    (record { equalities = c.push_equal_turns.new.out; rows = c.args.rows.now.rows }) (order_at n d k b).rows)
    (sym c.if-later.false)
    (turns_gained n d k c.args.rows.now _ c.in_ok-push_equal_turns.ensures refl)
