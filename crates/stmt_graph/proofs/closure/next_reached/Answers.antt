use Rattle.scop_syntax.proofs.Common.{◌≡◌, ◌<◌, ℕ, length, true, get_or, arith, sym, ◌∙◌, false≢true, in_at}
use Rattle.stmt_graph.specs.steps.Closure.{at}
use Rattle.stmt_graph.proofs.Reachability.{in_all, all_from}
use Rattle.stmt_graph.proofs.closure.next_reached.Goals as goal
use Rattle.stmt_graph.proofs.closure.next_reached.Goals.{else-reached-source-via-then-reached-source+else-not-reached-target}
use Rattle.stmt_graph.proofs.closure.next_reached.Goals.{else-reached-source-via-else-reached-source}

pub returns-then-not-reached-target : goal.returns-then-not-reached-target
returns-then-not-reached-target c =
    let es = c.args.edges.now in
    let e = get_or es c.loop-at.at (0, 0) in
    let i = in_at es c.loop-at.at (0, 0) (omega arith) in
    let w = in_all (λ (x : ℕ × ℕ). (x.0 < length c.args.reached.now) × (x.1 < length c.args.reached.now)) e es
    c.requires i in
    (e.0, i, c.if-reached-source.true, w.1, c.if-not-reached-target.true)

pub loop-at-preserved : goal.loop-at-preserved
loop-at-preserved c all =
    let es = c.args.edges.now in
    c.loop-at.invariant
    (all_from (λ (e : ℕ × ℕ). at c.args.reached.now e.0 ≡ true → at c.args.reached.now e.1 ≡ true) es c.loop-at.at
    (0, 0) (omega arith)
    (λ t. elim c.else-reached-source.branch [
      | else-reached-source-via-then-reached-source+else-not-reached-target w ↦ w.if-not-reached-target.false
      | else-reached-source-via-else-reached-source w ↦ absurd
          (false≢true (sym w.if-reached-source.false ∙ t))
    ]) all)
