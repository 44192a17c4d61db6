use Rattle.std.proofs.Common.{◌∙◌, sym, arith}
use Rattle.scop_lexer.proofs.GapLemmas.{closed-at}
use Rattle.scop_lexer.proofs.gaps.are_closed.Goals as goal

pub loop-at-preserved-then-turns : goal.loop-at-preserved-then-turns
loop-at-preserved-then-turns c =
    let step = closed-at c.loop-at.inside c.args.line.now c.loop-at.at c.loop-at-test.true in
    let test = sym c.if-turns.true ∙ c.turns.ensures in
    grind (arith, step, test, c.loop-at.invariant, c.byte_at.ensures)

pub loop-at-preserved : goal.loop-at-preserved
loop-at-preserved c =
    let step = closed-at c.loop-at.inside c.args.line.now c.loop-at.at c.loop-at-test.true in
    let test = sym c.if-turns.false ∙ c.turns.ensures in
    grind (arith, step, test, c.loop-at.invariant, c.byte_at.ensures)
