use Rattle.std.proofs.Common.{◌∙◌, sym, ap, arith}
use Rattle.scop_lexer.proofs.GapLemmas.{shifted, close-here, close-next, close-short}
use Rattle.scop_lexer.proofs.gaps.close.Goals as goal

pub returns-then-turns-clause-value : goal.returns-then-turns-clause-value
returns-then-turns-clause-value c =
    sym (close-here c.args.text.now c.loop-at.at c.loop-at-test.true (sym c.turns.ensures ∙ c.if-turns.true))
    ∙ c.loop-at.invariant.found

pub loop-at-preserved : goal.loop-at-preserved
loop-at-preserved c = record {
  within = omega (arith, c.loop-at-test.true);
  found = sym (close-next c.args.text.now c.loop-at.at c.loop-at-test.true
      (sym c.turns.ensures ∙ c.if-turns.false)) ∙ c.loop-at.invariant.found;
}

pub returns-clause-value : goal.returns-clause-value
returns-clause-value c =
    ap (shifted c.loop-at.at) (sym (close-short c.args.text.now c.loop-at.at c.loop-at-test.false))
    ∙ c.loop-at.invariant.found
