use Rattle.std.proofs.Common.{subst, sym, arith}
use Rattle.scop_lexer.specs.Tokens.{IsGap}
use Rattle.scop_lexer.proofs.Splits.{gap-more, gap-order}
use Rattle.scop_lexer.proofs.lexer.next_token.Goals as goal

pub returns-in-End-clause-next : goal.returns-in-End-clause-next
returns-in-End-clause-next c =
    subst (IsGap c.args.text.now c.args.from) (omega
    (arith, c.loop-count.invariant.within, c.in-End.ensures.within)) c.loop-count.invariant.gap

pub loop-count-preserved : goal.loop-count-preserved
loop-count-preserved c = record {
  within = omega (arith, c.loop-count.invariant.within, c.in-Gap.ensures.within.1);
  gap = gap-more c.args.text.now c.args.from c.loop-count.at c.in-Gap.count c.loop-count.invariant.gap
      (sym c.in-Gap.ensures.value);
}

pub returns-in-Lexeme-clause-span : goal.returns-in-Lexeme-clause-span
returns-in-Lexeme-clause-span c = (
  gap-order c.args.text.now c.args.from c.loop-count.at c.loop-count.invariant.gap.0 c.loop-count.invariant.gap.1,
  omega (arith, c.in-Lexeme.ensures.within.0),
  omega (arith, c.loop-count.invariant.within, c.in-Lexeme.ensures.within.1),
)
