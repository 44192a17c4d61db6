use Rattle.std.proofs.Common.{subst, sym, ap, ◌∙◌, length}
use Rattle.scop_lexer.specs.Tokens.{AreTokens, tokens_at}
use Rattle.scop_lexer.proofs.Splits.{tokens-gap, tokens-more, tokens-between, starts-more}
use Rattle.scop_lexer.proofs.lexer.starts.Goals as goal

pub returns-in-Ok-None-clause-tokens : goal.returns-in-Ok-None-clause-tokens
returns-in-Ok-None-clause-tokens c =
    let text = c.args.text.now in
    let gap = rw c.in-Ok-None.field-0-is at c.in-Ok-None.ensures.next in
    tokens-gap text 0 c.loop-starts.at (length text) (tokens_at text c.loop-starts.starts.items)
    c.loop-starts.invariant.tokens gap

pub returns-in-Ok-None-clause-order : goal.returns-in-Ok-None-clause-order
returns-in-Ok-None-clause-order c =
    let text = c.args.text.now in
    let gap = rw c.in-Ok-None.field-0-is at c.in-Ok-None.ensures.next in
    let ts = tokens_at text c.loop-starts.starts.items in
    tokens-between text 0 (length text) ts
    (tokens-gap text 0 c.loop-starts.at (length text) ts c.loop-starts.invariant.tokens gap)

pub loop-starts-preserved : goal.loop-starts-preserved
loop-starts-preserved c =
    let text = c.args.text.now in
    let token = c.in-Ok-Some.token in
    let old = c.loop-starts.starts.items in
    let next = rw c.in-Ok-Some.field-0-is at c.in-Ok-Some.ensures.next in
    let span = rw c.in-Ok-Some.field-0-is at c.in-Ok-Some.ensures.span in
    let more = ap (tokens_at text) c.in-Ok.ensures ∙ starts-more text old token next.1 in
    record {
      within = span.2;
      tokens = subst (λ ts. AreTokens text 0 ts token.end) (sym more)
          (tokens-more text 0 c.loop-starts.at (tokens_at text old) token c.loop-starts.invariant.tokens next);
    }

pub returns-in-Err-clause-refused : goal.returns-in-Err-clause-refused
returns-in-Err-clause-refused c =
    let text = c.args.text.now in
    let ts = tokens_at text c.loop-starts.starts.items in
    let next = c.in-Err.ensures.fault in
    (ts, next.0, tokens-gap text 0 c.loop-starts.at next.0 ts c.loop-starts.invariant.tokens next.1, next.2)
