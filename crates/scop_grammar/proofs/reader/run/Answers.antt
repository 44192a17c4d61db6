use Rattle.std.proofs.Common.{arith}
use Rattle.scop_expressions.specs.declared.reader.TheConstants.{MOST_BRACKETS, MOST_OPERATORS}
use Rattle.scop_grammar.proofs.MachineLoop.{runs_first, runs_on, runs_left, feeds_on, gives_fault}
use Rattle.scop_grammar.proofs.reader.run.Goals as goal

pub loop-token-init : goal.loop-token-init
loop-token-init c = rw c.new-reader.ensures (runs_first MOST_BRACKETS MOST_OPERATORS c.args.tokens.now)

pub loop-token-preserved : goal.loop-token-preserved
loop-token-preserved c =
    let l = c.loop-token in
    let next = c.feed.new.self in
    runs_on MOST_BRACKETS MOST_OPERATORS c.args.tokens.now l.token-index l.reader next _ (omega arith) l.invariant
    c.loop-token-test.true
    (feeds_on c.feed.result c.in-Ok.field-0 l.reader next _ _ c.in-Ok.is c.feed.ensures)

pub returns-in-Err : goal.returns-in-Err
returns-in-Err c =
    let l = c.loop-token in
    gives_fault MOST_BRACKETS MOST_OPERATORS c.args.tokens.now _ l.reader c.feed.new.self _ c.feed.result
    c.in-Err.stop c.in-Err.is c.feed.ensures
    (runs_left MOST_BRACKETS MOST_OPERATORS c.args.tokens.now l.token-index l.reader _ l.invariant
    c.loop-token-test.true)
