use Rattle.scop_expressions.specs.Tree.{level}
use Rattle.scop_expressions.specs.Machine.{joined, after_pair, reduced}
use Rattle.scop_tokens.specs.declared.Token.TheVariants as token
use Rattle.scop_expressions.proofs.Reductions.{stepped}
use Rattle.scop_expressions.proofs.reader.Reader.after.Goals as goal

pub returns-in-Binary : goal.returns-in-Binary
returns-in-Binary c =
    let old = c.args.self.now in
    let o = c.in-Binary.op in
    rw c.in-Binary.is (stepped c.joined.result old c.joined.new.self (level o) c.args.last
    (joined old o (reduced (level o) old.held old.nodes)) c.requires.mode c.joined.ensures)

pub returns-in-Close : goal.returns-in-Close
returns-in-Close c =
    let old = c.args.self.now in
    rw c.in-Close.is (stepped c.closes.result old c.closes.new.self 0 c.args.last
    (after_pair old token.Close (reduced 0 old.held old.nodes)) c.requires.mode c.closes.ensures)

pub returns-in-CloseIndex : goal.returns-in-CloseIndex
returns-in-CloseIndex c =
    let old = c.args.self.now in
    rw c.in-CloseIndex.is (stepped c.closes_index.result old c.closes_index.new.self 0 c.args.last
    (after_pair old token.CloseIndex (reduced 0 old.held old.nodes)) c.requires.mode c.closes_index.ensures)
