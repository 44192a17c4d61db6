use Rattle.std.proofs.Common.{rules, ◌≡◌, ap, [], ◌++◌, length, take, drop, append-nil, length-append, length-take}
use Rattle.std.proofs.Common.{arith}
use Rattle.std.proofs.lemmas.List.{take-append-le}
use Rattle.io_ports.specs.Reads.{Gives}
use Rattle.io_ports.proofs.SourceReads.{all_given, more_given, give_then, give_then_fail}
use Rattle.io_ports.proofs.source.read_to_end.Goals as goal

pub returns-in_default-clause-failed : goal.returns-in_default-clause-failed
returns-in_default-clause-failed g c =
    λ is. give_then_fail _ _ _ c.loop-block.bytes.items c.loop-block.invariant.given c.in_default.ensures.failed

pub returns-in_default-clause-steady : goal.returns-in_default-clause-steady
returns-in_default-clause-steady g c =
    λ steady. absurd ((give_then_fail _ _ _ c.loop-block.bytes.items c.loop-block.invariant.given
    c.in_default.ensures.failed).unsteady steady)

pub returns-then-count-eq0-clause-bytes : goal.returns-then-count-eq0-clause-bytes
returns-then-count-eq0-clause-bytes g c =
    let end = c.in-Ok.ensures.end c.if-count-eq0.true (search rules) in
    let none : Gives (g.S.Source.shows c.loop-block.source) (g.S.Source.shows c.read.new.self) [] =
    rw c.if-count-eq0.true at c.in-Ok.ensures.given in
    let all = give_then _ _ _ c.loop-block.bytes.items [] c.loop-block.invariant.given none in
    all_given _ _ _ (rw (append-nil c.loop-block.bytes.items) at all.given) end

pub returns-then-count-eq0-clause-end : goal.returns-then-count-eq0-clause-end
returns-then-count-eq0-clause-end g c = c.in-Ok.ensures.end c.if-count-eq0.true (search rules)

pub loop-block-preserved : goal.loop-block-preserved
loop-block-preserved g c =
    let bytes = c.loop-block.bytes.items in
    let buffer = c.read.new.buf in
    let front = take-append-le c.in-Ok.count buffer (drop c.min-room.result c.loop-block.block) (search rules) in
    let grown : c.add_bytes.new.bytes.items ≡ bytes ++ take c.in-Ok.count buffer =
    rw (c.if-is_err.ensures.negation, front) at c.add_bytes.ensures in
    record {
      given = rw grown (give_then _ _ _ bytes _ c.loop-block.invariant.given c.in-Ok.ensures.given);
      room = omega (
        arith,
        ap length grown,
        length-append bytes (take c.in-Ok.count buffer),
        length-take c.in-Ok.count buffer,
        c.in-Ok.ensures.bound,
        length-take c.min-room.result c.loop-block.block,
      );
    }

pub returns-clause-too_long : goal.returns-clause-too_long
returns-clause-too_long g c =
    λ is. more_given _ _ c.loop-block.bytes.items c.args.limit c.loop-block.invariant.given.given (omega arith)
