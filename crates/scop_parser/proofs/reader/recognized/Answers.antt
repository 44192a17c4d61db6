use Rattle.scop_syntax.proofs.Common.{◌++◌, []}
use Rattle.scop_parser.proofs.TokenFeed.{all_seen, early_stops, fed_first, fed_on, fed_stops, fed_taken, whole_kernel}
use Rattle.scop_parser.proofs.reader.recognized.Goals as goal

pub loop-start-init : goal.loop-start-init
loop-start-init c =
    let words = c.args.words.now in
    ([], fed_first (all_seen words.text.now words.starts.now) c.new-reader.result c.new-reader.ensures)

pub returns-in-Err-clause-stop : goal.returns-in-Err-clause-stop
returns-in-Err-clause-stop c =
    let l = c.loop-start in
    fed_stops c.args.words.now.text.now c.args.words.now.starts.now l.invariant.0 l.start-index l.reader
    c.feed.new.self c.seen.result c.feed.result c.in-Err.stop l.invariant.1 c.loop-start-test.true c.seen.ensures
    c.in-Err.is c.feed.ensures

pub loop-start-preserved : goal.loop-start-preserved
loop-start-preserved c =
    let l = c.loop-start in
    let words = c.args.words.now in
    let next = c.feed.new.self in
    let on =
    fed_on words.text.now words.starts.now l.invariant.0 l.start-index l.reader next c.seen.result c.feed.result
    c.in-Ok.field-0 l.invariant.1 c.loop-start-test.true c.seen.ensures c.in-Ok.is c.feed.ensures in (
      l.invariant.0 ++ next.pieces,
      fed_taken (all_seen words.text.now words.starts.now) l.invariant.0 _ next c.take_parts-parts.new.self on
          c.take_parts-parts.ensures.rest,
    )

pub returns-clause-kernel : goal.returns-clause-kernel
returns-clause-kernel c =
    let l = c.loop-start in
    whole_kernel c.args.words.now.text.now c.args.words.now.starts.now l.invariant.0 l.start-index l.reader
    c.finish.result c.in-Ok-finish.field-0 l.invariant.1 c.loop-start-test.false c.finish.ensures c.in-Ok-finish.is

pub returns-in-Err-finish-clause-stop : goal.returns-in-Err-finish-clause-stop
returns-in-Err-finish-clause-stop c =
    let l = c.loop-start in
    early_stops c.args.words.now.text.now c.args.words.now.starts.now l.invariant.0 l.start-index l.reader
    c.finish.result c.in-Err-finish.stop l.invariant.1 c.loop-start-test.false c.finish.ensures c.in-Err-finish.is
