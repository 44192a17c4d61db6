use Rattle.scop_syntax.proofs.Common.{◌<◌, length, arith}
use Rattle.plan_certificate.proofs.MarkedLines.{line_kept, one_longer}
use Rattle.plan_certificate.proofs.needed.needed_lines.Goals as goal

pub loop-at-preserved : goal.loop-at-preserved
loop-at-preserved c =
    let marks = c.in_ok-marks.marks.items in
    let low : c.loop-at.at < length marks = omega (arith, c.in_ok-marks.ensures.each, c.loop-at-test.true) in
    record {
      each = one_longer c.loop-at.numbers.items c.keep.new.numbers.items _ c.loop-at.at c.loop-at.invariant.each
          c.in-Ok.ensures.numbers;
      rest = line_kept c.args.rows c.loop-at.at c.loop-at.numbers.items c.keep.new.numbers.items
          c.loop-at.kept.items c.keep.new.kept.items c.index.result.now marks c.index-lines-at.result
          c.args.lines.now _ c.loop-at.invariant.each low c.loop-at-test.true c.index.ensures c.index-lines-at.is
          c.loop-at.invariant.rest c.in-Ok.ensures.lines c.in-Ok.ensures.numbers;
    }
