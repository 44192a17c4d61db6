-- One number more, and at the end all of them.
use Rattle.scop_syntax.proofs.Common.{rules, ◌∙◌, ◌+◌, ◌++◌, ◌^◌, ◌<ℤ◌, ap, arith, drop, get_or}
use Rattle.scop_syntax.proofs.Common.{All-more, FitsSigned, all_taken, codes, drop_of_length-le, ints, pos}
use Rattle.scop_syntax.proofs.Common.{signed_decimal, to_z-of_z, w128}
use Rattle.report_text.specs.ScheduleText.{before, numbers_from}
use Rattle.report_text.proofs.AppendedTexts.{next_appended, last_appended}
use Rattle.report_text.proofs.ScheduleLemmas.{numbers_next}
use Rattle.report_text.proofs.pieces.push_numbers.Goals as goal

pub loop-at-preserved : goal.loop-at-preserved
loop-at-preserved c =
    let zs = c.args.numbers.now in
    let at = c.loop-at.at in
    let out = c.loop-at.out.items in
    let fits : FitsSigned w128 (get_or zs at (pos 0)) = search rules in
    record {
      text = next_appended out c.push_entry.new.out.items
          (before at (codes " ") ++ signed_decimal (get_or zs at (pos 0)))
          (numbers_from (at + 1) (drop (at + 1) zs)) _ (simp to_z-of_z at c.in-Ok.ensures)
          (ap (λ t. out ++ t) (numbers_next zs at (pos 0) c.loop-at-test.true) ∙ c.loop-at.invariant.text);
      narrow = All-more (λ z. z <ℤ pos (2 ^ 127)) zs at (pos 0) c.loop-at-test.true c.loop-at.invariant.narrow
          (omega (arith, ints, fits));
    }

pub returns : goal.returns
returns c =
    let zs = c.args.numbers.now in
    let at = c.loop-at.at in
    record {
      text = last_appended c.loop-at.out.items (numbers_from at (drop at zs)) _
          (ap (numbers_from at) (drop_of_length-le zs c.loop-at-test.false)) c.loop-at.invariant.text;
      narrow = all_taken (λ z. z <ℤ pos (2 ^ 127)) zs at c.loop-at-test.false c.loop-at.invariant.narrow;
    }
