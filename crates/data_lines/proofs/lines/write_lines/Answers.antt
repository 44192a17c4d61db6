-- A line is written, or stops the lines with its refusal.
use Rattle.scop_syntax.proofs.Common.{◌≡◌, ◌∙◌, [], ◌∷◌, sym, ap, drop, length, arith, program_of}
use Rattle.std.proofs.Common.{length-drop}
use Rattle.data_lines.specs.Words.{is_line_feed, lines_of}
use Rattle.data_lines.specs.Sheets.{sheet_of}
use Rattle.data_lines.proofs.PartLemmas.{parts_behind, some_line, only_line, next_line, nothing_left}
use Rattle.data_lines.proofs.LineLemmas.{line_written, last_written, lines_stopped}
use Rattle.data_lines.proofs.lines.write_lines.Goals as goal

pub returns-in-Err-clause-refused : goal.returns-in-Err-clause-refused
returns-in-Err-clause-refused c =
    let at = c.loop-stop in
    let n = c.line_len.result in
    let split = some_line at.rest.now n c.line_len.ensures.value
    ∙ ap (λ line. line ∷ parts_behind is_line_feed (drop n at.rest.now)) (sym c.split_at.ensures.front) in
    lines_stopped (program_of c.args.kernel.now) at.number (sheet_of at.sheet)
    (lines_of at.rest.now) c.split_at.result.0.now _ _ c.in-Err.stop split c.in-Err.ensures.refused
    at.invariant.rest

pub returns-in-None-clause-ok : goal.returns-in-None-clause-ok
returns-in-None-clause-ok c =
    let at = c.loop-stop in
    let n = c.line_len.result in
    let none = nothing_left (drop n at.rest.now) (sym (ap length c.split_at.ensures.back) ∙ c.in-None.ensures.cases) in
    let split = only_line at.rest.now n c.line_len.ensures.value none
    ∙ ap (λ line. line ∷ []) (sym c.split_at.ensures.front) in
    last_written (program_of c.args.kernel.now) at.number (sheet_of at.sheet) (sheet_of c.write_line.new.sheet)
    (lines_of at.rest.now) c.split_at.result.0.now _ split c.in-Ok.ensures.ok at.invariant.rest

pub loop-stop-preserved : goal.loop-stop-preserved
loop-stop-preserved c =
    let at = c.loop-stop in
    let n = c.line_len.result in
    let next = c.in-Some.next.now in
    let more : drop n at.rest.now ≡ c.in-Some.field-0-0.now ∷ next = sym c.split_at.ensures.back
    ∙ c.in-Some.ensures.cases.0 in
    let split = next_line at.rest.now n c.in-Some.field-0-0.now next c.line_len.ensures.value more
    ∙ ap (λ line. line ∷ lines_of next) (sym c.split_at.ensures.front) in
    record {
      rest = line_written (program_of c.args.kernel.now) at.number (sheet_of at.sheet)
          (sheet_of c.write_line.new.sheet) (lines_of at.rest.now) c.split_at.result.0.now
          (lines_of next) _ split c.in-Ok.ensures.ok at.invariant.rest;
      shape = c.in-Ok.ensures.shape;
      few = omega (arith, at.invariant.few, ap length more, length-drop n at.rest.now);
    }
