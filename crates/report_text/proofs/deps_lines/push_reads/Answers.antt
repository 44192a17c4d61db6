use Rattle.scop_syntax.proofs.Common.{rules, ◌≡◌, ◌∙◌, ◌-◌, ◌<◌, ℕ, ◌++◌, ap, sym, subst, arith, append-nil, get_or}
use Rattle.scop_syntax.proofs.Common.{length, program_of}
use Rattle.std.proofs.Common.{ltb-false}
use Rattle.scop_lexer.specs.Bytes.{Text}
use Rattle.dataflow.specs.ReadSources.{reads_from, reads_of_statement}
use Rattle.report_text.specs.DepsText.{lines_of}
use Rattle.report_text.proofs.DepsLemmas.{lines_past, line_more}
use Rattle.report_text.proofs.deps_lines.push_reads.Goals as goal

pub returns-in-None : goal.returns-in-None
returns-in-None c =
    let s = c.args.statement.now in
    let at = c.loop-access.access in
    let out = c.loop-access.out.items in
    let past = ltb-false (at - 1) (length c.args.sources.now) (sym c.in-None.ensures.lookup.0) in
    sym (append-nil out) ∙ (ap (λ (t : Text). out ++ t) (sym (lines_past (program_of c.args.kernel.now)
    (reads_from s.number at (length s.accesses - at)) (at - 1) c.args.sources.now past)) ∙ c.loop-access.invariant.2)

pub loop-access-preserved : goal.loop-access-preserved
loop-access-preserved c =
    let s = c.args.statement.now in
    let at = c.loop-access.access in
    let from = c.in-Some.source.now in
    let program = program_of c.args.kernel.now in
    let less : at < length s.accesses = subst (λ (n : ℕ). at < n) (ap length c.accesses-access-end.ensures.accesses)
    c.loop-access-test.true in
    let inside : at - 1 < length c.args.sources.now = search rules in
    let is : get_or c.args.sources.now (at - 1) from ≡ from = search rules in
    let whole = c.args.out.now.items ++ lines_of program (reads_of_statement s) c.args.sources.now in (
      omega arith,
      c.in_ok-push_read-in-Some.ensures.names ∙ c.loop-access.invariant.1,
      line_more program s at (length s.accesses) c.args.sources.now from c.loop-access.out.items
          c.push_read.new.out.items whole c.requires c.loop-access.invariant.0 less inside is
          c.loop-access.invariant.2 c.in_ok-push_read-in-Some.ensures.text,
    )
