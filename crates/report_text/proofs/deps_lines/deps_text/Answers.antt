use Rattle.scop_syntax.proofs.Common.{◌∙◌, ◌-◌, ap, sym, drop, length, List, ℕ, drop_of_length-le, program_of}
use Rattle.iteration_domains.specs.Model.{Modelled}
use Rattle.report_text.specs.DepsText.{deps_text, lines_of}
use Rattle.dataflow.specs.ReadSources.{reads_in}
use Rattle.report_text.proofs.AppendedTexts.{last_appended}
use Rattle.report_text.proofs.DepsLemmas.{statement_more}
use Rattle.report_text.proofs.deps_lines.deps_text.Goals as goal

pub loop-statement-preserved : goal.loop-statement-preserved
loop-statement-preserved c =
    let program = program_of c.args.kernel.now in
    let sources = c.loop-statement.rest.now in
    statement_more program c.statements-statement-items.result.now c.loop-statement.statement-index
    c.statement-item.result
    sources c.behind-rest.result.now c.loop-statement.text.items c.push_reads.new.out.items
    (deps_text program c.args.sources.now) c.loop-statement-test.true (sym c.statement-item.is)
    c.loop-statement.invariant c.in_ok-push_reads.ensures
    (c.behind-rest.ensures ∙ ap (λ (n : ℕ). drop (n - 1) sources) (ap length c.accesses.ensures.accesses))

pub returns : goal.returns
returns c =
    let program = program_of c.args.kernel.now in
    let lines = λ (ss : List Modelled). lines_of program (reads_in ss) c.loop-statement.rest.now in
    let items = c.statements-statement-items.result.now in
    let at = c.loop-statement.statement-index in
    last_appended c.loop-statement.text.items (lines (drop at items)) _
    (ap lines (drop_of_length-le items c.loop-statement-test.false)) c.loop-statement.invariant
