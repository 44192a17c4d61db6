-- One name more, and at the end those of all loops.
use Rattle.scop_syntax.proofs.Common.{◌∙◌, ◌≡◌, ◌++◌, ap, arith}
use Rattle.quast_text.specs.Text.{texts_of}
use Rattle.report_text.specs.DepsText.{turn_names}
use Rattle.report_text.proofs.DepsLemmas.{turns_next}
use Rattle.report_text.proofs.deps_names.push_turns.Goals as goal

pub loop-at-preserved : goal.loop-at-preserved
loop-at-preserved c =
    turns_next (texts_of c.args.names.now.items) (texts_of c.push_name.new.names.items)
    (texts_of c.loop-at.names.items) c.loop-at.at c.in_ok-name.name.items c.in_ok-push_name.ensures
    c.loop-at.invariant c.in_ok-name.ensures

pub returns : goal.returns
returns c =
    let end : c.loop-at.at ≡ c.args.loops = omega (arith, c.loop-at-test.false, c.loop-at.auto.at-end) in
    c.loop-at.invariant ∙ ap (λ n. texts_of c.args.names.now.items ++ turn_names n) end
