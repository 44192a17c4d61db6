use Rattle.scop_syntax.proofs.Common.{rules, ◌+◌, ◌≤◌, ◌++◌, List, length, take, drop, sym, ap, ◌∙◌, take_all}
use Rattle.scop_syntax.proofs.Common.{err_from_is_err_and}
use Rattle.scop_grammar.specs.declared.part.Part.{Part}
use Rattle.scop_grammar.specs.Kernel.{kernel_elements, pieces}
use Rattle.scop_grammar.specs.Turns.{piece_of, pieces_of}
use Rattle.scop_pass.specs.Machine.{run}
use Rattle.scop_pass.specs.Passing.{state_of}
use Rattle.scop_units.specs.View.{words_in}
use Rattle.scop_pass.proofs.KernelParts.{part_whole, part_run, run_on, split_at, stop_tells}
use Rattle.scop_pass.proofs.pass.Pass.take.Goals as goal

pub step-requires : goal.step-requires
step-requires c =
    part_whole (words_in c.args.words.now) (state_of c.args.self.now) c.args.parts.now c.loop-part.part-index
    c.part-item.result c.requires c.loop-part-test.true c.part-item.is

pub returns-in_err-step : goal.returns-in_err-step
returns-in_err-step c k front rest fits is so =
    let words = words_in c.args.words.now in
    let parts = c.args.parts.now in
    let i = c.loop-part.part-index in
    let x = c.part-item.result in
    let before = pieces_of (take i parts) in
    let told = err_from_is_err_and c.from_residual.result c.from_residual.ensures.1 in
    rw (told.1, told.2)
    (stop_tells c.passes_may_stop_at_a_fault.ensures c.passes_may_stop_at_an_array.ensures words k (front ++ before)
    (pieces_of (drop (i + 1) parts) ++ rest) (piece_of x) (state_of c.loop-part.self) _ fits
    (split_at (pieces 0 (kernel_elements k)) front rest parts i x is c.loop-part-test.true c.part-item.is)
    (run_on words front before (state_of c.args.self.now) (state_of c.loop-part.self) so c.loop-part.invariant)
    c.in_err-step.ensures)

pub loop-part-preserved : goal.loop-part-preserved
loop-part-preserved c =
    part_run (words_in c.args.words.now) (state_of c.args.self.now) c.args.parts.now c.loop-part.part-index
    c.part-item.result (state_of c.loop-part.self) (state_of c.step.new.self) c.loop-part-test.true c.part-item.is
    c.loop-part.invariant c.in_ok-step.ensures

pub returns : goal.returns
returns c k front rest fits is so =
    let words = words_in c.args.words.now in
    let parts = c.args.parts.now in
    let past : length parts ≤ c.loop-part.part-index = search rules in
    let all =
    ap (λ (ps : List Part). run words (state_of c.args.self.now) (pieces_of ps))
    (sym (take_all c.loop-part.part-index parts past))
    ∙ c.loop-part.invariant in
    run_on words front (pieces_of parts) (state_of c.args.self.now) (state_of c.loop-part.self) so all
