use Rattle.scop_syntax.proofs.Common.{◌≡◌, ◌∙◌, ◌+◌, ap, arith, sym}
use Rattle.tile_core.specs.Views.{done_at}
use Rattle.tile_core.specs.declared.worker.Stage.TheVariants.{Working}
use Rattle.tile_core.specs.Passes.{walk_in}
use Rattle.tile_runner.proofs.worker.do_tile.Goals as goal

pub returns-then-count-eq0-clause-stage : goal.returns-then-count-eq0-clause-stage
returns-then-count-eq0-clause-stage c =
    let is = c.loop-tile.invariant in
    let did = c.do_ahead-count.ensures in
    let k = done_at c.loop-tile.pass.worker.stage in
    let n = c.do_ahead-count.result in
    let zero = c.if-count-eq0.true in
    let none = did.none zero c.args.tile k is.stage in
    let within = is.within in
    let all : k + n ≡ (walk_in c.args.words.now).size c.args.tile = omega (arith, none, within, zero) in
    did.stage c.args.tile k is.stage ∙ ap (Working c.args.tile) all

pub loop-tile-preserved : goal.loop-tile-preserved
loop-tile-preserved c =
    let is = c.loop-tile.invariant in
    let did = c.do_ahead-count.ensures in
    let k = done_at c.loop-tile.pass.worker.stage in
    let some = c.if-count-eq0.false in
    let works = did.stage c.args.tile k is.stage in
    let within = did.within c.args.tile k is.stage (omega (arith, some)) in
    let done = ap done_at works in
    record {
      pass = did.pass;
      stage = works ∙ ap (Working c.args.tile) (sym done);
      within = omega (arith, within, done);
      reads = did.reads;
    }
