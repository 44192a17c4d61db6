use Rattle.scop_syntax.proofs.Common.{◌≡◌, ◌++◌, [], inl, inr, suc, arith}
use Rattle.loop_tree.specs.Braids.{left_of_braid}
use Rattle.loop_tree.specs.Spot.{rest_of}
use Rattle.loop_tree.specs.SpotView.{marks_in}
use Rattle.tile_core.proofs.Stretches.{behind_left}
use Rattle.tile_core.proofs.worker.leave.Goals as goal

pub returns-then-count-gt1-clause-rest : goal.returns-then-count-gt1-clause-rest
returns-then-count-gt1-clause-rest c ts params =
    let s = c.args.spot.now in
    let more = c.if-count-gt1.true in
    let all : c.args.count ≡ suc s.stretch.left = elim c.requires [
      | inl one ↦ absurd (omega (arith, one, more))
      | inr e ↦ e
    ] in
    behind_left s.stretch (left_of_braid s.braid ++ rest_of ts (marks_in s) params []) c.args.count all
