use Rattle.scop_syntax.proofs.Common.{rules, ◌≡◌, get_or, length, refl}
use Rattle.loop_tree.specs.declared.stretch.Stretch.{Stretch}
use Rattle.tile_core.proofs.Rounds.{behind_rounds, spot_passed}
use Rattle.tile_core.proofs.worker.leave_braid.Goals as goal

pub returns-clause-spot : goal.returns-clause-spot
returns-clause-spot c =
    let spot = c.args.spot.now in
    let all : length spot.braid.strands ≡ 4 = search rules in
    let empty : Stretch = record (get_or spot.braid.strands 0 c.index-spot-0.result) { left = 0 } in
    spot_passed spot empty c.args.rounds c.requires.alone c.requires.few all c.requires.has refl

pub returns-clause-rest : goal.returns-clause-rest
returns-clause-rest c =
    let spot = c.args.spot.now in
    let all : length spot.braid.strands ≡ 4 = search rules in
    let empty : Stretch = record (get_or spot.braid.strands 0 c.index-spot-0.result) { left = 0 } in
    behind_rounds spot empty c.args.rounds c.requires.alone c.requires.few all c.requires.has refl
