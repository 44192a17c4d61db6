use Rattle.scop_syntax.proofs.Common.{◌∙◌, ◌++◌, List, subst, sym, ap₂, IfSome, IfSome_then, instance_of, Instance}
use Rattle.loop_tree.specs.Braids.{left_of_braid}
use Rattle.loop_tree.specs.Passed.{HasLeft}
use Rattle.loop_tree.specs.SpotView.{to_come}
use Rattle.loop_tree.specs.Stretches.{left_of}
use Rattle.loop_tree.specs.View.{trees_in}
use Rattle.loop_tree.specs.declared.braid.Braid.{Braid}
use Rattle.loop_tree.specs.declared.stretch.Stretch.{Stretch}
use Rattle.loop_tree.proofs.SameSpots.{rest_alike, spot_alike}
use Rattle.tile_list.proofs.LeftLoops.{marks_alike}
use Rattle.tile_list.proofs.cutting.Scout.leave.Goals as goal

pub is_last_of-requires : goal.is_last_of-requires
is_last_of-requires c =
    IfSome_then c.last_within.result c.last_within.ensures (λ i h. c.requires.fits (instance_of i) h)

pub set-requires : goal.set-requires
set-requires c = c.requires.room ∙ sym c.requires.spot.room

pub leave-requires-clause-spot : goal.leave-requires-clause-spot
leave-requires-clause-spot c =
    spot_alike (trees_in c.args.tree.now) c.args.params.now c.set.new.self c.args.spot.now c.set.ensures
    c.requires.spot

pub leave-requires-clause-spent : goal.leave-requires-clause-spent
leave-requires-clause-spent c =
    ap₂ (λ (s : Stretch) (b : Braid). left_of s ++ left_of_braid b) c.set.ensures.stretch c.set.ensures.braid
    ∙ c.requires.spent

pub returns-clause-left : goal.returns-clause-left
returns-clause-left c =
    let ts = trees_in c.args.tree.now in
    let params = c.args.params.now in
    subst (λ (xs : List Instance). IfSome c.leave.result (λ p. HasLeft xs p.count (instance_of p.last)
    (to_come ts params c.leave.new.self))) (rest_alike ts params c.set.new.self c.args.spot.now c.set.ensures)
    c.leave.ensures.left

pub returns-clause-room : goal.returns-clause-room
returns-clause-room c =
    c.leave.ensures.room ∙ (marks_alike c.set.new.self c.args.spot.now c.set.ensures ∙ c.requires.spot.room)
