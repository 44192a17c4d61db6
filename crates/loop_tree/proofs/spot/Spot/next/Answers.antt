use Rattle.scop_syntax.proofs.Common.{List, All, subst, All-tail, Instance, instance_of}
use Rattle.loop_tree.specs.Conditions.{IsHeld}
use Rattle.loop_tree.specs.Stretches.{left_of}
use Rattle.loop_tree.proofs.spot.Spot.next.Goals as goal

pub returns-then-self-gt0-clause-spot : goal.returns-then-self-gt0-clause-spot
returns-then-self-gt0-clause-spot c =
    let spot = c.requires.spot in
    let held = subst (λ (is : List Instance). All IsHeld is) c.next.ensures spot.held in
    record {
      room = spot.room;
      stands = spot.stands;
      held = All-tail IsHeld (instance_of c.next.result) (left_of c.next.new.self) held;
      braid = spot.braid;
    }
