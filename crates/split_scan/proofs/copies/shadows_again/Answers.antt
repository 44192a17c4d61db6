use Rattle.split_scan.proofs.OutlineCopies.{copies_next}
use Rattle.split_scan.proofs.copies.shadows_again.Goals as goal

pub loop-shadow-preserved : goal.loop-shadow-preserved
loop-shadow-preserved c =
    let made = c.in_ok-push_shadow.ensures in
    copies_next c.args.shadows.now c.loop-shadow.shadow-index c.shadow-item.result made.0 c.loop-shadow.out.items
    c.push_shadow.new.out.items c.shadow-item.is c.loop-shadow-test.true made.1 made.2 c.loop-shadow.invariant
