use Rattle.scop_syntax.proofs.Common.{◌≡◌, arith, rules, pos, get_or}
use Rattle.expansions.proofs.ListedEntries.{turns_on}
use Rattle.expansions.proofs.listing.are_kept.Goals as goal

pub loop-at-init : goal.loop-at-init
loop-at-init c a less = absurd (omega (arith, less))

pub loop-at-preserved : goal.loop-at-preserved
loop-at-preserved c =
    let told : get_or c.args.turns.now c.loop-at.at (pos 0) ≡ pos (get_or c.args.kept.now c.loop-at.at 0) = search rules in
    turns_on c.args.turns.now c.args.kept.now c.loop-at.at told c.loop-at.invariant

pub returns : goal.returns
returns c e a less = c.loop-at.invariant a (omega (arith, less))
