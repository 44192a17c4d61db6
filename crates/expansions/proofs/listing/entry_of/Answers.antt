use Rattle.scop_syntax.proofs.Common.{◌≡◌, ◌∙◌, arith, refl, rules, pos, get_or, length-set}
use Rattle.expansions.proofs.ListedEntries.{turns_more}
use Rattle.expansions.proofs.listing.entry_of.Goals as goal

pub loop-at-init : goal.loop-at-init
loop-at-init c = record { are = λ a less. absurd (omega (arith, less)); long = refl }

pub loop-at-preserved : goal.loop-at-preserved
loop-at-preserved c =
    let long = c.loop-at.invariant.long in
    let told : pos c.in-Some.turn ≡ get_or c.args.turns.now c.loop-at.at (pos 0) = search rules in
    record {
      are = turns_more c.args.turns.now c.loop-at.kept c.loop-at.at c.in-Some.turn (omega (arith, long))
          told
          c.loop-at.invariant.are;
      long = length-set c.loop-at.kept c.loop-at.at c.in-Some.turn ∙ long;
    }

pub returns-clause-turns : goal.returns-clause-turns
returns-clause-turns c a less = c.loop-at.invariant.are a (omega (arith, less))
