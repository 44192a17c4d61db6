use Rattle.scop_syntax.proofs.Common.{◌≡◌, ◌∙◌, [], ap, rules}
use Rattle.expansions.specs.steps.Listing.{entries_in}
use Rattle.expansions.proofs.ListedEntries.{entries_more}
use Rattle.expansions.proofs.listing.reach.Goals as goal

pub loop-alloc-preserved : goal.loop-alloc-preserved
loop-alloc-preserved c s =
    let none : c.new-entries.result.items ≡ [] = search rules in
    ap (λ lists. entries_in lists s) c.in_ok-push.ensures.items
    ∙ (entries_more c.loop-alloc.lists.items _ s none ∙ c.loop-alloc.invariant s)
