-- The statements so far, and those of the items to come, are all of them; a call goes over fewer items.
use Rattle.whole_numbers.proofs.Common.{◌≡◌, ◌+◌, ◌++◌, drop, map}
use Rattle.scop_syntax.specs.View.{items_of, tree_of}
use Rattle.scop_syntax.proofs.Weights.{weight, weight_all}
use Rattle.scop_syntax.specs.StandingView.{standing_of}
use Rattle.scop_syntax.specs.steps.Gathered.{gathered_all}
use Rattle.scop_syntax.proofs.standings.+gathering.Given as goal

abbrev pub decreases-gather_items : goal.decreases-gather_items
decreases-gather_items l = weight_all (items_of l.items.now) + 1

abbrev pub decreases-gather_item : goal.decreases-gather_item
decreases-gather_item l = weight (tree_of l.item.now)

abbrev pub decreases-gather_loop : goal.decreases-gather_loop
decreases-gather_loop l = weight_all (items_of l.body.now) + 3

abbrev pub invariant-gather_items-loop-item : goal.invariant-gather_items-loop-item
invariant-gather_items-loop-item l = record {
  statements : map standing_of l.statements.items
      ++ gathered_all (map (λ h. h.now) l.fn.heads.items) (items_of (drop l.item-index l.items))
      ≡ map standing_of l.fn.statements.items
      ++ gathered_all (map (λ h. h.now) l.fn.heads.items) (items_of l.items);
  heads : l.heads.items ≡ l.fn.heads.items;
}
