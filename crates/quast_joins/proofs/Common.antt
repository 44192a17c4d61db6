-- The names that most proofs here cite, passed on from one place. Declares nothing.
pub use Rattle.quast_joins.specs.Counts.{capped, join_count, join_node, tested, under_node}
pub use Rattle.quast_joins.specs.Joins.{chain, join, join_from, last_leaf, less_by_one, meet, moved, test_of, under}
pub use Rattle.quast_joins.specs.Limits.{leaf_limit, most_told}
pub use Rattle.quast_joins.specs.Shifts.{shifted, shifted_form, shifted_leaf, widened}
pub use Rattle.quast_joins.specs.Sizes.{AreFormsWithin, AreWithin, IsFormWithin, LeavesWithin}
pub use Rattle.quast_joins.specs.Steps.{AllFit, Depths, Enough, FitsAt, Placed_node, at, depths, depths_of, from_last}
pub use Rattle.quast_joins.specs.Steps.{join_step, moved_step, paired, pairs, steps, under_step}
pub use Rattle.quast_joins.specs.Ways.{loops_of, statement_of, text}
pub use Rattle.quast_trees.specs.Postfix.{branched, standing, tree_of, written}
pub use Rattle.quast_trees.specs.Source.{Forms}
pub use Rattle.quast_trees.specs.Tree.{Speaks, Tree, bind, branch, count, initial, leaf}
pub use Rattle.quast_trees.specs.Value.{value}
pub use Rattle.whole_numbers.proofs.Common.{Affine, Bool, List, [], ap, ap₂, arith, complement, drop, false, fits}
pub use Rattle.whole_numbers.proofs.Common.{floor, fold, form_of, get_or, if◌then◌else◌, ints, length, length-append}
pub use Rattle.whole_numbers.proofs.Common.{length-map, length-zeros, map, min, multiple_of_form, multiples, nat_eq}
pub use Rattle.whole_numbers.proofs.Common.{neg_ℤ, negsuc, on_ok_weaker, pos, refl, reverse, rules, subst, suc, sum_by}
pub use Rattle.whole_numbers.proofs.Common.{sum_of_forms, sums, sym, take, true, value_of, zero, zeros, ℕ, ℤ, ◌*ℤ◌}
pub use Rattle.whole_numbers.proofs.Common.{◌++◌, ◌+ℤ◌, ◌+◌, ◌-ℤ◌, ◌-◌, ◌<ℤ◌, ◌<◌, ◌^◌, ◌∙◌, ◌∷◌, ◌≡◌, ◌≤ℤ◌, ◌≤◌}
