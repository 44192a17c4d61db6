-- The names that most proofs here cite, passed on from one place. Declares nothing.
pub use Rattle.tree_simplification.specs.Simplified.{shown}
pub use Rattle.tree_simplification.specs.steps.Context.{ArePartsOver, Context, IsSizedContext, Meets, NaturalAbove}
pub use Rattle.tree_simplification.specs.steps.Context.{NeverHolds, OnSide, TrimsSide, entered, form_row, outside}
pub use Rattle.tree_simplification.specs.steps.Context.{part_row, parts, sign_of, tested, tests_rows}
pub use Rattle.tree_simplification.specs.steps.ContextView.{context_of}
pub use Rattle.tree_simplification.specs.steps.Inlined.{AreNear, AreTestsFor, AreTestsOf, CanInline, Extends, Inlines}
pub use Rattle.tree_simplification.specs.steps.Inlined.{IsInlined, IsOnce, IsOnceIn, IsPlace, StayWithin, bound_over}
pub use Rattle.tree_simplification.specs.steps.Inlined.{bounds_over, inside, side_form, side_tests, test_over}
pub use Rattle.tree_simplification.specs.steps.Joined.{joined}
pub use Rattle.tree_simplification.specs.steps.Strided.{AreEnds, AreTestsAt, CanBound, CanGoAt, InlinesAt, block}
pub use Rattle.tree_simplification.specs.steps.Strided.{blocks, lies, masked, turn_form}
pub use Rattle.tree_simplification.specs.steps.Trimmed.{Among, CanTrim, Trims, TrimsAll, TrimsBounds, TrimsTests, under}
pub use Rattle.affine_forms.specs.Parts.{variables_of}
pub use Rattle.scop_syntax.specs.Limits.{AreInRange}
pub use Rattle.integer_sets.specs.Constraints.{Constraints, system_of}
pub use Rattle.iteration_domains.proofs.Surroundings.{length-composed}
pub use Rattle.iteration_domains.specs.Rows.{variable, variables}
pub use Rattle.loop_tree.proofs.Fits.{dot_zeros}
pub use Rattle.loop_tree.proofs.Lists.{between_none}
pub use Rattle.loop_tree.proofs.Weights.{node_here, node_weight, weight, weight_all}
pub use Rattle.loop_tree.specs.Fits.{AreSmallTrees, BoundsFit, FitsAll, FormFits, TestsFit, form_in}
pub use Rattle.loop_tree.specs.Marks.{AreBounds, AreTests, FlatAll, IsTest}
pub use Rattle.loop_tree.specs.Plans.{AreFree, Conflict}
pub use Rattle.loop_tree.specs.Scans.{Within}
pub use Rattle.loop_tree.specs.Shape.{AreSerial, BoundsAreOver, BoundsAreUpTo, IsOver, IsOverUpTo, IsUpTo, NestAllTo}
pub use Rattle.loop_tree.specs.Shape.{TestIsUpTo, TreesAreOf, TreesAreOver, TreesAreUpTo}
pub use Rattle.loop_tree.specs.Tree.{Bound, Bounds, Tree, Trees, at_least, besides, bounds_of, equal, guard, instance}
pub use Rattle.loop_tree.specs.Tree.{loop, more, multiple, none, only}
pub use Rattle.loop_tree.specs.View.{bounds_in, nodes_of, test_of, tree_of, trees_in}
pub use Rattle.loop_tree.specs.Walk.{Visit, all_hold, along, holds, lower, through, upper, walk, walk_all}
pub use Rattle.pip_solver.specs.Emptiness.{IsBoundedPoint}
pub use Rattle.scop_syntax.proofs.Common.{Affine, All, All-append, All-cons, All-head, All-nil, All-push, All-tail}
pub use Rattle.scop_syntax.proofs.Common.{AreAtMost, Bool, IfOk, IfOk-weaker, IfSome_then, In, Instance, List}
pub use Rattle.scop_syntax.proofs.Common.{NotNegative, Program, [], abs_at_most, ap, ap₂, arith, both, ceiling}
pub use Rattle.scop_syntax.proofs.Common.{composed, dot, dot-multiples, drop, drop_of_length-le, false, floor, floor_is}
pub use Rattle.scop_syntax.proofs.Common.{get_or, get_or-append_seam, holds_le_z, if◌then◌else◌, inl, inr, ints}
pub use Rattle.scop_syntax.proofs.Common.{le_or_lt, le_z, le_z_holds, length, length-append, length-map}
pub use Rattle.scop_syntax.proofs.Common.{length-multiples, length-widened, map, map-append, member_at, most_turns}
pub use Rattle.scop_syntax.proofs.Common.{mul_comm_int, mul_distrib_left, mul_one_left, mul_one_right, mul_positive}
pub use Rattle.scop_syntax.proofs.Common.{mul_sub_left, multiples, neg_ℤ, negsuc, not, on_ok_weaker, pos, refl, rules}
pub use Rattle.scop_syntax.proofs.Common.{subst, suc, sym, take, true, unsigned_abs, value_of, values_of, widened, zero}
pub use Rattle.scop_syntax.proofs.Common.{ℕ, ℤ, ⊤, ◌*ℤ◌, ◌*◌, ◌++◌, ◌+ℤ◌, ◌+◌, ◌-ℤ◌, ◌-◌, ◌<ℤ◌, ◌<◌, ◌^◌, ◌↔◌, ◌∙◌, ◌∷◌}
pub use Rattle.scop_syntax.proofs.Common.{◌≡◌, ◌≤ℤ◌, ◌≤◌, ◌⊎◌}
pub use Rattle.std.proofs.lemmas.List.{append-nil, append_assoc}
