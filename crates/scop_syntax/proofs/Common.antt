-- The names that most proofs here and above cite, passed on from one place. Declares nothing.
pub use Rattle.scop_syntax.proofs.FallingLoop.{falling}
pub use Rattle.scop_syntax.proofs.Falls.{condition_falls, dot_last}
pub use Rattle.scop_syntax.proofs.Heads.{as_many_heads}
pub use Rattle.scop_syntax.proofs.Loops.{loop_turns}
pub use Rattle.scop_syntax.proofs.Members.{all_in, both, holds_le_z, in_append, in_at, in_back, in_from_place, in_front}
pub use Rattle.scop_syntax.proofs.Members.{in_if, in_if_from, in_map, in_map_from, le_z_holds, member_at, nat_cases}
pub use Rattle.scop_syntax.proofs.Members.{place_of, sorted_append, sorted_map, sorted_places, there_is}
pub use Rattle.scop_syntax.proofs.Memory.{offset_below}
pub use Rattle.scop_syntax.proofs.NarrowValues.{applied_kept}
pub use Rattle.scop_syntax.proofs.Sizes.{at_most_at, at_most_more, parameter_size, params_not_negative, range_high}
pub use Rattle.scop_syntax.proofs.Sizes.{range_low, size, size_params, value_size}
pub use Rattle.scop_syntax.proofs.SortedLists.{StandOnce, walked_distinct}
pub use Rattle.scop_syntax.proofs.Statements.{length-placed, one_instance}
pub use Rattle.scop_syntax.proofs.Views.{expression_binary}
pub use Rattle.scop_syntax.proofs.Weights.{item_here, item_weight, weight, weight_all}
pub use Rattle.scop_syntax.proofs.WrappedSums.{wrapped_is}
pub use Rattle.scop_syntax.proofs.Writers.{cell_same, last_is, next_is, none_writes, same_cells, shape_before}
pub use Rattle.scop_syntax.proofs.Writers.{writer_of, written_inside}
pub use Rattle.scop_syntax.specs.Acts.{Act, act_of, acts_all}
pub use Rattle.scop_syntax.specs.Cells.{Cell, Conflict, PlacesConflict, accesses, cell_at, cell_of, conflict_cell}
pub use Rattle.scop_syntax.specs.Cells.{reads, reads_of, reads_with, values, written}
pub use Rattle.scop_syntax.specs.ConflictOrders.{AreDistinct}
pub use Rattle.scop_syntax.specs.Covers.{Cover}
pub use Rattle.scop_syntax.specs.Examples.{falling_by_two}
pub use Rattle.scop_syntax.specs.Execution.{AreInside, AreWithin, IsCell, IsInside, IsShaped, before_place, cell_count}
pub use Rattle.scop_syntax.specs.Execution.{cell_number, exec, held, layout, offset_from, offset_of, performed_all}
pub use Rattle.scop_syntax.specs.Execution.{size_of, total_cells, value_stored, value_stored_at, value_stored_by}
pub use Rattle.scop_syntax.specs.Failures.{Failure, first_outside}
pub use Rattle.scop_syntax.specs.Kernel.{AreAtMost, AreScopes, AreTrees, HasWidth, IsAccess, IsAffine, IsComparison}
pub use Rattle.scop_syntax.specs.Kernel.{IsCondition, IsDeclaration, IsExpression, IsForm, IsHead, IsKernel, IsPlaced}
pub use Rattle.scop_syntax.specs.Kernel.{IsRight, IsStatement, IsTree, KeepWidths, narrow_arrays, own, ranks_of}
pub use Rattle.scop_syntax.specs.Kernel.{test_form}
pub use Rattle.scop_syntax.specs.Limits.{AreInRange, HasParameters, IsInRange, WithinLimits, has_parameters}
pub use Rattle.scop_syntax.specs.Limits.{most_parameter}
pub use Rattle.scop_syntax.specs.Members.{In, Sorted}
pub use Rattle.scop_syntax.specs.Order.{Before, common}
pub use Rattle.scop_syntax.specs.Reductions.{AreMarked, added_by, is_marked, loads}
pub use Rattle.scop_syntax.specs.StandingView.{standing_of}
pub use Rattle.scop_syntax.specs.Standings.{Standing, heads_in, standing, standings_of}
pub use Rattle.scop_syntax.specs.Statements.{AllHold, Placed, Runs, Scope, in_guard_of, in_loop_of, loops_in}
pub use Rattle.scop_syntax.specs.Statements.{placed_all, point_of, round, statements_of, under, visit_of}
pub use Rattle.scop_syntax.specs.Tree.{Access, Declaration, Expression, Head, Operator, Program, Right, Statement, Test}
pub use Rattle.scop_syntax.specs.Tree.{Tree, Trees, affine, assigned, at_least, binary, bits_and, bits_or, bits_xor}
pub use Rattle.scop_syntax.specs.Tree.{cast, combined, combined_narrow, complemented, converted, equal, guard, implied}
pub use Rattle.scop_syntax.specs.Tree.{loop, minus, more, moved_left, moved_left_narrow, moved_right, narrowed, negated}
pub use Rattle.scop_syntax.specs.Tree.{none, plus, read, shifted_left, shifted_right, statement, times}
pub use Rattle.scop_syntax.specs.Values.{applied, applied_narrow, stored_by, value_on, wrapped}
pub use Rattle.scop_syntax.specs.View.{expression_of, instance_of, items_of, operator_of, program_of, right_of}
pub use Rattle.scop_syntax.specs.View.{statement_of, test_of, tree_of, trees_of}
pub use Rattle.scop_syntax.specs.Walk.{Instance, RunsFor, Visit, condition_at, instance, most_turns, statements_in}
pub use Rattle.scop_syntax.specs.Walk.{statements_in_all, turn_point, walk_of}
pub use Rattle.scop_syntax.specs.Widths.{HoldWidths, IsTyped}
pub use Rattle.scop_syntax.specs.Writers.{last_of, last_writer, next_writer, writes}
pub use Rattle.whole_numbers.proofs.Common.{Affine, All, All-append, All-cons, All-drop, All-filter, All-from_recursion}
pub use Rattle.whole_numbers.proofs.Common.{All-get_or, All-head, All-map, All-more, All-nil, All-push, All-same}
pub use Rattle.whole_numbers.proofs.Common.{All-set, All-tail, All-take, All-weaker, AllocError, Appends, Bool, Bor}
pub use Rattle.whole_numbers.proofs.Common.{Box, Contains, Decides-eqb, Decides-int_eq, Divides, Err, FitsSigned}
pub use Rattle.whole_numbers.proofs.Common.{Global, Greater, IfErr, IfOk, IfOk-weaker, IfSome, IfSome_then, IsCeiling}
pub use Rattle.whole_numbers.proofs.Common.{IsFloor, IsNone, IsSome, IsTrue, Less, LexLe, LexLess, LexLess-asym}
pub use Rattle.whole_numbers.proofs.Common.{LexLess-front, LexLess-irrefl, LexLess-rest, LexLess-trans, List}
pub use Rattle.whole_numbers.proofs.Common.{MatchOption, None, NotNegative, Ok, OnOk, Option, Ordering, Result, Some, T}
pub use Rattle.whole_numbers.proofs.Common.{Vec, [], abs_at_most, abs_high, abs_low, abs_sum, add-mul, add-one}
pub use Rattle.whole_numbers.proofs.Common.{add_zero_left, all_back, all_front, all_next, all_taken, all_unmapped}
pub use Rattle.whole_numbers.proofs.Common.{and_from, and_parts, ap, append-nil, append_assoc, append_cancel_left, ap₂}
pub use Rattle.whole_numbers.proofs.Common.{arith, bytes_eq, bytes_eq-Decides, cancel_le, cases_Bool, cases_lt}
pub use Rattle.whole_numbers.proofs.Common.{cast_signed, cast_unsigned, ceiling, ceiling_at_most, ceiling_is, codes}
pub use Rattle.whole_numbers.proofs.Common.{complement, composed, cond, content, content_from, decimal}
pub use Rattle.whole_numbers.proofs.Common.{decimal_by_steps_wide, decimal_injective, div-le_self, divides_sizes, dot}
pub use Rattle.whole_numbers.proofs.Common.{dot-append, dot-multiples, dot-multiples_right, dot-nil, dot-padded}
pub use Rattle.whole_numbers.proofs.Common.{dot-past, dot-set_left, dot-split, dot-sums, dot-unit, dot-zeros, dot_comm}
pub use Rattle.whole_numbers.proofs.Common.{drop, drop-append_seam, drop-cons, drop-drop, drop-map, drop_all, drop_at}
pub use Rattle.whole_numbers.proofs.Common.{drop_more, drop_of_length-le, encode_utf8, eq-eqb, eqb, eqb-false, eqb-true}
pub use Rattle.whole_numbers.proofs.Common.{eqb_tells, err_from_is_err_and, false, false_from_ne_true, false≢true}
pub use Rattle.whole_numbers.proofs.Common.{filter, find, fits, fits_iff, fits_signed_from_abs, fits_signed_mul}
pub use Rattle.whole_numbers.proofs.Common.{flat_map, floor, floor_at_least, floor_is, floor_unique, fold, form_of}
pub use Rattle.whole_numbers.proofs.Common.{get_behind, get_elem?, get_map, get_or, get_or-append, get_or-append-add}
pub use Rattle.whole_numbers.proofs.Common.{get_or-append_seam, get_or-drop, get_or-map, get_or-multiples}
pub use Rattle.whole_numbers.proofs.Common.{get_or-replicate, get_or-set_other, get_or-set_same, get_or-sums}
pub use Rattle.whole_numbers.proofs.Common.{get_or-take, get_or-zeros, get_or_append_left, get_or_default}
pub use Rattle.whole_numbers.proofs.Common.{get_or_default_zero, get_or_from_slice_get, get_or_past, get_or_same}
pub use Rattle.whole_numbers.proofs.Common.{if◌then◌else◌, inl, inr, insert, int_eq, int_le, int_wrap-add_left}
pub use Rattle.whole_numbers.proofs.Common.{int_wrap-add_right, int_wrap_fits, ints, is_ok, is_some, le-leb, le-ltb}
pub use Rattle.whole_numbers.proofs.Common.{le_or_lt, le_z, leb, leb-true, left_comm, length, length-append}
pub use Rattle.whole_numbers.proofs.Common.{length-drop, length-map, length-multiples, length-replicate, length-reverse}
pub use Rattle.whole_numbers.proofs.Common.{length-set, length-sums, length-take, length-take-le, length-widened}
pub use Rattle.whole_numbers.proofs.Common.{length-zeros, length_push, list_all, list_any, lt-leb, lt-ltb, ltb}
pub use Rattle.whole_numbers.proofs.Common.{ltb-false, ltb-true, map, map-append, map-set, map-set_same, map_end}
pub use Rattle.whole_numbers.proofs.Common.{map_more, max, min, mod-eq_of_lt, mod-mod, mod_below, mul-add, mul-le-mul}
pub use Rattle.whole_numbers.proofs.Common.{mul-le-mul_left, mul-le-mul_right, mul-one, mul_assoc, mul_assoc_int}
pub use Rattle.whole_numbers.proofs.Common.{mul_comm_int, mul_distrib_left, mul_distrib_right, mul_le, mul_le_left}
pub use Rattle.whole_numbers.proofs.Common.{mul_le_turned, mul_neg_left, mul_neg_right, mul_not_negative, mul_one_left}
pub use Rattle.whole_numbers.proofs.Common.{mul_one_right, mul_positive, mul_sub_left, mul_zero_left, mul_zero_right}
pub use Rattle.whole_numbers.proofs.Common.{multiple_of_form, multiples, multiples-append, multiples-multiples}
pub use Rattle.whole_numbers.proofs.Common.{multiples-one, nat_eq, nat_eq_below, nat_le, nat_lt, nat_tests, ne_eqb}
pub use Rattle.whole_numbers.proofs.Common.{neg_ℤ, negsuc, nil_from_length, none-some, not, not-true}
pub use Rattle.whole_numbers.proofs.Common.{not_negative-append, not_negative_all, of_z, on_ok_weaker, one-mul}
pub use Rattle.whole_numbers.proofs.Common.{option_and_then, option_copied, option_eq, option_map, option_map_or}
pub use Rattle.whole_numbers.proofs.Common.{plus_combination, pos, position_from, position_or_len, positive_factor}
pub use Rattle.whole_numbers.proofs.Common.{prefix_len, range_with_len, recursion_from_All, refl, remainder, remove}
pub use Rattle.whole_numbers.proofs.Common.{replicate, replicate-zeros, reverse, reverse-append, reverse-reverse, rules}
pub use Rattle.whole_numbers.proofs.Common.{same_Some, set, signed_decimal, slice_eq-Decides, slice_get}
pub use Rattle.whole_numbers.proofs.Common.{slice_get-get_or, slice_get-map, slice_get_past, slice_get_read}
pub use Rattle.whole_numbers.proofs.Common.{slice_get_within, slice_index, slice_index_or, slice_set, slice_split, some}
pub use Rattle.whole_numbers.proofs.Common.{some-injective, some-ne-none, string_bytes, subst, suc, sum, sum_of_forms}
pub use Rattle.whole_numbers.proofs.Common.{sums, sums-nil, sym, take, take-append-drop, take-append-le}
pub use Rattle.whole_numbers.proofs.Common.{take-append_seam, take-length, take-map, take-suc, take-suc-set, take_all}
pub use Rattle.whole_numbers.proofs.Common.{take_more, to_z, to_z-of_z, true, true≢false, unsigned_abs}
pub use Rattle.whole_numbers.proofs.Common.{unsigned_abs-mul, unwrap_or, value_of, value_of-complement}
pub use Rattle.whole_numbers.proofs.Common.{value_of-composed, value_of-multiple, value_of-sum, values_of, w128, w64}
pub use Rattle.whole_numbers.proofs.Common.{widened, with_item, with_items, with_items_is, zero, zero-add, zeros, ℕ, ℤ}
pub use Rattle.whole_numbers.proofs.Common.{⊎_elim, ⊤, ◌%◌, ◌&&◌, ◌*ℤ◌, ◌*◌, ◌++◌, ◌+ℤ◌, ◌+◌, ◌-ℤ◌, ◌-◌, ◌/◌, ◌<ℤ◌, ◌<◌}
pub use Rattle.whole_numbers.proofs.Common.{◌==◌, ◌^◌, ◌||◌, ◌↔◌, ◌∙◌, ◌∷◌, ◌≡◌, ◌≢◌, ◌≤ℤ◌, ◌≤◌, ◌⊎◌}
