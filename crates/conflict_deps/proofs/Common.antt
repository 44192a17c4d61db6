-- The names that most proofs here cite, passed on from one place. Declares nothing.
pub use Rattle.conflict_deps.specs.Conflicts.{After, Side, afters, afters_of, cell_rows, conflicts_of}
pub use Rattle.conflict_deps.specs.Conflicts.{conflicts_without, dep_of, deps_between, deps_on, difference_of_forms}
pub use Rattle.conflict_deps.specs.Conflicts.{equal_turns, later_turn, loops_of, map_test, may_conflict, one_form}
pub use Rattle.conflict_deps.specs.Conflicts.{pair_size, parameter_rows, same_subscripts, side, sides_from, sides_of}
pub use Rattle.conflict_deps.specs.Conflicts.{source_form, source_rows, spread, target_form, target_rows, tests_between}
pub use Rattle.conflict_deps.specs.steps.HeldPairs.{source_of, target_of, width_of}
pub use Rattle.conflict_deps.specs.Pairs.{IsEnd, IsPoint}
pub use Rattle.conflict_deps.specs.Parts.{HasParts}
pub use Rattle.conflict_deps.specs.steps.View.{CanPair, GainsTests, ShowsTests, order_at, side_of}
pub use Rattle.integer_sets.specs.Constraints.{Constraints}
pub use Rattle.iteration_domains.proofs.Points.{equalities_in-append, hold_append, hold_back, hold_front}
pub use Rattle.iteration_domains.proofs.Points.{rows_in-append}
pub use Rattle.iteration_domains.proofs.RowLaws.{GoesOn}
pub use Rattle.iteration_domains.proofs.Sizes.{size-variable}
pub use Rattle.iteration_domains.specs.Constraints.{equalities_in, rows_in, tests_of}
pub use Rattle.iteration_domains.specs.Dependence.{Dependence, dependence}
pub use Rattle.iteration_domains.specs.Model.{KernelModel, Modelled, access_over, kernel_model, model_of, modelled}
pub use Rattle.iteration_domains.specs.Parts.{variables_of}
pub use Rattle.iteration_domains.specs.Rows.{variable, variables}
pub use Rattle.iteration_domains.specs.Sizes.{HaveOneCount, IsNarrow, form_size}
pub use Rattle.scop_syntax.proofs.Common.{Access, Affine, All, All-append, All-nil, All-weaker, AllHold, Bool, Cell, In}
pub use Rattle.scop_syntax.proofs.Common.{IsKernel, IsPlaced, List, NotNegative, Placed, Program, Some, Test, Visit, []}
pub use Rattle.scop_syntax.proofs.Common.{accesses, add-one, all_in, ap, ap₂, arith, at_least, common, drop, drop-cons}
pub use Rattle.scop_syntax.proofs.Common.{equal, false, flat_map, get_or, in_from_place, in_if, in_if_from, in_map}
pub use Rattle.scop_syntax.proofs.Common.{in_map_from, inl, inr, is_marked, length, length-append, length-zeros, map}
pub use Rattle.scop_syntax.proofs.Common.{map_end, map_more, multiple_of_form, nat_lt, negsuc, place_of, pos, ranks_of}
pub use Rattle.scop_syntax.proofs.Common.{refl, slice_get, statements_of, subst, suc, sym, take, true, value_of, values}
pub use Rattle.scop_syntax.proofs.Common.{walk_of, zero, zeros, ℕ, ℤ, ◌++◌, ◌+◌, ◌-◌, ◌<◌, ◌∙◌, ◌∷◌, ◌≡◌, ◌≤ℤ◌, ◌≤◌}
pub use Rattle.std.proofs.lemmas.List.{append-nil, append_assoc}
