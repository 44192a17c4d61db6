-- The names that most proofs here cite, passed on from one place. Declares nothing.
pub use Rattle.dataflow.specs.Candidates.{IsWanted, TurnsAtMost, joined}
pub use Rattle.dataflow.specs.steps.Wanted.{Finds, IsAmong, Writes, AtMost, IsBest, better}
pub use Rattle.dataflow.specs.CoverPoints.{HavePoint, IsCoverOf}
pub use Rattle.dataflow.specs.Covering.{LiesBetween, conflicts_at, covers_at, covers_of, is_in_role, next_deps}
pub use Rattle.dataflow.specs.Covering.{role_deps, roles_at, told_deps}
pub use Rattle.dataflow.specs.Flips.{flipped}
pub use Rattle.dataflow.specs.Flow.{AreLastSourcesOf, AreLastTrees, IsResolved, behind_first, flow_from, flow_of}
pub use Rattle.dataflow.specs.Flow.{read_sides, read_sides_in, tree_in}
pub use Rattle.dataflow.specs.LeafRows.{bind_begins, bind_ends, bound_form, path_rows, placed, placed_numbers}
pub use Rattle.dataflow.specs.LeafRows.{turn_equalities, turn_equality, width}
pub use Rattle.dataflow.specs.steps.LeafSteps.{AreFree, CanLay, CanPlace, CanTellAll, CanTellWriter, CanWrite}
pub use Rattle.dataflow.specs.steps.LeafSteps.{HoldOpposites}
pub use Rattle.dataflow.specs.steps.LeafSteps.{HoldsOpposite, HoldsRows}
pub use Rattle.dataflow.specs.Leaves.{cell_equalities, deps_of_leaf, deps_with, first_form, leaf_dep, leaf_deps}
pub use Rattle.dataflow.specs.Leaves.{leaf_layout, pair_dep, pair_equalities, pair_rows, pair_system, second_form}
pub use Rattle.dataflow.specs.Leaves.{writer_begins, writer_of, written_of, written_side}
pub use Rattle.dataflow.specs.Places.{IsOrdered, Names, answer}
pub use Rattle.dataflow.specs.Posed.{CanPose, IsPosed}
pub use Rattle.dataflow.specs.Problems.{all_below, below, flat, moved, moved_pair, moved_variables, own}
pub use Rattle.dataflow.specs.Problems.{own_equalities_of, own_rows_of, posed_context, posed_rows, reader_begins, top}
pub use Rattle.dataflow.specs.Problems.{turned, turned_leaf, writer_turns}
pub use Rattle.dataflow.specs.ReadSources.{AreSources, IsSourceOf, reads_from, reads_in, reads_of, reads_of_statement}
pub use Rattle.dataflow.specs.Runs.{Halt, or_initial, sources_run, then_join}
pub use Rattle.dataflow.specs.Sources.{IsCandidate, IsSolved, IsWritePoint, reader_end, reader_side, wanted_writer}
pub use Rattle.dataflow.specs.Sources.{writer_end, writer_side}
pub use Rattle.dataflow.specs.steps.Steps.{HeldOver, nodes_fit}
pub use Rattle.dataflow.specs.Told.{IsInstance, IsQuastOver, IsToldOver, NamesInstances}
pub use Rattle.dataflow.specs.WriterRuns.{Stopped, candidates_of, chosen_deps, fitting, forms_fit, is_candidate}
pub use Rattle.dataflow.specs.WriterRuns.{leaves_fit, numbers_fit, read_variables, solve_between, sourced, turned_back}
pub use Rattle.dataflow.specs.WriterRuns.{turned_tree, turns_in, writers_run}
pub use Rattle.conflict_deps.proofs.GatheredDependences.{pair_can}
pub use Rattle.conflict_deps.proofs.Orders.{value_of-source, value_of-target}
pub use Rattle.conflict_deps.proofs.Parts.{parts_of, stands}
pub use Rattle.conflict_deps.proofs.RelatedPairs.{none_bound}
pub use Rattle.conflict_deps.proofs.Sides.{in_flat_map_from, in_unless_from, side_to}
pub use Rattle.conflict_deps.specs.Conflicts.{After, Side, cell_rows, conflicts_of, end_of, loops_of, pair_size}
pub use Rattle.conflict_deps.specs.Conflicts.{same_subscripts, side, sides_from, sides_in, sides_of, source_form}
pub use Rattle.conflict_deps.specs.Conflicts.{target_form}
pub use Rattle.conflict_deps.specs.Pairs.{IsEnd, TouchesAt}
pub use Rattle.conflict_deps.specs.Parts.{HasParts}
pub use Rattle.conflict_deps.specs.steps.View.{side_of}
pub use Rattle.fm_projection.proofs.CondensedSystems.{condensed_points}
pub use Rattle.integer_sets.specs.Constraints.{Constraints, variables_in}
pub use Rattle.integer_sets.specs.Points.{Satisfies}
pub use Rattle.iteration_domains.proofs.Instances.{instance_is_point}
pub use Rattle.iteration_domains.proofs.OutsideLaws.{in_flat_map}
pub use Rattle.iteration_domains.proofs.RowLaws.{goes_on, goes_on_last, values-variables}
pub use Rattle.iteration_domains.proofs.Surroundings.{length-variables, sized-variables}
pub use Rattle.iteration_domains.proofs.TreeStatements.{model_is_one, one_model}
pub use Rattle.iteration_domains.specs.Constraints.{equalities_in, rows_in}
pub use Rattle.iteration_domains.specs.Dependence.{Dependence}
pub use Rattle.iteration_domains.specs.Model.{KernelModel, Modelled, model_of, modelled}
pub use Rattle.iteration_domains.specs.Related.{Relates}
pub use Rattle.iteration_domains.specs.Rows.{variable, variables}
pub use Rattle.iteration_domains.specs.Sizes.{CanCompose, IsKernelModel, IsNarrow, form_size, size}
pub use Rattle.pip_solver.proofs.KeptSolutions.{lexmin-forms, lexmin-speaks}
pub use Rattle.pip_solver.specs.Leaves.{IsAnswer}
pub use Rattle.pip_solver.specs.Nodes.{Counted}
pub use Rattle.quast_joins.proofs.Counts.{join-count}
pub use Rattle.quast_joins.proofs.Sizes.{join_within}
pub use Rattle.quast_joins.proofs.Variables.{join-speaks}
pub use Rattle.quast_joins.specs.Counts.{HasForms, join_count}
pub use Rattle.quast_joins.specs.Joins.{join}
pub use Rattle.quast_joins.specs.Limits.{leaf_limit, node_limit}
pub use Rattle.quast_joins.specs.Sizes.{AreFormsWithin, AreWithin, IsFormWithin, IsWithin, LeavesWithin}
pub use Rattle.quast_trees.proofs.NamedTrees.{named-speaks}
pub use Rattle.quast_trees.specs.Leaf.{Leaf, found}
pub use Rattle.quast_trees.specs.Mapped.{Suits}
pub use Rattle.quast_trees.specs.Paths.{AreOver, Goes, LeafPath, Turn, binds_in, bound, down, leaf_paths, live_paths}
pub use Rattle.quast_trees.specs.Paths.{up}
pub use Rattle.quast_trees.specs.Postfix.{Postfix, tree_of}
pub use Rattle.quast_trees.specs.Source.{Source, source_of}
pub use Rattle.quast_trees.specs.Tree.{LeavesHave, Speaks, Tree, bind, branch, count, leaf}
pub use Rattle.quast_trees.specs.Turns.{BindsUp, CanTell}
pub use Rattle.quast_trees.specs.Value.{by_sign, value}
pub use Rattle.quast_trees.specs.PathView.{turn_held, turns_held}
pub use Rattle.scop_syntax.proofs.Common.{AreInRange, most_parameter, params_not_negative}
pub use Rattle.scop_syntax.proofs.Common.{Access, Affine, All, All-append, All-cons, All-drop, All-get_or, All-head}
pub use Rattle.scop_syntax.proofs.Common.{All-nil, All-tail, All-take, Before, Bool, Cell, Contains, Err, FitsSigned}
pub use Rattle.scop_syntax.proofs.Common.{HasParameters, IfOk, IfOk-weaker, In, Instance, IsKernel, IsPlaced, LexLe}
pub use Rattle.scop_syntax.proofs.Common.{LexLess, List, None, NotNegative, Ok, Option, Placed, Program, Result, Runs}
pub use Rattle.scop_syntax.proofs.Common.{Some, Visit, [], accesses, add-one, all_unmapped, ap}
pub use Rattle.scop_syntax.proofs.Common.{ap₂, arith, both, cell_at, cell_of, complement, composed, drop, drop-cons}
pub use Rattle.scop_syntax.proofs.Common.{eq-eqb, eqb-true, false, fits, fits_iff, flat_map, form_of, get_map, get_or}
pub use Rattle.scop_syntax.proofs.Common.{get_or-append-add, get_or-zeros, get_or_append_left, if◌then◌else◌, in_append}
pub use Rattle.scop_syntax.proofs.Common.{in_back, in_from_place, in_front, in_map_from, inl, inr, instance, ints}
pub use Rattle.scop_syntax.proofs.Common.{is_marked, last_is, last_writer, length, length-append, length-map}
pub use Rattle.scop_syntax.proofs.Common.{length-multiples, length-take-le, length-zeros, map, map-append, member_at}
pub use Rattle.scop_syntax.proofs.Common.{multiple_of_form, multiples, nat_cases, nat_eq, nat_lt, neg_ℤ, negsuc}
pub use Rattle.scop_syntax.proofs.Common.{next_is, next_writer, not_negative-append, on_ok_weaker, option_and_then}
pub use Rattle.scop_syntax.proofs.Common.{option_map, place_of, pos, ranks_of, refl, rules, set, slice_get}
pub use Rattle.scop_syntax.proofs.Common.{statements_of, subst, suc, sym, take, to_z, to_z-of_z, true, value_of}
pub use Rattle.scop_syntax.proofs.Common.{value_of-multiple, values_of, visit_of, w128, walk_of, zero, zeros, ℕ, ℤ, ⊤}
pub use Rattle.scop_syntax.proofs.Common.{◌*ℤ◌, ◌++◌, ◌+ℤ◌, ◌+◌, ◌-ℤ◌, ◌-◌, ◌<ℤ◌, ◌<◌, ◌^◌, ◌↔◌, ◌∙◌, ◌∷◌, ◌≡◌, ◌≤ℤ◌}
pub use Rattle.scop_syntax.proofs.Common.{◌≤◌, ◌⊎◌}
pub use Rattle.std.proofs.Common.{length-drop}
pub use Rattle.tableau_rows.specs.Problem.{problem_of, row_values}
