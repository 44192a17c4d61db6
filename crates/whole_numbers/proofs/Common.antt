-- The names that most proofs here and above cite, passed on from one place. Declares nothing.
pub use Rattle.std.proofs.Common.{All, Bool, Bor, Err, Fits, FitsSigned, Global, Greater, IfErr, IfOk, IfSome, IsFalse}
pub use Rattle.std.proofs.Common.{IsNone, IsSome, Less, List, MatchOption, None, Ok, OnOk, Option, Ordering, Result}
pub use Rattle.std.proofs.Common.{Some, T, Vec, [], add-mul, add-one, ap, append-nil, append_assoc, ap₂, arith}
pub use Rattle.std.proofs.Common.{below_more, codes, cond, count_ones, decimal, drop, drop-cons, drop_of_length-le}
pub use Rattle.std.proofs.Common.{encode_utf8, eqb, false, find, fold, get_or, if◌then◌else◌, inl, inr, insert, int_div}
pub use Rattle.std.proofs.Common.{int_le, int_rem, is_ok, is_some, leb, length, length-append, ltb, map, max, min}
pub use Rattle.std.proofs.Common.{mul-add, mul-le-mul, mul-le-mul_left, mul-le-mul_right, mul-one, mul_assoc, nat_eq}
pub use Rattle.std.proofs.Common.{nat_le, nat_lt, neg_ℤ, negsuc, not, of_z, one-mul, option_and_then, pos, refl, remove}
pub use Rattle.std.proofs.Common.{replicate, reverse, rules, set, slice_get, slice_index, slice_index_or, slice_set}
pub use Rattle.std.proofs.Common.{string_bytes, subst, subst₂, suc, sum_by, sym, take, to_z, true, true≢false}
pub use Rattle.std.proofs.Common.{unsigned_abs, zero, zero-add, ℕ, ℤ, ⊎_elim, ◌%◌, ◌&&◌, ◌*ℤ◌, ◌*◌, ◌++◌, ◌+ℤ◌, ◌+◌}
pub use Rattle.std.proofs.Common.{◌-ℤ◌, ◌-◌, ◌/◌, ◌<ℤ◌, ◌<◌, ◌==◌, ◌^◌, ◌||◌, ◌↔◌, ◌∙◌, ◌∷◌, ◌≡◌, ◌≢◌, ◌≤ℤ◌, ◌≤◌, ◌⊎◌}
pub use Rattle.std.proofs.Math.ListN.{get_or-append}
pub use Rattle.std.proofs.Math.Nat.{div-le_self, mod-eq_of_lt, mod-mod, suc-mul}
pub use Rattle.std.proofs.Math.Seq.{drop-append_seam, get_or-append_seam, map-set_same, take-append_seam, take-length}
pub use Rattle.std.proofs.Math.Seq.{take-suc, take-suc-set}
pub use Rattle.std.proofs.lemmas.Bool.{and_from, and_parts, cases_Bool, cases_lt, eq-eqb, eqb-false, eqb-true}
pub use Rattle.std.proofs.lemmas.Bool.{false_from_ne_true, false≢true, le-leb, le-ltb, leb-true, lt-leb, lt-ltb}
pub use Rattle.std.proofs.lemmas.Bool.{ltb-false, ltb-true, ne_eqb, not-true}
pub use Rattle.std.proofs.lemmas.Bool.Decides.{Decides-eqb, Decides-int_eq, eqb_tells, nat_tests}
pub use Rattle.std.proofs.lemmas.Fmt.{decimal_by_steps_wide, decimal_injective}
pub use Rattle.std.proofs.lemmas.Grind.{get_or_default_zero}
pub use Rattle.std.proofs.lemmas.Int.{by_lt_z, fits_signed_from_abs, fits_signed_mul, int_wrap-add_left}
pub use Rattle.std.proofs.lemmas.Int.{int_wrap-add_right, int_wrap_fits, ints, to_z-of_z, unsigned_abs-mul}
pub use Rattle.std.proofs.lemmas.List.{append_cancel_left, drop-drop, drop-map, drop_all, drop_at, drop_more}
pub use Rattle.std.proofs.lemmas.List.{get_or-append-add, get_or-drop, get_or-map, get_or-replicate, get_or-set_other}
pub use Rattle.std.proofs.lemmas.List.{get_or-set_same, get_or-take, get_or_append_left, get_or_default, get_or_past}
pub use Rattle.std.proofs.lemmas.List.{length-drop, length-map, length-replicate, length-reverse, length-set}
pub use Rattle.std.proofs.lemmas.List.{length-take, length-take-le, length_push, map-append, map-set, nil_from_length}
pub use Rattle.std.proofs.lemmas.List.{reverse-append, reverse-reverse, take-append-drop, take-append-le, take-map}
pub use Rattle.std.proofs.lemmas.List.{take_all, take_more, with_items_is}
pub use Rattle.std.proofs.lemmas.List.Elements.{All-append, All-cons, All-contains, All-drop, All-filter}
pub use Rattle.std.proofs.lemmas.List.Elements.{All-from_recursion, All-get_or, All-head, All-map, All-more, All-nil}
pub use Rattle.std.proofs.lemmas.List.Elements.{All-push, All-same, All-set, All-tail, All-take, All-weaker}
pub use Rattle.std.proofs.lemmas.List.Elements.{recursion_from_All}
pub use Rattle.std.proofs.lemmas.Nat.{mod_below}
pub use Rattle.std.proofs.lemmas.Option.{IfSome_then, get_or_from_slice_get, none-some, same_Some, slice_get-get_or}
pub use Rattle.std.proofs.lemmas.Option.{slice_get-map, slice_get_past, slice_get_read, slice_get_within}
pub use Rattle.std.proofs.lemmas.Result.{IfOk-weaker, err_from_is_err_and, on_ok_weaker}
pub use Rattle.std.proofs.lemmas.Slice.Eq.{bytes_eq-Decides, slice_eq-Decides}
pub use Rattle.std.specs.Bool.{IsTrue}
pub use Rattle.std.specs.Fmt.{signed_decimal}
pub use Rattle.std.specs.Global.{Box}
pub use Rattle.std.specs.Int.{IsGcd, cast_signed, cast_unsigned, w128, w64}
pub use Rattle.std.specs.Int.Signed.{le_z}
pub use Rattle.std.specs.Io.KnownBytes.{Appends}
pub use Rattle.std.specs.List.{Contains, filter, flat_map, list_all, list_any, position_from, position_or_len}
pub use Rattle.std.specs.List.{prefix_len, range_with_len, slice_split, sum}
pub use Rattle.std.specs.Option.{option_copied, option_eq, option_map, option_map_or}
pub use Rattle.std.specs.Ordering.{int_eq}
pub use Rattle.std.specs.Prelude.{unwrap_or, ⊤}
pub use Rattle.std.specs.Str.{bytes_eq}
pub use Rattle.std.specs.Vec.{with_item, with_items}
pub use Rattle.std.specs.declared.alloc.AllocError.{AllocError}
pub use lib.ListN.{get_elem?}
pub use mathlib.Core.Logic.{dite}
pub use mathlib.Core.Option.{some, some-injective, some-ne-none}
pub use native.Mathlib.Decide.{ℕ_discrete}
pub use Rattle.whole_numbers.proofs.Contents.{content_divides}
pub use Rattle.whole_numbers.proofs.Divisors.{divides_sizes}
pub use Rattle.whole_numbers.proofs.Dot.{dot-append, dot-multiples, dot-multiples_right, dot-nil, dot-padded, dot-past}
pub use Rattle.whole_numbers.proofs.Dot.{dot-set, dot-set_left, dot-sums, dot-unit, dot-zeros, dot_comm}
pub use Rattle.whole_numbers.proofs.Dot.{get_or-multiples, get_or-sums, get_or-zeros, length-multiples, length-sums}
pub use Rattle.whole_numbers.proofs.Dot.{length-zeros, replicate-zeros, sums-nil}
pub use Rattle.whole_numbers.proofs.Entries.{all_back, all_front, all_next, all_taken, all_unmapped, get_behind}
pub use Rattle.whole_numbers.proofs.Entries.{get_map, get_or_same, map_end, map_more}
pub use Rattle.whole_numbers.proofs.Fits.{fits_iff}
pub use Rattle.whole_numbers.proofs.Floors.{ceiling_at_most, ceiling_is, floor_at_least, floor_is, floor_unique}
pub use Rattle.whole_numbers.proofs.Lexicographic.{LexLess-asym, LexLess-front, LexLess-irrefl, LexLess-rest}
pub use Rattle.whole_numbers.proofs.Lexicographic.{LexLess-trans}
pub use Rattle.whole_numbers.proofs.Lists.{dot-split, multiples-append, multiples-multiples, multiples-one}
pub use Rattle.whole_numbers.proofs.Lists.{not_negative-append, not_negative_all}
pub use Rattle.whole_numbers.proofs.Lowest.{lowest_stays}
pub use Rattle.whole_numbers.proofs.Order.{cancel_eq, cancel_le, le_or_lt, mul_le, mul_le_left, mul_le_turned}
pub use Rattle.whole_numbers.proofs.Order.{mul_not_negative, mul_positive, positive_factor}
pub use Rattle.whole_numbers.proofs.Remainders.{remainder_is}
pub use Rattle.whole_numbers.proofs.Ring.{add_zero_left, left_comm, mul_assoc_int, mul_comm_int, mul_distrib_left}
pub use Rattle.whole_numbers.proofs.Ring.{mul_distrib_right, mul_neg_left, mul_neg_right, mul_one_left, mul_one_right}
pub use Rattle.whole_numbers.proofs.Ring.{mul_sub_left, mul_sub_right, mul_zero_left, mul_zero_right}
pub use Rattle.whole_numbers.proofs.Sizes.{abs_at_most, abs_high, abs_low, abs_sum}
pub use Rattle.whole_numbers.proofs.Tests.{nat_eq_below}
pub use Rattle.whole_numbers.proofs.Values.{length-widened, value_of-complement, value_of-composed, value_of-multiple}
pub use Rattle.whole_numbers.proofs.Values.{value_of-sum}
pub use Rattle.whole_numbers.specs.Affine.{Affine, complement, composed, form_of, multiple_of_form, plus_combination}
pub use Rattle.whole_numbers.specs.Affine.{sum_of_forms, value_of, values_of, widened}
pub use Rattle.whole_numbers.specs.Content.{content, content_from, lowest}
pub use Rattle.whole_numbers.specs.Division.{IsCeiling, IsFloor}
pub use Rattle.whole_numbers.specs.Divisors.{Divides}
pub use Rattle.whole_numbers.specs.Fits.{fits}
pub use Rattle.whole_numbers.specs.Floor.{ceiling, floor, remainder}
pub use Rattle.whole_numbers.specs.Lexicographic.{LexLe, LexLess, LexNotNegative}
pub use Rattle.whole_numbers.specs.Lists.{NotNegative, dot, multiples, sums, zeros}
