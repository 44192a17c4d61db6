-- Whether int64_t holds every number of a tree's text for all parameters in 0..=65536, by one pass: each name has a
-- range, a loop's by those of what its bounds speak of, a constant's by its form.
use Rattle.std.specs.Prelude.{◌-◌, ◌^◌, Bool, true, ◌&&◌, if◌then◌else◌, ℤ, pos, negsuc, ◌+ℤ◌, ◌-ℤ◌, ◌*ℤ◌, List, []}
use Rattle.std.specs.Prelude.{◌∷◌, ◌++◌, length, map, slice_get, Option, Some, None, unsigned_abs}
use Rattle.std.specs.Int.Signed.{le_z, lt_z}
use Rattle.whole_numbers.specs.Affine.{Affine, form_of}
use Rattle.whole_numbers.specs.Floor.{floor, ceiling}
use Rattle.scop_syntax.specs.Limits.{most_parameter}
use Rattle.scop_syntax.specs.Standings.{Standing, standings_of}
use Rattle.scop_syntax.specs.Tree.{Expression, Head, Program, Right}
use Rattle.scop_syntax.specs.Tree as scop
use Rattle.loop_tree.specs.Tree.{Bound, Bounds, only, besides, Test, at_least, equal, multiple, Tree, loop, guard}
use Rattle.loop_tree.specs.Tree.{instance, Trees, none, more}
use Rattle.loop_tree.specs.Walk.{max_z, min_z}
use Rattle.c_printer.specs.Forms.{turned, spread, iterator_form}

-- the numbers from low to high
pub record Range : Type 0 where
  pub low : ℤ
  pub high : ℤ

abbrev pub range : ℤ → ℤ → Range
range low high = record { low = low; high = high }

-- one number
abbrev pub single : ℤ → Range
single z = range z z

-- sums of two numbers; multiples of one
abbrev pub summed : Range → Range → Range
summed r s = range (r.low +ℤ s.low) (r.high +ℤ s.high)

abbrev pub scaled : ℤ → Range → Range
scaled c r =
    if le_z (pos 0) c then range (c *ℤ r.low) (c *ℤ r.high) else range (c *ℤ r.high) (c *ℤ r.low)

-- int64_t holds each and its opposite
abbrev pub fits_range : Range → Bool
fits_range r = lt_z (negsuc (2 ^ 63 - 1)) r.low && lt_z r.high (pos (2 ^ 63))

-- the values of a sum of terms, where the names have these ranges
abbrev pub sum_range : List ℤ → List Range → Range
sum_range [] rs = single (pos 0)
sum_range (c ∷ cs) [] = single (pos 0)
sum_range (c ∷ cs) (r ∷ rs) = summed (scaled c r) (sum_range cs rs)

-- those of a form
abbrev pub form_range : Affine → List Range → Range
form_range form rs = summed (sum_range form.coefficients rs) (single form.constant)

-- each numeral, each product and each sum of terms fits, from a first sum on, and then the constant
abbrev pub sums_fit : Range → List ℤ → List Range → ℤ → Bool
sums_fit s [] rs z = fits_range (single z) && fits_range (summed s (single z))
sums_fit s (c ∷ cs) [] z = fits_range (single z) && fits_range (summed s (single z))
sums_fit s (c ∷ cs) (r ∷ rs) z =
    fits_range (single c) && (fits_range (scaled c r) && (fits_range (summed s (scaled c r))
    && sums_fit (summed s (scaled c r)) cs rs z))

-- those of a form
abbrev pub form_fits : Affine → List Range → Bool
form_fits form rs = sums_fit (single (pos 0)) form.coefficients rs form.constant

-- those of a form of the tree, over ranges of the parameters and of the loops
abbrev pub tree_form_fits : Affine → List Range → List Range → Bool
tree_form_fits form params outer =
    form_fits (form_of (turned (length outer) form.coefficients) form.constant) (params ++ outer)

-- those of a quotient
abbrev pub quotient_fits : Range → ℤ → Bool
quotient_fits r d =
    lt_z (pos 0) d && fits_range (range (r.low -ℤ pos (unsigned_abs d)) (r.high +ℤ pos (unsigned_abs d)))

-- those of a bound
abbrev pub bound_fits : Bound → List Range → List Range → Bool
bound_fits b params outer =
    tree_form_fits b.form params outer && quotient_fits (form_range b.form (outer ++ params)) b.divisor

-- those of bounds
abbrev pub bounds_fit : Bounds → List Range → List Range → Bool
bounds_fit (only b) params outer = bound_fits b params outer
bounds_fit (besides b bs) params outer = bound_fits b params outer && bounds_fit bs params outer

-- where loops start, and where they end
abbrev pub ceiling_range : Bound → List Range → Range
ceiling_range b rs = range (ceiling (form_range b.form rs).low b.divisor) (ceiling (form_range b.form rs).high b.divisor)

abbrev pub floor_range : Bound → List Range → Range
floor_range b rs = range (floor (form_range b.form rs).low b.divisor) (floor (form_range b.form rs).high b.divisor)

abbrev pub lower_range : Bounds → List Range → Range
lower_range (only b) rs = ceiling_range b rs
lower_range (besides b bs) rs =
    range (max_z (ceiling_range b rs).low (lower_range bs rs).low) (max_z (ceiling_range b rs).high (lower_range bs rs).high)

abbrev pub upper_range : Bounds → List Range → Range
upper_range (only b) rs = floor_range b rs
upper_range (besides b bs) rs =
    range (min_z (floor_range b rs).low (upper_range bs rs).low) (min_z (floor_range b rs).high (upper_range bs rs).high)

-- a loop's values: from the least at which it starts to the greatest at which it ends
abbrev pub loop_range : Bounds → Bounds → List Range → Range
loop_range lo up rs = range (lower_range lo rs).low (upper_range up rs).high

-- the count of a parallel loop's iterations
abbrev pub distances : Range → Range → Range
distances x y = range (y.low -ℤ x.high) (y.high -ℤ x.low)

abbrev pub count_fits : Range → Range → Bool
count_fits x y =
    fits_range (summed y (single (pos 1))) && (fits_range (distances x y)
    && fits_range (summed (distances x y) (single (pos 1))))

-- a test
abbrev pub test_fits : Test → List Range → List Range → Bool
test_fits (at_least form) params outer = tree_form_fits form params outer
test_fits (equal form) params outer = tree_form_fits form params outer
test_fits (multiple form d) params outer =
    tree_form_fits form params outer && quotient_fits (form_range form (outer ++ params)) d

-- tests, each whatever those in front of it say
abbrev pub tests_fit : List Test → List Range → List Range → Bool
tests_fit [] params outer = true
tests_fit (test ∷ tests) params outer = test_fits test params outer && tests_fit tests params outer

-- the ranges of a block's constants
abbrev pub given_ranges : List Range → List Range → List Range → List Head → List Affine → List Range
given_ranges params outer before [] turns = []
given_ranges params outer before (head ∷ heads) [] = []
given_ranges params outer before (head ∷ heads) (turn ∷ turns) =
    form_range (iterator_form (length params) (length outer) head turn) (params ++ (outer ++ before))
    ∷ given_ranges params outer
    (before ++ form_range (iterator_form (length params) (length outer) head turn) (params ++ (outer ++ before)) ∷ [])
    heads turns

abbrev pub givens_fit : List Range → List Range → List Range → List Head → List Affine → Bool
givens_fit params outer before [] turns = true
givens_fit params outer before (head ∷ heads) [] = true
givens_fit params outer before (head ∷ heads) (turn ∷ turns) =
    form_fits (iterator_form (length params) (length outer) head turn) (params ++ (outer ++ before))
    && givens_fit params outer
    (before ++ form_range (iterator_form (length params) (length outer) head turn) (params ++ (outer ++ before)) ∷ [])
    heads turns

-- a form of the source
abbrev pub source_form_fits : List Range → List Range → List Range → Affine → Bool
source_form_fits params outer given form =
    form_fits (form_of (spread (length params) (length outer) form.coefficients) form.constant)
    (params ++ (outer ++ given))

abbrev pub subscripts_fit : List Range → List Range → List Range → List Affine → Bool
subscripts_fit params outer given [] = true
subscripts_fit params outer given (form ∷ forms) =
    source_form_fits params outer given form && subscripts_fit params outer given forms

abbrev pub value_fits : List Range → List Range → List Range → Expression → Bool
value_fits params outer given (scop.read access) = subscripts_fit params outer given access.subscripts
value_fits params outer given (scop.constant c) = true
value_fits params outer given (scop.affine form) = source_form_fits params outer given form
value_fits params outer given (scop.negated e) = value_fits params outer given e
value_fits params outer given (scop.complemented e) = value_fits params outer given e
value_fits params outer given (scop.cast e) = value_fits params outer given e
value_fits params outer given (scop.binary op e f) =
    value_fits params outer given e && value_fits params outer given f
value_fits params outer given (scop.shifted_left e k) = value_fits params outer given e
value_fits params outer given (scop.shifted_right e k) = value_fits params outer given e
value_fits params outer given (scop.narrowed w e) = value_fits params outer given e

abbrev pub right_fits : List Range → List Range → List Range → Right → Bool
right_fits params outer given (scop.assigned e) = value_fits params outer given e
right_fits params outer given (scop.combined op e) = value_fits params outer given e
right_fits params outer given (scop.combined_narrow op e) = value_fits params outer given e
right_fits params outer given _ = true

-- an instance, if it has a statement
abbrev pub instance_fits : List Range → List Range → Option Standing → List Affine → Bool
instance_fits params outer None turns = true
instance_fits params outer (Some s) turns =
    givens_fit params outer [] s.heads turns
    && (subscripts_fit params outer (given_ranges params outer [] s.heads turns) s.body.place.subscripts
    && right_fits params outer (given_ranges params outer [] s.heads turns) s.body.right)

abbrev mutual
  -- each number of a tree within loops of these ranges
  pub fits_tree : Program → List Range → List Range → Tree → Bool
  fits_tree program params outer (loop flag lo up body) =
      bounds_fit lo params outer && (bounds_fit up params outer
      && ((if flag then count_fits (lower_range lo (outer ++ params)) (upper_range up (outer ++ params)) else true)
      && (fits_range (summed (loop_range lo up (outer ++ params)) (single (pos 1)))
      && fits_trees program params (outer ++ loop_range lo up (outer ++ params) ∷ []) body)))
  fits_tree program params outer (guard tests body) =
      tests_fit tests params outer && fits_trees program params outer body
  fits_tree program params outer (instance n turns) =
      instance_fits params outer (slice_get (standings_of program) n) turns

  -- those of trees
  pub fits_trees : Program → List Range → List Range → Trees → Bool
  fits_trees program params outer none = true
  fits_trees program params outer (more t ts) = fits_tree program params outer t && fits_trees program params outer ts

-- whether int64_t holds every number of a tree's text, for all parameters in 0..=65536
abbrev pub fits_int64 : Program → Trees → Bool
fits_int64 program ts = fits_trees program (map (λ name. range (pos 0) (pos most_parameter)) program.parameters) [] ts
