-- What ranges say of the numbers in them, and that trees that fit by their ranges are narrow.
use Rattle.scop_syntax.proofs.Common.{◌≡◌, ap, sym, subst, refl, ℕ, suc, ◌+◌, ◌-◌, ◌^◌, ◌<◌, Bool, true, false, ◌&&◌}
use Rattle.scop_syntax.proofs.Common.{if◌then◌else◌, ℤ, pos, negsuc, ◌+ℤ◌, ◌-ℤ◌, ◌*ℤ◌, ◌≤ℤ◌, ◌<ℤ◌, List, [], ◌∷◌, ◌++◌}
use Rattle.scop_syntax.proofs.Common.{length, map, arith, ints, Option, Some, None, slice_get, ⊤, All-head, All-tail}
use Rattle.scop_syntax.proofs.Common.{unsigned_abs, and_parts, le_z, holds_le_z, dot, Affine, value_of, floor, ceiling}
use Rattle.scop_syntax.proofs.Common.{floor_is, ceiling_is, floor_at_least, ceiling_at_most, mul_le_left, mul_le_turned}
use Rattle.scop_syntax.proofs.Common.{abs_low, abs_high, Head, Expression, Right, Standing, standings_of, Program}
use Rattle.scop_syntax.proofs.Common.{IsInRange, AreInRange, HasParameters, most_parameter}
use Rattle.scop_syntax.specs.Tree as scop
use Rattle.std.specs.Int.Signed.{lt_z}
use Rattle.whole_numbers.specs.Affine.{form_of}
use Rattle.loop_tree.specs.Tree.{Bound, Bounds, only, besides, Test, at_least, equal, multiple, Tree, loop, guard}
use Rattle.loop_tree.specs.Tree.{instance, Trees, none, more}
use Rattle.loop_tree.specs.Walk.{lower, upper, max_z, min_z}
use Rattle.c_printer.specs.Forms.{turned, spread, iterator_form}
use Rattle.c_printer.specs.Iterators.{given_value, given_values}
use Rattle.c_meaning.specs.Narrow.{Fits, SumsFit, FormFits, TreeFormFits, QuotientFits, BoundFits, BoundsFit, TestFits}
use Rattle.c_meaning.specs.Narrow.{TestsFit, GivensFit, SourceFormFits, SubscriptsFit, ValueFits, RightFits}
use Rattle.c_meaning.specs.Narrow.{InstanceFits, CountFits, IsNarrow, AreNarrow}
use Rattle.c_meaning.specs.Ranges.{Range, range, single, summed, scaled, fits_range, sum_range, form_range, sums_fit}
use Rattle.c_meaning.specs.Ranges.{form_fits, tree_form_fits, quotient_fits, bound_fits, bounds_fit, ceiling_range}
use Rattle.c_meaning.specs.Ranges.{floor_range, lower_range, upper_range, loop_range, distances, count_fits, test_fits}
use Rattle.c_meaning.specs.Ranges.{tests_fit, given_ranges, givens_fit, source_form_fits, subscripts_fit, value_fits}
use Rattle.c_meaning.specs.Ranges.{right_fits, instance_fits, fits_tree, fits_trees, fits_int64}
use Rattle.c_meaning.proofs.BoundWorths.{holds_lt_z, size_between}
use Rattle.c_meaning.proofs.ProgramRuns.{false_le}

-- a number lies in a range
abbrev Lies : ℤ → Range → Type 0
Lies z r = (r.low ≤ℤ z) × (z ≤ℤ r.high)

-- numbers lie in ranges, each in its own
abbrev LieIn : List ℤ → List Range → Type 0
LieIn [] [] = ⊤
LieIn [] (r ∷ rs) = ⊥
LieIn (z ∷ zs) [] = ⊥
LieIn (z ∷ zs) (r ∷ rs) = Lies z r × LieIn zs rs

not_le : (a b : ℤ) → le_z a b ≡ false → b <ℤ a
not_le a b e = false_le a b e

-- the greater of greater numbers is greater, and so is the less of them
max_rises : (a b c d : ℤ) → a ≤ℤ c → b ≤ℤ d → max_z a b ≤ℤ max_z c d
max_rises a b c d h k = by_tests (le_z a b) (le_z c d) refl refl
  where
    by_tests : (s t : Bool) → le_z a b ≡ s → le_z c d ≡ t → (if s then b else a) ≤ℤ (if t then d else c)
    by_tests true true e f = k
    by_tests true false e f = let l = not_le c d f in omega (arith, ints, k, l)
    by_tests false true e f = let l = holds_le_z c d f in omega (arith, ints, h, l)
    by_tests false false e f = h

min_rises : (a b c d : ℤ) → a ≤ℤ c → b ≤ℤ d → min_z a b ≤ℤ min_z c d
min_rises a b c d h k = by_tests (le_z a b) (le_z c d) refl refl
  where
    by_tests : (s t : Bool) → le_z a b ≡ s → le_z c d ≡ t → (if s then a else b) ≤ℤ (if t then c else d)
    by_tests true true e f = h
    by_tests true false e f = let l = holds_le_z a b e in omega (arith, ints, k, l)
    by_tests false true e f = let l = not_le a b e in omega (arith, ints, h, l)
    by_tests false false e f = k

-- a number fits with a size added, where it does with that taken off and put on
sizes_add : (z : ℤ) (k : ℕ) → Fits (z -ℤ pos k) → Fits (z +ℤ pos k) → unsigned_abs z + k < 2 ^ 63
sizes_add (pos n) k down up = let l = abs_high (pos n +ℤ pos k) in omega (arith, ints, up, l)
sizes_add (negsuc n) k down up = let l = abs_low (negsuc n -ℤ pos k) in omega (arith, ints, down, l)

single_lies : (z : ℤ) → Lies z (single z)
single_lies z = (omega (arith, ints), omega (arith, ints))

summed_lies : (a b : ℤ) (r s : Range) → Lies a r → Lies b s → Lies (a +ℤ b) (summed r s)
summed_lies a b r s (al, ah) (bl, bh) = (omega (arith, ints, al, bl), omega (arith, ints, ah, bh))

scaled_lies : (c z : ℤ) (r : Range) → Lies z r → Lies (c *ℤ z) (scaled c r)
scaled_lies c z r h = by_sign (le_z (pos 0) c) refl
  where
    by_sign : (t : Bool) → le_z (pos 0) c ≡ t
        → Lies (c *ℤ z) (if t then range (c *ℤ r.low) (c *ℤ r.high) else range (c *ℤ r.high) (c *ℤ r.low))
    by_sign true e =
        let p = holds_le_z (pos 0) c e in (mul_le_left r.low z c h.0 p, mul_le_left z r.high c h.1 p)
    by_sign false e =
        let p = not_le (pos 0) c e in
        let q : c ≤ℤ pos 0 = omega (arith, ints, p) in
        let a = mul_le_turned z r.high c h.1 q in
        let b = mul_le_turned r.low z c h.0 q in
        (omega (arith, ints, a), omega (arith, ints, b))

fits_lies : (z : ℤ) (r : Range) → fits_range r ≡ true → Lies z r → Fits z
fits_lies z r e (low, high) =
    let both = and_parts (lt_z (negsuc (2 ^ 63 - 1)) r.low) (lt_z r.high (pos (2 ^ 63))) e in
    let a = holds_lt_z (negsuc (2 ^ 63 - 1)) r.low both.0 in
    let b = holds_lt_z r.high (pos (2 ^ 63)) both.1 in
    size_between z (2 ^ 63 - 1) (omega (arith, ints, a, low)) (omega (arith, ints, b, high)) (omega arith)

-- each number of a sum
sums_narrow : (s : ℤ) (r : Range) (cs : List ℤ) (zs : List ℤ) (rs : List Range) (z : ℤ) → Lies s r → LieIn zs rs
    → sums_fit r cs rs z ≡ true → SumsFit s cs zs z
sums_narrow s r [] zs rs z lies within e =
    let both = and_parts (fits_range (single z)) (fits_range (summed r (single z))) e in (
      fits_lies z (single z) both.0 (single_lies z),
      fits_lies (s +ℤ z) (summed r (single z)) both.1 (summed_lies s z r (single z) lies (single_lies z)),
    )
sums_narrow s r (c ∷ cs) [] [] z lies within e =
    let both = and_parts (fits_range (single z)) (fits_range (summed r (single z))) e in (
      fits_lies z (single z) both.0 (single_lies z),
      fits_lies (s +ℤ z) (summed r (single z)) both.1 (summed_lies s z r (single z) lies (single_lies z)),
    )
sums_narrow s r (c ∷ cs) [] (q ∷ qs) z lies within e = absurd within
sums_narrow s r (c ∷ cs) (y ∷ ys) [] z lies within e = absurd within
sums_narrow s r (c ∷ cs) (y ∷ ys) (q ∷ qs) z lies (here, within) e =
    let next = summed r (scaled c q) in
    let a = and_parts (fits_range (single c))
    (fits_range (scaled c q) && (fits_range next && sums_fit next cs qs z)) e in
    let b = and_parts (fits_range (scaled c q)) (fits_range next && sums_fit next cs qs z) a.1 in
    let d = and_parts (fits_range next) (sums_fit next cs qs z) b.1 in
    let product = scaled_lies c y q here in
    let sum = summed_lies s (c *ℤ y) r (scaled c q) lies product in (
      fits_lies c (single c) a.0 (single_lies c),
      fits_lies (c *ℤ y) (scaled c q) b.0 product,
      fits_lies (s +ℤ (c *ℤ y)) next d.0 sum,
      sums_narrow (s +ℤ (c *ℤ y)) next cs ys qs z sum within d.1,
    )

form_narrow : (form : Affine) (zs : List ℤ) (rs : List Range) → LieIn zs rs → form_fits form rs ≡ true
    → FormFits form zs
form_narrow form zs rs within e =
    sums_narrow (pos 0) (single (pos 0)) form.coefficients zs rs form.constant (single_lies (pos 0)) within e

-- what a form is worth
sum_lies : (cs zs : List ℤ) (rs : List Range) → LieIn zs rs → Lies (dot cs zs) (sum_range cs rs)
sum_lies [] zs rs within = single_lies (pos 0)
sum_lies (c ∷ cs) [] [] within = single_lies (pos 0)
sum_lies (c ∷ cs) [] (r ∷ rs) within = absurd within
sum_lies (c ∷ cs) (z ∷ zs) [] within = absurd within
sum_lies (c ∷ cs) (z ∷ zs) (r ∷ rs) (here, within) =
    summed_lies (c *ℤ z) (dot cs zs) (scaled c r) (sum_range cs rs) (scaled_lies c z r here) (sum_lies cs zs rs within)

value_lies : (form : Affine) (zs : List ℤ) (rs : List Range) → LieIn zs rs
    → Lies (value_of form zs) (form_range form rs)
value_lies form zs rs within =
    summed_lies (dot form.coefficients zs) form.constant (sum_range form.coefficients rs) (single form.constant)
    (sum_lies form.coefficients zs rs within) (single_lies form.constant)

-- numbers behind others
behind_lie : (xs ys : List ℤ) (qs rs : List Range) → LieIn xs qs → LieIn ys rs → LieIn (xs ++ ys) (qs ++ rs)
behind_lie [] ys [] rs a b = b
behind_lie [] ys (q ∷ qs) rs a b = absurd a
behind_lie (x ∷ xs) ys [] rs a b = absurd a
behind_lie (x ∷ xs) ys (q ∷ qs) rs (here, a) b = (here, behind_lie xs ys qs rs a b)

one_lies : (z : ℤ) (r : Range) → Lies z r → LieIn (z ∷ []) (r ∷ [])
one_lies z r h = (h, tt)

as_many : (zs : List ℤ) (rs : List Range) → LieIn zs rs → length rs ≡ length zs
as_many [] [] h = refl
as_many [] (r ∷ rs) h = absurd h
as_many (z ∷ zs) [] h = absurd h
as_many (z ∷ zs) (r ∷ rs) h = ap suc (as_many zs rs h.1)

-- the names of a place: parameters and loops
record AreNames (params outer : List ℤ) (ps os : List Range) : Type 0 where
  params_lie : LieIn params ps
  outer_lie : LieIn outer os

in_text : (params outer : List ℤ) (ps os : List Range) → AreNames params outer ps os
    → LieIn (params ++ outer) (ps ++ os)
in_text params outer ps os h = behind_lie params outer ps os h.params_lie h.outer_lie

in_tree : (params outer : List ℤ) (ps os : List Range) → AreNames params outer ps os
    → LieIn (outer ++ params) (os ++ ps)
in_tree params outer ps os h = behind_lie outer params os ps h.outer_lie h.params_lie

tree_form_narrow : (form : Affine) (params outer : List ℤ) (ps os : List Range) → AreNames params outer ps os
    → tree_form_fits form ps os ≡ true → TreeFormFits form params outer
tree_form_narrow form params outer ps os h e =
    subst (λ k. FormFits (form_of (turned k form.coefficients) form.constant) (params ++ outer))
    (as_many outer os h.outer_lie)
    (form_narrow (form_of (turned (length os) form.coefficients) form.constant) (params ++ outer) (ps ++ os)
    (in_text params outer ps os h) e)

-- a quotient's divisor is positive, and its numbers fit
quotient_narrow : (z : ℤ) (r : Range) (d : ℤ) → Lies z r → quotient_fits r d ≡ true
    → (pos 0 <ℤ d) × QuotientFits z d
quotient_narrow z r d (low, high) e =
    let k = pos (unsigned_abs d) in
    let wide = range (r.low -ℤ k) (r.high +ℤ k) in
    let both = and_parts (lt_z (pos 0) d) (fits_range wide) e in
    let down = fits_lies (z -ℤ k) wide both.1 (omega (arith, ints, low), omega (arith, ints, high)) in
    let up = fits_lies (z +ℤ k) wide both.1 (omega (arith, ints, low), omega (arith, ints, high)) in
    (holds_lt_z (pos 0) d both.0, sizes_add z (unsigned_abs d) down up)

floor_rises : (a b d : ℤ) → pos 0 <ℤ d → a ≤ℤ b → floor a d ≤ℤ floor b d
floor_rises a b d h l =
    let below = (floor_is a d h).below in
    (floor_at_least b d (floor b d) (floor a d) h (floor_is b d h)).1 (omega (arith, ints, below, l))

ceiling_rises : (a b d : ℤ) → pos 0 <ℤ d → a ≤ℤ b → ceiling a d ≤ℤ ceiling b d
ceiling_rises a b d h l =
    let above = (ceiling_at_most b d (ceiling b d) (ceiling b d) h (ceiling_is b d h)).0 (omega (arith, ints)) in
    (ceiling_at_most a d (ceiling a d) (ceiling b d) h (ceiling_is a d h)).1 (omega (arith, ints, above, l))

-- a bound: its numbers fit, and its divisor is positive
record IsBounded (b : Bound) (params outer : List ℤ) : Type 0 where
  divisor : pos 0 <ℤ b.divisor
  fits : BoundFits b params outer

bound_narrow : (b : Bound) (params outer : List ℤ) (ps os : List Range) → AreNames params outer ps os
    → bound_fits b ps os ≡ true → IsBounded b params outer
bound_narrow b params outer ps os h e =
    let rs = os ++ ps in
    let both = and_parts (tree_form_fits b.form ps os) (quotient_fits (form_range b.form rs) b.divisor) e in
    let q = quotient_narrow (value_of b.form (outer ++ params)) (form_range b.form rs) b.divisor
    (value_lies b.form (outer ++ params) rs (in_tree params outer ps os h)) both.1 in
    record {
      divisor = q.0;
      fits = record { form = tree_form_narrow b.form params outer ps os h both.0; quotient = q.1 };
    }

bounds_narrow : (bs : Bounds) (params outer : List ℤ) (ps os : List Range) → AreNames params outer ps os
    → bounds_fit bs ps os ≡ true → BoundsFit bs params outer
bounds_narrow (only b) params outer ps os h e = (bound_narrow b params outer ps os h e).fits
bounds_narrow (besides b bs) params outer ps os h e =
    let both = and_parts (bound_fits b ps os) (bounds_fit bs ps os) e in
    ((bound_narrow b params outer ps os h both.0).fits, bounds_narrow bs params outer ps os h both.1)

max_lies : (a b : ℤ) (r s : Range) → Lies a r → Lies b s → Lies (max_z a b) (range (max_z r.low s.low) (max_z r.high s.high))
max_lies a b r s (al, ah) (bl, bh) = (max_rises r.low s.low a b al bl, max_rises a b r.high s.high ah bh)

min_lies : (a b : ℤ) (r s : Range) → Lies a r → Lies b s → Lies (min_z a b) (range (min_z r.low s.low) (min_z r.high s.high))
min_lies a b r s (al, ah) (bl, bh) = (min_rises r.low s.low a b al bl, min_rises a b r.high s.high ah bh)

lower_lies : (bs : Bounds) (params outer : List ℤ) (ps os : List Range) → AreNames params outer ps os
    → bounds_fit bs ps os ≡ true → Lies (lower bs (outer ++ params)) (lower_range bs (os ++ ps))
lower_lies (only b) params outer ps os h e =
    let l = value_lies b.form (outer ++ params) (os ++ ps) (in_tree params outer ps os h) in
    let d = (bound_narrow b params outer ps os h e).divisor in
    (ceiling_rises _ _ b.divisor d l.0, ceiling_rises _ _ b.divisor d l.1)
lower_lies (besides b bs) params outer ps os h e =
    let both = and_parts (bound_fits b ps os) (bounds_fit bs ps os) e in
    let l = value_lies b.form (outer ++ params) (os ++ ps) (in_tree params outer ps os h) in
    let d = (bound_narrow b params outer ps os h both.0).divisor in
    max_lies (ceiling (value_of b.form (outer ++ params)) b.divisor) (lower bs (outer ++ params))
    (ceiling_range b (os ++ ps)) (lower_range bs (os ++ ps))
    (ceiling_rises _ _ b.divisor d l.0, ceiling_rises _ _ b.divisor d l.1) (lower_lies bs params outer ps os h both.1)

upper_lies : (bs : Bounds) (params outer : List ℤ) (ps os : List Range) → AreNames params outer ps os
    → bounds_fit bs ps os ≡ true → Lies (upper bs (outer ++ params)) (upper_range bs (os ++ ps))
upper_lies (only b) params outer ps os h e =
    let l = value_lies b.form (outer ++ params) (os ++ ps) (in_tree params outer ps os h) in
    let d = (bound_narrow b params outer ps os h e).divisor in
    (floor_rises _ _ b.divisor d l.0, floor_rises _ _ b.divisor d l.1)
upper_lies (besides b bs) params outer ps os h e =
    let both = and_parts (bound_fits b ps os) (bounds_fit bs ps os) e in
    let l = value_lies b.form (outer ++ params) (os ++ ps) (in_tree params outer ps os h) in
    let d = (bound_narrow b params outer ps os h both.0).divisor in
    min_lies (floor (value_of b.form (outer ++ params)) b.divisor) (upper bs (outer ++ params))
    (floor_range b (os ++ ps)) (upper_range bs (os ++ ps))
    (floor_rises _ _ b.divisor d l.0, floor_rises _ _ b.divisor d l.1) (upper_lies bs params outer ps os h both.1)

count_narrow : (x y : ℤ) (r s : Range) → Lies x r → Lies y s → count_fits r s ≡ true → CountFits x y
count_narrow x y r s (xl, xh) (yl, yh) e =
    let far = distances r s in
    let a = and_parts (fits_range (summed s (single (pos 1))))
    (fits_range far && fits_range (summed far (single (pos 1)))) e in
    let b = and_parts (fits_range far) (fits_range (summed far (single (pos 1)))) a.1 in
    let distance : Lies (y -ℤ x) far = (omega (arith, ints, yl, xh), omega (arith, ints, yh, xl)) in (
      fits_lies (y +ℤ pos 1) (summed s (single (pos 1))) a.0
          (summed_lies y (pos 1) s (single (pos 1)) (yl, yh) (single_lies (pos 1))),
      fits_lies (y -ℤ x) far b.0 distance,
      fits_lies ((y -ℤ x) +ℤ pos 1) (summed far (single (pos 1))) b.1
          (summed_lies (y -ℤ x) (pos 1) far (single (pos 1)) distance (single_lies (pos 1))),
    )

test_narrow : (test : Test) (params outer : List ℤ) (ps os : List Range) → AreNames params outer ps os
    → test_fits test ps os ≡ true → TestFits test params outer
test_narrow (at_least form) params outer ps os h e = tree_form_narrow form params outer ps os h e
test_narrow (equal form) params outer ps os h e = tree_form_narrow form params outer ps os h e
test_narrow (multiple form d) params outer ps os h e =
    let both = and_parts (tree_form_fits form ps os) (quotient_fits (form_range form (os ++ ps)) d) e in (
      tree_form_narrow form params outer ps os h both.0,
      (quotient_narrow (value_of form (outer ++ params)) (form_range form (os ++ ps)) d
          (value_lies form (outer ++ params) (os ++ ps) (in_tree params outer ps os h)) both.1).1,
    )

tests_narrow : (tests : List Test) (params outer : List ℤ) (ps os : List Range) → AreNames params outer ps os
    → tests_fit tests ps os ≡ true → TestsFit tests params outer
tests_narrow [] params outer ps os h e = tt
tests_narrow (test ∷ tests) params outer ps os h e =
    let both = and_parts (test_fits test ps os) (tests_fit tests ps os) e in
    (test_narrow test params outer ps os h both.0, λ _. tests_narrow tests params outer ps os h both.1)

-- constants in front are names too
in_block : (params outer given : List ℤ) (ps os gs : List Range) → AreNames params outer ps os → LieIn given gs
    → LieIn (params ++ (outer ++ given)) (ps ++ (os ++ gs))
in_block params outer given ps os gs h g =
    behind_lie params (outer ++ given) ps (os ++ gs) h.params_lie (behind_lie outer given os gs h.outer_lie g)

-- a constant lies in its form's range
given_lies : (params outer before : List ℤ) (ps os bs : List Range) (head : Head) (turn : Affine)
    → AreNames params outer ps os → LieIn before bs
    → Lies (given_value params outer before head turn)
    (form_range (iterator_form (length ps) (length os) head turn) (ps ++ (os ++ bs)))
given_lies params outer before ps os bs head turn h b =
    let form = iterator_form (length params) (length outer) head turn in
    subst (λ m. Lies (given_value params outer before head turn)
    (form_range (iterator_form m (length os) head turn) (ps ++ (os ++ bs)))) (sym (as_many params ps h.params_lie))
    (subst (λ k. Lies (given_value params outer before head turn)
    (form_range (iterator_form (length params) k head turn) (ps ++ (os ++ bs)))) (sym (as_many outer os h.outer_lie))
    (value_lies form (params ++ (outer ++ before)) (ps ++ (os ++ bs)) (in_block params outer before ps os bs h b)))

givens_lie : (params outer before : List ℤ) (ps os bs : List Range) (heads : List Head) (turns : List Affine)
    → AreNames params outer ps os → LieIn before bs
    → LieIn (given_values params outer before heads turns) (given_ranges ps os bs heads turns)
givens_lie params outer before ps os bs [] turns h b = tt
givens_lie params outer before ps os bs (head ∷ heads) [] h b = tt
givens_lie params outer before ps os bs (head ∷ heads) (turn ∷ turns) h b =
    let z = given_value params outer before head turn in
    let r = form_range (iterator_form (length ps) (length os) head turn) (ps ++ (os ++ bs)) in
    let here = given_lies params outer before ps os bs head turn h b in (
      here,
      givens_lie params outer (before ++ z ∷ []) ps os (bs ++ r ∷ []) heads turns h
          (behind_lie before (z ∷ []) bs (r ∷ []) b (one_lies z r here)),
    )

givens_narrow : (params outer before : List ℤ) (ps os bs : List Range) (heads : List Head) (turns : List Affine)
    → AreNames params outer ps os → LieIn before bs → givens_fit ps os bs heads turns ≡ true
    → GivensFit params outer before heads turns
givens_narrow params outer before ps os bs [] turns h b e = tt
givens_narrow params outer before ps os bs (head ∷ heads) [] h b e = tt
givens_narrow params outer before ps os bs (head ∷ heads) (turn ∷ turns) h b e =
    let z = given_value params outer before head turn in
    let form = iterator_form (length ps) (length os) head turn in
    let r = form_range form (ps ++ (os ++ bs)) in
    let both = and_parts (form_fits form (ps ++ (os ++ bs))) (givens_fit ps os (bs ++ r ∷ []) heads turns) e in
    let fits = form_narrow form (params ++ (outer ++ before)) (ps ++ (os ++ bs))
    (in_block params outer before ps os bs h b) both.0 in (
      subst (λ m. FormFits (iterator_form m (length outer) head turn) (params ++ (outer ++ before)))
          (as_many params ps h.params_lie)
          (subst (λ k. FormFits (iterator_form (length ps) k head turn) (params ++ (outer ++ before)))
          (as_many outer os h.outer_lie) fits),
      givens_narrow params outer (before ++ z ∷ []) ps os (bs ++ r ∷ []) heads turns h
          (behind_lie before (z ∷ []) bs (r ∷ []) b
          (one_lies z r (given_lies params outer before ps os bs head turn h b))) both.1,
    )

-- names of a block
record AreAll (params outer given : List ℤ) (ps os gs : List Range) : Type 0 where
  names : AreNames params outer ps os
  given_lie : LieIn given gs

source_narrow : (params outer given : List ℤ) (ps os gs : List Range) (form : Affine)
    → AreAll params outer given ps os gs → source_form_fits ps os gs form ≡ true
    → SourceFormFits params outer given form
source_narrow params outer given ps os gs form h e =
    let fits = form_narrow (form_of (spread (length ps) (length os) form.coefficients) form.constant)
    (params ++ (outer ++ given)) (ps ++ (os ++ gs)) (in_block params outer given ps os gs h.names h.given_lie) e in
    subst (λ m. FormFits (form_of (spread m (length outer) form.coefficients) form.constant)
    (params ++ (outer ++ given))) (as_many params ps h.names.params_lie)
    (subst (λ k. FormFits (form_of (spread (length ps) k form.coefficients) form.constant)
    (params ++ (outer ++ given))) (as_many outer os h.names.outer_lie) fits)

subscripts_narrow : (params outer given : List ℤ) (ps os gs : List Range) (forms : List Affine)
    → AreAll params outer given ps os gs → subscripts_fit ps os gs forms ≡ true
    → SubscriptsFit params outer given forms
subscripts_narrow params outer given ps os gs [] h e = tt
subscripts_narrow params outer given ps os gs (form ∷ forms) h e =
    let both = and_parts (source_form_fits ps os gs form) (subscripts_fit ps os gs forms) e in (
      source_narrow params outer given ps os gs form h both.0,
      subscripts_narrow params outer given ps os gs forms h both.1,
    )

value_narrow : (params outer given : List ℤ) (ps os gs : List Range) (e : Expression)
    → AreAll params outer given ps os gs → value_fits ps os gs e ≡ true → ValueFits params outer given e
value_narrow params outer given ps os gs (scop.read access) h t =
    subscripts_narrow params outer given ps os gs access.subscripts h t
value_narrow params outer given ps os gs (scop.constant c) h t = tt
value_narrow params outer given ps os gs (scop.affine form) h t = source_narrow params outer given ps os gs form h t
value_narrow params outer given ps os gs (scop.negated e) h t = value_narrow params outer given ps os gs e h t
value_narrow params outer given ps os gs (scop.complemented e) h t = value_narrow params outer given ps os gs e h t
value_narrow params outer given ps os gs (scop.cast e) h t = value_narrow params outer given ps os gs e h t
value_narrow params outer given ps os gs (scop.binary op e f) h t =
    let both = and_parts (value_fits ps os gs e) (value_fits ps os gs f) t in
    (value_narrow params outer given ps os gs e h both.0, value_narrow params outer given ps os gs f h both.1)
value_narrow params outer given ps os gs (scop.shifted_left e k) h t = value_narrow params outer given ps os gs e h t
value_narrow params outer given ps os gs (scop.shifted_right e k) h t = value_narrow params outer given ps os gs e h t
value_narrow params outer given ps os gs (scop.narrowed w e) h t = value_narrow params outer given ps os gs e h t

right_narrow : (params outer given : List ℤ) (ps os gs : List Range) (right : Right)
    → AreAll params outer given ps os gs → right_fits ps os gs right ≡ true → RightFits params outer given right
right_narrow params outer given ps os gs (scop.assigned e) h t = value_narrow params outer given ps os gs e h t
right_narrow params outer given ps os gs (scop.combined op e) h t = value_narrow params outer given ps os gs e h t
right_narrow params outer given ps os gs (scop.combined_narrow op e) h t =
    value_narrow params outer given ps os gs e h t
right_narrow params outer given ps os gs _ h t = tt

instance_narrow : (params outer : List ℤ) (ps os : List Range) (s : Option Standing) (turns : List Affine)
    → AreNames params outer ps os → instance_fits ps os s turns ≡ true → InstanceFits params outer s turns
instance_narrow params outer ps os None turns h e = tt
instance_narrow params outer ps os (Some s) turns h e =
    let gs = given_ranges ps os [] s.heads turns in
    let a = and_parts (givens_fit ps os [] s.heads turns)
    (subscripts_fit ps os gs s.body.place.subscripts && right_fits ps os gs s.body.right) e in
    let b = and_parts (subscripts_fit ps os gs s.body.place.subscripts) (right_fits ps os gs s.body.right) a.1 in
    let given = given_values params outer [] s.heads turns in
    let all : AreAll params outer given ps os gs =
    record { names = h; given_lie = givens_lie params outer [] ps os [] s.heads turns h tt } in (
      givens_narrow params outer [] ps os [] s.heads turns h tt a.0,
      record {
        place = subscripts_narrow params outer given ps os gs s.body.place.subscripts all b.0;
        right = right_narrow params outer given ps os gs s.body.right all b.1;
      },
    )

flagged : (flag t : Bool) → (if flag then t else true) ≡ true → flag ≡ true → t ≡ true
flagged true t e f = e
flagged false t e f = absurd (cc)

mutual
  tree_narrow : (program : Program) (t : Tree) (params outer : List ℤ) (ps os : List Range)
      → AreNames params outer ps os → fits_tree program ps os t ≡ true → IsNarrow program t params outer
  tree_narrow program (loop flag lo up body) params outer ps os h e =
      let rs = os ++ ps in
      let count = count_fits (lower_range lo rs) (upper_range up rs) in
      let x = loop_range lo up rs in
      let more = fits_trees program ps (os ++ x ∷ []) body in
      let next = fits_range (summed x (single (pos 1))) in
      let a = and_parts (bounds_fit lo ps os)
      (bounds_fit up ps os && ((if flag then count else true) && (next && more))) e in
      let b = and_parts (bounds_fit up ps os) ((if flag then count else true) && (next && more)) a.1 in
      let c = and_parts (if flag then count else true) (next && more) b.1 in
      let d = and_parts next more c.1 in
      let first = lower_lies lo params outer ps os h a.0 in
      let last = upper_lies up params outer ps os h b.0 in (
        bounds_narrow lo params outer ps os h a.0,
        bounds_narrow up params outer ps os h b.0,
        λ f. count_narrow (lower lo (outer ++ params)) (upper up (outer ++ params)) (lower_range lo rs)
            (upper_range up rs) first last (flagged flag count c.0 f),
        λ y within.
            let l = first.0 in let m = last.1 in let wl = within.0 in let wh = within.1 in
            let here : Lies y x = (omega (arith, ints, l, wl), omega (arith, ints, m, wh)) in (
              fits_lies (y +ℤ pos 1) (summed x (single (pos 1))) d.0
                  (summed_lies y (pos 1) x (single (pos 1)) here (single_lies (pos 1))),
              trees_narrow program body params (outer ++ y ∷ []) ps (os ++ x ∷ [])
                  (record {
                    params_lie = h.params_lie;
                    outer_lie = behind_lie outer (y ∷ []) os (x ∷ []) h.outer_lie (one_lies y x here);
                  }) d.1,
            ),
      )
  tree_narrow program (guard tests body) params outer ps os h e =
      let both = and_parts (tests_fit tests ps os) (fits_trees program ps os body) e in
      (tests_narrow tests params outer ps os h both.0, λ _. trees_narrow program body params outer ps os h both.1)
  tree_narrow program (instance n turns) params outer ps os h e =
      instance_narrow params outer ps os (slice_get (standings_of program) n) turns h e

  trees_narrow : (program : Program) (ts : Trees) (params outer : List ℤ) (ps os : List Range)
      → AreNames params outer ps os → fits_trees program ps os ts ≡ true → AreNarrow program ts params outer
  trees_narrow program none params outer ps os h e = tt
  trees_narrow program (more t ts) params outer ps os h e =
      let both = and_parts (fits_tree program ps os t) (fits_trees program ps os ts) e in
      (tree_narrow program t params outer ps os h both.0, trees_narrow program ts params outer ps os h both.1)

-- the parameters of a kernel
params_lie_in : (params : List ℤ) (names : List (List ℕ)) → length params ≡ length names → AreInRange params
    → LieIn params (map (λ (name : List ℕ). range (pos 0) (pos most_parameter)) names)
params_lie_in [] [] e h = tt
params_lie_in [] (name ∷ names) e h = absurd (omega (arith, e))
params_lie_in (p ∷ params) [] e h = absurd (omega (arith, e))
params_lie_in (p ∷ params) (name ∷ names) e h =
    (All-head IsInRange p params h, params_lie_in params names (omega (arith, e)) (All-tail IsInRange p params h))

pub fitting_narrow : (program : Program) (ts : Trees) (params : List ℤ) → HasParameters program params
    → fits_int64 program ts ≡ true → AreNarrow program ts params []
fitting_narrow program ts params has e =
    trees_narrow program ts params []
    (map (λ (name : List ℕ). range (pos 0) (pos most_parameter)) program.parameters) []
    (record { params_lie = params_lie_in params program.parameters has.count has.parameters; outer_lie = tt }) e
