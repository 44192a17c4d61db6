-- The product lies inside and within the limits.
use Rattle.scop_syntax.proofs.Common.{◌≡◌, ◌≤◌, ◌<◌, ◌+◌, ◌*◌, ◌^◌, List, [], ◌∷◌, ℕ, inl, inr, sym, subst, refl, arith}
use Rattle.scop_syntax.proofs.Common.{ℤ, pos, negsuc, ◌≤ℤ◌, ◌<ℤ◌, slice_index_or, codes, ints, Affine, form_of}
use Rattle.scop_syntax.proofs.Common.{value_of, Access, Statement, combined, plus, times, binary, read, In, Placed}
use Rattle.scop_syntax.proofs.Common.{in_loop_of, accesses, cell_of, AreWithin, IsCell, IsInside, layout, IsAccess}
use Rattle.scop_syntax.proofs.Common.{IsAffine, IsInRange, IsKernel, IsStatement, ranks_of, WithinLimits}
use Rattle.std.proofs.Math.Nat.{mul-le-mul_right}
use Rattle.kernel_gen.specs.Programs.{product, place, upwards, i_of_cube, j_of_cube, k_of_cube}
use Rattle.kernel_gen.proofs.Forms.{IsPositive, all_one, all_two, declared, in_order, is_form, is_head}
use Rattle.kernel_gen.proofs.Forms.{positive}
use Rattle.kernel_gen.proofs.InsideAccesses.{PlacedInside, inside_by}

-- a value from 0 to below n
abbrev IsBelow : ℕ → ℤ → Type 0
IsBelow n x = (pos 0 ≤ℤ x) × (x <ℤ pos n)

abbrev body : Statement
body =
    record {
      place = place 2 (i_of_cube ∷ j_of_cube ∷ []);
      right = combined plus (binary times (read (place 0 (i_of_cube ∷ k_of_cube ∷ [])))
          (read (place 1 (k_of_cube ∷ j_of_cube ∷ []))));
    }

-- two values below n are the subscripts of one of the arrays
both_within : (n : ℕ) (x y : ℤ) → IsBelow n x → IsBelow n y
    → AreWithin (x ∷ y ∷ []) (slice_index_or (layout product (pos n ∷ [])) 0 [])
both_within n x y below_x below_y =
    (omega (arith, ints), omega (arith, ints), (omega (arith, ints), omega (arith, ints), tt))

-- each access at iterators below N
abbrev AccessInside : ℕ → List ℤ → Access → Type 0
AccessInside n point access = IsCell (layout product (pos n ∷ [])) (cell_of access point)

cell_inside : (n : ℕ) (i j k : ℤ) → IsBelow n i → IsBelow n j → IsBelow n k → (access : Access)
    → In access (accesses body) → AccessInside n (pos n ∷ i ∷ j ∷ k ∷ []) access
cell_inside n i j k below_i below_j below_k access stands =
    let point = pos n ∷ i ∷ j ∷ k ∷ [] in
    let at_i : IsBelow n (value_of i_of_cube point) = (omega (arith, ints), omega (arith, ints)) in
    let at_j : IsBelow n (value_of j_of_cube point) = (omega (arith, ints), omega (arith, ints)) in
    let at_k : IsBelow n (value_of k_of_cube point) = (omega (arith, ints), omega (arith, ints)) in
    let c : AccessInside n point (place 2 (i_of_cube ∷ j_of_cube ∷ [])) =
    record { array = omega arith; subscripts = both_within n _ _ at_i at_j } in
    let a : AccessInside n point (place 0 (i_of_cube ∷ k_of_cube ∷ [])) =
    record { array = omega arith; subscripts = both_within n _ _ at_i at_k } in
    let b : AccessInside n point (place 1 (k_of_cube ∷ j_of_cube ∷ [])) =
    record { array = omega arith; subscripts = both_within n _ _ at_k at_j } in
    elim stands [
      | inl e ↦ subst (AccessInside n point) (sym e) c
      | inr (inl e) ↦ subst (AccessInside n point) (sym e) c
      | inr (inr (inl e)) ↦ subst (AccessInside n point) (sym e) a
      | inr (inr (inr (inl e))) ↦ subst (AccessInside n point) (sym e) b
      | inr (inr (inr (inr h))) ↦ absurd h
    ]

-- the statement within its loops
abbrev cube : Placed
cube = in_loop_of 0 (upwards (codes "i") (form_of (pos 0 ∷ []) (pos 0)) (form_of (pos 1 ∷ negsuc 0 ∷ []) (negsuc 0)))
    (in_loop_of 0 (upwards (codes "j") (form_of (pos 0 ∷ pos 0 ∷ []) (pos 0))
    (form_of (pos 1 ∷ pos 0 ∷ negsuc 0 ∷ []) (negsuc 0)))
    (in_loop_of 0 (upwards (codes "k") (form_of (pos 0 ∷ pos 0 ∷ pos 0 ∷ []) (pos 0))
    (form_of (pos 1 ∷ pos 0 ∷ pos 0 ∷ negsuc 0 ∷ []) (negsuc 0)))
    (record { number = 0; loops = []; scopes = []; body = body })))

-- the values of its iterators lie below N
cube_inside : (n : ℕ) → PlacedInside (layout product (pos n ∷ [])) (pos n ∷ []) cube
cube_inside n [] runs = absurd runs
cube_inside n (x ∷ []) runs = absurd runs.2
cube_inside n (x ∷ y ∷ []) runs = absurd runs.2.2
cube_inside n (x ∷ y ∷ z ∷ []) runs =
    let low_x = runs.0 in
    let high_x = runs.1 in
    let low_y = runs.2.0 in
    let high_y = runs.2.1 in
    let low_z = runs.2.2.0 in
    let high_z = runs.2.2.1 in
    cell_inside n _ _ _ (omega (arith, ints), omega (arith, ints)) (omega (arith, ints), omega (arith, ints))
    (omega (arith, ints), omega (arith, ints))
cube_inside n (x ∷ y ∷ z ∷ w ∷ xs) runs = absurd runs.2.2.2

pub product_inside : (n : ℕ) → IsInside product (pos n ∷ [])
product_inside n =
    inside_by product (pos n ∷ []) (λ p stands. elim stands [
      | inl e ↦ subst (PlacedInside (layout product (pos n ∷ [])) (pos n ∷ [])) (sym e) (cube_inside n)
      | inr h ↦ absurd h
    ])

abbrev names : List (List ℕ)
names = codes "A" ∷ codes "B" ∷ codes "C" ∷ []

abbrev side : Affine
side = form_of (pos 1 ∷ []) (pos 0)

-- N rows of N cells
abbrev extents : List Affine
extents = side ∷ side ∷ []

access_is : (array : ℕ) (f g : Affine) → array < 3 → slice_index_or (ranks_of product) array 0 ≡ 2 → IsAffine 4 f
    → IsAffine 4 g → IsAccess (ranks_of product) 4 (place array (f ∷ g ∷ []))
access_is array f g below rank is_f is_g =
    record { array = below; rank = sym rank; subscripts = all_two (IsAffine 4) f g is_f is_g }

body_is : IsStatement (ranks_of product) 4 body
body_is =
    let i = is_form 4 16 (2 ^ 20) i_of_cube refl in
    let j = is_form 4 16 (2 ^ 20) j_of_cube refl in
    let k = is_form 4 16 (2 ^ 20) k_of_cube refl in
    record {
      place = access_is 2 i_of_cube j_of_cube (omega arith) refl i j;
      right = (
        access_is 0 i_of_cube k_of_cube (omega arith) refl i k,
        access_is 1 k_of_cube j_of_cube (omega arith) refl k j,
      );
      few_reads = omega arith;
    }

product_is : IsKernel product
product_is =
    let is_side = is_form 1 16 (2 ^ 20) side refl in
    record {
      few_parameters = omega arith;
      few_arrays = omega arith;
      few_statements = omega arith;
      declarations = declared 1 1 names extents (omega arith) (omega arith) (omega arith)
          (all_two (IsAffine 1) side side is_side is_side);
      in_order = in_order 1 names extents;
      body = (
        (
          omega arith,
          is_head 1 (codes "i") _ _ (is_form 1 16 (2 ^ 20) _ refl) (is_form 2 16 (2 ^ 20 + 1) _ refl) refl,
          omega arith,
          (
            (
              omega arith,
              is_head 2 (codes "j") _ _ (is_form 2 16 (2 ^ 20) _ refl) (is_form 3 16 (2 ^ 20 + 1) _ refl) refl,
              omega arith,
              (
                (
                  omega arith,
                  is_head 3 (codes "k") _ _ (is_form 3 16 (2 ^ 20) _ refl) (is_form 4 16 (2 ^ 20 + 1) _ refl) refl,
                  omega arith,
                  (body_is, tt),
                ),
                tt,
              ),
            ),
            tt,
          ),
        ),
        tt,
      );
      widths = (((((refl, tt, tt), tt), tt), tt), tt);
    }

-- the cells of three squares
squares : (s : ℕ) → s ≤ 512 → s * (s * 1) + (s * (s * 1) + (s * (s * 1) + 0)) ≤ 2 ^ 22
squares s few =
    let rows : s * (s * 1) ≤ 512 * (s * 1) = mul-le-mul_right (s * 1) few in
    omega arith

pub product_within : (n : ℕ) → 1 ≤ n → n ≤ 512 → WithinLimits product (pos n ∷ [])
product_within n low high =
    let some : IsPositive (pos n ∷ []) side = omega (arith, ints) in
    record {
      kernel = product_is;
      count = refl;
      parameters = all_one IsInRange (pos n) (omega (arith, ints), omega (arith, ints));
      extents = positive 1 names extents (pos n ∷ []) (all_two (IsPositive (pos n ∷ [])) side side some some);
      cells = squares _ (omega arith);
    }
