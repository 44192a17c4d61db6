-- The sweeps lie inside and within the limits.
use Rattle.scop_syntax.proofs.Common.{◌+◌, ◌^◌, ◌≤◌, refl, List, [], ◌∷◌, ℕ, inl, inr, sym, subst, arith, ℤ, pos}
use Rattle.scop_syntax.proofs.Common.{negsuc, ◌≤ℤ◌, ◌<ℤ◌, codes, ints, Affine, form_of, Access, Statement, assigned}
use Rattle.scop_syntax.proofs.Common.{binary, plus, read, In, Placed, in_loop_of, accesses, cell_of, IsCell, IsInside}
use Rattle.scop_syntax.proofs.Common.{layout, IsAccess, IsAffine, IsInRange, IsKernel, IsStatement, ranks_of}
use Rattle.scop_syntax.proofs.Common.{WithinLimits}
use Rattle.kernel_gen.specs.Programs.{near, sweep, upwards}
use Rattle.kernel_gen.proofs.Forms.{IsPositive, all_one, all_two, declared, in_order, is_form, is_head}
use Rattle.kernel_gen.proofs.Forms.{positive}
use Rattle.kernel_gen.proofs.InsideAccesses.{PlacedInside, inside_by}

abbrev body : Statement
body = record {
  place = near (pos 0);
  right = assigned (binary plus (binary plus (read (near (negsuc 0))) (read (near (pos 0)))) (read (near (pos 1))));
}

abbrev at_size : ℕ → List ℤ
at_size n = pos n ∷ pos (n + 2) ∷ []

-- each access where the cell in the middle is neither the first nor the last
abbrev AccessInside : ℕ → List ℤ → Access → Type 0
AccessInside n point access = IsCell (layout sweep (at_size n)) (cell_of access point)

cell_inside : (n : ℕ) (t i : ℤ) → pos 1 ≤ℤ i → i <ℤ pos (n + 1) → (access : Access) → In access (accesses body)
    → AccessInside n (pos n ∷ pos (n + 2) ∷ t ∷ i ∷ []) access
cell_inside n t i low high access stands =
    let point = pos n ∷ pos (n + 2) ∷ t ∷ i ∷ [] in
    let left : AccessInside n point (near (negsuc 0)) =
    record { array = omega arith; subscripts = (omega (arith, ints), omega (arith, ints), tt) } in
    let middle : AccessInside n point (near (pos 0)) =
    record { array = omega arith; subscripts = (omega (arith, ints), omega (arith, ints), tt) } in
    let right : AccessInside n point (near (pos 1)) =
    record { array = omega arith; subscripts = (omega (arith, ints), omega (arith, ints), tt) } in
    elim stands [
      | inl e ↦ subst (AccessInside n point) (sym e) middle
      | inr (inl e) ↦ subst (AccessInside n point) (sym e) left
      | inr (inr (inl e)) ↦ subst (AccessInside n point) (sym e) middle
      | inr (inr (inr (inl e))) ↦ subst (AccessInside n point) (sym e) right
      | inr (inr (inr (inr h))) ↦ absurd h
    ]

-- the statement within its loops
abbrev line : Placed
line = in_loop_of 0 (upwards (codes "t") (form_of (pos 0 ∷ pos 0 ∷ []) (pos 0))
    (form_of (pos 1 ∷ pos 0 ∷ negsuc 0 ∷ []) (negsuc 0)))
    (in_loop_of 0 (upwards (codes "i") (form_of (pos 0 ∷ pos 0 ∷ pos 0 ∷ []) (pos 1))
    (form_of (pos 0 ∷ pos 1 ∷ pos 0 ∷ negsuc 0 ∷ []) (negsuc 1)))
    (record { number = 0; loops = []; scopes = []; body = body }))

line_inside : (n : ℕ) → PlacedInside (layout sweep (at_size n)) (at_size n) line
line_inside n [] runs = absurd runs
line_inside n (x ∷ []) runs = absurd runs.2
line_inside n (x ∷ y ∷ []) runs =
    let low = runs.2.0 in
    let high = runs.2.1 in
    cell_inside n _ _ (omega (arith, ints)) (omega (arith, ints))
line_inside n (x ∷ y ∷ z ∷ xs) runs = absurd runs.2.2

pub sweep_inside : (n : ℕ) → IsInside sweep (pos n ∷ pos (n + 2) ∷ [])
sweep_inside n =
    inside_by sweep (at_size n) (λ p stands. elim stands [
      | inl e ↦ subst (PlacedInside (layout sweep (at_size n)) (at_size n)) (sym e) (line_inside n)
      | inr h ↦ absurd h
    ])

abbrev names : List (List ℕ)
names = codes "A" ∷ []

abbrev length_of_line : Affine
length_of_line = form_of (pos 0 ∷ pos 1 ∷ []) (pos 0)

abbrev extents : List Affine
extents = length_of_line ∷ []

near_is : (shift : ℤ) → IsAffine 4 (form_of (pos 0 ∷ pos 0 ∷ pos 0 ∷ pos 1 ∷ []) shift)
    → IsAccess (ranks_of sweep) 4 (near shift)
near_is shift is = record { array = omega arith; rank = refl; subscripts = all_one (IsAffine 4) _ is }

body_is : IsStatement (ranks_of sweep) 4 body
body_is =
    let left = near_is (negsuc 0) (is_form 4 16 (2 ^ 20) _ refl) in
    let middle = near_is (pos 0) (is_form 4 16 (2 ^ 20) _ refl) in
    let right = near_is (pos 1) (is_form 4 16 (2 ^ 20) _ refl) in
    record { place = middle; right = ((left, middle), right); few_reads = omega arith }

sweep_is : IsKernel sweep
sweep_is =
    record {
      few_parameters = omega arith;
      few_arrays = omega arith;
      few_statements = omega arith;
      declarations = declared 2 2 names extents (omega arith) (omega arith) (omega arith)
          (all_one (IsAffine 2) length_of_line (is_form 2 16 (2 ^ 20) length_of_line refl));
      in_order = in_order 2 names extents;
      body = (
        (
          omega arith,
          is_head 2 (codes "t") _ _ (is_form 2 16 (2 ^ 20) _ refl) (is_form 3 16 (2 ^ 20 + 1) _ refl) refl,
          omega arith,
          (
            (
              omega arith,
              is_head 3 (codes "i") _ _ (is_form 3 16 (2 ^ 20) _ refl) (is_form 4 16 (2 ^ 20 + 1) _ refl) refl,
              omega arith,
              (body_is, tt),
            ),
            tt,
          ),
        ),
        tt,
      );
      widths = ((((refl, (refl, tt, tt), tt), tt), tt), tt);
    }

pub sweep_within : (n : ℕ) → n ≤ 512 → WithinLimits sweep (pos n ∷ pos (n + 2) ∷ [])
sweep_within n high =
    let some : IsPositive (at_size n) length_of_line = omega (arith, ints) in
    record {
      kernel = sweep_is;
      count = refl;
      parameters = all_two IsInRange (pos n) (pos (n + 2)) (omega (arith, ints), omega (arith, ints))
          (omega (arith, ints), omega (arith, ints));
      extents = positive 2 names extents (at_size n) (all_one (IsPositive (at_size n)) length_of_line some);
      cells = omega arith;
    }
