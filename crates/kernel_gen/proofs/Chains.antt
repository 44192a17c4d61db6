-- A chain lies inside and within the limits: its digits are below 4.
use Rattle.scop_syntax.proofs.Common.{◌≡◌, ◌∙◌, ap, ◌+◌, ◌*◌, ◌^◌, ◌<◌, ◌≤◌, List, [], ◌∷◌, ℕ, zero, suc, inl, inr, sym}
use Rattle.scop_syntax.proofs.Common.{subst, refl, map, arith, Bool, false, ℤ, pos, negsuc, ◌≤ℤ◌, ◌<ℤ◌, codes}
use Rattle.scop_syntax.proofs.Common.{slice_index_or, range_with_len, ints, Affine, form_of, value_of, Access}
use Rattle.scop_syntax.proofs.Common.{Statement, combined, plus, read, trees_of, In, statements_in_all, Placed}
use Rattle.scop_syntax.proofs.Common.{in_loop_of, placed_all, accesses, cell_of, AreWithin, IsCell, IsInside, layout}
use Rattle.scop_syntax.proofs.Common.{size_of, in_append, in_map_from, AreTrees, HasWidth, IsAccess, IsAffine, IsKernel}
use Rattle.scop_syntax.proofs.Common.{IsInRange, KeepWidths, WithinLimits}
use Rattle.kernel_gen.specs.Programs.{chain, chain_body, chained, digit, linked, upwards}
use Rattle.kernel_gen.proofs.Forms.{IsPositive, all_one, declared, in_order, is_form, is_head, positive}
use Rattle.kernel_gen.proofs.InsideAccesses.{PlacedInside, inside_by}

digit_small : (seed at : ℕ) → digit seed at < 4
unfolding digit
digit_small seed at = omega arith

-- each of four alike
one_of_four : {A : Type 0} (x other : A) (a : ℕ) → a < 4 → slice_index_or (x ∷ x ∷ x ∷ x ∷ []) a other ≡ x
one_of_four x other zero below = refl
one_of_four x other (suc zero) below = refl
one_of_four x other (suc (suc zero)) below = refl
one_of_four x other (suc (suc (suc zero))) below = refl
one_of_four x other (suc (suc (suc (suc a)))) below = absurd (omega arith)

abbrev body : ℕ → ℕ → Statement
body seed k = record { place = linked seed (4 * k); right = combined plus (read (linked seed (4 * k + 2))) }

-- a statement of the loop's body, by its number there
abbrev link : ℕ → ℕ → ℕ → Placed
link seed number k = record { number = number; loops = []; scopes = []; body = body seed k }

link_of : (seed : ℕ) (ks : List ℕ) (m : ℕ) (p : Placed) → In p (placed_all (trees_of (map (chained seed) ks)) m)
    → (number : ℕ) × (k : ℕ) × (p ≡ link seed number k)
link_of seed [] m p stands = absurd stands
link_of seed (k ∷ ks) m p (inl e) = (m, k, e)
link_of seed (k ∷ ks) m p (inr h) = link_of seed ks (m + 1) p h

-- N + 4
abbrev length_of_line : Affine
length_of_line = form_of (pos 1 ∷ []) (pos 4)

-- the extents of each array
abbrev row : ℕ → List ℕ
row n = size_of (value_of length_of_line (pos n ∷ [])) ∷ []

abbrev AccessInside : ℕ → ℕ → List ℤ → Access → Type 0
AccessInside seed n point access = IsCell (layout (chain seed) (pos n ∷ [])) (cell_of access point)

linked_inside : (seed n at : ℕ) (i : ℤ) → pos 0 ≤ℤ i → i <ℤ pos n
    → AccessInside seed n (pos n ∷ i ∷ []) (linked seed at)
linked_inside seed n at i low high =
    let small = digit_small seed at in
    let shift = digit_small seed (at + 1) in
    let cell = cell_of (linked seed at) (pos n ∷ i ∷ []) in
    record {
      array = omega arith;
      subscripts = subst (AreWithin cell.subscripts) (sym (one_of_four (row n) [] (digit seed at) small))
          (omega (arith, ints), omega (arith, ints), tt);
    }

link_inside : (seed n k : ℕ) (i : ℤ) → pos 0 ≤ℤ i → i <ℤ pos n → (access : Access) → In access (accesses (body seed k))
    → AccessInside seed n (pos n ∷ i ∷ []) access
link_inside seed n k i low high access stands =
    let point = pos n ∷ i ∷ [] in
    let place = linked_inside seed n (4 * k) i low high in
    let value = linked_inside seed n (4 * k + 2) i low high in
    elim stands [
      | inl e ↦ subst (AccessInside seed n point) (sym e) place
      | inr (inl e) ↦ subst (AccessInside seed n point) (sym e) place
      | inr (inr (inl e)) ↦ subst (AccessInside seed n point) (sym e) value
      | inr (inr (inr h)) ↦ absurd h
    ]

-- a statement within the loop
abbrev in_chain : Placed → Placed
in_chain =
    in_loop_of 0 (upwards (codes "i") (form_of (pos 0 ∷ []) (pos 0)) (form_of (pos 1 ∷ negsuc 0 ∷ []) (negsuc 0)))

placed_inside : (seed n number k : ℕ)
    → PlacedInside (layout (chain seed) (pos n ∷ [])) (pos n ∷ []) (in_chain (link seed number k))
placed_inside seed n number k [] runs = absurd runs
placed_inside seed n number k (x ∷ []) runs =
    let low = runs.0 in
    let high = runs.1 in
    link_inside seed n k _ (omega (arith, ints)) (omega (arith, ints))
placed_inside seed n number k (x ∷ y ∷ xs) runs = absurd runs.2

pub chain_inside : (seed n : ℕ) → IsInside (chain seed) (pos n ∷ [])
unfolding chain_body
chain_inside seed n =
    inside_by (chain seed) (pos n ∷ []) (λ p stands. elim
    (in_append p (map in_chain (placed_all (chain_body seed) 0)) [] stands) [
      | inl h ↦ let q = in_map_from in_chain p (placed_all (chain_body seed) 0) h in
          let found = link_of seed (range_with_len 0 8) 0 q.0 q.1 in
          let is : p ≡ in_chain (link seed found.0 found.1) = q.2 ∙ ap in_chain found.2 in
          subst (PlacedInside (layout (chain seed) (pos n ∷ [])) (pos n ∷ [])) (sym is)
          (placed_inside seed n found.0 found.1)
      | inr h ↦ absurd h
    ])

abbrev names : List (List ℕ)
names = codes "A0" ∷ codes "A1" ∷ codes "A2" ∷ codes "A3" ∷ []

abbrev extents : List Affine
extents = length_of_line ∷ []

abbrev ranks : List ℕ
ranks = 1 ∷ 1 ∷ 1 ∷ 1 ∷ []

linked_is : (seed at : ℕ) → IsAccess ranks 2 (linked seed at)
linked_is seed at =
    let small = digit_small seed at in
    let shift = digit_small seed (at + 1) in
    record {
      array = omega arith;
      rank = sym (one_of_four 1 0 (digit seed at) small);
      subscripts = all_one (IsAffine 2) _ (record {
        entries = refl;
        coefficients = (omega arith, (omega arith, tt));
        constant = omega arith;
      });
    }

links_are : (seed : ℕ) (ks : List ℕ) → AreTrees ranks 2 4 16 (trees_of (map (chained seed) ks))
links_are seed [] = tt
links_are seed (k ∷ ks) = (
  record { place = linked_is seed (4 * k); right = linked_is seed (4 * k + 2); few_reads = omega arith },
  links_are seed ks,
)

eight : (seed : ℕ) → statements_in_all (chain_body seed) ≡ 8
unfolding chain_body
eight seed = refl

body_is : (seed : ℕ) → AreTrees ranks 2 4 16 (chain_body seed)
unfolding chain_body
body_is seed = links_are seed (range_with_len 0 8)

-- each place has 64 bits, whichever array it lies in
abbrev widths : List Bool
widths = false ∷ false ∷ false ∷ false ∷ []

links_keep : (seed : ℕ) (ks : List ℕ) → KeepWidths widths (trees_of (map (chained seed) ks))
links_keep seed [] = tt
links_keep seed (k ∷ ks) =
    let full = one_of_four false false (digit seed (4 * k)) (digit_small seed (4 * k)) in
    (subst (λ (narrow : Bool). HasWidth widths narrow (body seed k).right) (sym full) tt, links_keep seed ks)

body_keeps : (seed : ℕ) → KeepWidths widths (chain_body seed)
unfolding chain_body
body_keeps seed = links_keep seed (range_with_len 0 8)

chain_is : (seed : ℕ) → IsKernel (chain seed)
chain_is seed =
    let statements = eight seed in
    record {
      few_parameters = omega arith;
      few_arrays = omega arith;
      few_statements = omega arith;
      declarations = declared 1 1 names extents (omega arith) (omega arith) (omega arith)
          (all_one (IsAffine 1) length_of_line (is_form 1 16 (2 ^ 20) length_of_line refl));
      in_order = in_order 1 names extents;
      body = (
        (
          omega arith,
          is_head 1 (codes "i") _ _ (is_form 1 16 (2 ^ 20) _ refl) (is_form 2 16 (2 ^ 20 + 1) _ refl) refl,
          omega arith,
          body_is seed,
        ),
        tt,
      );
      widths = (body_keeps seed, tt);
    }

pub chain_within : (seed n : ℕ) → n ≤ 512 → WithinLimits (chain seed) (pos n ∷ [])
chain_within seed n high =
    let some : IsPositive (pos n ∷ []) length_of_line = omega (arith, ints) in
    record {
      kernel = chain_is seed;
      count = refl;
      parameters = all_one IsInRange (pos n) (omega (arith, ints), omega (arith, ints));
      extents = positive 1 names extents (pos n ∷ []) (all_one (IsPositive (pos n ∷ [])) length_of_line some);
      cells = omega arith;
    }
