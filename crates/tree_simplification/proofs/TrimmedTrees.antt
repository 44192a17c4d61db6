-- A tree without what is implied visits what it visits, and is like it.
use Rattle.tree_simplification.proofs.Common.{◌≡◌, ℕ, ◌+◌, ◌^◌, ◌<◌, inl, inr, ℤ, List, [], ◌∷◌, ◌++◌, length, map}
use Rattle.tree_simplification.proofs.Common.{subst, ap, ◌∙◌, refl, arith, Bool, true, false, ⊤, All-nil, Affine}
use Rattle.tree_simplification.proofs.Common.{Instance, variables_of, AreInRange, AreSmallTrees, AreBounds, FlatAll}
use Rattle.tree_simplification.proofs.Common.{Conflict, TreesAreOver, TreesAreUpTo, Bound, Bounds, Trees, only, besides}
use Rattle.tree_simplification.proofs.Common.{shown, Context, Meets, OnSide, TrimsSide, outside, parts, IsInlined}
use Rattle.tree_simplification.proofs.Common.{Among, TrimsAll, TrimsBounds}
use Rattle.scop_syntax.proofs.Sizes.{size_params}
use Rattle.loop_tree.proofs.Fits.{small_fits_all}
use Rattle.loop_tree.proofs.LargerBounds.{trees_more}
use Rattle.tree_simplification.specs.Simplified.{Simplifies}
use Rattle.tree_simplification.specs.steps.Trimmed.{IsTrimmed}
use Rattle.tree_simplification.proofs.Contexts.{high_from, high_to, low_from, low_to}
use Rattle.tree_simplification.proofs.Shapes.{alike_all, bounds_flat}
use Rattle.tree_simplification.proofs.Once.{on_member}
use Rattle.tree_simplification.proofs.Walks.{Agrees, agree_all, stays_all}

-- there is always a part
pub some_part : (bs : Bounds) → 0 < length (parts bs)
some_part (only b) = omega arith
some_part (besides b bs) = omega arith

-- some parts of a side
on_among : (turned : Bool) (kept bs : List Bound) (point : List ℤ) (x : ℤ) → Among kept bs → OnSide turned bs point x
    → OnSide turned kept point x
on_among turned [] bs point x among on = tt
on_among turned (a ∷ kept) bs point x among on =
    (on_member turned a bs point x (among a (inl refl)) on, on_among turned kept bs point x (λ b i. among b (inr i)) on)

-- both sides, the lower one first
pub trims_both : (c : Context) (lo up low high : Bounds) → AreBounds lo → AreBounds up
    → TrimsSide c true (parts lo) (parts up) (parts low) → TrimsSide c false (parts up) (parts low) (parts high)
    → TrimsBounds c lo up low high
trims_both c lo up low high flat_lo flat_up f g =
    let flat_low = bounds_flat lo low f.among flat_lo in
    let flat_high = bounds_flat up high g.among flat_up in
    record {
      lower_parts = f.among;
      upper_parts = g.among;
      values = λ params outer m x.
          let point = outer ++ params in (
            (λ w. (
              low_from low point x flat_low
                  (on_among true (parts low) (parts lo) point x f.among (low_to lo point x flat_lo w.0)),
              high_from high point x flat_high
                  (on_among false (parts high) (parts up) point x g.among (high_to up point x flat_up w.1)),
            )),
            (λ w.
                let above = low_to low point x flat_low w.0 in
                let below = g.implied params outer m x (high_to high point x flat_high w.1) above in (
                  low_from lo point x flat_lo (f.implied params outer m x above below),
                  high_from up point x flat_up below,
                )),
          );
    }

-- at no loop only parameters are known
meets_outside : (parameters : ℕ) (params : List ℤ) → length params ≡ parameters → AreInRange params
    → Meets (outside parameters) params []
meets_outside parameters params e range =
    record { loops_are = refl; parameters_are = e; range = range; whole = λ _. tt; inside = tt }

-- what is left at no loop visits what all visits, and is like it
pub trimmed_is : (parameters : ℕ) (old new : Trees) → FlatAll old → TreesAreOver parameters old
    → TrimsAll (outside parameters) old new → IsTrimmed parameters old new
trimmed_is parameters old new flat over trims =
    let alike = alike_all (outside parameters) old new trims in
    let sized = All-nil (λ (f : Affine). variables_of f ≡ 0 + parameters) in
    let total : parameters ≡ 0 + parameters = omega arith in
    let sized_over = subst (λ k. TreesAreOver k old) total over in
    let agrees : (C : Instance → Instance → Type 0) (params : List ℤ) → length params ≡ parameters → AreInRange params
    → Agrees C params [] old new =
    λ C params e range. agree_all C (outside parameters) old new params [] trims sized sized_over flat
    (meets_outside parameters params e range) in
    record {
      walk = λ params e range. (agrees (λ x y. ⊤) params e range).visits;
      free = λ program params e range. (agrees (Conflict program params) params e range).free;
      fits = λ params e range. (agrees (λ x y. ⊤) params e range).fits;
      serial = alike.serial;
      flat = alike.flat flat;
      statements = alike.statements;
      over = alike.over parameters over;
      small = alike.small;
      nested = alike.nested;
    }

-- trees that are trimmed, and not inlined before
pub trimmed_alone : (parameters d : ℕ) (old new : Trees) → parameters < 2 ^ 32 → d < 2 ^ 32 → AreSmallTrees d old
    → TreesAreUpTo (2 ^ 40) old → IsTrimmed parameters old new → Simplifies parameters old new
trimmed_alone parameters d old new few less small numbers t =
    record {
      shown = λ params count range. ap (map shown) (t.walk params count range);
      free = t.free;
      fits = λ params e range.
          let s = size_params params range in
          t.fits params e range (small_fits_all d old params [] small (omega (arith, s, e, few, less)));
      serial = t.serial;
      flat = λ f. t.flat;
      statements = t.statements;
      over = t.over;
      small = t.small (2 ^ 45) (trees_more (2 ^ 40) (2 ^ 45) old (omega arith) numbers);
      nested = t.nested;
    }

-- and inlined before
pub trimmed_inlined : (parameters d : ℕ) (old middle new : Trees) → FlatAll old → AreSmallTrees d old
    → IsInlined parameters old middle → IsTrimmed parameters middle new → Simplifies parameters old new
trimmed_inlined parameters d old middle new flat small i t =
    record {
      shown = λ params count range. ap (map shown) (t.walk params count range) ∙ i.alike params count;
      free = λ program params count range h. t.free program params count range (i.free program params count h);
      fits = λ params count range.
          t.fits params count range (i.fits params count range (stays_all d old params [] small flat));
      serial = λ h. t.serial (i.serial h);
      flat = λ h. t.flat;
      statements = λ program h. t.statements program (i.statements program h);
      over = t.over;
      small = t.small (2 ^ 45) i.small;
      nested = λ n h. t.nested n (i.nested n h);
    }
