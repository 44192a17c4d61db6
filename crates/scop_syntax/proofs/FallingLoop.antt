-- The worked loop that falls by two is a kernel within the limits.
use Rattle.whole_numbers.proofs.Common.{◌^◌, ℤ, pos, negsuc, [], ◌∷◌, inr, refl, arith, ◌≤ℤ◌, All, ints, All-nil}
use Rattle.whole_numbers.proofs.Common.{All-cons, Affine, value_of}
use Rattle.scop_syntax.specs.Tree.{Declaration}
use Rattle.scop_syntax.specs.Kernel.{IsForm, IsAffine, IsAccess, IsDeclaration, IsKernel}
use Rattle.scop_syntax.specs.Examples.{form, at, four_cells, falling_by_two}
use Rattle.scop_syntax.specs.Limits.{IsInRange, WithinLimits}

-- a subscript of the loop
subscript : (k : ℤ) → IsForm 1 16 (2 ^ 20) (form (pos 1 ∷ []) k) → IsAccess (1 ∷ []) 1 (at k)
subscript k is =
    record {
      array = omega arith;
      rank = refl;
      subscripts = All-cons (IsAffine 1) (form (pos 1 ∷ []) k) [] is
          (All-nil (IsAffine 1));
    }

-- the loop is a kernel
kernel : IsKernel falling_by_two
kernel =
    record {
      few_parameters = omega arith;
      few_arrays = omega arith;
      few_statements = omega arith;
      declarations = All-cons (IsDeclaration 0) four_cells []
          (record {
            place = omega arith;
            some = omega arith;
            few = omega arith;
            extents =
                All-cons (IsAffine 0) (form [] (pos 4)) []
                (record { entries = refl; coefficients = tt; constant = omega arith }) (All-nil (IsAffine 0));
          }) (All-nil (IsDeclaration 0));
      in_order = ((λ e h. absurd h), tt);
      body = (
        (
          omega arith,
          record {
            first = record { entries = refl; coefficients = tt; constant = omega arith };
            condition = record { entries = refl; coefficients = (omega arith, tt); constant = omega arith };
            stride = omega arith;
            direction = inr (refl, omega (arith, ints));
          },
          omega arith,
          (
            record {
              place =
                  subscript (pos 0) (record {
                    entries = refl;
                    coefficients = (omega arith, tt);
                    constant = omega arith;
                  });
              right =
                  subscript (negsuc 0) (record {
                    entries = refl;
                    coefficients =
                        (omega arith, tt);
                    constant = omega arith;
                  });
              few_reads = omega arith;
            },
            tt,
          ),
        ),
        tt,
      );
      widths = ((tt, tt), tt);
    }

-- all its limits hold
pub falling : WithinLimits falling_by_two []
falling =
    record {
      kernel = kernel;
      count = refl;
      parameters = All-nil IsInRange;
      extents = All-cons (λ (d : Declaration). All (λ form. pos 1 ≤ℤ value_of form []) d.extents) four_cells []
          (All-cons (λ form. pos 1 ≤ℤ value_of form []) (form [] (pos 4)) [] (omega (arith, ints))
          (All-nil (λ (form : Affine). pos 1 ≤ℤ value_of form [])))
          (All-nil (λ (d : Declaration). All (λ form. pos 1 ≤ℤ value_of form []) d.extents));
      cells = omega arith;
    }
