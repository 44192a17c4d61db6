-- What the answer of a question means, for any number of parameters.
use Rattle.scop_syntax.proofs.Common.{◌≡◌, ℕ, ◌+◌, ℤ, pos, List, [], ◌∷◌, ◌++◌, length, All, arith}
use Rattle.scop_syntax.proofs.Common.{All-nil, Affine, value_of}
use Rattle.scop_syntax.proofs.Common.{not_negative-append, not_negative_all, params_not_negative, range_high}
use Rattle.affine_forms.specs.Parts.{variables_of}
use Rattle.integer_sets.specs.Constraints.{IsSized, system_of}
use Rattle.pip_solver.specs.Emptiness.{IsBoundedPoint}
use Rattle.fm_projection.proofs.Ranges.{fitted, fitted_length, fitted_range, satisfies_fitted}
use Rattle.plain_scan.proofs.ConstraintLists.{of_rows}
use Rattle.plain_scan.proofs.Pieces.{all_append}
use Rattle.split_scan.specs.steps.Questions.{AreNatural, HasNone, IsVoid}
use Rattle.split_scan.proofs.Values.{one_size, one_point}

-- a system that has no bounded point has none for parameters in range, whatever their number
pub none_of : (d p : ℕ) (fs : List Affine) → All (λ f. variables_of f ≡ d + p) fs
    → ((x q : List ℤ) → IsBoundedPoint (system_of d p [] fs) x q → ⊥) → HasNone d fs
none_of d p fs sized none params point range size natural hold =
    let s = system_of d p [] fs in
    let q = fitted p params in
    let count = fitted_length p params in
    let within = fitted_range p params range in
    let all : IsSized (length point + p) [] fs = record {
      equalities_sized = All-nil (λ f. variables_of f ≡ length point + p);
      rows_sized = λ k e inside. let n = sized k e inside in omega (arith, n, size);
    } in
    none point q (record {
      dimensions = size;
      parameters = count;
      not_negative = not_negative-append point q natural (params_not_negative q within);
      bounded = range_high q within;
      inside = satisfies_fitted s point params p all (
        All-nil (λ f. value_of f (point ++ params) ≡ pos 0),
        of_rows fs
            (point ++ params) hold,
      );
    })

-- rows without a point are void in a node whose values are not negative
pub void_of : (m : ℕ) (inside cuts : List Affine) → AreNatural (m + 1) inside → HasNone (m + 1) (inside ++ cuts)
    → IsVoid m inside cuts
void_of m inside cuts natural none params outer x at hold =
    let point = outer ++ x ∷ [] in
    let size : length point ≡ m + 1 = one_size outer x m at.size in
    let in_rows = one_point inside outer x params at.hold in
    let cut_rows = one_point cuts outer x params hold in
    none params point at.parameters size ((not_negative_all point).1 (natural params point at.parameters size in_rows))
    (all_append inside cuts (point ++ params) in_rows cut_rows)
