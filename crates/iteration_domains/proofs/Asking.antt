-- The systems of the index check can be written for each statement of a kernel within the limits.
use Rattle.scop_syntax.proofs.Common.{ℕ, ◌+◌, ◌^◌, ◌≤◌, ℤ, pos, negsuc, List, [], ◌∷◌, length, map, subst, sym, ◌∙◌}
use Rattle.scop_syntax.proofs.Common.{arith, ◌≤ℤ◌, All, ints, length-map, All-nil, All-cons, All-head, All-tail}
use Rattle.scop_syntax.proofs.Common.{get_or_from_slice_get, Affine, composed, value_of, get_map, accesses, values}
use Rattle.scop_syntax.proofs.Common.{layout, size_of, IsAccess, IsPlaced, ranks_of, WithinLimits, In, Placed, loops_in}
use Rattle.scop_syntax.proofs.Common.{statements_of, Access, Declaration, Program, all_in, in_from_place, in_map}
use Rattle.scop_syntax.proofs.Common.{in_map_from}
use Rattle.iteration_domains.specs.Model.{Modelled, access_over, model_of, modelled}
use Rattle.iteration_domains.specs.Rows.{point_forms, variables_of_statement}
use Rattle.iteration_domains.specs.steps.Asking.{CanAsk, CanAskAll, IsExtent}
use Rattle.iteration_domains.proofs.TreeStatements.{statement_accesses}
use Rattle.iteration_domains.proofs.NarrowStatements.{placed_narrow}

-- extents within the limits
extent_is : (z : ℤ) → pos 1 ≤ℤ z → size_of z ≤ 2 ^ 22 → (pos 0 ≤ℤ z) × (z ≤ℤ pos (2 ^ 22))
extent_is (pos n) low high = (omega (arith, ints), omega (arith, ints))
extent_is (negsuc n) low high = absurd (omega (arith, ints))

extents_are : (forms : List Affine) (params : List ℤ) → All (λ form. pos 1 ≤ℤ value_of form params) forms
    → All (λ e. (1 ≤ e) × (e ≤ 2 ^ 22)) (map size_of (values forms params)) → All (IsExtent params) forms
extents_are [] params low high = All-nil (IsExtent params)
extents_are (f ∷ fs) params low high =
    let L : Affine → Type 0 = λ form. pos 1 ≤ℤ value_of form params in
    let H : ℕ → Type 0 = λ e. (1 ≤ e) × (e ≤ 2 ^ 22) in
    let rest = map size_of (values fs params) in
    All-cons (IsExtent params) f fs
    (extent_is (value_of f params) (All-head L f fs low) (All-head H (size_of (value_of f params)) rest high).1)
    (extents_are fs params (All-tail L f fs low) (All-tail H (size_of (value_of f params)) rest high))

-- the accesses of a statement
accesses_can : (program : Program) (params : List ℤ) (m n : ℕ) (p : Placed) (fs : List Access)
    → WithinLimits program params
    → All (λ extents. All (λ e. (1 ≤ e) × (e ≤ 2 ^ 22)) extents) (layout program params)
    → All (IsAccess (ranks_of program) n) fs → All (CanAsk program.arrays params) (map (access_over m p) fs)
accesses_can program params m n p [] limits sizes all = All-nil (CanAsk program.arrays params)
accesses_can program params m n p (f ∷ fs) limits sizes all =
    let own = All-head (IsAccess (ranks_of program) n) f fs all in
    let g = access_over m p f in
    let ranks = length-map program.arrays (λ (d : Declaration). length d.extents) in
    let count = length-map f.subscripts (λ form. composed form (point_forms m p) (variables_of_statement m p)) in
    let size : Declaration → List ℕ = λ d. map size_of (values d.extents params) in
    let named = own.array in
    All-cons (CanAsk program.arrays params) g (map (access_over m p) fs)
    (record {
      array = omega (arith, named, ranks);
      rank = λ d at. count
          ∙ (own.rank
          ∙ get_or_from_slice_get (ranks_of program) f.array (length d.extents) 0
          (get_map (λ (e : Declaration). length e.extents) program.arrays f.array d at));
      extents = λ d at.
          let among = in_from_place program.arrays f.array d at in
          extents_are d.extents params
          (all_in (λ (e : Declaration). All (λ form. pos 1 ≤ℤ value_of form params) e.extents) program.arrays d
          limits.extents among)
          (all_in (λ (es : List ℕ). All (λ e. (1 ≤ e) × (e ≤ 2 ^ 22)) es) (layout program params) (size d) sizes
          (in_map size d program.arrays among));
    })
    (accesses_can program params m n p fs limits sizes (All-tail (IsAccess (ranks_of program) n) f fs all))

pub statement_can : (program : Program) (params : List ℤ) (s : Modelled) → WithinLimits program params
    → All (λ extents. All (λ e. (1 ≤ e) × (e ≤ 2 ^ 22)) extents) (layout program params)
    → ((p : Placed) → In p (statements_of program) → IsPlaced (ranks_of program) (length program.parameters) p)
    → In s (model_of program).statements → CanAskAll program.arrays params s
statement_can program params s limits sizes placed stands =
    let m = length program.parameters in
    let from = in_map_from (modelled m) s (statements_of program) stands in
    let p = from.0 in
    let is = placed p from.1 in
    let d = loops_in p.scopes in
    let few = is.few_loops in
    let four = limits.kernel.few_parameters in
    let count = limits.count in
    let narrow = placed_narrow (ranks_of program) m p four is in
    subst (CanAskAll program.arrays params) (sym from.2)
    (record {
      few = few;
      few_parameters = omega arith;
      parameters = sym count;
      values = limits.parameters;
      equalities = narrow.equalities;
      rows = narrow.rows;
      accesses = accesses_can program params m (m + d) p (accesses p.body) limits sizes
          (statement_accesses (ranks_of program) (m + d) p.body is.body);
    })
