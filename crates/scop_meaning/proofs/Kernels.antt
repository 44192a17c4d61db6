-- What a kernel within the limits brings to a run of it.
use Rattle.std.proofs.Common.{
  ◌≡◌,
  ℕ,
  zero,
  suc,
  ◌<◌,
  ◌≤◌,
  ◌^◌,
  List,
  [],
  ◌∷◌,
  length,
  map,
  get_or,
  fold,
  ap,
  ap₂,
  subst,
  sym,
  ◌∙◌,
  refl,
  arith,
}
use Rattle.scop_syntax.proofs.Common.{ℤ, All, length-map, value_of, Declaration, Program, In, walk_of, Act, act_of}
use Rattle.scop_syntax.proofs.Common.{acts_all, accesses, values, IsInside, IsShaped, cell_count, exec, layout, size_of}
use Rattle.scop_syntax.proofs.Common.{AreTrees, ranks_of, WithinLimits, in_map_from}
use Rattle.std.proofs.lemmas.List.Folds.{fold-map}
use Rattle.scop_syntax.specs.Execution.{performed_by}
use Rattle.scop_syntax.specs.Fits.{FitsAll}
use Rattle.scop_syntax.proofs.Acts.{whole_walk_acts}
use Rattle.scop_meaning.specs.steps.Conditions.{ActsAreInside, AreCells, CanCheck, CanRun, CanWalk, ran}

kernel_walks : (p : Program) (params : List ℤ) → WithinLimits p params → FitsAll p.body params
    → CanWalk 9 (ranks_of p) p.body params
kernel_walks p params w fits =
    let few = w.kernel.few_parameters in
    let same = w.count in
    record {
      loops = 5;
      comparisons = 16;
      formed = subst (λ n. AreTrees (ranks_of p) n 5 16 p.body) (sym same) w.kernel.body;
      space = omega arith;
      numbers = fits;
    }

-- an array that is not there has one cell in the definition
few_cells : (es : List (List ℕ)) → All (λ e. cell_count e ≤ 2 ^ 22) es → (a : ℕ) → cell_count (get_or es a []) < 2 ^ 64
few_cells [] h a = omega arith
few_cells (e ∷ es) h zero = let b = h 0 [] (omega arith) in omega arith
few_cells (e ∷ es) h (suc a) = few_cells es (λ k d g. h (suc k) d (omega arith)) a

acts_inside : (p : Program) (params : List ℤ) → IsInside p params
    → ActsAreInside (layout p params) (acts_all p.body params)
acts_inside p params inside a h =
    let there = subst (In a) (sym (whole_walk_acts p.body 0 params)) h in
    let v = in_map_from act_of a (walk_of p params) there in
    subst (λ (b : Act). AreCells (layout p params) b.point (accesses b.body)) (sym v.2)
    (record { each = inside v.0 v.1 })

pub kernel_runs : (p : Program) (params : List ℤ) (contents : List (List ℕ)) → WithinLimits p params
    → FitsAll p.body params
    → All (λ e. cell_count e ≤ 2 ^ 22) (layout p params) → IsInside p params → IsShaped (layout p params) contents
    → CanRun 9 (layout p params) p.body params contents
kernel_runs p params contents w fits counts inside shape = record {
  ranks = ranks_of p;
  walks = kernel_walks p params w fits;
  inside = acts_inside p params inside;
  ready = record { shape = shape; counts = few_cells (layout p params) counts };
}

-- the walk without its numbers leaves what the walk does
pub exec_is : (p : Program) (params : List ℤ) (contents : List (List ℕ))
    → ran (layout p params) contents (acts_all p.body params) ≡ exec p params contents
exec_is p params contents =
    let f : List (List ℕ) → Act → List (List ℕ) = λ now a. performed_by (layout p params) now a.body a.point in
    ap (fold f contents) (sym (whole_walk_acts p.body 0 params)) ∙ fold-map f act_of contents (walk_of p params)

-- an array has as many extents at parameters as it declares
same_ranks : (ds : List Declaration) (params : List ℤ)
    → map length (map (λ d. map size_of (values d.extents params)) ds) ≡ map (λ d. length d.extents) ds
same_ranks [] params = refl
same_ranks (d ∷ ds) params =
    let here : length (map size_of (values d.extents params)) ≡ length d.extents =
    length-map (values d.extents params) size_of ∙ length-map d.extents (λ form. value_of form params) in
    ap₂ (λ (n : ℕ) (ns : List ℕ). n ∷ ns) here (same_ranks ds params)

pub kernel_checks : (p : Program) (params : List ℤ) → WithinLimits p params → FitsAll p.body params
    → CanCheck 9 (layout p params) p.body 0 params
kernel_checks p params w fits =
    let few = w.kernel.few_statements in
    record {
      walks = subst (λ (ranks : List ℕ). CanWalk 9 ranks p.body params) (sym (same_ranks p.arrays params))
          (kernel_walks p params w fits);
      few = omega arith;
    }
