-- The system of a conflict, taken apart.
use Rattle.conflict_deps.proofs.Common.{◌≡◌, ℕ, ◌+◌, List, ◌++◌, map, Some, ap, ap₂, subst, sym, ◌∙◌, slice_get}
use Rattle.conflict_deps.proofs.Common.{flat_map, Affine, In, in_map_from, in_if_from, place_of, append-nil, variables}
use Rattle.conflict_deps.proofs.Common.{equalities_in, rows_in, KernelModel, Modelled, Dependence, equalities_in-append}
use Rattle.conflict_deps.proofs.Common.{rows_in-append, Side, sides_of, loops_of, source_form, target_form, source_rows}
use Rattle.conflict_deps.proofs.Common.{target_rows, cell_rows, parameter_rows, pair_size, dep_of, afters_of}
use Rattle.conflict_deps.proofs.Common.{may_conflict, deps_between, conflicts_of, HasParts}
use Rattle.iteration_domains.specs.Sizes.{IsKernelModel}
use Rattle.conflict_deps.specs.Conflicts.{sides_in}
use Rattle.conflict_deps.proofs.Sides.{in_flat_map_from, side_to}
use Rattle.conflict_deps.proofs.Shapes.{all_rows, equalities-kept, no_equalities, no_rows_in_cells, rows-kept}

-- a side of the model stands at its statement's place
pub stands : (model : KernelModel) (s : Side) → IsKernelModel model → In s (sides_in model)
    → slice_get model.statements s.statement.number ≡ Some s.statement
stands model s is h =
    let q = in_flat_map_from sides_of model.statements s h in
    let r = side_to q.0 0 q.0.accesses s q.2 in
    let at = place_of model.statements q.0 q.1 in
    let k = is.places at.0 q.0 at.1 in
    subst (λ (p : Modelled). slice_get model.statements p.number ≡ Some p) (sym r.0)
    (subst (λ (i : ℕ). slice_get model.statements i ≡ Some q.0) (sym k) at.1)

-- a conflict of the model, taken apart
pub parts_of : (model : KernelModel) (dep : Dependence) → IsKernelModel model → In dep (conflicts_of model)
    → HasParts model dep
parts_of model dep is h =
    let m = model.parameters in
    let all = sides_in model in
    let s = in_flat_map_from (λ (s : Side). flat_map (deps_between m s) all) all dep h in
    let t = in_flat_map_from (deps_between m s.0) all dep s.2 in
    let b = in_if_from (may_conflict s.0 t.0) dep (map (dep_of m s.0 t.0) (afters_of m s.0 t.0)) t.2 in
    let a = in_map_from (dep_of m s.0 t.0) dep (afters_of m s.0 t.0) b.1 in
    let u = source_rows s.0 t.0 in
    let v = target_rows s.0 t.0 in
    let c = cell_rows s.0 t.0 in
    let o = a.0.rows in
    let w = parameter_rows m s.0 t.0 in
    let ps = variables (pair_size m s.0 t.0) (loops_of s.0 + loops_of t.0) m in
    let du = s.0.statement.domain in
    let dv = t.0.statement.domain in
    record {
      from = s.0;
      to = t.0;
      order = a.0;
      is = a.2;
      source = subst (λ (d : Dependence). slice_get model.statements d.source.statement ≡ Some s.0.statement) (sym a.2)
          (stands model s.0 is s.1);
      target = subst (λ (d : Dependence). slice_get model.statements d.target.statement ≡ Some t.0.statement) (sym a.2)
          (stands model t.0 is t.1);
      equalities = ap (λ (d : Dependence). d.system.equalities) a.2
          ∙ (equalities_in-append u (v ++ (c ++ (o ++ w)))
          ∙ ap₂ (λ (x y : List Affine). x ++ y)
          (equalities-kept (source_form (loops_of s.0) (loops_of t.0)) du)
          (equalities_in-append v (c ++ (o ++ w))
          ∙ ap₂ (λ (x y : List Affine). x ++ y)
          (equalities-kept (target_form (loops_of s.0)) dv)
          (equalities_in-append c (o ++ w)
          ∙ ap (λ (y : List Affine). equalities_in c ++ y)
          (equalities_in-append o w
          ∙ (ap (λ (y : List Affine). equalities_in o ++ y) (no_equalities ps) ∙ append-nil (equalities_in o))))));
      rows = ap (λ (d : Dependence). d.system.rows) a.2
          ∙ (rows_in-append u (v ++ (c ++ (o ++ w)))
          ∙ ap₂ (λ (x y : List Affine). x ++ y)
          (rows-kept (source_form (loops_of s.0) (loops_of t.0)) du)
          (rows_in-append v (c ++ (o ++ w))
          ∙ ap₂ (λ (x y : List Affine). x ++ y) (rows-kept (target_form (loops_of s.0)) dv)
          (rows_in-append c (o ++ w)
          ∙ ap₂ (λ (x y : List Affine). x ++ y)
          (no_rows_in_cells (loops_of s.0) (loops_of t.0) s.0.access.subscripts t.0.access.subscripts)
          (rows_in-append o w ∙ ap (λ (y : List Affine). rows_in o ++ y) (all_rows ps)))));
    }
