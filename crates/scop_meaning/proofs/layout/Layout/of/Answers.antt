use Rattle.scop_syntax.proofs.Common.{ℕ, ◌<◌, ◌≤◌, ◌^◌, List, length, map, get_or, ap, sym, subst, ◌∙◌, arith, ℤ, pos}
use Rattle.scop_syntax.proofs.Common.{negsuc, ◌<ℤ◌, All, ints, get_or-map, length-map, All-get_or, Affine, value_of}
use Rattle.scop_syntax.proofs.Common.{Declaration, program_of, values, size_of}
use Rattle.scop_meaning.proofs.layout.Layout.of.Goals as goal

abbrev Sizes : List ℕ → Type 0
Sizes es = All (λ e. (1 ≤ e) × (e ≤ 2 ^ 22)) es

small : (z : ℤ) → size_of z ≤ 2 ^ 22 → z <ℤ pos (2 ^ 64)
small (pos n) h = omega (arith, ints)
small (negsuc n) h = omega (arith, ints)

-- extents within the limits have 64 bits
high : (forms : List Affine) (params : List ℤ) → Sizes (map size_of (values forms params))
    → All (λ form. value_of form params <ℤ pos (2 ^ 64)) forms
high forms params all = λ k d h.
    let l = length-map forms (λ form. value_of form params) in
    let m = length-map (values forms params) size_of in
    let at : k < length (map size_of (values forms params)) = omega arith in
    let within : k < length (values forms params) = omega arith in
    let e = get_or-map size_of (values forms params) k (value_of d params) 0 within
    ∙ ap size_of (get_or-map (λ form. value_of form params) forms k d (value_of d params) h) in
    let b = (all k 0 at).1 in
    small (value_of (get_or forms k d) params) (subst (λ n. n ≤ 2 ^ 22) e b)

pub sizes_at-requires-clause-high : goal.sizes_at-requires-clause-high
sizes_at-requires-clause-high c =
    let p = program_of c.args.kernel.now in
    let params = c.args.params.now in
    let ds : List Declaration = p.arrays in
    let i = c.loop-array.array-index in
    let d = c.array-item.result in
    let f : Declaration → List ℕ = λ e. map size_of (values e.extents params) in
    let h : i < length ds = subst (λ (l : List Declaration). i < length l) c.deref-array-items.ensures.value
    c.loop-array-test.true in
    let there : i < length (map f ds) = omega (arith, length-map ds f) in
    let whole : Sizes (get_or (map f ds) i (f d)) = All-get_or Sizes (map f ds) i (f d) there
    (c.cells_lie_within_22_bits.ensures.extents p params c.requires) in
    let here : Sizes (f d) = subst Sizes
    (get_or-map f ds i d (f d) h
    ∙ ap f (sym (c.array-item.is
    ∙ ap (λ (l : List Declaration). get_or l i d) c.deref-array-items.ensures.value))) whole in
    subst (λ (forms : List Affine). All (λ form. value_of form params <ℤ pos (2 ^ 64)) forms)
    (sym (c.deref.ensures.value ∙ ap (λ (e : Declaration). e.extents) c.array.view_is)) (high d.extents params here)
