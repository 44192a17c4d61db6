-- The systems of the index check one after another: those of one dimension more, and of one access or statement more.
use Rattle.scop_syntax.proofs.Common.{◌≡◌, ℕ, ◌+◌, ◌<◌, ◌≤◌, ◌^◌, ℤ, pos, negsuc, List, [], ◌∷◌, ◌++◌, length, map}
use Rattle.scop_syntax.proofs.Common.{drop, get_or, ap, sym, subst, ◌∙◌, refl, arith, add-one, append_assoc, drop-cons}
use Rattle.scop_syntax.proofs.Common.{◌≤ℤ◌, All, Some, slice_get, flat_map, ints, get_or-map, length-map}
use Rattle.scop_syntax.proofs.Common.{get_or_from_slice_get, Affine, value_of, values, size_of, Access, Declaration}
use Rattle.scop_syntax.proofs.Common.{wrapped, there_is}
use Rattle.integer_sets.specs.Constraints.{Constraints}
use Rattle.iteration_domains.specs.Outside.{below, fixed, outside_dimensions, outside_system, past}
use Rattle.iteration_domains.specs.steps.Asking.{CanAsk, IsExtent}

pub dimension_more : (domain : Constraints) (forms fs : List Affine) (es : List ℕ) (i : ℕ) (f : Affine) (e : ℕ)
    (done next whole : List Constraints) → i < length fs → i < length es → f ≡ get_or fs i f → e ≡ get_or es i e
    → next ≡ done ++ outside_system domain (fixed domain.dimensions forms f) e below
    ∷ outside_system domain (fixed domain.dimensions forms f) e past ∷ []
    → done ++ outside_dimensions domain forms (drop i fs) (drop i es) ≡ whole
    → next ++ outside_dimensions domain forms (drop (i + 1) fs) (drop (i + 1) es) ≡ whole
dimension_more domain forms fs es i f e done next whole inside within is size grown so_far =
    let rest = outside_dimensions domain forms (drop (i + 1) fs) (drop (i + 1) es) in
    let two = outside_system domain (fixed domain.dimensions forms f) e below
    ∷ outside_system domain (fixed domain.dimensions forms f) e past ∷ [] in
    let here : outside_dimensions domain forms (drop i fs) (drop i es) ≡ two ++ rest =
    rw (drop-cons fs i f inside, ← is, drop-cons es i e within, ← size, add-one i) refl in
    ap (λ (ys : List Constraints). ys ++ rest) grown
    ∙ (append_assoc done two rest ∙ (ap (λ (ys : List Constraints). done ++ ys) (sym here) ∙ so_far))

pub piece_more : {A B : Type 0} (f : A → List B) (xs : List A) (i : ℕ) (x : A) (done next whole : List B)
    → i < length xs → x ≡ get_or xs i x → next ≡ done ++ f x → done ++ flat_map f (drop i xs) ≡ whole
    → next ++ flat_map f (drop (i + 1) xs) ≡ whole
piece_more f xs i x done next whole inside is grown so_far =
    let rest = flat_map f (drop (i + 1) xs) in
    let here : flat_map f (drop i xs) ≡ f x ++ rest = rw (drop-cons xs i x inside, ← is, add-one i) refl in
    ap (λ ys. ys ++ rest) grown ∙ (append_assoc done (f x) rest ∙ (ap (λ ys. done ++ ys) (sym here) ∙ so_far))

-- an extent within the limits, as 64 bits show it
wrapped_extent : (z : ℤ) → pos 0 ≤ℤ z → z ≤ℤ pos (2 ^ 22) → wrapped z ≡ size_of z
wrapped_extent (pos n) low high = let h : n ≤ 2 ^ 22 = omega (arith, ints) in omega (arith, h)
wrapped_extent (negsuc n) low high = absurd (omega (arith, ints))

pub extent_at : (extents : List Affine) (params : List ℤ) (i : ℕ) (f : Affine) → i < length extents
    → f ≡ get_or extents i f → All (IsExtent params) extents
    → wrapped (value_of f params)
    ≡ get_or (map size_of (values extents params)) i (wrapped (value_of f params))
extent_at extents params i f inside is all =
    let own : IsExtent params f = subst (IsExtent params) (sym is) (all i f inside) in
    let l = length-map extents (λ form. value_of form params) in
    let within : i < length (values extents params) = omega arith in
    let w = wrapped (value_of f params) in
    wrapped_extent (value_of f params) own.0 own.1
    ∙ sym (get_or-map size_of (values extents params) i (value_of f params) w within
    ∙ (ap size_of (get_or-map (λ form. value_of form params) extents i f (value_of f params) inside)
    ∙ ap (λ (g : Affine). size_of (value_of g params)) (sym is)))

pub extents_many : (extents : List Affine) (params : List ℤ)
    → length (map size_of (values extents params)) ≡ length extents
extents_many extents params =
    length-map (values extents params) size_of ∙ length-map extents (λ form. value_of form params)

-- an access has as many subscripts as its array has extents
pub can_rank : (arrays : List Declaration) (params : List ℤ) (a : Access) (d : Declaration) → CanAsk arrays params a
    → d ≡ get_or arrays a.array d → (length a.subscripts ≡ length d.extents) × All (IsExtent params) d.extents
can_rank arrays params a d can is =
    let t = there_is arrays a.array can.array in
    let same : d ≡ t.0 = is ∙ get_or_from_slice_get arrays a.array t.0 d t.1 in
    let at : slice_get arrays a.array ≡ Some d = t.1 ∙ ap (λ (e : Declaration). Some e) (sym same) in
    (can.rank d at, can.extents d at)
