-- What the rows of a claim mean.
use Rattle.whole_numbers.proofs.Common.{◌≡◌, ◌↔◌, ℕ, suc, ◌+◌, ◌≤◌, ℤ, pos, negsuc, ◌+ℤ◌, ◌*ℤ◌, ◌≤ℤ◌, List, [], ◌∷◌}
use Rattle.whole_numbers.proofs.Common.{◌++◌, length, get_or, refl, sym, ◌∙◌, ap, subst, All, arith, Ok, ints, All-cons}
use Rattle.whole_numbers.proofs.Common.{All-nil, All-append, All-head, All-tail, Affine, multiple_of_form, dot}
use Rattle.whole_numbers.proofs.Common.{mul_neg_left, mul_one_left, mul_zero_left, length-multiples}
use Rattle.std.proofs.lemmas.List.{append-nil}
use Rattle.affine_forms.specs.Parts.{variables_of}
use Rattle.fractions.specs.Fractions.{HoldsOver}
use Rattle.fractions.specs.Farkas.{HasFarkas, Leaves, matched_from, own_rows, two_rows}
use Rattle.fractions.proofs.Combination.{farkas_of_system}
use Rattle.fractions.proofs.RemainingPoints.{left_is_farkas}
use Rattle.fractions.proofs.PointValues.{value_over-one}
use Rattle.integer_sets.specs.Constraints.{Constraints, IsSized, variables_in}
use Rattle.fm_projection.proofs.Law.{whole_point}
use Rattle.farkas.specs.declared.claim.Claim.{Claim}
use Rattle.farkas.specs.declared.claim.Claim.TheVariants.{Legality, Bounding}
use Rattle.iteration_domains.specs.declared.dep.DepEnd.{DepEnd}
use Rattle.iteration_domains.specs.Dependence.{IsOne}
use Rattle.iteration_domains.specs.Dependence.{binds_between}
use Rattle.farkas.specs.Unknowns.{layout_of, bounds_of}
use Rattle.farkas.specs.Claims.{claimed, linear, constant, target_factor, source_factor, bound_factor}
use Rattle.farkas.specs.Matching.{matching_run, multipliers_of}
use Rattle.farkas.specs.Run.{formed, left_run, posed, posed_run, rows_run}
use Rattle.farkas.specs.Meaning.{phi, rows_of, IsFarkas, IsTaken, IsInstance, Keeps, Bounds}
use Rattle.farkas.proofs.Chains.{then-ok, formed-ok}
use Rattle.farkas.proofs.Columns.{matching_is, multipliers_are, matched_sized, matched_homogeneous, own_rows_speak}
use Rattle.farkas.proofs.Columns.{own_rows_homogeneous}
use Rattle.farkas.proofs.FarkasRows.{left-leaves}
use Rattle.farkas.proofs.ClaimedForms.{linear_sized, linear_length, constant_length, claimed_is, claimed_value}

two_rows_sized : (n : ℕ) (es : List Affine) → All (λ f. variables_of f ≡ n) es
    → All (λ g. length g.coefficients ≤ n) (two_rows es)
two_rows_sized n [] all = All-nil (λ g. length g.coefficients ≤ n)
two_rows_sized n (e ∷ es) all =
    let own = All-head (λ f. variables_of f ≡ n) e es all in
    let turned = length-multiples (negsuc 0) e.coefficients in
    All-cons (λ g. length g.coefficients ≤ n) e (multiple_of_form (negsuc 0) e ∷ two_rows es) (omega arith)
    (All-cons (λ g. length g.coefficients ≤ n) (multiple_of_form (negsuc 0) e) (two_rows es) (omega arith)
    (two_rows_sized n es (All-tail (λ f. variables_of f ≡ n) e es all)))

at_most : (n : ℕ) (fs : List Affine) → All (λ f. variables_of f ≡ n) fs → All (λ g. length g.coefficients ≤ n) fs
at_most n fs all k d inside = let s = all k d inside in omega arith

pub rows_of_sized : (s : Constraints) → IsSized (variables_in s) s.equalities s.rows
    → All (λ g. length g.coefficients ≤ variables_in s) (rows_of s)
rows_of_sized s sized =
    All-append (λ g. length g.coefficients ≤ variables_in s) (two_rows s.equalities) s.rows
    (two_rows_sized (variables_in s) s.equalities sized.equalities_sized) (at_most (variables_in s) s.rows
    sized.rows_sized)

-- what the eliminations leave, over all unknowns
rows-left : (budget : ℕ) (claim : Claim) (source target : DepEnd) (s t : Constraints)
    → rows_run budget claim source target s ≡ Ok t
    → Leaves (layout_of s.parameters source target).unknowns (suc (length (rows_of s)))
    (matched_from 0 (linear claim source target (binds_between source target s) s.parameters)
    (constant claim source target s.parameters) (rows_of s))
    (own_rows (layout_of s.parameters source target).unknowns (suc (length (rows_of s)))) t.equalities t.rows
    × (t.dimensions ≡ (layout_of s.parameters source target).unknowns) × (t.parameters ≡ 0)
unfolding rows_run posed_run
rows-left budget claim source target s t h =
    let p = s.parameters in
    let n = (layout_of p source target).unknowns in
    let k = multipliers_of s in
    let count = suc (length (rows_of s)) in
    let r = binds_between source target s in
    let owns = linear claim source target r p in
    let last = constant claim source target p in
    let a = then-ok (posed_run claim source target s) (λ (all : Constraints). left_run budget n k all) t h in
    let b = then-ok (formed (matching_run owns last s)) (λ (es : List Affine). Ok (posed n k es)) a.0 a.1 in
    let es = matched_from 0 owns last (rows_of s) in
    let is : b.0 ≡ es = matching_is owns last s b.0 (formed-ok (matching_run owns last s) b.0 b.1) in
    let all : a.0 ≡ posed n k es = sym (let same : posed n k b.0 ≡ a.0 = cc (b.2) in same)
    ∙ ap (λ (fs : List Affine). posed n k fs) is in
    let many = multipliers_are s in
    let run = subst (λ (j : ℕ). left_run budget n j (posed n j es) ≡ Ok t) many
    (subst (λ (u : Constraints). left_run budget n k u ≡ Ok t) all a.2) in
    left-leaves budget n count (posed n count es) t [] refl refl
    (matched_sized n count 0 owns last (rows_of s) (linear_sized claim source target r p) (constant_length claim source
    target p) refl)
    (own_rows_speak n count (n + count) refl) (matched_homogeneous 0 owns last (rows_of s)) (own_rows_homogeneous n
    count)
    (sym (append-nil (own_rows n count))) run

pub rows-farkas : (budget : ℕ) (claim : Claim) (source target : DepEnd) (s t : Constraints)
    → IsSized (variables_in s) s.equalities s.rows → source.loops + target.loops ≤ s.dimensions → IsOne source target
    → rows_run budget claim source target s ≡ Ok t → IsFarkas claim source target s t
rows-farkas budget claim source target s t sized iterators one h =
    let p = s.parameters in
    let n = (layout_of p source target).unknowns in
    let r = binds_between source target s in
    let owns = linear claim source target r p in
    let last = constant claim source target p in
    let left = rows-left budget claim source target s t h in
    let many : variables_in s ≡ length owns = omega (arith, linear_length claim source target r p) in
    record {
      dimensions = left.1;
      parameters = left.2;
      exact = λ xs size positive.
          let is : length xs ≡ n = size ∙ left.1 in
          let leaves = subst (λ (m : ℕ). Leaves m (suc (length (rows_of s))) (matched_from 0 owns last (rows_of s))
          (own_rows m (suc (length (rows_of s)))) t.equalities t.rows) (sym is) left.0 in
          let owns_sized = subst (λ (m : ℕ). All (λ l. length l ≡ m) owns) (sym is)
          (linear_sized claim source target r p) in
          let last_sized : length last ≡ length xs = constant_length claim source target p ∙ sym is in
          let rows_sized = subst (λ (m : ℕ). All (λ g. length g.coefficients ≤ m) (rows_of s)) many (rows_of_sized s
          sized) in
          let f = left_is_farkas owns last (rows_of s) t.equalities t.rows xs owns_sized last_sized rows_sized
          positive leaves in
          let g = subst (λ (form : Affine). HoldsOver t.equalities t.rows (pos 1) xs ↔ HasFarkas (rows_of s) form)
          (claimed_is claim source target r p xs one) f in
          let w = whole_point t xs in
          (λ holds. g.0 (w.1 holds), λ identity. w.0 (g.1 identity));
    }

-- the use of it: the claimed form is not negative at the points of the dependence
not_negative : (claim : Claim) (source target : DepEnd) (s t : Constraints) (xs i j q : List ℤ)
    → IsFarkas claim source target s t → IsTaken t xs → IsInstance source target s i j q
    → pos 0 ≤ℤ ((bound_factor claim *ℤ (dot (bounds_of xs 0 s.parameters) q +ℤ get_or xs s.parameters (pos 0)))
    +ℤ ((source_factor claim *ℤ phi xs (layout_of s.parameters source target).source source.loops i)
    +ℤ (target_factor claim *ℤ phi xs (layout_of s.parameters source target).target target.loops j)))
not_negative claim source target s t xs i j q farkas taken inside =
    let p = s.parameters in
    let b = binds_between source target s in
    let form = claimed claim source target b p xs in
    let point = i ++ (j ++ (inside.bound ++ q)) in
    let identity = (farkas.exact xs taken.0 taken.1).0 taken.2 in
    let least = farkas_of_system s.equalities s.rows form (pos 1) point identity (omega (arith, ints))
    ((whole_point s point).1 inside.inside) in
    subst (λ (z : ℤ). pos 0 ≤ℤ z)
    (value_over-one form point
    ∙ claimed_value claim source target b p xs i j inside.bound q inside.source_iterators inside.target_iterators
    inside.quotients) least

pub farkas-keeps : (source target : DepEnd) (s t : Constraints) → IsFarkas Legality source target s t
    → Keeps source target s t
farkas-keeps source target s t farkas xs i j q taken inside =
    let l = layout_of s.parameters source target in
    let from = phi xs l.source source.loops i in
    let to = phi xs l.target target.loops j in
    let bound = dot (bounds_of xs 0 s.parameters) q +ℤ get_or xs s.parameters (pos 0) in
    let least = not_negative Legality source target s t xs i j q farkas taken inside in
    let a = mul_zero_left bound in
    let b = mul_neg_left (pos 1) from in
    let c = mul_one_left from in
    let d = mul_one_left to in
    omega (arith, ints)

pub farkas-bounds : (source target : DepEnd) (s t : Constraints) → IsFarkas Bounding source target s t
    → Bounds source target s t
farkas-bounds source target s t farkas xs i j q taken inside =
    let l = layout_of s.parameters source target in
    let from = phi xs l.source source.loops i in
    let to = phi xs l.target target.loops j in
    let bound = dot (bounds_of xs 0 s.parameters) q +ℤ get_or xs s.parameters (pos 0) in
    let least = not_negative Bounding source target s t xs i j q farkas taken inside in
    let a = mul_one_left bound in
    let b = mul_neg_left (pos 1) to in
    let c = mul_one_left to in
    let d = mul_one_left from in
    omega (arith, ints)
