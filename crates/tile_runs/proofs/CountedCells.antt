-- How many cells arrays have, one array behind another; and which arrays a row of cells holds.
use Rattle.scop_syntax.proofs.Common.{◌≡◌, ◌∙◌, ℕ, suc, ◌+◌, ◌-◌, ◌<◌, ◌^◌, List, [], ◌∷◌, ◌++◌, length, take, drop}
use Rattle.scop_syntax.proofs.Common.{get_or, min, add-one, ap, ap₂, arith, drop-cons, length-append, refl, sym}
use Rattle.scop_syntax.proofs.Common.{length-take-le, take-append-drop, IsShaped, cell_count, total_cells}
use Rattle.std.proofs.Common.{length-drop}
use Rattle.tile_events.specs.Flat.{flat}

-- the cells of the arrays that are gone through, and of those that are to come, are all, where these are not too many
abbrev pub AreCounted : List (List ℕ) → ℕ → ℕ → Type 0
AreCounted arrays k count =
    length (flat arrays) < 2 ^ 64 → count + length (flat (drop k arrays)) ≡ length (flat arrays)

pub one_counted : (arrays : List (List ℕ)) (k count next : ℕ) → k < length arrays
    → next ≡ min (count + length (get_or arrays k [])) (2 ^ 64 - 1) → AreCounted arrays k count
    → AreCounted arrays (k + 1) next
one_counted arrays k count next within is counted few =
    let all = counted few in
    let cons = ap (λ rs. length (flat rs)) (drop-cons arrays k [] within) in
    let both = length-append (get_or arrays k []) (flat (drop (suc k) arrays)) in
    let on = ap (λ n. length (flat (drop n arrays))) (add-one k) in
    omega (arith, is, all, cons, both, on, few)

-- a row of as many cells as arrays of these extents have is that of some
pub arrays_of : (es : List (List ℕ)) (row : List ℕ) → length row ≡ total_cells es
    → (contents : List (List ℕ)) × IsShaped es contents × (row ≡ flat contents)
arrays_of [] [] long = ([], refl, refl)
arrays_of [] (x ∷ row) long = absurd (omega (arith, long))
arrays_of (d ∷ es) row long =
    let n = cell_count d in
    let first = length-take-le n row (omega (arith, long)) in
    let behind = length-drop n row in
    let rest = arrays_of es (drop n row) (omega (arith, long, behind)) in (
      take n row ∷ rest.0,
      ap₂ (λ (m : ℕ) (ms : List ℕ). m ∷ ms) first rest.1,
      sym (take-append-drop n row) ∙ ap (λ ys. take n row ++ ys) rest.2,
    )
