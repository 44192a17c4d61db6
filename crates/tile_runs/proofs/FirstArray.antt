-- Arrays whose first one stands in front of a row with the others' cells behind it.
use Rattle.scop_syntax.proofs.Common.{◌≡◌, ◌∙◌, ℕ, ◌≤◌, List, [], ◌∷◌, ◌++◌, length, map, take, drop, get_or, set, ap}
use Rattle.scop_syntax.proofs.Common.{ap₂, sym, refl, arith, length-append, drop-append_seam, take-append_seam}
use Rattle.tile_events.specs.Flat.{flat}

-- the first one, and the others behind it, are all
pub first_flat : (rows : List (List ℕ)) → get_or rows 0 [] ++ flat (set rows 0 []) ≡ flat rows
first_flat [] = refl
first_flat (x ∷ xs) = refl

-- behind as many cells as the first array had stand those of the others
pub others_behind : (old new : List (List ℕ)) → map length new ≡ map length old
    → drop (length (get_or old 0 [])) (flat new) ≡ flat (set new 0 [])
others_behind [] [] same = refl
others_behind [] (y ∷ ys) same = absurd (let e = ap length same in omega (arith, e))
others_behind (x ∷ xs) [] same = absurd (let e = ap length same in omega (arith, e))
others_behind (x ∷ xs) (y ∷ ys) same =
    let here : length x ≡ length y = cc in
    ap (λ (n : ℕ). drop n (y ++ flat ys)) here ∙ drop-append_seam y (flat ys)

-- with these given to the first array all are there
pub first_back : (old new : List (List ℕ)) → map length new ≡ map length old
    → set (set new 0 []) 0 (take (length (get_or old 0 [])) (flat new)) ≡ new
first_back [] [] same = refl
first_back [] (y ∷ ys) same = absurd (let e = ap length same in omega (arith, e))
first_back (x ∷ xs) [] same = absurd (let e = ap length same in omega (arith, e))
first_back (x ∷ xs) (y ∷ ys) same =
    let here : length x ≡ length y = cc in
    ap (λ (r : List ℕ). r ∷ ys) (ap (λ (n : ℕ). take n (y ++ flat ys)) here ∙ take-append_seam y (flat ys))

-- the others keep their shape
pub others_shape : (old new : List (List ℕ)) → map length new ≡ map length old
    → map length (set new 0 []) ≡ map length (set old 0 [])
others_shape [] [] same = refl
others_shape [] (y ∷ ys) same = absurd (let e = ap length same in omega (arith, e))
others_shape (x ∷ xs) [] same = absurd (let e = ap length same in omega (arith, e))
others_shape (x ∷ xs) (y ∷ ys) same =
    let rest : map length ys ≡ map length xs = cc in
    ap (λ (ns : List ℕ). 0 ∷ ns) rest

-- rows of one shape are as long
pub flat_same : (old new : List (List ℕ)) → map length new ≡ map length old → length (flat new) ≡ length (flat old)
flat_same [] [] same = refl
flat_same [] (y ∷ ys) same = absurd (let e = ap length same in omega (arith, e))
flat_same (x ∷ xs) [] same = absurd (let e = ap length same in omega (arith, e))
flat_same (x ∷ xs) (y ∷ ys) same =
    let here : length y ≡ length x = cc in
    let rest : map length ys ≡ map length xs = cc in
    let all = flat_same xs ys rest in
    let left = length-append x (flat xs) in
    let right = length-append y (flat ys) in
    omega (arith, here, all, left, right)

-- the first array's cells are some of the row
first_within : (rows : List (List ℕ)) → length (get_or rows 0 []) ≤ length (flat rows)
first_within [] = omega arith
first_within (x ∷ xs) = let both = length-append x (flat xs) in omega (arith, both)

-- a row whose front is the first array's cells, n of them, and that is then all cells of arrays of the old ones' shape
module _ (old new others : List (List ℕ)) (first row : List ℕ) (n : ℕ) (front : first ≡ get_or old 0 [])
    (rest : others ≡ set old 0 []) (count : n ≡ length first) where
  pub whole : first ++ flat others ≡ flat old
  whole = ap₂ (λ (xs : List ℕ) (ys : List (List ℕ)). xs ++ flat ys) front rest ∙ first_flat old

  many : n ≡ length (get_or old 0 [])
  many = count ∙ ap length front

  module _ (same : map length new ≡ map length old) (all : row ≡ flat new) where
    pub front_within : n ≤ length row
    front_within =
        let long = flat_same old new same in
        let within = first_within old in
        let row_long = ap length all in
        let m = many in
        omega (arith, long, within, row_long, m)

    pub behind : drop n row ≡ flat (set new 0 [])
    behind = ap₂ (λ (m : ℕ) (xs : List ℕ). drop m xs) many all ∙ others_behind old new same

    pub shape_behind : map length (set new 0 []) ≡ map length others
    shape_behind = others_shape old new same ∙ ap (map length) (sym rest)

    pub long_behind : length (drop n row) ≡ length (flat others)
    long_behind = ap length behind ∙ flat_same others (set new 0 []) shape_behind

    pub all_given : set (set new 0 []) 0 (take n row) ≡ new
    all_given =
        ap₂ (λ (m : ℕ) (xs : List ℕ). set (set new 0 []) 0 (take m xs)) many all ∙ first_back old new same
