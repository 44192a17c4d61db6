-- Small rows and systems: rows that bound a variable, equalities, the matching of one row, and a set of one dimension.
use Rattle.std.specs.Prelude.{◌^◌, pos, negsuc, neg_ℤ, List, [], ◌∷◌}
use Rattle.whole_numbers.specs.Affine.{Affine, form_of}
use Rattle.integer_sets.specs.Constraints.{Constraints, system_of}

-- x <= 2 y <= 6 - x, over x and y
abbrev pub between : List Affine
between = form_of (negsuc 0 ∷ pos 2 ∷ []) (pos 0) ∷ form_of (negsuc 0 ∷ negsuc 1 ∷ []) (pos 6) ∷ []

-- x = 2 y and x + y = 3
abbrev pub meeting : List Affine
meeting = form_of (pos 1 ∷ negsuc 1 ∷ []) (pos 0) ∷ form_of (pos 1 ∷ pos 1 ∷ []) (negsuc 2) ∷ []

-- 1 <= y
abbrev pub from_one : Affine
from_one = form_of (pos 0 ∷ pos 1 ∷ []) (negsuc 0)

-- y
abbrev pub second : Affine
second = form_of (pos 0 ∷ pos 1 ∷ []) (pos 0)

-- c = m1 and - k = m0 - m1, over c, k, m0 and m1: c x - k is m0 and m1 times x - 1
abbrev pub matching : List Affine
matching =
    form_of (pos 1 ∷ pos 0 ∷ pos 0 ∷ negsuc 0 ∷ []) (pos 0)
    ∷ form_of (pos 0 ∷ negsuc 0 ∷ negsuc 0 ∷ pos 1 ∷ []) (pos 0) ∷ []

-- 0 <= m0 and 0 <= m1
abbrev pub multipliers : List Affine
multipliers =
    form_of (pos 0 ∷ pos 0 ∷ pos 1 ∷ pos 0 ∷ []) (pos 0)
    ∷ form_of (pos 0 ∷ pos 0 ∷ pos 0 ∷ pos 1 ∷ []) (pos 0) ∷ []

-- n <= 2 x, over x and n
abbrev pub from_half : Constraints
from_half = system_of 1 1 [] (form_of (pos 2 ∷ negsuc 0 ∷ []) (pos 0) ∷ [])

-- x = 2^126, 0 <= x and 0 <= 2 x, over x
abbrev pub wide_behind : Constraints
wide_behind =
    system_of 1 0 (form_of (pos 1 ∷ []) (neg_ℤ (pos (2 ^ 126))) ∷ [])
    (form_of (pos 1 ∷ []) (pos 0) ∷ form_of (pos 2 ∷ []) (pos 0) ∷ [])
