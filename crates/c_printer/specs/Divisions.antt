-- What the functions at the head of an emitted text compute, over whole numbers; C drops the fraction of a quotient
-- (C17 6.5.5p6).
use Rattle.std.specs.Prelude.{ℤ, pos, neg_ℤ, ◌+ℤ◌, ◌-ℤ◌, if◌then◌else◌}
use Rattle.std.specs.Int.Signed.{lt_z, quot_z}

-- `pp_floord`: n < 0 ? -((-n + d - 1) / d) : n / d
abbrev pub floor_function : ℤ → ℤ → ℤ
floor_function n d =
    if lt_z n (pos 0) then neg_ℤ (quot_z ((neg_ℤ n +ℤ d) -ℤ pos 1) d) else quot_z n d

-- `pp_ceild`: n < 0 ? -((-n) / d) : (n + d - 1) / d
abbrev pub ceiling_function : ℤ → ℤ → ℤ
ceiling_function n d =
    if lt_z n (pos 0) then neg_ℤ (quot_z (neg_ℤ n) d) else quot_z ((n +ℤ d) -ℤ pos 1) d

-- `pp_max`: a > b ? a : b
abbrev pub greater_function : ℤ → ℤ → ℤ
greater_function a b = if lt_z b a then a else b

-- `pp_min`: a < b ? a : b
abbrev pub less_function : ℤ → ℤ → ℤ
less_function a b = if lt_z a b then a else b
