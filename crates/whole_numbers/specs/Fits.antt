-- The range of signed numbers of 128 bits.
use Rattle.std.specs.Prelude.{ℤ, pos, negsuc, Bool, nat_lt, ◌^◌}

-- whether 128 bits hold the number: -2^127 <= z < 2^127
abbrev pub fits : ℤ → Bool
fits (pos n) = nat_lt n (2 ^ 127)
fits (negsuc n) = nat_lt n (2 ^ 127)
