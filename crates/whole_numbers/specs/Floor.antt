-- Division of whole numbers by a positive one, as functions: rounded down, rounded up, and what is left.
use Rattle.std.specs.Prelude.{ℤ, pos, negsuc, ◌/◌, ◌-ℤ◌, ◌*ℤ◌, neg_ℤ, List, map}

-- a / d rounded down, for 0 < d
abbrev pub floor : ℤ → ℤ → ℤ
floor (pos n) (pos d) = pos (n / d)
floor (negsuc n) (pos d) = negsuc (n / d)
floor a (negsuc d) = pos 0

-- a / d rounded up, for 0 < d
abbrev pub ceiling : ℤ → ℤ → ℤ
ceiling a d = neg_ℤ (floor (neg_ℤ a) d)

-- what the floor leaves of a: Euclid's remainder, for 0 < d
abbrev pub remainder : ℤ → ℤ → ℤ
remainder a d = a -ℤ (d *ℤ floor a d)

-- each entry over d, rounded down
abbrev pub floors : ℤ → List ℤ → List ℤ
floors d xs = map (λ x. floor x d) xs

-- each entry's remainder by d
abbrev pub remainders : ℤ → List ℤ → List ℤ
remainders d xs = map (λ x. remainder x d) xs
