-- The forms of the legality and the bounding claim on a dependence, at given unknowns and as factors of them.
use Rattle.std.specs.Prelude.{ℕ, zero, suc, ◌+◌, nat_eq, if◌then◌else◌, ℤ, pos, negsuc, ◌+ℤ◌, ◌-ℤ◌, ◌*ℤ◌, List}
use Rattle.std.specs.Prelude.{[], ◌∷◌, ◌++◌, set, get_or}
use Rattle.whole_numbers.specs.Affine.{Affine, form_of}
use Rattle.whole_numbers.specs.Lists.{zeros, multiples}
use Rattle.farkas.specs.declared.claim.Claim.{Claim}
use Rattle.farkas.specs.declared.claim.Claim.TheVariants.{Legality, Bounding}
use Rattle.iteration_domains.specs.declared.dep.DepEnd.{DepEnd}
use Rattle.farkas.specs.Unknowns.{layout_of, coefficients_of, shift_of, bounds_of, Unknowns}

-- With which factors the target's row phi_T(t), the source's row phi_S(s) and the bound u.n + w stand in a claimed
-- form: phi_T(t) - phi_S(s) is the legality form, u.n + w - (phi_T(t) - phi_S(s)) the bounding form.

-- the factor of the target's row
abbrev pub target_factor : Claim → ℤ
target_factor Legality = pos 1
target_factor Bounding = negsuc 0

-- the factor of the source's row
abbrev pub source_factor : Claim → ℤ
source_factor Legality = negsuc 0
source_factor Bounding = pos 1

-- the factor of the bound
abbrev pub bound_factor : Claim → ℤ
bound_factor Legality = pos 0
bound_factor Bounding = pos 1

-- the claimed form at given unknowns: over the source's iterators, the target's, b quotients that are bound, which it
-- does not speak of, and p parameters
unfoldable pub claimed : Claim → DepEnd → DepEnd → ℕ → ℕ → List ℤ → Affine
claimed claim source target b p unknowns =
    let places = layout_of p source target in
    form_of
    (multiples (source_factor claim) (coefficients_of unknowns places.source source.loops)
    ++ (multiples (target_factor claim) (coefficients_of unknowns places.target target.loops)
    ++ (zeros b ++ multiples (bound_factor claim) (bounds_of unknowns 0 p))))
    ((bound_factor claim *ℤ get_or unknowns p (pos 0))
    +ℤ ((source_factor claim *ℤ shift_of unknowns places.source source.loops)
    +ℤ (target_factor claim *ℤ shift_of unknowns places.target target.loops)))

-- The claimed forms of unknowns by name.

-- how much later the target comes, phi_T(t) - phi_S(s), over both's iterators, b quotients and p parameters
abbrev pub distance : ℕ → ℕ → Unknowns → Affine
distance b p x =
    form_of (multiples (negsuc 0) x.source.coefficients ++ (x.target.coefficients ++ (zeros b ++ zeros p)))
    (x.target.shift -ℤ x.source.shift)

-- what the bound leaves of it, u.n + w - (phi_T(t) - phi_S(s))
abbrev pub slack : ℕ → Unknowns → Affine
slack b x =
    form_of (x.source.coefficients ++ (multiples (negsuc 0) x.target.coefficients ++ (zeros b ++ x.u)))
    (x.w +ℤ (x.source.shift -ℤ x.target.shift))

-- The claimed form's numbers as lists of factors of the unknowns.

-- n factors, of which only the one at a place is not 0
abbrev pub only : ℕ → ℕ → ℤ → List ℤ
only n place k = set (zeros n) place k

-- those of a statement's iterators, from the outermost
abbrev pub iterators : ℕ → ℕ → ℤ → ℕ → List (List ℤ)
iterators n first k zero = []
iterators n first k (suc loops) = only n (first + loops) k ∷ iterators n first k loops

-- those of bound quotients: none
abbrev pub nones : ℕ → ℕ → List (List ℤ)
nones n zero = []
nones n (suc count) = zeros n ∷ nones n count

-- those of the parameters from i on
abbrev pub parameters : ℕ → ℕ → ℤ → ℕ → List (List ℤ)
parameters n i k zero = []
parameters n i k (suc count) = only n i k ∷ parameters n (suc i) k count

-- those of all coefficients
unfoldable pub linear : Claim → DepEnd → DepEnd → ℕ → ℕ → List (List ℤ)
linear claim source target b p =
    let places = layout_of p source target in
    iterators places.unknowns places.source (source_factor claim) source.loops
    ++ (iterators places.unknowns places.target (target_factor claim) target.loops
    ++ (nones places.unknowns b ++ parameters places.unknowns 0 (bound_factor claim) p))

-- those of the constant; where source and target are one statement, its shift falls out
unfoldable pub constant : Claim → DepEnd → DepEnd → ℕ → List ℤ
constant claim source target p =
    let places = layout_of p source target in
    let bound = only places.unknowns p (bound_factor claim) in
    if nat_eq source.statement target.statement then bound
    else set (set bound (places.source + source.loops) (source_factor claim)) (places.target + target.loops)
    (target_factor claim)
