-- The extents of an array are worth what their text is over the parameters in front of it.
use Rattle.scop_syntax.proofs.Common.{◌≡◌, ℕ, ◌-◌, ◌≤◌, ℤ, ◌+ℤ◌, List, [], ◌∷◌, ◌++◌, length, map, ap, ap₂, ◌∙◌, refl}
use Rattle.scop_syntax.proofs.Common.{All, arith, nat_le, nat_lt, All-nil, All-cons, Affine, value_of, dot-padded}
use Rattle.scop_syntax.proofs.Common.{dot-past, values}
use Rattle.scop_expressions.specs.Width.{Width}
use Rattle.scop_roles.specs.declared.kinds.Kind.TheVariants as kind
use Rattle.scop_roles.specs.declared.formula.Role.TheVariants as role
use Rattle.scop_roles.specs.Faults.{first, told, faults, only_where}
use Rattle.scop_roles.specs.Forms.{form}
use Rattle.scop_roles.specs.Formula.{Formula}
use Rattle.scop_units.specs.Scopes.{Scope, entries}
use Rattle.scop_units.specs.Units.{name_faults, extent_faults, array_faults, array_of, padded, declared_over}
use Rattle.scop_units.specs.Words.{Words}
use Rattle.scop_units.proofs.FaultlessUnits.{parts_none}
use Rattle.scop_arithmetic.specs.Arithmetic.{whole, HasWhole}
use Rattle.scop_arithmetic.proofs.Wholes.{AreAffine, form_value, has_whole}

-- zeros for later parameters count nothing
padded_value : (n : ℕ) (f : Affine) (p later : List ℤ) → length f.coefficients ≤ length p
    → value_of (padded n f) (p ++ later) ≡ value_of f p
padded_value n f p later fits =
    ap (λ x. x +ℤ f.constant)
    (dot-padded f.coefficients (n - length f.coefficients) (p ++ later) ∙ dot-past f.coefficients p later fits)

extents_value : (affine : AreAffine) (m n : ℕ) (fs : List Formula) (p later : List ℤ) → length p ≡ m
    → extent_faults m fs ≡ [] → values (map (padded n) (map (form m) fs)) (p ++ later) ≡ map (λ f. whole p f) fs
extents_value affine m n [] p later long e = refl
extents_value affine m n (f ∷ fs) p later long e =
    let parts = parts_none (faults m role.Affine f) (extent_faults m fs) e in
    let none = ap first parts.0 in
    let entries_is = (affine m f none).entries in
    ap₂ (λ (x : ℤ) (xs : List ℤ). x ∷ xs)
    (padded_value n (form m f) p later (omega arith) ∙ form_value m f p long none)
    (extents_value affine m n fs p later long parts.1)

extents_whole : (m : ℕ) (fs : List Formula) → extent_faults m fs ≡ [] → All HasWhole fs
extents_whole m [] e = All-nil HasWhole
extents_whole m (f ∷ fs) e =
    let parts = parts_none (faults m role.Affine f) (extent_faults m fs) e in
    All-cons HasWhole f fs (has_whole m f (ap first parts.0)) (extents_whole m fs parts.1)

-- the extents of an array without faults have none
clean : (words : Words) (s : Scope) (at : ℕ) (fs : List Formula) → array_faults words s at fs ≡ []
    → extent_faults (entries s) fs ≡ []
clean words s at fs e =
    let all = parts_none (name_faults words s at) _ e in
    let ranks = parts_none (told at (only_where (nat_lt 4 (length fs)) kind.Rank)) _ all.1 in
    (parts_none (told at (only_where (nat_le 16 (length s.arrays)) kind.Arrays)) _ ranks.1).1

pub array_whole : (words : Words) (s : Scope) (at : ℕ) (fs : List Formula) → array_faults words s at fs ≡ []
    → All HasWhole fs
array_whole words s at fs e = extents_whole (entries s) fs (clean words s at fs e)

pub array_extents : (affine : AreAffine) (words : Words) (s : Scope) (at : ℕ) (w : Width) (fs : List Formula) (n : ℕ)
    (p later : List ℤ) → length p ≡ entries s → array_faults words s at fs ≡ []
    → values (declared_over n (array_of words s at w fs)).extents (p ++ later) ≡ map (λ f. whole p f) fs
array_extents affine words s at w fs n p later long e =
    extents_value affine (entries s) n fs p later long (clean words s at fs e)
