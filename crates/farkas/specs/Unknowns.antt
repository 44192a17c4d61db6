-- The unknowns of a dependence and their places.
use Rattle.std.specs.Prelude.{◌≡◌, ℕ, zero, suc, ◌+◌, nat_eq, nat_lt, if◌then◌else◌, ℤ, pos, List, [], ◌∷◌, ◌++◌}
use Rattle.std.specs.Prelude.{length, reverse, get_or}
use Rattle.iteration_domains.specs.declared.dep.DepEnd.{DepEnd}
use Rattle.farkas.specs.declared.layout.Layout.{Layout}

-- The unknowns of a dependence: u, one for each parameter, then w, then each statement's own in textual order: its
-- coefficients, innermost first, and its shift. Where source and target are one statement, that stands once.

-- the place behind the unknowns of a statement whose first stands at `first`
abbrev pub behind : ℕ → DepEnd → ℕ
behind first side = first + side.loops + 1

-- the layout of these parts
abbrev pub places : ℕ → ℕ → ℕ → Layout
places unknowns source target = record { unknowns = unknowns; source = source; target = target }

-- how many unknowns a dependence has, and where the source's and the target's begin
unfoldable pub layout_of : ℕ → DepEnd → DepEnd → Layout
layout_of parameters source target =
    if nat_eq source.statement target.statement
    then places (behind (parameters + 1) source) (parameters + 1) (parameters + 1)
    else if nat_lt source.statement target.statement
    then places (behind (behind (parameters + 1) source) target) (parameters + 1) (behind (parameters + 1) source)
    else places (behind (behind (parameters + 1) target) source) (behind (parameters + 1) target) (parameters + 1)

-- a statement's coefficients, from its outermost loop
abbrev pub coefficients_of : List ℤ → ℕ → ℕ → List ℤ
coefficients_of unknowns first zero = []
coefficients_of unknowns first (suc loops) =
    get_or unknowns (first + loops) (pos 0) ∷ coefficients_of unknowns first loops

-- its shift
abbrev pub shift_of : List ℤ → ℕ → ℕ → ℤ
shift_of unknowns first loops = get_or unknowns (first + loops) (pos 0)

-- u, from the parameter i on
abbrev pub bounds_of : List ℤ → ℕ → ℕ → List ℤ
bounds_of unknowns i zero = []
bounds_of unknowns i (suc n) = get_or unknowns i (pos 0) ∷ bounds_of unknowns (suc i) n

-- The unknowns by name, and the list of them that a row's numbers are factors of.

-- a statement's part: a coefficient for each loop, outermost first, and the shift
pub record Part : Type 0 where
  pub coefficients : List ℤ
  pub shift : ℤ

-- u and w of the bound, and the parts of source and target
pub record Unknowns : Type 0 where
  pub u : List ℤ
  pub w : ℤ
  pub source : Part
  pub target : Part

-- they are unknowns of a dependence of p parameters between these ends
pub record AreOf (p : ℕ) (source target : DepEnd) (x : Unknowns) : Type 0 where
  pub bounds : length x.u ≡ p
  pub source_loops : length x.source.coefficients ≡ source.loops
  pub target_loops : length x.target.coefficients ≡ target.loops
  pub one : source.statement ≡ target.statement → x.source ≡ x.target

-- a part's numbers: the coefficients, innermost first, then the shift
abbrev pub part_numbers : Part → List ℤ
part_numbers part = reverse part.coefficients ++ part.shift ∷ []

-- those of both parts in textual order; of one statement once
abbrev pub end_numbers : DepEnd → DepEnd → Unknowns → List ℤ
end_numbers source target x =
    if nat_eq source.statement target.statement
    then part_numbers x.source
    else if nat_lt source.statement target.statement
    then part_numbers x.source ++ part_numbers x.target
    else part_numbers x.target ++ part_numbers x.source

-- all of them: u, w, then the parts'
abbrev pub numbers_of : DepEnd → DepEnd → Unknowns → List ℤ
numbers_of source target x = x.u ++ x.w ∷ end_numbers source target x

-- a part is what stands from a place on
pub record Stands (numbers : List ℤ) (first loops : ℕ) (part : Part) : Type 0 where
  pub coefficients : coefficients_of numbers first loops ≡ part.coefficients
  pub shift : shift_of numbers first loops ≡ part.shift

-- the unknowns are what stands in a list by a layout, and no others do
pub record Shows (p : ℕ) (source target : DepEnd) (l : Layout) (numbers : List ℤ) (x : Unknowns) : Type 0 where
  pub size : length numbers ≡ l.unknowns
  pub bounds : bounds_of numbers 0 p ≡ x.u
  pub bound : get_or numbers p (pos 0) ≡ x.w
  pub source_part : Stands numbers l.source source.loops x.source
  pub target_part : Stands numbers l.target target.loops x.target
