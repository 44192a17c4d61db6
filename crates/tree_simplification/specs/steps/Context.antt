-- What is known at a place of a tree's walk, as rows over the values of the loops round it and the parameters.
use Rattle.std.specs.Prelude.{◌≡◌, ℕ, suc, Bool, true, false, ℤ, pos, negsuc, ◌+ℤ◌, ◌-ℤ◌, ◌*ℤ◌, ◌≤ℤ◌, ◌<ℤ◌, List}
use Rattle.std.specs.Prelude.{[], ◌∷◌, ◌++◌, ◌+◌, ◌<◌, All, insert, length, map, not}
use Rattle.std.specs.List.{AllByRecursion}
use Rattle.whole_numbers.specs.Affine.{Affine, form_of, value_of, widened}
use Rattle.whole_numbers.specs.Lists.{NotNegative, multiples}
use Rattle.affine_forms.specs.Parts.{variables_of}
use Rattle.scop_syntax.specs.Limits.{AreInRange}
use Rattle.scop_syntax.specs.Members.{In}
use Rattle.loop_tree.specs.Tree.{Bound, Bounds, only, besides, Test, at_least, equal, multiple}

-- so many loops and parameters, rows that are at least 0, and whether the loops' values are known to be at least 0
pub record Context : Type 0 where
  pub loops : ℕ
  pub parameters : ℕ
  pub natural : Bool
  pub rows : List Affine

-- each form is at least 0 at a point
abbrev pub Hold : List Affine → List ℤ → Type 0
Hold rows point = AllByRecursion (λ f. pos 0 ≤ℤ value_of f point) rows

-- values of parameters and loops of which the context speaks
pub record Meets (c : Context) (params outer : List ℤ) : Type 0 where
  pub loops_are : length outer ≡ c.loops
  pub parameters_are : length params ≡ c.parameters
  pub range : AreInRange params
  pub whole : c.natural ≡ true → NotNegative outer
  pub inside : Hold c.rows (outer ++ params)

-- the parts of bounds
abbrev pub parts : Bounds → List Bound
parts (only b) = b ∷ []
parts (besides b bs) = b ∷ parts bs

-- a factor that turns the sign or does not
abbrev pub sign_of : Bool → ℤ
sign_of true = negsuc 0
sign_of false = pos 1

-- what is added to make "below 0" of "at most 0"
abbrev pub less_of : Bool → ℤ
less_of true = negsuc 0
less_of false = pos 0

-- x is at least each of these lower bounds (turned), or at most each of these upper ones
abbrev pub OnSide : Bool → List Bound → List ℤ → ℤ → Type 0
OnSide turned bs point x =
    AllByRecursion (λ b. pos 0 ≤ℤ (sign_of turned *ℤ (value_of b.form point -ℤ (x *ℤ b.divisor)))) bs

-- a form or its opposite, or 1 less
abbrev pub form_row : Bool → Bool → Affine → Affine
form_row turned less f =
    form_of (multiples (sign_of turned) f.coefficients) ((sign_of turned *ℤ f.constant) +ℤ less_of less)

-- form - divisor * x or its opposite, or 1 less, where x is the value of the loop behind n others
abbrev pub part_row : ℕ → Bool → Bool → Bound → Affine
part_row n turned less b =
    form_of (insert (multiples (sign_of turned) b.form.coefficients) n (sign_of (not turned) *ℤ b.divisor))
    ((sign_of turned *ℤ b.form.constant) +ℤ less_of less)

-- what a test says in rows
abbrev pub test_rows : Test → List Affine
test_rows (at_least f) = form_row false false f ∷ []
test_rows (equal f) = form_row false false f ∷ form_row true false f ∷ []
test_rows (multiple f d) = []

-- what tests say
abbrev pub tests_rows : List Test → List Affine
tests_rows [] = []
tests_rows (test ∷ tests) = test_rows test ++ tests_rows tests

-- the context within a loop of which bounds of one side are known and others of the other one
abbrev pub sided : Context → Bool → List Bound → List Bound → Bool → Context
sided c turned bs others natural =
    record {
      loops = suc c.loops;
      parameters = c.parameters;
      natural = natural;
      rows = map (widened c.loops) c.rows
          ++ (map (part_row c.loops turned false) bs ++ map (part_row c.loops (not turned) false) others);
    }

-- the context within a loop
abbrev pub entered : Context → List Bound → List Bound → Bool → Context
entered c los ups natural = sided c true los ups natural

-- the context under tests
abbrev pub tested : Context → List Test → Context
tested c tests = record c { rows = c.rows ++ tests_rows tests }

-- no loop round, and nothing known
abbrev pub outside : ℕ → Context
outside parameters = record { loops = 0; parameters = parameters; natural = true; rows = [] }

-- each row speaks of the loops and the parameters
abbrev pub IsSizedContext : Context → Type 0
IsSizedContext c = All (λ f. variables_of f ≡ c.loops + c.parameters) c.rows

-- each part's form speaks of n variables, and its divisor is at least 1
pub record ArePartsOver (n : ℕ) (bs : List Bound) : Type 0 where
  pub forms : All (λ b. variables_of b.form ≡ n) bs
  pub divisors : All (λ b. pos 0 <ℤ b.divisor) bs

-- wherever the context speaks, neither a value that is at least lower bounds nor one of the loops round is negative
abbrev pub NaturalAbove : Context → List Bound → Type 0
NaturalAbove c los =
    (params outer : List ℤ) → Meets c params outer → (x : ℤ) → OnSide true los (outer ++ params) x
    → NotNegative (outer ++ x ∷ [])

-- nor one between bounds
abbrev pub NaturalBetween : Context → Bool → List Bound → List Bound → Type 0
NaturalBetween c turned bs others =
    (params outer : List ℤ) → Meets c params outer → (x : ℤ) → OnSide turned bs (outer ++ params) x
    → OnSide (not turned) others (outer ++ params) x → NotNegative (outer ++ x ∷ [])

-- a part of one side's bounds holds where others of that side and those of the other side do, if the context speaks
abbrev pub ImpliesPart : Context → Bool → List Bound → List Bound → Bound → Type 0
ImpliesPart c turned bs others b =
    (params outer : List ℤ) → Meets c params outer → (x : ℤ) → OnSide turned bs (outer ++ params) x
    → OnSide (not turned) others (outer ++ params) x → OnSide turned (b ∷ []) (outer ++ params) x

-- some of the parts of one side, which with the other side's say what all do wherever the context speaks
pub record TrimsSide (c : Context) (turned : Bool) (bs others kept : List Bound) : Type 0 where
  pub some : 0 < length kept
  pub among : (b : Bound) → In b kept → In b bs
  pub implied : (params outer : List ℤ) → Meets c params outer → (x : ℤ) → OnSide turned kept (outer ++ params) x
      → OnSide (not turned) others (outer ++ params) x → OnSide turned bs (outer ++ params) x

-- the form is below 0 wherever the context speaks
abbrev pub NeverHolds : Context → Affine → Type 0
NeverHolds c f = (params outer : List ℤ) → Meets c params outer → value_of f (outer ++ params) <ℤ pos 0

-- the context speaks of no values
abbrev pub NeverSpeaks : Context → Type 0
NeverSpeaks c = (params outer : List ℤ) → Meets c params outer → ⊥
