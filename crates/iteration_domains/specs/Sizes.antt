-- How large the numbers of forms get.
use Rattle.std.specs.Prelude.{◌≡◌, ℕ, zero, suc, ◌+◌, ◌*◌, ◌^◌, ◌≤◌, ℤ, List, [], ◌∷◌, All, length, unsigned_abs}
use Rattle.std.specs.Prelude.{slice_get, Some}
use Rattle.whole_numbers.specs.Affine.{Affine}
use Rattle.integer_sets.specs.Parts.{variables_of}
use Rattle.scop_syntax.specs.Tree.{Access}
use Rattle.scop_syntax.specs.Kernel.{AreAtMost}
use Rattle.iteration_domains.specs.Model.{Modelled, KernelModel}

-- the sum of the absolute values of numbers
abbrev pub size : List ℤ → ℕ
size [] = 0
size (x ∷ xs) = unsigned_abs x + size xs

-- the same of a form's coefficients and constant
abbrev pub form_size : Affine → ℕ
form_size f = size f.coefficients + unsigned_abs f.constant

-- the same of forms together
abbrev pub forms_size : List Affine → ℕ
forms_size [] = 0
forms_size (f ∷ fs) = form_size f + forms_size fs

-- a bound of the size of a point's forms within d more loops
abbrev pub grown : ℕ → ℕ → ℕ
grown zero s = s
grown (suc d) s = grown d (17 * s + 2 ^ 21)

-- a form and the forms over n variables that replace its variables: what stands so far while they are put in stays far
-- within 128 bits
pub record CanCompose (n : ℕ) (forms : List Affine) (f : Affine) : Type 0 where
  pub count : length forms ≡ variables_of f
  pub sized : All (λ g. variables_of g ≡ n) forms
  pub greatest : ℕ
  pub entries : AreAtMost greatest f.coefficients
  pub small : greatest * forms_size forms + unsigned_abs f.constant ≤ 2 ^ 100

-- a form over n variables whose numbers lie far within 128 bits
pub record IsNarrow (n : ℕ) (f : Affine) : Type 0 where
  pub variables : variables_of f ≡ n
  pub numbers : form_size f ≤ 2 ^ 46

-- a statement of a model: a dimension for each loop, and such forms over the turns and the parameters
pub record IsModelled (s : Modelled) : Type 0 where
  pub loops : length s.loops ≡ s.domain.dimensions
  pub few_loops : s.domain.dimensions ≤ 5
  pub accesses : All (λ (a : Access). All (IsNarrow (s.domain.dimensions + s.domain.parameters)) a.subscripts)
      s.accesses

-- statements of one number have one number of loops
abbrev pub HaveOneCount : Modelled → Modelled → Type 0
HaveOneCount s t = s.number ≡ t.number → s.domain.dimensions ≡ t.domain.dimensions

-- a model: a few parameters, domains over just them, numbers by which its statements have their loops, and each
-- statement at the place of its number
pub record IsKernelModel (model : KernelModel) : Type 0 where
  pub few_parameters : model.parameters ≤ 4
  pub domains : All (λ s. s.domain.parameters ≡ model.parameters) model.statements
  pub numbers : All (λ s. All (HaveOneCount s) model.statements) model.statements
  pub places : (k : ℕ) (s : Modelled) → slice_get model.statements k ≡ Some s → s.number ≡ k
