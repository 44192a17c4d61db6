-- Two conflicting places are a pair of a dependence between statements of the model.
use Rattle.scop_syntax.proofs.Common.{◌≡◌, ◌+◌, ℕ, zero, suc, ◌<◌, List, [], ◌∷◌, refl, sym, ◌∙◌, ap, arith, length}
use Rattle.scop_syntax.proofs.Common.{map, Some, All, Option, slice_get, slice_index_or, All-nil, All-cons, All-head}
use Rattle.scop_syntax.proofs.Common.{All-tail, Affine}
use Rattle.iteration_domains.specs.Dependence.{Dependence}
use Rattle.iteration_domains.specs.Model.{Modelled, KernelModel}
use Rattle.conflict_deps.specs.Parts.{HasParts}
use Rattle.plan_check.specs.Plans.{PlanRow, PlanItem, rows, numbers, AreFor, IsFor, form_for}
use Rattle.plan_check.specs.Goals.{loops_in}
use Rattle.plan_check.proofs.GoalPoints.{SuitsEnds}
use Rattle.plan_check.proofs.PlanOrder.{ItemSuits}

-- a statement of a model has its number of loops in the list of them
abbrev dimensions_in : Option Modelled → ℕ
dimensions_in (Some z) = z.domain.dimensions
dimensions_in o = 0

loops_at : (xs : List Modelled) (k : ℕ) (x : Modelled) → slice_get xs k ≡ Some x
    → (k < length xs)
    × (slice_index_or (map (λ (s : Modelled). s.domain.dimensions) xs) k 0 ≡ x.domain.dimensions)
loops_at [] k x h = absurd cc
loops_at (y ∷ xs) zero x h = (omega arith, ap dimensions_in h)
loops_at (y ∷ xs) (suc k) x h = let r = loops_at xs k x h in let l = r.0 in (omega arith, r.1)

-- the ends of a conflict are statements of the model, and have the numbers of turns of these
pub record AreEnds (model : KernelModel) (d : Dependence) : Type 0 where
  pub source : d.source.statement < length model.statements
  pub target : d.target.statement < length model.statements
  pub source_loops : slice_index_or (loops_in model) d.source.statement 0 ≡ d.source.loops
  pub target_loops : slice_index_or (loops_in model) d.target.statement 0 ≡ d.target.loops
  pub dimensions : d.system.dimensions ≡ d.source.loops + d.target.loops

pub ends_of : (model : KernelModel) (d : Dependence) → HasParts model d → AreEnds model d
ends_of model d h =
    let from = loops_at model.statements d.source.statement h.from.statement h.source in
    let to = loops_at model.statements d.target.statement h.to.statement h.target in
    let f = ap (λ (z : Dependence). z.source.loops) h.is in
    let t = ap (λ (z : Dependence). z.target.loops) h.is in
    let n = ap (λ (z : Dependence). z.system.dimensions) h.is in
    record {
      source = from.0;
      target = to.0;
      source_loops = from.1 ∙ sym f;
      target_loops = to.1 ∙ sym t;
      dimensions = omega arith;
    }

abbrev first_of : List ℕ → ℕ
first_of [] = 0
first_of (x ∷ xs) = x

abbrev rest_of : List ℕ → List ℕ
rest_of [] = []
rest_of (x ∷ xs) = xs

-- a row for statements that have so many loops has so many coefficients at each
pub coefficients_at : (forms : List Affine) (loops : List ℕ) (k : ℕ) → AreFor loops forms
    → length (form_for forms k).coefficients ≡ slice_index_or loops k 0
coefficients_at [] [] k h = refl
coefficients_at [] (l ∷ loops) k h = absurd cc
coefficients_at (f ∷ forms) [] k h = absurd cc
coefficients_at (f ∷ forms) (l ∷ loops) zero h = ap first_of h
coefficients_at (f ∷ forms) (l ∷ loops) (suc k) h = coefficients_at forms loops k (ap rest_of h)

-- rows that suit the statements suit the ends
suits : (model : KernelModel) (d : Dependence) (forms : List Affine) → AreEnds model d → AreFor (loops_in model) forms
    → SuitsEnds d.source d.target forms
suits model d forms e h = record {
  first = coefficients_at forms (loops_in model) d.source.statement h ∙ e.source_loops;
  second = coefficients_at forms (loops_in model) d.target.statement h ∙ e.target_loops;
}

pub band_suits : (model : KernelModel) (d : Dependence) (band : List PlanRow) → AreEnds model d
    → All (λ r. AreFor (loops_in model) r.forms) band → All (λ r. SuitsEnds d.source d.target r.forms) band
band_suits model d [] e h = All-nil (λ r. SuitsEnds d.source d.target r.forms)
band_suits model d (r ∷ rs) e h =
    All-cons (λ r. SuitsEnds d.source d.target r.forms) r rs
    (suits model d r.forms e (All-head (λ r. AreFor (loops_in model) r.forms) r rs h))
    (band_suits model d rs e (All-tail (λ r. AreFor (loops_in model) r.forms) r rs h))

item_suits : (model : KernelModel) (d : Dependence) (i : PlanItem) → AreEnds model d → IsFor (loops_in model) i
    → ItemSuits d.source d.target i
item_suits model d (rows forms) e h = suits model d forms e h
item_suits model d (numbers ns) e h = tt

pub items_suit : (model : KernelModel) (d : Dependence) (items : List PlanItem) → AreEnds model d
    → All (IsFor (loops_in model)) items → All (ItemSuits d.source d.target) items
items_suit model d [] e h = All-nil (ItemSuits d.source d.target)
items_suit model d (i ∷ is) e h =
    All-cons (ItemSuits d.source d.target) i is (item_suits model d i e (All-head (IsFor (loops_in model)) i is h))
    (items_suit model d is e (All-tail (IsFor (loops_in model)) i is h))
