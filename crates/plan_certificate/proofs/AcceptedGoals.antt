-- The goals of a plan that suits the statements are over their variables.
use Rattle.scop_syntax.proofs.Common.{◌≡◌, ◌∙◌, ap, sym, refl, subst, ℕ, zero, suc, ◌+◌, Bool, true, false, negsuc}
use Rattle.scop_syntax.proofs.Common.{List, [], ◌∷◌, ◌++◌, All, arith, inl, inr, if◌then◌else◌, nat_lt, slice_index_or}
use Rattle.scop_syntax.proofs.Common.{flat_map, All-nil, All-cons, All-append, All-head, All-tail, Affine, complement}
use Rattle.scop_syntax.proofs.Common.{multiples, zeros, length-multiples, length-zeros, In, all_in}
use Rattle.std.proofs.Common.{length-set}
use Rattle.std.proofs.lemmas.List.{length-append}
use Rattle.affine_forms.specs.Parts.{variables_of}
use Rattle.integer_sets.specs.Constraints.{variables_in}
use Rattle.iteration_domains.specs.Dependence.{Dependence}
use Rattle.iteration_domains.specs.Model.{KernelModel}
use Rattle.iteration_domains.specs.Restrictions.{equality_behind, row_behind}
use Rattle.conflict_deps.specs.Conflicts.{conflicts_of}
use Rattle.plan_check.specs.Goals.{IsSizedGoal, above, band_goals, bounded, difference, goals_in, goals_of, later_goals}
use Rattle.plan_check.specs.Goals.{leading_goals, loops_in, restricted, row_goals, upper_rows}
use Rattle.plan_check.specs.Plans.{AreFor, IsFor, Plan, PlanItem, PlanRow, Suits, form_for, number_of, numbers, rows}
use Rattle.plan_check.proofs.ConflictPairs.{coefficients_at}

-- a dependence between statements of so many loops, with m parameters, whose forms are over its variables
pub record IsOver (loops : List ℕ) (m : ℕ) (d : Dependence) : Type 0 where
  pub sized : IsSizedGoal d
  pub source : slice_index_or loops d.source.statement 0 ≡ d.source.loops
  pub target : slice_index_or loops d.target.statement 0 ≡ d.target.loops
  pub dimensions : d.system.dimensions ≡ d.source.loops + d.target.loops
  pub parameters : d.system.parameters ≡ m

-- a difference is over its variables
difference_sized : (loops : List ℕ) (m : ℕ) (d : Dependence) (forms : List Affine) → IsOver loops m d
    → AreFor loops forms → variables_of (difference m d forms) ≡ variables_in d.system
difference_sized loops m d forms over suits =
    let s = form_for forms d.source.statement in
    let t = form_for forms d.target.statement in
    let before = coefficients_at forms loops d.source.statement suits in
    let after = coefficients_at forms loops d.target.statement suits in
    let source = over.source in
    let target = over.target in
    let dimensions = over.dimensions in
    let parameters = over.parameters in
    let turned = length-multiples (negsuc 0) s.coefficients in
    let ends = length-zeros m in
    let back = length-append t.coefficients (zeros m) in
    let whole = length-append (multiples (negsuc 0) s.coefficients) (t.coefficients ++ zeros m) in
    omega arith

-- with a form more
row_over : (loops : List ℕ) (m : ℕ) (d : Dependence) (f : Affine) → IsOver loops m d
    → variables_of f ≡ variables_in d.system → IsOver loops m (row_behind d f)
row_over loops m d f over h = record {
  sized = record {
    equalities_sized = over.sized.equalities_sized;
    rows_sized = All-append (λ g. variables_of g ≡ variables_in d.system) d.system.rows (f ∷ []) over.sized.rows_sized
        (All-cons (λ g. variables_of g ≡ variables_in d.system) f [] h (All-nil (λ g. variables_of g ≡ variables_in d.system)));
  };
  source = over.source;
  target = over.target;
  dimensions = over.dimensions;
  parameters = over.parameters;
}

equality_over : (loops : List ℕ) (m : ℕ) (d : Dependence) (f : Affine) → IsOver loops m d
    → variables_of f ≡ variables_in d.system → IsOver loops m (equality_behind d f)
equality_over loops m d f over h = record {
  sized = record {
    equalities_sized = All-append (λ g. variables_of g ≡ variables_in d.system) d.system.equalities (f ∷ [])
        over.sized.equalities_sized
        (All-cons (λ g. variables_of g ≡ variables_in d.system) f [] h (All-nil (λ g. variables_of g ≡ variables_in d.system)));
    rows_sized = over.sized.rows_sized;
  };
  source = over.source;
  target = over.target;
  dimensions = over.dimensions;
  parameters = over.parameters;
}

upper_sized : (n j k : ℕ) → All (λ f. variables_of f ≡ n) (upper_rows n j k)
upper_sized n j zero = All-nil (λ f. variables_of f ≡ n)
upper_sized n j (suc k) =
    All-cons (λ f. variables_of f ≡ n) _ (upper_rows n (suc j) k)
    (length-set (zeros n) j (negsuc 0) ∙ length-zeros n) (upper_sized n (suc j) k)

bounded_over : (loops : List ℕ) (m : ℕ) (d : Dependence) → IsOver loops m d → IsOver loops m (bounded m d)
bounded_over loops m d over =
    let n = d.system.dimensions + m in
    let count : n ≡ variables_in d.system = ap (λ (k : ℕ). d.system.dimensions + k) (sym over.parameters) in
    record {
      sized = record {
        equalities_sized = over.sized.equalities_sized;
        rows_sized = All-append (λ g. variables_of g ≡ variables_in d.system) d.system.rows
            (upper_rows n d.system.dimensions m) over.sized.rows_sized
            (subst (λ (k : ℕ). All (λ g. variables_of g ≡ k) (upper_rows n d.system.dimensions m)) count
            (upper_sized n d.system.dimensions m));
      };
      source = over.source;
      target = over.target;
      dimensions = over.dimensions;
      parameters = over.parameters;
    }

-- what holds of both sides holds of the chosen one, and of all pieces of what they make
chosen : {A : Type 0} (P : A → Type 0) (b : Bool) (xs ys : List A) → All P xs → All P ys
    → All P (if b then xs else ys)
chosen P true xs ys h k = h
chosen P false xs ys h k = k

all_pieces : {A B : Type 0} (P : B → Type 0) (f : A → List B) (xs : List A) → All (λ x. All P (f x)) xs
    → All P (flat_map f xs)
all_pieces P f [] h = All-nil P
all_pieces P f (x ∷ xs) h =
    All-append P (f x) (flat_map f xs) (All-head (λ y. All P (f y)) x xs h)
    (all_pieces P f xs (All-tail (λ y. All P (f y)) x xs h))

-- the goals of a row
row_goals_over : (loops : List ℕ) (m : ℕ) (d : Dependence) (r : PlanRow) → IsOver loops m d → AreFor loops r.forms
    → All (IsOver loops m) (row_goals m d r)
row_goals_over loops m d r over suits =
    let P : Dependence → Type 0 = IsOver loops m in
    let f = difference m d r.forms in
    let sized = difference_sized loops m d r.forms over suits in
    let rising = row_behind d (above f) in
    let falling = row_behind d (complement f) in
    All-cons P falling (if r.parallel then rising ∷ [] else [])
    (row_over loops m d (complement f) over (length-multiples (negsuc 0) f.coefficients ∙ sized))
    (chosen P r.parallel (rising ∷ []) [] (All-cons P rising [] (row_over loops m d (above f) over sized) (All-nil P))
    (All-nil P))

band_over : (loops : List ℕ) (m : ℕ) (d : Dependence) (rs : List PlanRow) → IsOver loops m d
    → All (λ r. AreFor loops r.forms) rs → All (λ r. All (IsOver loops m) (row_goals m d r)) rs
band_over loops m d [] over suits = All-nil (λ r. All (IsOver loops m) (row_goals m d r))
band_over loops m d (r ∷ rs) over suits =
    All-cons (λ r. All (IsOver loops m) (row_goals m d r)) r rs
    (row_goals_over loops m d r over (All-head (λ r. AreFor loops r.forms) r rs suits))
    (band_over loops m d rs over (All-tail (λ r. AreFor loops r.forms) r rs suits))

restricted_over : (loops : List ℕ) (m : ℕ) (d : Dependence) (rs : List PlanRow) → IsOver loops m d
    → All (λ r. AreFor loops r.forms) rs → IsOver loops m (restricted m d rs)
restricted_over loops m d [] over suits = over
restricted_over loops m d (r ∷ rs) over suits =
    restricted_over loops m (equality_behind d (difference m d r.forms)) rs
    (equality_over loops m d (difference m d r.forms) over
    (difference_sized loops m d r.forms over (All-head (λ r. AreFor loops r.forms) r rs suits)))
    (All-tail (λ r. AreFor loops r.forms) r rs suits)

later_over : (loops : List ℕ) (m : ℕ) (d : Dependence) (items : List PlanItem) → IsOver loops m d
    → All (IsFor loops) items → All (IsOver loops m) (later_goals m d items)
later_over loops m d [] over suits = All-cons (IsOver loops m) d [] over (All-nil (IsOver loops m))
later_over loops m d (rows forms ∷ items) over suits =
    let f = difference m d forms in
    let sized = difference_sized loops m d forms over (All-head (IsFor loops) (rows forms) items suits) in
    All-cons (IsOver loops m) (row_behind d (complement f)) (later_goals m (equality_behind d f) items)
    (row_over loops m d (complement f) over (length-multiples (negsuc 0) f.coefficients ∙ sized))
    (later_over loops m (equality_behind d f) items (equality_over loops m d f over sized)
    (All-tail (IsFor loops) (rows forms) items suits))
later_over loops m d (numbers ns ∷ items) over suits =
    let P : Dependence → Type 0 = IsOver loops m in
    let rest = later_over loops m d items over (All-tail (IsFor loops) (numbers ns) items suits) in
    chosen P (nat_lt (number_of ns d.source.statement) (number_of ns d.target.statement)) [] _ (All-nil P)
    (chosen P (nat_lt (number_of ns d.target.statement) (number_of ns d.source.statement)) (d ∷ later_goals m d items)
    (later_goals m d items) (All-cons P d (later_goals m d items) over rest) rest)

leading_over : (loops : List ℕ) (m : ℕ) (d : Dependence) (leading : List (List ℕ)) (goals : List Dependence)
    → IsOver loops m d → All (IsOver loops m) goals → All (IsOver loops m) (leading_goals d leading goals)
leading_over loops m d [] goals over all = all
leading_over loops m d (ns ∷ rest) goals over all =
    let P : Dependence → Type 0 = IsOver loops m in
    chosen P (nat_lt (number_of ns d.source.statement) (number_of ns d.target.statement)) [] _ (All-nil P)
    (chosen P (nat_lt (number_of ns d.target.statement) (number_of ns d.source.statement)) (d ∷ [])
    (leading_goals d rest goals) (All-cons P d [] over (All-nil P)) (leading_over loops m d rest goals over all))

-- all goals of a dependence, and of all conflicts
goals_over : (loops : List ℕ) (m : ℕ) (p : Plan) (d : Dependence) → Suits loops p → IsOver loops m d
    → All (IsOver loops m) (goals_of m p d)
goals_over loops m p d suits over =
    let b = bounded m d in
    let low = bounded_over loops m d over in
    leading_over loops m b p.leading (band_goals m b p) low
    (All-append (IsOver loops m) (flat_map (row_goals m b) p.band) (later_goals m (restricted m b p.band) p.behind)
    (all_pieces (IsOver loops m) (row_goals m b) p.band (band_over loops m b p.band low suits.band))
    (later_over loops m (restricted m b p.band) p.behind (restricted_over loops m b p.band low suits.band) suits.behind))

each_goals : (loops : List ℕ) (m : ℕ) (p : Plan) (ds : List Dependence) → Suits loops p
    → ((d : Dependence) → In d ds → IsOver loops m d) → All (λ d. All (IsOver loops m) (goals_of m p d)) ds
each_goals loops m p [] suits over = All-nil (λ d. All (IsOver loops m) (goals_of m p d))
each_goals loops m p (d ∷ ds) suits over =
    All-cons (λ d. All (IsOver loops m) (goals_of m p d)) d ds (goals_over loops m p d suits (over d (inl refl)))
    (each_goals loops m p ds suits (λ e h. over e (inr h)))

pub goals_sized : (model : KernelModel) (p : Plan) (g : Dependence) → Suits (loops_in model) p
    → ((d : Dependence) → In d (conflicts_of model) → IsOver (loops_in model) model.parameters d)
    → In g (goals_in model p) → IsSizedGoal g
goals_sized model p g suits over among =
    (all_in (IsOver (loops_in model) model.parameters) (goals_in model p) g
    (all_pieces (IsOver (loops_in model) model.parameters) (goals_of model.parameters p) (conflicts_of model)
    (each_goals (loops_in model) model.parameters p (conflicts_of model) suits over)) among).sized
