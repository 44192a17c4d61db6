-- The goals of a dependence from each place on, and what a plan's rows are over.
use Rattle.scop_syntax.proofs.Common.{◌≡◌, ◌+◌, ℕ, zero, suc, ◌<◌, ◌≤◌, pos, negsuc, Bool, true, false, List, [], ◌∷◌}
use Rattle.scop_syntax.proofs.Common.{◌++◌, inl, inr, All, Some, None, drop, length, map, refl, sym, ◌∙◌, ap, ap₂}
use Rattle.scop_syntax.proofs.Common.{subst, arith, append_assoc, IfOk, Option, Result, ◌-◌, if◌then◌else◌, nat_lt, set}
use Rattle.scop_syntax.proofs.Common.{slice_get, flat_map, length-map, All-nil, All-cons, All-head, All-tail}
use Rattle.scop_syntax.proofs.Common.{AllocError, slice_get-map, slice_get_past, IfOk-weaker, Affine, complement}
use Rattle.scop_syntax.proofs.Common.{form_of, multiples, zeros, length-multiples, length-zeros, In, most_parameter}
use Rattle.std.specs.Prelude.{option_map}
use Rattle.std.proofs.Common.{length-set}
use Rattle.std.proofs.lemmas.List.{length-append}
use Rattle.affine_forms.specs.Parts.{variables_of}
use Rattle.integer_sets.specs.Constraints.{variables_in}
use Rattle.iteration_domains.specs.Dependence.{Dependence}
use Rattle.iteration_domains.specs.Model.{KernelModel}
use Rattle.iteration_domains.specs.Restrictions.{equality_behind, row_behind}
use Rattle.conflict_deps.specs.Conflicts.{conflicts_of}
use Rattle.conflict_deps.specs.Parts.{HasParts}
use Rattle.plan_check.specs.Goals.{above, bounded, difference, goals_of, later_goals, leading_goals, loops_in, restricted}
use Rattle.plan_check.specs.Goals.{row_goals, upper_rows}
use Rattle.plan_check.specs.Plans.{AreFor, AreUp, IsFor, IsItemUp, IsUp, Plan, PlanItem, PlanRow, Suits, form_for, number_of}
use Rattle.plan_check.specs.Plans.{rows, numbers}
use Rattle.plan_check.specs.steps.Walks.{Finds, FitsRow, rows_behind, with_rows}
use Rattle.plan_check.specs.GoalList.{CanGo, band_goals_at, goals_at}
use Rattle.plan_check.specs.declared.walk.Found.{Found}
use Rattle.plan_check.specs.declared.walk.Place.{Place}
use Rattle.plan_check.proofs.ConflictPairs.{coefficients_at, ends_of}
use Rattle.plan_check.proofs.PlanOrder.{lt_false, lt_true}

-- a list from the place of an element on, and past its end
pub get_mapped : {A B : Type 0} (f : A → B) (xs : List A) (k : ℕ) (x : A) → slice_get xs k ≡ Some x
    → slice_get (map f xs) k ≡ Some (f x)
get_mapped f xs k x h = slice_get-map f xs k ∙ ap (option_map f) h

pub get_none : {A B : Type 0} (f : A → B) (xs : List A) (k : ℕ) → slice_get xs k ≡ None → slice_get (map f xs) k ≡ None
get_none f xs k h = slice_get-map f xs k ∙ ap (option_map f) h

drop_suc : {A : Type 0} (xs : List A) (k : ℕ) (x : A) → slice_get xs k ≡ Some x → drop k xs ≡ x ∷ drop (suc k) xs
drop_suc [] k x h = absurd cc
drop_suc (y ∷ xs) zero x h = let e : y ≡ x = cc in ap (λ z. z ∷ xs) e
drop_suc (y ∷ xs) (suc k) x h = drop_suc xs k x h

pub drop_at : {A : Type 0} (xs : List A) (k : ℕ) (x : A) → slice_get xs k ≡ Some x → drop k xs ≡ x ∷ drop (k + 1) xs
drop_at xs k x h =
    let e : suc k ≡ k + 1 = omega arith in drop_suc xs k x h ∙ ap (λ (n : ℕ). x ∷ drop n xs) e

pub drop_past : {A : Type 0} (xs : List A) (k : ℕ) → slice_get xs k ≡ None → drop k xs ≡ []
drop_past [] zero h = refl
drop_past [] (suc k) h = refl
drop_past (y ∷ xs) zero h = absurd cc
drop_past (y ∷ xs) (suc k) h = drop_past xs k h

-- what holds of all holds of the one at a place
pub one_of : {A : Type 0} (P : A → Type 0) (xs : List A) (k : ℕ) (x : A) → All P xs → slice_get xs k ≡ Some x → P x
one_of P [] k x all h = absurd cc
one_of P (y ∷ xs) zero x all h = let e : y ≡ x = cc in subst P e (All-head P y xs all)
one_of P (y ∷ xs) (suc k) x all h = one_of P xs k x (All-tail P y xs all) h

-- a row of a plan that suits a dependence
fits : (m : ℕ) (p : Plan) (d : Dependence) (forms : List Affine) (can : CanGo m p d) → AreFor can.loops forms → AreUp forms
    → FitsRow m d forms
fits m p d forms can suits up =
    let sizes = length-map forms variables_of in
    let same = ap length suits in
    let s = form_for forms d.source.statement in
    let t = form_for forms d.target.statement in
    let before = coefficients_at forms can.loops d.source.statement suits in
    let after = coefficients_at forms can.loops d.target.statement suits in
    let source = can.source in
    let target = can.target in
    let dimensions = can.dimensions in
    let parameters = can.parameters in
    let first = can.first in
    let second = can.second in
    let turned = length-multiples (negsuc 0) s.coefficients in
    let ends = length-zeros m in
    let back = length-append t.coefficients (zeros m) in
    let whole = length-append (multiples (negsuc 0) s.coefficients) (t.coefficients ++ zeros m) in
    let sized : variables_of (difference m d forms) ≡ variables_in d.system = omega arith in
    let inside : d.source.statement < length forms = omega arith in
    let outside : d.target.statement < length forms = omega arith in
    record {
      first = inside;
      second = outside;
      first_up = up d.source.statement (form_of [] (pos 0)) inside;
      second_up = up d.target.statement (form_of [] (pos 0)) outside;
      equal_sized = sized;
      falling_sized = length-multiples (negsuc 0) (difference m d forms).coefficients ∙ sized;
      rising_sized = sized;
    }

pub band_fits : (m : ℕ) (p : Plan) (d : Dependence) (k : ℕ) (r : PlanRow) → CanGo m p d → slice_get p.band k ≡ Some r
    → FitsRow m d r.forms
band_fits m p d k r can h =
    fits m p d r.forms can (one_of (λ (q : PlanRow). AreFor can.loops q.forms) p.band k r can.suits.band h)
    (one_of (λ (q : PlanRow). AreUp q.forms) p.band k r can.up.band h)

pub later_fits : (m : ℕ) (p : Plan) (d : Dependence) (k : ℕ) (forms : List Affine) → CanGo m p d
    → slice_get p.behind k ≡ Some (rows forms) → FitsRow m d forms
later_fits m p d k forms can h =
    fits m p d forms can (one_of (IsFor can.loops) p.behind k (rows forms) can.suits.behind h)
    (one_of IsItemUp p.behind k (rows forms) can.up.behind h)

-- a dependence with constraints more
pub can_equal : (m : ℕ) (p : Plan) (d : Dependence) (f : Affine) → CanGo m p d → CanGo m p (equality_behind d f)
can_equal m p d f h = record {
  loops = h.loops;
  suits = h.suits;
  up = h.up;
  first = h.first;
  second = h.second;
  source = h.source;
  target = h.target;
  dimensions = h.dimensions;
  parameters = h.parameters;
}

pub can_bounded : (m : ℕ) (p : Plan) (d : Dependence) → CanGo m p d → CanGo m p (bounded m d)
can_bounded m p d h = record {
  loops = h.loops;
  suits = h.suits;
  up = h.up;
  first = h.first;
  second = h.second;
  source = h.source;
  target = h.target;
  dimensions = h.dimensions;
  parameters = h.parameters;
}

-- and a conflict of a model
pub can_go : (model : KernelModel) (p : Plan) (d : Dependence) → HasParts model d → Suits (loops_in model) p → IsUp p
    → CanGo model.parameters p d
can_go model p d h suits up =
    let ends = ends_of model d h in
    let count = length-map model.statements (λ s. s.domain.dimensions) in
    let first = ends.source in
    let second = ends.target in
    record {
      loops = loops_in model;
      suits = suits;
      up = up;
      first = omega arith;
      second = omega arith;
      source = ends.source_loops;
      target = ends.target_loops;
      dimensions = ends.dimensions;
      parameters = ap (λ (z : Dependence). z.system.parameters) h.is;
    }

-- the goals from a row of the band on
band_at_row : (m : ℕ) (p : Plan) (d : Dependence) (k : ℕ) (r : PlanRow) → slice_get p.band k ≡ Some r
    → band_goals_at m p d k
    ≡ (row_goals m d r ++ flat_map (row_goals m d) (drop (k + 1) p.band))
    ++ later_goals m (restricted m d p.band) p.behind
band_at_row m p d k r h =
    ap (λ (rs : List PlanRow). flat_map (row_goals m d) rs ++ later_goals m (restricted m d p.band) p.behind)
    (drop_at p.band k r h)

pub first_of_row : (m : ℕ) (p : Plan) (d : Dependence) (k : ℕ) (r : PlanRow) → slice_get p.band k ≡ Some r
    → band_goals_at m p d k
    ≡ row_behind d (complement (difference m d r.forms)) ∷ drop 1 (band_goals_at m p d k)
first_of_row m p d k r h =
    let e = band_at_row m p d k r h in
    e ∙ ap (λ (ds : List Dependence). row_behind d (complement (difference m d r.forms)) ∷ drop 1 ds) (sym e)

-- behind the first goal
behind_first : (m : ℕ) (p : Plan) (d : Dependence) (k : ℕ) (r : PlanRow) (b : Bool) → slice_get p.band k ≡ Some r
    → r.parallel ≡ b
    → drop 1 (band_goals_at m p d k)
    ≡ ((if b then row_behind d (above (difference m d r.forms)) ∷ [] else [])
    ++ flat_map (row_goals m d) (drop (k + 1) p.band))
    ++ later_goals m (restricted m d p.band) p.behind
behind_first m p d k r b h e =
    ap (drop 1) (band_at_row m p d k r h)
    ∙ ap (λ (c : Bool). ((if c then row_behind d (above (difference m d r.forms)) ∷ [] else [])
    ++ flat_map (row_goals m d) (drop (k + 1) p.band))
    ++ later_goals m (restricted m d p.band) p.behind) e

pub second_marked : (m : ℕ) (p : Plan) (d : Dependence) (k : ℕ) (r : PlanRow) → slice_get p.band k ≡ Some r
    → r.parallel ≡ true
    → drop 1 (band_goals_at m p d k) ≡ row_behind d (above (difference m d r.forms)) ∷ band_goals_at m p d (k + 1)
second_marked m p d k r h e = behind_first m p d k r true h e

pub second_plain : (m : ℕ) (p : Plan) (d : Dependence) (k : ℕ) (r : PlanRow) → slice_get p.band k ≡ Some r
    → r.parallel ≡ false → drop 1 (band_goals_at m p d k) ≡ band_goals_at m p d (k + 1)
second_plain m p d k r h e = behind_first m p d k r false h e

pub first_plain : (m : ℕ) (p : Plan) (d : Dependence) (k : ℕ) (r : PlanRow) → slice_get p.band k ≡ Some r
    → r.parallel ≡ false
    → band_goals_at m p d k
    ≡ row_behind d (complement (difference m d r.forms)) ∷ band_goals_at m p d (k + 1)
first_plain m p d k r h e =
    first_of_row m p d k r h
    ∙ ap (λ (ds : List Dependence). row_behind d (complement (difference m d r.forms)) ∷ ds) (second_plain m p d k r h e)

pub band_past : (m : ℕ) (p : Plan) (d : Dependence) (k : ℕ) → slice_get p.band k ≡ None
    → band_goals_at m p d k ≡ later_goals m (restricted m d p.band) p.behind
band_past m p d k h =
    ap (λ (rs : List PlanRow). flat_map (row_goals m d) rs ++ later_goals m (restricted m d p.band) p.behind)
    (drop_past p.band k h)

-- the goals from an item behind the band on
pub later_at_row : (m : ℕ) (p : Plan) (d : Dependence) (k : ℕ) (forms : List Affine)
    → slice_get p.behind k ≡ Some (rows forms)
    → later_goals m d (drop k p.behind)
    ≡ row_behind d (complement (difference m d forms))
    ∷ later_goals m (equality_behind d (difference m d forms)) (drop (k + 1) p.behind)
later_at_row m p d k forms h = ap (later_goals m d) (drop_at p.behind k (rows forms) h)

-- of two numbers the first is less, greater or the same
pick_less : (a b : ℕ) (x y z : List Dependence) → a < b → (if nat_lt a b then x else if nat_lt b a then y else z) ≡ x
pick_less a b x y z h = ap (λ (c : Bool). if c then x else if nat_lt b a then y else z) (lt_true a b h)

pick_more : (a b : ℕ) (x y z : List Dependence) → b < a → (if nat_lt a b then x else if nat_lt b a then y else z) ≡ y
pick_more a b x y z h =
    ap (λ (c : Bool). if c then x else if nat_lt b a then y else z) (lt_false a b (omega arith))
    ∙ ap (λ (c : Bool). if c then y else z) (lt_true b a h)

pick_same : (a b : ℕ) (x y z : List Dependence) → b ≤ a → a ≤ b
    → (if nat_lt a b then x else if nat_lt b a then y else z) ≡ z
pick_same a b x y z h k =
    ap (λ (c : Bool). if c then x else if nat_lt b a then y else z) (lt_false a b h)
    ∙ ap (λ (c : Bool). if c then y else z) (lt_false b a k)

pub later_less : (m : ℕ) (d : Dependence) (items : List PlanItem) (k : ℕ) (ns : List ℕ)
    → slice_get items k ≡ Some (numbers ns) → number_of ns d.source.statement < number_of ns d.target.statement
    → later_goals m d (drop k items) ≡ []
later_less m d items k ns h less =
    ap (later_goals m d) (drop_at items k (numbers ns) h)
    ∙ pick_less (number_of ns d.source.statement) (number_of ns d.target.statement) []
    (d ∷ later_goals m d (drop (k + 1) items)) (later_goals m d (drop (k + 1) items)) less

pub later_more : (m : ℕ) (d : Dependence) (items : List PlanItem) (k : ℕ) (ns : List ℕ)
    → slice_get items k ≡ Some (numbers ns) → number_of ns d.target.statement < number_of ns d.source.statement
    → later_goals m d (drop k items) ≡ d ∷ later_goals m d (drop (k + 1) items)
later_more m d items k ns h more =
    ap (later_goals m d) (drop_at items k (numbers ns) h)
    ∙ pick_more (number_of ns d.source.statement) (number_of ns d.target.statement) []
    (d ∷ later_goals m d (drop (k + 1) items)) (later_goals m d (drop (k + 1) items)) more

pub later_same : (m : ℕ) (d : Dependence) (items : List PlanItem) (k : ℕ) (ns : List ℕ)
    → slice_get items k ≡ Some (numbers ns) → number_of ns d.target.statement ≤ number_of ns d.source.statement
    → number_of ns d.source.statement ≤ number_of ns d.target.statement
    → later_goals m d (drop k items) ≡ later_goals m d (drop (k + 1) items)
later_same m d items k ns h more less =
    ap (later_goals m d) (drop_at items k (numbers ns) h)
    ∙ pick_same (number_of ns d.source.statement) (number_of ns d.target.statement) []
    (d ∷ later_goals m d (drop (k + 1) items)) (later_goals m d (drop (k + 1) items)) more less

-- and of the scalars before the first row
pub leading_less : (d : Dependence) (leading : List (List ℕ)) (k : ℕ) (ns : List ℕ) (goals : List Dependence)
    → slice_get leading k ≡ Some ns → number_of ns d.source.statement < number_of ns d.target.statement
    → leading_goals d (drop k leading) goals ≡ []
leading_less d leading k ns goals h less =
    ap (λ (ls : List (List ℕ)). leading_goals d ls goals) (drop_at leading k ns h)
    ∙ pick_less (number_of ns d.source.statement) (number_of ns d.target.statement) [] (d ∷ [])
    (leading_goals d (drop (k + 1) leading) goals) less

pub leading_more : (d : Dependence) (leading : List (List ℕ)) (k : ℕ) (ns : List ℕ) (goals : List Dependence)
    → slice_get leading k ≡ Some ns → number_of ns d.target.statement < number_of ns d.source.statement
    → leading_goals d (drop k leading) goals ≡ d ∷ []
leading_more d leading k ns goals h more =
    ap (λ (ls : List (List ℕ)). leading_goals d ls goals) (drop_at leading k ns h)
    ∙ pick_more (number_of ns d.source.statement) (number_of ns d.target.statement) [] (d ∷ [])
    (leading_goals d (drop (k + 1) leading) goals) more

pub leading_same : (d : Dependence) (leading : List (List ℕ)) (k : ℕ) (ns : List ℕ) (goals : List Dependence)
    → slice_get leading k ≡ Some ns → number_of ns d.target.statement ≤ number_of ns d.source.statement
    → number_of ns d.source.statement ≤ number_of ns d.target.statement
    → leading_goals d (drop k leading) goals ≡ leading_goals d (drop (k + 1) leading) goals
leading_same d leading k ns goals h more less =
    ap (λ (ls : List (List ℕ)). leading_goals d ls goals) (drop_at leading k ns h)
    ∙ pick_same (number_of ns d.source.statement) (number_of ns d.target.statement) [] (d ∷ [])
    (leading_goals d (drop (k + 1) leading) goals) more less

-- a row of the band more is equal
pub restricted_next : (m : ℕ) (d next whole : Dependence) (band : List PlanRow) (k : ℕ) (r : PlanRow)
    → slice_get band k ≡ Some r → next ≡ equality_behind d (difference m d r.forms)
    → restricted m d (drop k band) ≡ whole → restricted m next (drop (k + 1) band) ≡ whole
restricted_next m d next whole band k r h is so_far =
    ap (λ (z : Dependence). restricted m z (drop (k + 1) band)) is
    ∙ (ap (restricted m d) (sym (drop_at band k r h)) ∙ so_far)

pub restricted_as : (m : ℕ) (d next whole : Dependence) (band : List PlanRow) (k : ℕ) (r : PlanRow) (forms : List Affine)
    → forms ≡ r.forms → slice_get band k ≡ Some r → next ≡ equality_behind d (difference m d forms)
    → restricted m d (drop k band) ≡ whole → restricted m next (drop (k + 1) band) ≡ whole
restricted_as m d next whole band k r forms same h is so_far =
    restricted_next m d next whole band k r h
    (is ∙ ap (λ (fs : List Affine). equality_behind d (difference m d fs)) same) so_far

pub can_row_equal : (m : ℕ) (p : Plan) (d next : Dependence) (forms : List Affine)
    → next ≡ equality_behind d (difference m d forms) → CanGo m p d → CanGo m p next
can_row_equal m p d next forms is can = subst (CanGo m p) (sym is) (can_equal m p d (difference m d forms) can)

-- an upper bound of a parameter more, one fewer to come
pub bound_next : (n j m k : ℕ) (d next whole : Dependence) → k < m
    → next ≡ row_behind d (form_of (set (zeros n) (j + k) (negsuc 0)) (pos most_parameter))
    → rows_behind d (upper_rows n (j + k) (m - k)) ≡ whole
    → rows_behind next (upper_rows n (j + (k + 1)) (m - (k + 1))) ≡ whole
bound_next n j m k d next whole less is so_far =
    let f = form_of (set (zeros n) (j + k) (negsuc 0)) (pos most_parameter) in
    let count : m - k ≡ suc (m - (k + 1)) = omega arith in
    let place : suc (j + k) ≡ j + (k + 1) = omega arith in
    let more = upper_rows n (j + (k + 1)) (m - (k + 1)) in
    let rest : upper_rows n (j + k) (m - k) ≡ f ∷ more
    = ap (upper_rows n (j + k)) count ∙ ap (λ (i : ℕ). f ∷ upper_rows n i (m - (k + 1))) place in
    ap (λ (z : Dependence). rows_behind z more) is
    ∙ (ap (with_rows d) (append_assoc d.system.rows (f ∷ []) more) ∙ (ap (rows_behind d) (sym rest) ∙ so_far))

-- its row is over the variables
pub bound_sized : (m n j : ℕ) (d whole : Dependence) (rs : List Affine) (row : Affine) → n ≡ variables_in d.system
    → rows_behind whole rs ≡ bounded m d
    → row ≡ form_of (set (zeros n) j (negsuc 0)) (pos most_parameter)
    → variables_of row ≡ variables_in whole.system
bound_sized m n j d whole rs row count so_far is =
    let size : length (set (zeros n) j (negsuc 0)) ≡ n = simp length-set (length-zeros n) in
    ap variables_of is ∙ (size ∙ (count ∙ sym (ap (λ (z : Dependence). variables_in z.system) so_far)))

-- what holds of each element holds of all
all_in : {A : Type 0} (P : A → Type 0) (xs : List A) → ((x : A) → In x xs → P x) → All P xs
all_in P [] f = All-nil P
all_in P (x ∷ xs) f = All-cons P x xs (f x (inl refl)) (all_in P xs (λ y h. f y (inr h)))

pub all_can : (model : KernelModel) (p : Plan) → ((d : Dependence) → In d (conflicts_of model) → HasParts model d)
    → Suits (loops_in model) p → IsUp p → All (CanGo model.parameters p) (conflicts_of model)
all_can model p parts suits up =
    all_in (CanGo model.parameters p) (conflicts_of model) (λ d h. can_go model p d (parts d h) suits up)

-- what a call finds among goals it finds among the same goals
pub if_finds : (r : Result (Option Found) AllocError) (m : ℕ) (p : Plan) (old new : List Dependence) → new ≡ old
    → IfOk r (Finds m p old) → IfOk r (Finds m p new)
if_finds r m p old new e h = subst (λ (gs : List Dependence). IfOk r (Finds m p gs)) (sym e) h

-- the first goal of a row, and the second
pub found_first : (m k : ℕ) (d goal : Dependence) (r : PlanRow) (at : Place) (forms : List Affine) → forms ≡ r.forms
    → goal ≡ row_behind d (complement (difference m d forms))
    → ((p : Plan) → slice_get p.band k ≡ Some r
    → band_goals_at m p d k ≡ row_behind d (complement (difference m d r.forms)) ∷ goals_at m p d at)
    → (p : Plan) → CanGo m p d → slice_get p.band k ≡ Some r
    → (band_goals_at m p d k ≡ goal ∷ goals_at m p d at) × CanGo m p d
found_first m k d goal r at forms same is ahead p can h = (
  ahead p h ∙ ap (λ (g : Dependence). g ∷ goals_at m p d at)
      (sym (is ∙ ap (λ (fs : List Affine). row_behind d (complement (difference m d fs))) same)),
  can,
)

pub found_second : (m k next : ℕ) (d goal : Dependence) (r : PlanRow) (forms : List Affine) → forms ≡ r.forms
    → goal ≡ row_behind d (above (difference m d forms)) → next ≡ k + 1 → r.parallel ≡ true
    → (p : Plan) → CanGo m p d → slice_get p.band k ≡ Some r
    → (drop 1 (band_goals_at m p d k) ≡ goal ∷ band_goals_at m p d next) × CanGo m p d
found_second m k next d goal r forms same is step marked p can h = (
  second_marked m p d k r h marked
      ∙ ap₂ (λ (g : Dependence) (i : ℕ). g ∷ band_goals_at m p d i)
      (sym (is ∙ ap (λ (fs : List Affine). row_behind d (above (difference m d fs))) same)) (sym step),
  can,
)

pub behind_plain : (m k next : ℕ) (d : Dependence) (r : PlanRow) → next ≡ k + 1 → r.parallel ≡ false → (p : Plan)
    → slice_get p.band k ≡ Some r
    → band_goals_at m p d k ≡ row_behind d (complement (difference m d r.forms)) ∷ band_goals_at m p d next
behind_plain m k next d r step plain p h =
    first_plain m p d k r h plain
    ∙ ap (λ (i : ℕ). row_behind d (complement (difference m d r.forms)) ∷ band_goals_at m p d i) (sym step)

pub rest_of_row : (m : ℕ) (p : Plan) (d : Dependence) (k next : ℕ) (r : PlanRow) → slice_get p.band k ≡ Some r
    → r.parallel ≡ false → next ≡ k + 1 → drop 1 (band_goals_at m p d k) ≡ band_goals_at m p d next
rest_of_row m p d k next r h plain step =
    second_plain m p d k r h plain ∙ ap (band_goals_at m p d) (sym step)

-- behind the band
pub band_end : (m : ℕ) (p : Plan) (d equal : Dependence) (k : ℕ) → slice_get p.band k ≡ None
    → equal ≡ restricted m d p.band → band_goals_at m p d k ≡ later_goals m equal p.behind
band_end m p d equal k h is = band_past m p d k h ∙ ap (λ (z : Dependence). later_goals m z p.behind) (sym is)

-- the goal of a row behind the band
pub found_later : (m k next : ℕ) (d goal equal : Dependence) (forms : List Affine)
    → goal ≡ row_behind d (complement (difference m d forms)) → equal ≡ equality_behind d (difference m d forms)
    → next ≡ k + 1 → (p : Plan) → CanGo m p d → slice_get p.behind k ≡ Some (rows forms)
    → (later_goals m d (drop k p.behind) ≡ goal ∷ later_goals m equal (drop next p.behind)) × CanGo m p equal
found_later m k next d goal equal forms is rest step p can h = (
  later_at_row m p d k forms h
      ∙ (ap₂ (λ (g e : Dependence). g ∷ later_goals m e (drop (k + 1) p.behind)) (sym is) (sym rest)
      ∙ ap (λ (i : ℕ). goal ∷ later_goals m equal (drop i p.behind)) (sym step)),
  subst (CanGo m p) (sym rest) (can_equal m p d (difference m d forms) can),
)

pub row_exit : (r : Result (Option Found) AllocError) (m : ℕ) (p : Plan) (d : Dependence) (k from : ℕ)
    (forms : List Affine)
    → IfOk r (λ f. (q : Plan) → CanGo m q d → slice_get q.behind k ≡ Some (rows forms)
    → Finds m q (later_goals m d (drop k q.behind)) f)
    → CanGo m p d → slice_get p.behind k ≡ Some (rows forms)
    → later_goals m d (drop k p.behind) ≡ later_goals m d (drop from p.behind)
    → IfOk r (Finds m p (later_goals m d (drop from p.behind)))
row_exit r m p d k from forms h can at so_far =
    if_finds r m p (later_goals m d (drop k p.behind)) (later_goals m d (drop from p.behind)) (sym so_far)
    (IfOk-weaker r (λ f. (q : Plan) → CanGo m q d → slice_get q.behind k ≡ Some (rows forms)
    → Finds m q (later_goals m d (drop k q.behind)) f)
    (Finds m p (later_goals m d (drop k p.behind))) (λ f found. found p can at) h)

-- the dependence itself is a goal
pub whole_exit : (r : Result (Option Found) AllocError) (m : ℕ) (p : Plan) (d : Dependence) (at : Place)
    (goals : List Dependence)
    → IfOk r (λ f. (n : ℕ) (q : Plan) → CanGo n q d → Finds n q (d ∷ goals_at n q d at) f)
    → CanGo m p d → goals ≡ d ∷ goals_at m p d at → IfOk r (Finds m p goals)
whole_exit r m p d at goals h can is =
    if_finds r m p (d ∷ goals_at m p d at) goals is
    (IfOk-weaker r (λ f. (n : ℕ) (q : Plan) → CanGo n q d → Finds n q (d ∷ goals_at n q d at) f)
    (Finds m p (d ∷ goals_at m p d at)) (λ f found. found m p can) h)

-- no element is left
pub past_end : {A B : Type 0} (f : A → B) (xs : List A) (k : ℕ) → length xs ≤ k → drop k (map f xs) ≡ []
past_end f xs k h = drop_past (map f xs) k (get_none f xs k (slice_get_past xs k h))

-- the goals of dependences from one on
pub taken_here : (m : ℕ) (p : Plan) (deps : List Dependence) (k : ℕ) (d : Dependence) (goals : List Dependence)
    → slice_get deps k ≡ Some d → goals ≡ goals_of m p d
    → flat_map (goals_of m p) (drop k deps) ≡ goals ++ flat_map (goals_of m p) (drop (k + 1) deps)
taken_here m p deps k d goals h is =
    ap (flat_map (goals_of m p)) (drop_at deps k d h)
    ∙ ap (λ (gs : List Dependence). gs ++ flat_map (goals_of m p) (drop (k + 1) deps)) (sym is)

pub taken_none : (m : ℕ) (p : Plan) (deps : List Dependence) (k : ℕ) (d : Dependence) (goals whole : List Dependence)
    → slice_get deps k ≡ Some d → goals ≡ goals_of m p d → goals ≡ []
    → flat_map (goals_of m p) (drop k deps) ≡ whole → flat_map (goals_of m p) (drop (k + 1) deps) ≡ whole
taken_none m p deps k d goals whole h is none so_far =
    sym (taken_here m p deps k d goals h is
    ∙ ap (λ (gs : List Dependence). gs ++ flat_map (goals_of m p) (drop (k + 1) deps)) none)
    ∙ so_far

pub taken_found : (m : ℕ) (p : Plan) (deps : List Dependence) (k : ℕ) (d goal : Dependence)
    (goals rest whole : List Dependence) → slice_get deps k ≡ Some d → goals ≡ goals_of m p d → goals ≡ goal ∷ rest
    → flat_map (goals_of m p) (drop k deps) ≡ whole
    → whole ≡ goal ∷ (rest ++ flat_map (goals_of m p) (drop (k + 1) deps))
taken_found m p deps k d goal goals rest whole h is found so_far =
    sym so_far
    ∙ (taken_here m p deps k d goals h is
    ∙ ap (λ (gs : List Dependence). gs ++ flat_map (goals_of m p) (drop (k + 1) deps)) found)
