-- What is known of a plan's goals while a certificate's lines are read.
use Rattle.scop_syntax.proofs.Common.{◌≡◌, ℕ, pos, ◌≤ℤ◌, List, [], ◌∷◌, ◌++◌, Bool, true, false, Result, Ok, Err, All}
use Rattle.scop_syntax.proofs.Common.{refl, sym, ◌∙◌, ap, ap₂, subst, append_assoc, negsuc, slice_index_or, All-nil}
use Rattle.scop_syntax.proofs.Common.{All-cons, All-append, Affine, value_of, multiple_of_form}
use Rattle.wide_math.specs.declared.Wide.{Wide}
use Rattle.wide_math.specs.Checked.{◌>>=◌}
use Rattle.affine_forms.specs.Parts.{variables_of}
use Rattle.affine_forms.specs.Runs.{scaled_run}
use Rattle.affine_forms.proofs.Exact.{scaled_run-exact}
use Rattle.integer_sets.specs.Constraints.{variables_in}
use Rattle.iteration_domains.specs.Dependence.{Dependence}
use Rattle.plan_check.specs.Derivations.{IsLine, Step, held, is_contradiction, row_said}
use Rattle.plan_check.specs.Goals.{HasNoPoint, both_ways, rows_of_goal}
use Rattle.plan_check.specs.Progress.{CanGain, Holds, IsNext, IsProgress, Progress, both_run, goal_run}
use Rattle.plan_check.proofs.GoalRows.{both_sized, rows_met}
use Rattle.plan_check.proofs.SoundDerivations.{no_point, row_said_kept, row_said_sized}

-- what holds of each of some holds of each of them by a step
each : {A : Type 0} (P Q : A → Type 0) (xs : List A) → ((x : A) → P x → Q x) → All P xs → All Q xs
each P Q xs step h = λ k x less. step (slice_index_or xs k x) (h k x less)

pub held_is : {A : Type 0} (r : Result A Wide) (x : A) → held r ≡ Ok x → r ≡ Ok x
held_is (Ok y) x h = let e : y ≡ x = cc in ap Ok e
held_is (Err w) x h = absurd cc

-- the rows of equalities, if 128 bits hold them, are the forms and their opposites
both_cons : (e : Affine) (es rows : List Affine) (r : Result Affine Wide) (more : Result (List Affine) Wide)
    → scaled_run (negsuc 0) e ≡ r → ((os : List Affine) → more ≡ Ok os → os ≡ both_ways es)
    → (r >>= λ o. more >>= λ os. Ok (e ∷ o ∷ os)) ≡ Ok rows → rows ≡ e ∷ multiple_of_form (negsuc 0) e ∷ both_ways es
both_cons e es rows (Err w) more is rest h = absurd cc
both_cons e es rows (Ok o) (Err w) is rest h = absurd cc
both_cons e es rows (Ok o) (Ok os) is rest h =
    let all : e ∷ o ∷ os ≡ rows = cc in
    sym all
    ∙ ap₂ (λ (x : Affine) (xs : List Affine). e ∷ x ∷ xs) (scaled_run-exact (negsuc 0) e o is) (rest os refl)

both_is : (es rows : List Affine) → both_run es ≡ Ok rows → rows ≡ both_ways es
both_is [] rows h = let e : [] ≡ rows = cc in sym e
both_is (e ∷ es) rows h = both_cons e es rows (scaled_run (negsuc 0) e) (both_run es) refl (both_is es) h

goal_is : (d : Dependence) (rows : List Affine) → goal_run d ≡ Ok rows → rows ≡ rows_of_goal d
goal_is d rows h = found (both_run d.system.equalities) refl h
  where
    found : (r : Result (List Affine) Wide) → both_run d.system.equalities ≡ r
        → (r >>= λ es. Ok (es ++ d.system.rows)) ≡ Ok rows → rows ≡ rows_of_goal d
    found (Err w) is k = absurd cc
    found (Ok es) is k =
        let all : es ++ d.system.rows ≡ rows = cc in
        sym all ∙ ap (λ (xs : List Affine). xs ++ d.system.rows) (both_is d.system.equalities es is)

-- they are over as many variables
pub run_sized : (n : ℕ) (es rs found all : List Affine) → All (λ f. variables_of f ≡ n) es
    → All (λ f. variables_of f ≡ n) rs → held (both_run es) ≡ Ok found → all ≡ found ++ rs
    → All (λ f. variables_of f ≡ n) all
run_sized n es rs found all h k run is =
    subst (All (λ f. variables_of f ≡ n)) (sym (is ∙ ap (λ (xs : List Affine). xs ++ rs)
    (both_is es found (held_is (both_run es) found run))))
    (All-append (λ f. variables_of f ≡ n) (both_ways es) rs (both_sized n es h) k)

-- behind a contradiction comes the next goal
is_next : (p : Progress) (d : Dependence) (left : List Dependence) → IsProgress p → p.ended ≡ true → p.left ≡ d ∷ left
    → IsNext p.goals left d
is_next p d left h ended is = record {
  shown = h.shown ++ h.current;
  are = h.are ∙ (ap (λ (ds : List Dependence). h.shown ++ (h.current ++ ds)) is
      ∙ sym (append_assoc h.shown h.current (d ∷ left)));
  none = All-append HasNoPoint h.shown h.current h.none (h.ends ended);
}

pub next_as : (q p : Progress) (d : Dependence) (all left : List Dependence) → q ≡ p → IsProgress q → p.ended ≡ true
    → q.left ≡ d ∷ left → all ≡ q.goals → IsNext all left d
next_as q p d all left e h ended is all_is =
    subst (λ (gs : List Dependence). IsNext gs left d) (sym all_is)
    (is_next q d left h (ap (λ (z : Progress). z.ended) e ∙ ended) is)

-- it is open with its rows
pub is_opened : (goals left : List Dependence) (k n : ℕ) (d : Dependence) (rows : List Affine) → IsNext goals left d
    → n ≡ variables_in d.system → held (goal_run d) ≡ Ok rows → All (λ f. variables_of f ≡ variables_in d.system) rows
    → IsProgress (record { goals = goals; left = left; begun = k; variables = n; rows = rows; ended = false })
is_opened goals left k n d rows h count run sized =
    let is = goal_is d rows (held_is (goal_run d) rows run) in
    record {
      sized = subst (λ (i : ℕ). All (λ f. variables_of f ≡ i) rows) (sym count) sized;
      shown = h.shown;
      current = d ∷ [];
      are = h.are;
      none = h.none;
      hold = All-cons (Holds rows) d []
          (λ point at. subst (All (λ f. pos 0 ≤ℤ value_of f point)) (sym is) (rows_met d point at))
          (All-nil (Holds rows));
      ends = λ (e : false ≡ true). absurd cc;
    }

-- a line's row is one that the open goal's points satisfy
can_gain : (p : Progress) (s : Step) (g : Affine) → IsProgress p → IsLine s → row_said p.variables p.rows s ≡ Ok g
    → CanGain p g
can_gain p s g h fits run = record {
  variables = row_said_sized p.variables p.rows s g h.sized run;
  follows = λ point at. row_said_kept p.variables p.rows s g point h.sized fits run at;
}

pub gain_as : (q p : Progress) (s : Step) (g : Affine) (rows : List Affine) → q ≡ p → IsProgress q → IsLine s
    → rows ≡ q.rows → row_said q.variables rows s ≡ Ok g → CanGain p g
gain_as q p s g rows e h fits is run =
    subst (λ (z : Progress). CanGain z g) e
    (can_gain q s g h fits (subst (λ (rs : List Affine). row_said q.variables rs s ≡ Ok g) is run))

is_gained : (p : Progress) (g : Affine) → IsProgress p → CanGain p g
    → IsProgress (record p { rows = p.rows ++ g ∷ []; ended = is_contradiction g })
is_gained p g h can = record {
  sized = All-append (λ f. variables_of f ≡ p.variables) p.rows (g ∷ []) h.sized
      (All-cons (λ f. variables_of f ≡ p.variables) g [] can.variables (All-nil (λ f. variables_of f ≡ p.variables)));
  shown = h.shown;
  current = h.current;
  are = h.are;
  none = h.none;
  hold = each (Holds p.rows) (Holds (p.rows ++ g ∷ [])) h.current
      (λ d all point at. All-append (λ f. pos 0 ≤ℤ value_of f point) p.rows (g ∷ []) (all point at)
      (All-cons (λ f. pos 0 ≤ℤ value_of f point) g [] (can.follows point (all point at))
      (All-nil (λ f. pos 0 ≤ℤ value_of f point))))
      h.hold;
  ends = λ e. each (Holds p.rows) HasNoPoint h.current
      (λ d all point at. no_point g point e (can.follows point (all point at))) h.hold;
}

pub gained_as : (q p : Progress) (g : Affine) (rows : List Affine) (b : Bool) → q ≡ p → IsProgress q → CanGain p g
    → rows ≡ q.rows ++ g ∷ [] → b ≡ is_contradiction g → IsProgress (record q { rows = rows; ended = b })
gained_as q p g rows b e h can rows_are ended_is =
    subst (λ (rs : List Affine). IsProgress (record q { rows = rs; ended = b })) (sym rows_are)
    (subst (λ (c : Bool). IsProgress (record q { rows = q.rows ++ g ∷ []; ended = c })) (sym ended_is)
    (is_gained q g h (subst (λ (z : Progress). CanGain z g) (sym e) can)))

-- at the end no goal has a whole point
pub none_has : (p : Progress) → IsProgress p → p.ended ≡ true → p.left ≡ [] → All HasNoPoint p.goals
none_has p h ended is =
    subst (All HasNoPoint) (sym (h.are ∙ ap (λ (ds : List Dependence). h.shown ++ (h.current ++ ds)) is))
    (All-append HasNoPoint h.shown (h.current ++ []) h.none
    (All-append HasNoPoint h.current [] (h.ends ended) (All-nil HasNoPoint)))
