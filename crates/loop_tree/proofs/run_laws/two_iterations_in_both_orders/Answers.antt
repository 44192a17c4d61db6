use Rattle.scop_syntax.proofs.Common.{◌≡◌, ◌∙◌, ap, ap₂, refl, inl, inr, ℤ, pos, Bool, true, false, [], ◌∷◌, ◌++◌, List}
use Rattle.scop_syntax.proofs.Common.{map}
use Rattle.loop_tree.specs.TwoIterations.{twice, visit_at}
use Rattle.loop_tree.specs.Runs.{MayRunAll}
use Rattle.loop_tree.specs.Walk.{Visit, through}
use Rattle.loop_tree.proofs.run_laws.two_iterations_in_both_orders.Goals as goal

-- the run of the body at x
abbrev body : ℤ → List Visit
body x = record { values = []; parallel = []; number = 0; turns = x ∷ [] } ∷ []

-- the iteration at x
abbrev once : Bool → ℤ → List Visit
once flag x = visit_at flag x ∷ []

pub returns-clause-upwards : goal.returns-clause-upwards
returns-clause-upwards c = (
  visit_at true (pos 0) ∷ visit_at true (pos 1) ∷ [],
  [],
  (
    once true (pos 0),
    once true (pos 1),
    (body (pos 0), (body (pos 0), [], refl, refl, refl), refl),
    (once true (pos 1), [], (body (pos 1), (body (pos 1), [], refl, refl, refl), refl), refl, inl ([], refl, (refl, refl))),
    inl ([], refl, inr ([], refl, (refl, refl))),
  ),
  refl,
  refl,
)

pub returns-clause-downwards : goal.returns-clause-downwards
returns-clause-downwards c = (
  visit_at true (pos 1) ∷ visit_at true (pos 0) ∷ [],
  [],
  (
    once true (pos 0),
    once true (pos 1),
    (body (pos 0), (body (pos 0), [], refl, refl, refl), refl),
    (once true (pos 1), [], (body (pos 1), (body (pos 1), [], refl, refl, refl), refl), refl, inl ([], refl, (refl, refl))),
    inr ([], refl, inl ([], refl, (refl, refl))),
  ),
  refl,
  refl,
)

pub returns-clause-serial : goal.returns-clause-serial
returns-clause-serial c = (
  visit_at false (pos 0) ∷ visit_at false (pos 1) ∷ [],
  [],
  (
    once false (pos 0),
    once false (pos 1),
    (body (pos 0), (body (pos 0), [], refl, refl, refl), refl),
    (once false (pos 1), [], (body (pos 1), (body (pos 1), [], refl, refl, refl), refl), refl, refl),
    refl,
  ),
  refl,
  refl,
)

-- the values at the first of some visits
abbrev first_values : List Visit → List ℤ
first_values [] = []
first_values (v ∷ vs) = v.values

-- the first visit of a serial loop is that of its first iteration
no_other : MayRunAll (twice false) [] [] (visit_at false (pos 1) ∷ visit_at false (pos 0) ∷ []) → ⊥
no_other (xs, ys, (first, others, (b, (c, d, is_c, is_d, joined_b), is_first), later, joined), is_ys, whole) =
    let is_b : b ≡ body (pos 0) = joined_b ∙ ap₂ (λ (p q : List Visit). p ++ q) is_c is_d in
    let front : first ≡ once false (pos 0) = is_first ∙ ap (map (through false (pos 0))) is_b in
    let all : visit_at false (pos 1) ∷ visit_at false (pos 0) ∷ [] ≡ visit_at false (pos 0) ∷ (others ++ ys) =
    whole ∙ ap (λ (q : List Visit). q ++ ys) (joined ∙ ap (λ (q : List Visit). q ++ others) front) in
    let at : pos 1 ∷ [] ≡ pos 0 ∷ [] = ap first_values all in
    absurd cc

pub returns-clause-no_other : goal.returns-clause-no_other
returns-clause-no_other c = no_other
