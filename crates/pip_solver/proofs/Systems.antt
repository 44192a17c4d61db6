-- The least point of the problem that a system poses is the system's.
use Rattle.whole_numbers.proofs.Common.{◌≡◌, ℕ, ◌+◌, ℤ, pos, List, [], refl, sym, ◌∙◌, ap, subst, inl, inr, arith}
use Rattle.whole_numbers.proofs.Common.{length, None, Some, ◌≤ℤ◌, Option, Vec, Result, Ok, Err, IfOk, All-nil, Affine}
use Rattle.whole_numbers.proofs.Common.{NotNegative, not_negative_all}
use Rattle.std.specs.Option.{ForSome, IfNone}
use Rattle.std.specs.Global.{Global}
use Rattle.std.proofs.lemmas.List.{append-nil}
use Rattle.integer_sets.specs.Constraints.{Constraints, IsSized, variables_in}
use Rattle.integer_sets.specs.Points.{Satisfies}
use Rattle.tableau_rows.specs.Problem.{problem_of, IsPoint, IsLexmin, IsEmpty}
use Rattle.checked_tableau.specs.Emptiness.{posed_run}
use Rattle.checked_tableau.proofs.Emptiness.{posed_points}
use Rattle.checked_tableau.specs.declared.problem.Problem.{Problem}
use Rattle.pip_solver.specs.declared.stop.Stop.TheVariants as solver
use Rattle.pip_solver.specs.Promises.{IsPosed, IsUnposed}
use Rattle.pip_solver.specs.Solving.{Finds}
use Rattle.pip_solver.specs.Minimum.{IsTaken, IsMinimum, Minimizes, held}

abbrev pub asked : Constraints → Problem → Type 0
asked s posed = IsPosed s posed × IsSized (variables_in s) s.equalities s.rows

-- the question's points are the system's
points : (s : Constraints) (rows : List Affine) (xs : List ℤ) → s.parameters ≡ 0
    → IsSized (variables_in s) s.equalities s.rows → posed_run s ≡ Ok rows → length xs ≡ s.dimensions
    → (IsPoint (problem_of (variables_in s) rows) [] xs → IsTaken s xs)
    × (IsTaken s xs → IsPoint (problem_of (variables_in s) rows) [] xs)
points s rows xs flat sized posed size =
    let p = posed_points s rows xs [] sized posed size (sym flat) in
    let same = append-nil xs in (
      λ h.
          let b = p.1.0 (subst (λ (z : List ℤ). IsPoint (problem_of (variables_in s) rows) [] z) (sym same) h) in (
            (not_negative_all xs).0 (subst NotNegative same b.not_negative),
            subst (λ (z : List ℤ). Satisfies s z) same b.inside,
          ),
      λ t.
          subst (λ (z : List ℤ). IsPoint (problem_of (variables_in s) rows) [] z) same (p.1.1 (record {
            dimensions = size;
            parameters = sym flat;
            not_negative = subst NotNegative (sym same) ((not_negative_all xs).1 t.0);
            bounded = All-nil (λ (z : ℤ). z ≤ℤ pos 65536);
            inside = subst (λ (z : List ℤ). Satisfies s z) (sym same) t.1;
          })),
    )

pub wide_at : (s : Constraints) → s.parameters ≡ 0 → variables_in s ≡ s.dimensions
wide_at s flat = ap (λ (n : ℕ). s.dimensions + n) flat ∙ plus_zero s.dimensions
  where
    plus_zero : (n : ℕ) → n + 0 ≡ n
    plus_zero n = omega arith

pub none_is : (s : Constraints) (posed : Problem) → s.parameters ≡ 0 → asked s posed
    → IsEmpty (problem_of posed.unknowns posed.rows.items) [] → IsMinimum s None
none_is s posed flat a h xs e t =
    let i = subst (λ (n : ℕ). IsEmpty (problem_of n posed.rows.items) []) a.0.unknowns h in
    i xs ((points s posed.rows.items xs flat a.1 a.0.rows e).1 t)

pub least_is : (s : Constraints) (posed : Problem) (xs : List ℤ) → s.parameters ≡ 0 → asked s posed
    → IsLexmin (problem_of posed.unknowns posed.rows.items) [] xs → IsMinimum s (Some xs)
least_is s posed xs flat a h =
    let l = subst (λ (n : ℕ). IsLexmin (problem_of n posed.rows.items) [] xs) a.0.unknowns h in
    let size = l.size ∙ wide_at s flat in
    record {
      size = size;
      inside = (points s posed.rows.items xs flat a.1 a.0.rows size).0 l.inside;
      least = λ other e t less.
          l.least other (e ∙ sym (wide_at s flat)) ((points s posed.rows.items other flat a.1 a.0.rows e).1 t) less;
    }

-- what the least point's call tells of the problem, it tells of the system
pub minimizes : (s : Constraints) (budget : ℕ) (posed : Problem) (result : Result (Option (Vec ℤ Global))
    solver.the_data)
    → IsPosed s posed → Finds result budget posed → Minimizes result budget s
minimizes s budget posed (Ok found) p h = (posed, p, h)
minimizes s budget posed (Err (solver.Wide told moves)) p h =
    let e = h.4 in
    inl (subst (IsPosed s) (sym e) p, subst (λ (z : Problem). Finds (Err (solver.Wide told moves)) budget z) (sym e) h)
minimizes s budget posed (Err (solver.Spent told moves)) p h =
    let e = h.2 in
    (subst (IsPosed s) (sym e) p, subst (λ (z : Problem). Finds (Err (solver.Spent told moves)) budget z) (sym e) h)
minimizes s budget posed (Err solver.NoMemory) p h = tt

-- a stop before any move
pub unposed_minimizes : (s : Constraints) (budget : ℕ) (stop : solver.the_data) → IsUnposed stop s
    → Minimizes (Err stop) budget s
unposed_minimizes s budget (solver.Wide told moves) h = inr h
unposed_minimizes s budget (solver.Spent told moves) h = absurd h
unposed_minimizes s budget solver.NoMemory h = tt

-- the answers of the least point's call are those of the system
pub minimum_of : (s : Constraints) (posed : Problem) (result : Result (Option (Vec ℤ Global)) solver.the_data)
    → s.parameters ≡ 0
    → asked s posed
    → IfOk result (λ point. ForSome point (λ x. IsLexmin (problem_of posed.unknowns posed.rows.items) [] x.items))
    → IfOk result (λ point. IfNone point (IsEmpty (problem_of posed.unknowns posed.rows.items) []))
    → IfOk result (λ found. IsMinimum s (held found))
minimum_of s posed (Ok None) flat a least none = none_is s posed flat a none
minimum_of s posed (Ok (Some x)) flat a least none = least_is s posed x.items flat a (least x refl)
minimum_of s posed (Err stop) flat a least none = tt
