use Rattle.scop_syntax.proofs.Common.{◌≡◌, refl, subst, ℕ, zero, suc, ◌-◌, ◌^◌, false, pos, ◌+ℤ◌, [], ◌∷◌, ◌++◌, Some}
use Rattle.scop_syntax.proofs.Common.{None, inl, inr}
use Rattle.c_meaning.specs.Examples.{act}
use Rattle.c_meaning.specs.Expressions.{kept}
use Rattle.c_meaning.specs.Runs.{After, InTurn, MayDoAll, Outcome, at_most_last}
use Rattle.c_meaning.specs.Syntax.{number, none}
use Rattle.c_meaning.proofs.ProgramRuns.{after_is}
use Rattle.c_meaning.proofs.examples.two_iterations_run_in_both_orders.Goals as goal

pub returns-clause-forward : goal.returns-clause-forward
returns-clause-forward c = (
  Some (act 0 ∷ act 1 ∷ []),
  (
    Some (act 0 ∷ []),
    Some (act 1 ∷ []),
    (Some (act 0 ∷ []), refl, (Some [], refl, refl)),
    (
      Some (act 1 ∷ []),
      Some [],
      (Some (act 1 ∷ []), refl, (Some [], refl, refl)),
      refl,
      inr (act 1 ∷ [], inl ([], refl, (refl, refl)), refl),
    ),
    inr (act 0 ∷ act 1 ∷ [], inl ([], refl, inr ([], refl, (refl, refl))), refl),
  ),
  (Some [], refl, refl),
)

pub returns-clause-backward : goal.returns-clause-backward
returns-clause-backward c = (
  Some (act 1 ∷ act 0 ∷ []),
  (
    Some (act 0 ∷ []),
    Some (act 1 ∷ []),
    (Some (act 0 ∷ []), refl, (Some [], refl, refl)),
    (
      Some (act 1 ∷ []),
      Some [],
      (Some (act 1 ∷ []), refl, (Some [], refl, refl)),
      refl,
      inr (act 1 ∷ [], inl ([], refl, (refl, refl)), refl),
    ),
    inr (act 1 ∷ act 0 ∷ [], inr ([], refl, inl ([], refl, (refl, refl))), refl),
  ),
  (Some [], refl, refl),
)

-- the increment behind the only iteration does not fit
past_turn : (a : Outcome) (n : ℕ)
    → InTurn (at_most_last [] (number (2 ^ 63 - 1))) (λ y. MayDoAll none (y ∷ [])) (pos (2 ^ 63 - 1)) n a → a ≡ None
past_turn a zero h = absurd h
past_turn a (suc n) h =
    after_is h.1 [] a
    (λ vs. After (kept false (pos (2 ^ 63 - 1) +ℤ pos 1)) a
    (λ x. (b : Outcome) × InTurn (at_most_last [] (number (2 ^ 63 - 1))) (λ y. MayDoAll none (y ∷ [])) x n b
    × After b a (λ ws. a ≡ Some (vs ++ ws)))) h.2 h.3

pub returns-clause-past : goal.returns-clause-past
returns-clause-past c = λ o h.
    subst (λ (a : Outcome). After a o
    (λ vs. (b : Outcome) × MayDoAll none [] b × After b o (λ ws. o ≡ Some (vs ++ ws))))
    (past_turn h.0 h.1.0 h.1.1) h.2
