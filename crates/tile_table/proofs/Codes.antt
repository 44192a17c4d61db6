-- Straight-line code: what its steps make depends on the leaves and slots that they name alone.
use Rattle.scop_syntax.proofs.Common.{◌≡◌, ◌∙◌, ap, ap₂, refl, subst, ℕ, suc, ◌+◌, ◌<◌, ◌≤◌, List, [], ◌∷◌, ◌++◌}
use Rattle.scop_syntax.proofs.Common.{length, get_or, arith, get_or_append_left, length_push, applied, operator_of}
use Rattle.tile_table.specs.Codes.{AreSteps, IsStep, changed, made, worked}
use Rattle.tile_table.specs.declared.code.Step.{Step}
use Rattle.tile_table.specs.declared.code.Step.TheVariants.{Constant, Affine, Unary, Binary}

-- where there are more leaves, a step names some of them still
step_within : (n k m : ℕ) (step : Step) → n ≤ k → IsStep n m step → IsStep k m step
step_within n k m (Affine a) few is = omega (arith, few, is)
step_within n k m step few is = is

-- two lists of values agree before a place
abbrev pub Agree : ℕ → List ℕ → List ℕ → Type 0
Agree n xs ys = (k : ℕ) → k < n → get_or xs k 0 ≡ get_or ys k 0

-- a step makes the same of leaves and slots that agree as far as it names them
pub made_same : (n m : ℕ) (ls ks xs ys : List ℕ) (step : Step) → IsStep n m step → Agree n ls ks → Agree m xs ys
    → made ls xs step ≡ made ks ys step
made_same n m ls ks xs ys (Constant c) is leaves slots = refl
made_same n m ls ks xs ys (Affine a) is leaves slots = leaves a is
made_same n m ls ks xs ys (Unary change a) is leaves slots = ap (λ (x : ℕ). changed change x) (slots a is)
made_same n m ls ks xs ys (Binary op a b) is leaves slots =
    ap₂ (applied (operator_of op)) (slots a is.0) (slots b is.1)

-- steps that name leaves and slots that there are do so where there are more leaves
pub steps_within : (n k m : ℕ) (steps : List Step) → n ≤ k → AreSteps n m steps → AreSteps k m steps
steps_within n k m [] few are = tt
steps_within n k m (step ∷ steps) few are =
    (step_within n k m step few are.0, steps_within n k (suc m) steps few are.1)

-- and with a step more
pub steps_more : (n m : ℕ) (steps : List Step) (step : Step) → AreSteps n m steps → IsStep n (m + length steps) step
    → AreSteps n m (steps ++ step ∷ [])
steps_more n m [] step are is =
    let same : m + 0 ≡ m = omega arith in (subst (λ (k : ℕ). IsStep n k step) same is, tt)
steps_more n m (first ∷ steps) step are is =
    let same : m + suc (length steps) ≡ suc m + length steps = omega arith in
    (are.0, steps_more n (suc m) steps step are.1 (subst (λ (k : ℕ). IsStep n k step) same is))

-- leaves count as far as the steps name them
pub worked_same : (n m : ℕ) (ls ks : List ℕ) (steps : List Step) (xs : List ℕ) → AreSteps n m steps → Agree n ls ks
    → length xs ≡ m → worked ls steps xs ≡ worked ks steps xs
worked_same n m ls ks [] xs are agree long = refl
worked_same n m ls ks (step ∷ steps) xs are agree long =
    let same = made_same n m ls ks xs xs step are.0 agree (λ k l. refl) in
    let grown = length_push xs (made ks xs step) in
    ap (λ (v : ℕ). worked ls steps (xs ++ v ∷ [])) same
    ∙ worked_same n (suc m) ls ks steps (xs ++ made ks xs step ∷ []) are.1 agree (omega (arith, grown, long))

pub worked_more : (ls : List ℕ) (steps : List Step) (step : Step) (xs : List ℕ)
    → worked ls (steps ++ step ∷ []) xs ≡ worked ls steps xs ++ made ls (worked ls steps xs) step ∷ []
worked_more ls [] step xs = refl
worked_more ls (first ∷ steps) step xs = worked_more ls steps step (xs ++ made ls xs first ∷ [])

pub worked_long : (ls : List ℕ) (steps : List Step) (xs : List ℕ) → length (worked ls steps xs) ≡ length xs + length steps
worked_long ls [] xs = omega arith
worked_long ls (step ∷ steps) xs =
    let grown = length_push xs (made ls xs step) in
    let rest = worked_long ls steps (xs ++ made ls xs step ∷ []) in
    omega (arith, grown, rest)

-- the slots in front stay
pub worked_front : (ls : List ℕ) (steps : List Step) (xs : List ℕ) (k : ℕ) → k < length xs
    → get_or (worked ls steps xs) k 0 ≡ get_or xs k 0
worked_front ls [] xs k less = refl
worked_front ls (step ∷ steps) xs k less =
    let grown = length_push xs (made ls xs step) in
    worked_front ls steps (xs ++ made ls xs step ∷ []) k (omega (arith, grown, less))
    ∙ get_or_append_left xs (made ls xs step ∷ []) 0 k less
