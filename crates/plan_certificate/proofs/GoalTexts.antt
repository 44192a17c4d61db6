-- The texts of goals, one more; and that all of them with the items' lines are the certificate.
use Rattle.scop_syntax.proofs.Common.{◌≡◌, ◌∙◌, sym, ap, subst, refl, ℕ, suc, ◌+◌, List, ◌∷◌, ◌++◌, append_assoc, arith}
use Rattle.scop_syntax.proofs.Common.{Option, Some, None, Result, Ok, Err}
use Rattle.wide_math.specs.Gives.{Gives}
use Rattle.scop_lexer.specs.Bytes.{Text}
use Rattle.iteration_domains.specs.Dependence.{Dependence}
use Rattle.iteration_domains.specs.Model.{KernelModel}
use Rattle.schedule_rows.specs.Items.{Block}
use Rattle.report_text.specs.ScheduleText.{schedule_text}
use Rattle.plan_check.specs.Derivations.{Step}
use Rattle.plan_check.specs.Goals.{goals_in}
use Rattle.plan_check.specs.Plans.{Plan}
use Rattle.plan_certificate.specs.Certificates.{behind_text, certificate_of, derivation_of, in_front, proof_text, proofs_text}
use Rattle.plan_certificate.specs.SchedulePlan.{plan_of_blocks}
use Rattle.plan_certificate.specs.steps.GoalTexts.{text_of}

-- a text behind a result
abbrev with_text : Result Text ℕ → Text → Result Text ℕ
with_text (Ok front) text = Ok (front ++ text)
with_text (Err g) text = Err g

-- a goal's text goes from what is to come to what is there
goal_next : (out new : Text) (g : ℕ) (o : Option (List Step)) (others : Result Text ℕ)
    → behind_text out (text_of g o) ≡ Ok new → behind_text new others ≡ behind_text out (in_front g o others)
goal_next out new g None others made = cc
goal_next out new g (Some steps) (Err h) made = refl
goal_next out new g (Some steps) (Ok text) made =
    ap (λ (r : Result Text ℕ). with_text r text) (sym made)
    ∙ ap (λ (t : Text). Ok t) (append_assoc out (proof_text g steps) text)

-- one goal more
pub proofs_next : (out new : Text) (n m : ℕ) (left : List Dependence) (d : Dependence) (rest : List Dependence)
    (whole : Result Text ℕ) → m ≡ n + 1 → left ≡ d ∷ rest
    → behind_text out (text_of m (derivation_of d)) ≡ Ok new
    → behind_text out (proofs_text (suc n) left) ≡ whole
    → behind_text new (proofs_text (suc m) rest) ≡ whole
proofs_next out new n m left d rest whole count is made so_far =
    let same : m ≡ suc n = omega (arith, count) in
    goal_next out new m (derivation_of d) (proofs_text (suc m) rest) made
    ∙ (ap (λ (k : ℕ). behind_text out (proofs_text k (d ∷ rest))) same
    ∙ (ap (λ (ds : List Dependence). behind_text out (proofs_text (suc n) ds)) (sym is) ∙ so_far))

-- the goals of the plan that blocks are
pub goals_are : (model now : KernelModel) (blocks : List Block) (plan : Plan) (left : List Dependence)
    → plan ≡ plan_of_blocks blocks → now ≡ model → left ≡ goals_in now plan
    → left ≡ goals_in model (plan_of_blocks blocks)
goals_are model now blocks plan left plan_is model_is left_is =
    left_is ∙ (ap (λ (m : KernelModel). goals_in m plan) model_is ∙ ap (λ (p : Plan). goals_in model p) plan_is)

-- all of them
pub certificate_is : (model : KernelModel) (blocks others : List Block) (text : Text) (left : List Dependence)
    → others ≡ blocks → text ≡ schedule_text others → left ≡ goals_in model (plan_of_blocks blocks)
    → behind_text text (proofs_text 1 left) ≡ certificate_of model blocks
certificate_is model blocks others text left one text_is left_is =
    ap (λ (t : Text). behind_text t (proofs_text 1 left)) (text_is ∙ ap schedule_text one)
    ∙ ap (λ (ds : List Dependence). behind_text (schedule_text blocks) (proofs_text 1 ds)) left_is

-- a call that gives one run gives one that is the same
pub gives_same : {V E W Y : Type 0} (told : E → Option W) (view : V → Y) (r : Result V E) (a b : Result Y W) → a ≡ b
    → Gives told view r a → Gives told view r b
gives_same told view r a b same given = subst (λ run. Gives told view r run) same given
