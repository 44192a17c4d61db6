-- From what certifying answers to the text that is printed.
use Rattle.scop_syntax.proofs.Common.{◌≡◌, ◌∙◌, sym, subst, ap, refl, inl, inr, ℕ, true, List, [], Option, Result, Ok}
use Rattle.scop_syntax.proofs.Common.{Err, Program}
use Rattle.iteration_domains.specs.Dependence.{Dependence}
use Rattle.iteration_domains.specs.Model.{KernelModel, model_of}
use Rattle.pluto_search.specs.Schedule.{Scheduled, loops_in}
use Rattle.plan_certificate.specs.KeptLine.{KeptLine}
use Rattle.plan_certificate.specs.KeptText.{kept_text}
use Rattle.plan_certificate.specs.UncertifiedText.{uncertified_text}
use Rattle.plan_certificate.specs.Judged.{judged}
use Rattle.plan_certificate.specs.Certificates.{Certifies, certificate_of}
use Rattle.plan_certificate.specs.View.{uncertified_in}
use Rattle.plan_certificate.specs.declared.stop.CertifyStop.{CertifyStop}
use Rattle.plan_certificate.specs.declared.stop.CertifyStop.TheVariants as stop
use Rattle.plan_certificate.specs.Gives.{IsTold}
use Rattle.plan_search.specs.Certifying.{IsCertificateText, IsGivenText}
use Rattle.plan_search.specs.Planning.{IsCauseOf, IsLineText, IsSearched, covers_in}
use Rattle.plan_search.specs.Found.{IsFound, IsKeptLine}
use Rattle.plan_search.proofs.SearchLemmas.{OneSchedule, program_searched}
use Rattle.plan_search.proofs.TextLemmas.{kept_cause}

-- the text is what certifying the schedule gives
abbrev pub IsGivenOf : Program → Scheduled → List ℕ → Type 0
IsGivenOf program s text = (given : Result (List ℕ) ℕ) × Certifies s given × IsGivenText program given text

-- of a certificate that the checker accepts
pub accepted_given : (program : Program) (s : Scheduled) (text : List ℕ)
    → ((given : Result (List ℕ) ℕ) × Certifies s given × (given ≡ Ok text)) → judged program text ≡ Ok true
    → IsGivenOf program s text
accepted_given program s text (given, certifies, is) accepted =
    (given, certifies, subst (λ g. IsGivenText program g text) (sym is) (refl, accepted))

-- of the line of a goal without a derivation
pub goal_given : (program : Program) (s : Scheduled) (told : CertifyStop) (goal : ℕ) (text : List ℕ)
    → told ≡ stop.Uncertified goal
    → ((given : Result (List ℕ) ℕ) × Certifies s given × IsTold (uncertified_in told) given)
    → text ≡ uncertified_text goal → IsGivenOf program s text
goal_given program s told goal text same (given, certifies, is) line =
    let first : given ≡ Err goal = subst (λ t. IsTold (uncertified_in t) given) same is in
    (given, certifies, subst (λ g. IsGivenText program g text) (sym first) line)

-- what certifying the schedule gives that is found over the covers
pub schedule_certified : OneSchedule → (budget : ℕ) (deps : List Dependence) (program : Program) (model : KernelModel)
    (s : Scheduled) (text : List ℕ) → model ≡ model_of program → deps ≡ covers_in budget [] program
    → IsFound budget deps model s → IsGivenOf program s text → IsCertificateText budget program text
schedule_certified one budget deps program model s text own covers found (given, certifies, told) =
    let is = found.searches in
    let blocks = is.2.blocks in
    let same : certifies.blocks ≡ blocks =
    one s.model.parameters (loops_in s.model) s.deps certifies.blocks blocks certifies.run is.2.run in
    let given_is : given ≡ certificate_of (model_of program) blocks =
    certifies.given_is ∙ (ap (λ m. certificate_of m certifies.blocks) (is.0 ∙ own)
    ∙ ap (certificate_of (model_of program)) same) in
    inl (
      blocks,
      subst (λ ds. IsSearched budget ds (model_of program) blocks) covers
          (program_searched budget deps program model s own found),
      subst (λ g. IsGivenText program g text) given_is told,
    )

-- the line of what keeps the order
pub kept_certified : (budget : ℕ) (deps : List Dependence) (program : Program) (model : KernelModel)
    (line : Option KeptLine) (text : List ℕ) → model ≡ model_of program → deps ≡ covers_in budget [] program
    → IsKeptLine budget deps model line → IsLineText line text → IsCertificateText budget program text
kept_certified budget deps program model line text own covers kept is =
    let Told : List Dependence → KernelModel → Type 0 =
    λ ds m. (told : KeptLine) × IsCauseOf budget ds m told × (text ≡ kept_text told) in
    inr
    (subst (λ ds. Told ds (model_of program)) covers
    (subst (λ m. Told deps m) own (kept_cause budget deps model line text kept is)))
