-- What certifying gives is a certificate: its items are laid, and its goals are proved one by one.
use Rattle.scop_syntax.proofs.Common.{◌≡◌, ◌∙◌, ap, sym, refl, subst, ℕ, ◌^◌, ◌<◌, true, List, [], ◌∷◌, ◌++◌, length}
use Rattle.scop_syntax.proofs.Common.{codes, arith, nat_le, append_assoc, zero-add, Result, Ok, Err, list_all}
use Rattle.scop_syntax.proofs.Common.{length-map, IsKernel, In, in_guard_of, placed_all, statements_of, Program, guard}
use Rattle.scop_syntax.proofs.Common.{length-placed, IsPlaced, Placed, ranks_of}
use Rattle.std.proofs.lemmas.List.{length-append}
use Rattle.scop_lexer.specs.Bytes.{Text}
use Rattle.iteration_domains.specs.Dependence.{Dependence}
use Rattle.iteration_domains.specs.Model.{KernelModel, model_of, modelled}
use Rattle.conflict_deps.specs.Conflicts.{conflicts_of}
use Rattle.conflict_deps.specs.Parts.{HasParts}
use Rattle.schedule_rows.specs.Items.{Block, rows_in}
use Rattle.schedule_rows.specs.Outcomes.{IsSchedule}
use Rattle.schedule_rows.specs.Sized.{AreSized}
use Rattle.report_text.specs.ScheduleText.{schedule_text}
use Rattle.plan_check.specs.Goals.{goals_in, loops_in}
use Rattle.plan_check.specs.Judged.{Laid, goal_judged, goals_ended, goals_opened, has_rows, judged, laying}
use Rattle.plan_check.specs.Judged.{lines_judged, nothing_laid, proving, proving_stage, then_goals}
use Rattle.plan_check.specs.Printed.{goal_text}
use Rattle.plan_check.specs.Progress.{opening}
use Rattle.plan_check.specs.Text.{goal, lines_of}
use Rattle.plan_certificate.specs.Certificates.{behind_text, certificate_of, derivation_of, proofs_text, steps_text}
use Rattle.plan_certificate.specs.SchedulePlan.{plan_of_blocks}
use Rattle.plan_certificate.specs.Certificates.{IsNarrow}
use Rattle.plan_certificate.proofs.AcceptedBlocks.{blocks_printed}
use Rattle.plan_certificate.proofs.AcceptedConflicts.{conflict_over}
use Rattle.plan_certificate.proofs.AcceptedGoals.{goals_sized}
use Rattle.plan_certificate.proofs.AcceptedItems.{blocks_go, blocks_laid, blocks_read}
use Rattle.plan_certificate.proofs.AcceptedLines.{PrintedLaws, line_same, passes}
use Rattle.plan_certificate.proofs.AcceptedPlans.{blocks_rows, plan_laid}
use Rattle.plan_certificate.proofs.AcceptedRanks.{schedule_enough, schedule_up}
use Rattle.plan_certificate.proofs.SizedPlans.{plan_fits}
use Rattle.plan_certificate.proofs.AcceptedSteps.{AreDerived, DerivationLaws, derivation_derives, front_is, goal_plain, goals_go}

-- goals are opened behind the items of a plan with its rows
opened_is : (model : KernelModel) (k : ℕ) (l : Laid) → has_rows (loops_in model) l ≡ true
    → goals_opened model k l ≡ Ok (opening (goals_in model l.plan))
opened_is model k l h = passes (has_rows (loops_in model) l) _ (Ok (opening (goals_in model l.plan))) h

-- by the first goal's line, or by the end
opens : PrintedLaws → (model : KernelModel) (k : ℕ) (l : Laid) (goals : List Dependence) (text : Text)
    → has_rows (loops_in model) l ≡ true → proofs_text 1 goals ≡ Ok text
    → lines_judged model k (laying l) (lines_of text)
    ≡ lines_judged model k (proving (opening (goals_in model l.plan))) (lines_of text)
opens laws model k l [] text h run =
    let none : [] ≡ text = cc in
    subst (λ (t : Text). lines_judged model k (laying l) (lines_of t)
    ≡ lines_judged model k (proving (opening (goals_in model l.plan))) (lines_of t)) none
    (ap (λ r. then_goals r (goals_ended k)) (opened_is model k l h))
opens laws model k l (d ∷ goals) text h run =
    let front = front_is 1 (derivation_of d) (proofs_text 2 goals) text run in
    let rest = steps_text front.0 ++ front.1 in
    let split : text ≡ (goal_text 1 ++ codes "\n") ++ rest
    = front.4 ∙ append_assoc (goal_text 1 ++ codes "\n") (steps_text front.0) front.1 in
    subst (λ (t : Text). lines_judged model k (laying l) (lines_of t)
    ≡ lines_judged model k (proving (opening (goals_in model l.plan))) (lines_of t)) (sym split)
    (line_same laws model k (laying l) (proving (opening (goals_in model l.plan))) (goal 1) rest
    (goal_plain (loops_in model) 1 (omega arith))
    (ap (λ r. proving_stage (then_goals r (λ p. goal_judged k p 1))) (opened_is model k l h)))

goals_accepted : PrintedLaws → (model : KernelModel) (k : ℕ) (l : Laid) (goals : List Dependence) (text : Text)
    → has_rows (loops_in model) l ≡ true → goals_in model l.plan ≡ goals → AreDerived goals → length text < 2 ^ 127
    → proofs_text 1 goals ≡ Ok text → lines_judged model k (laying l) (lines_of text) ≡ Ok true
goals_accepted laws model k l goals text h same derived few run =
    opens laws model k l goals text h run
    ∙ goals_go laws model k (opening (goals_in model l.plan)) goals text derived refl same (omega arith) run

-- a text behind another
behind_is : (front : Text) (r : Result Text ℕ) (text : Text) → behind_text front r ≡ Ok text
    → (rest : Text) × (r ≡ Ok rest) × (text ≡ front ++ rest)
behind_is front (Ok rest) text h = (rest, refl, cc)
behind_is front (Err g) text h = absurd cc

-- a kernel has few statements
statements_few : (program : Program) → IsKernel program → length (loops_in (model_of program)) < 2 ^ 64
statements_few program kernel =
    let l = length-placed (guard [] program.body) 0 in
    let g = length-map (placed_all program.body 0) (in_guard_of []) in
    let m = length-map (statements_of program) (modelled (length program.parameters)) in
    let d = length-map (model_of program).statements (λ s. s.domain.dimensions) in
    let few = kernel.few_statements in
    omega arith

pub accepted : PrintedLaws → DerivationLaws → (program : Program) (deps : List Dependence) (blocks : List Block)
    (text : Text) → ((d : Dependence) → In d (conflicts_of (model_of program)) → HasParts (model_of program) d)
    → AreSized (loops_in (model_of program)) blocks → IsKernel program
    → ((p : Placed) → In p (statements_of program) → IsPlaced (ranks_of program) (length program.parameters) p)
    → IsSchedule (model_of program).parameters (loops_in (model_of program)) deps blocks
    → IsNarrow (model_of program) blocks → length text < 2 ^ 127
    → certificate_of (model_of program) blocks ≡ Ok text → judged program text ≡ Ok true
accepted printed derivations program deps blocks text parts sized kernel placed schedule narrow few is =
    let model = model_of program in
    let loops = loops_in model in
    let goals = goals_in model (plan_of_blocks blocks) in
    let found = behind_is (schedule_text blocks) (proofs_text 1 goals) text is in
    let l = blocks_laid nothing_laid blocks in
    let whole = ap length found.2 in
    let both = length-append (schedule_text blocks) found.0 in
    let laid = blocks_go printed model 0 nothing_laid blocks found.0
    (blocks_printed loops blocks sized (schedule_up model.parameters loops deps blocks schedule) narrow.items)
    (statements_few program kernel) (omega arith) (omega arith) in
    let enough : has_rows loops l ≡ true =
    ap (λ (k : ℕ). list_all (λ n. nat_le n k) loops) (blocks_rows nothing_laid blocks ∙ zero-add (length (rows_in blocks)))
    ∙ schedule_enough model.parameters loops deps blocks schedule in
    let derived : AreDerived goals = λ d steps among h.
    derivation_derives derivations d steps
    (goals_sized model (plan_of_blocks blocks) d (plan_fits loops blocks sized).0
    (λ e i. conflict_over program e i (parts e i) kernel placed) among)
    h (narrow.lines d steps among h) in
    ap (λ (t : Text). lines_judged model 0 (laying nothing_laid) (lines_of t)) found.2
    ∙ (laid
    ∙ goals_accepted printed model (blocks_read 0 blocks) l goals found.0 enough (ap (goals_in model) (plan_laid blocks))
    derived (omega arith) found.1)
