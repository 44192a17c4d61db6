-- What `schedule` prints of a model within a budget is one text.
use Rattle.scop_syntax.proofs.Common.{◌≡◌, ◌∙◌, sym, ap, inl, inr, refl, ℕ, List, [], Some, Result, Ok, Err}
use Rattle.iteration_domains.specs.Dependence.{Dependence}
use Rattle.iteration_domains.specs.Model.{KernelModel}
use Rattle.dataflow.specs.Covering.{covers_of}
use Rattle.pluto_search.specs.Alike.{AreAlike, IsDecided, IsOneCause, IsOneStop, IsOneStuck}
use Rattle.pluto_search.specs.Items.{Block}
use Rattle.pluto_search.specs.Schedule.{IsScheduled, Scheduled, bands_from, items_of, marks_of, scheduled}
use Rattle.pluto_search.specs.Searching.{Searches}
use Rattle.pluto_search.specs.Stop.{Stop}
use Rattle.pluto_search.specs.Stop.TheVariants as solver
use Rattle.pluto_search.specs.Stuck.{Stuck}
use Rattle.pluto_search.specs.Stuck.TheVariants as stuck
use Rattle.pluto_search.specs.declared.kept.Kept.{Kept}
use Rattle.pluto_search.specs.declared.kept.Kept.TheVariants as kept
use Rattle.plan_certificate.specs.KeptLine.{KeptLine}
use Rattle.plan_certificate.specs.KeptLine.TheVariants as line
use Rattle.plan_certificate.specs.KeptText.{kept_text}
use Rattle.plan_certificate.specs.ScheduleText.{schedule_text}
use Rattle.plan_search.specs.Planning.{IsCauseOf, IsPlanOf, IsSearched, line_of, line_of_kept}
use Rattle.plan_search.proofs.SearchLemmas.{OneSchedule}

-- a search has one answer but for want of memory
abbrev pub OneAnswer : Type 0
OneAnswer = (model : KernelModel) (deps : List Dependence) (budget : ℕ) (a b : Result Scheduled Kept)
    → Searches model deps budget a → Searches model deps budget b → IsDecided a → IsDecided b → AreAlike a b

-- one stop has one line
stop_line : (a b : Stop) → IsOneStop a b → line_of (stuck.Solver a) ≡ line_of (stuck.Solver b)
stop_line (solver.Wide p moves) (solver.Wide q other) one = refl
stop_line (solver.Spent p moves) (solver.Spent q other) one = ap (λ n. Some (line.Spent n)) one.1
stop_line solver.NoMemory solver.NoMemory one = refl
stop_line a b one = absurd one

stuck_line : (a b : Stuck) → IsOneStuck a b → line_of a ≡ line_of b
stuck_line (stuck.Solver a) (stuck.Solver b) one = stop_line a b one
stuck_line (stuck.Elimination a) (stuck.Elimination b) one = ap (λ stop. line_of (stuck.Elimination stop)) one
stuck_line stuck.NoMemory stuck.NoMemory one = refl
stuck_line a b one = absurd one

-- so one cause has
cause_line : (a b : Kept) → IsOneCause a b → line_of_kept a ≡ line_of_kept b
cause_line (kept.Stuck a) (kept.Stuck b) one = stuck_line a b one
cause_line (kept.NoRow posed) (kept.NoRow other) one = refl
cause_line (kept.NoOrder component) (kept.NoOrder other) one = refl
cause_line kept.NoMemory kept.NoMemory one = refl
cause_line (kept.Large row) (kept.Large other) one = refl
cause_line a b one = absurd one

-- a cause with a line is not want of memory
decided : (cause : Kept) (told : KeptLine) → line_of_kept cause ≡ Some told → IsDecided (Err cause)
decided (kept.Stuck stop) told is = tt
decided (kept.NoRow posed) told is = tt
decided (kept.NoOrder component) told is = tt
decided kept.NoMemory told is = absurd cc
decided (kept.Large row) told is = tt

-- the order is not kept where a schedule is found
found_apart : OneAnswer → (budget : ℕ) (deps : List Dependence) (model : KernelModel) (blocks : List Block)
    (told : KeptLine) → IsSearched budget deps model blocks → IsCauseOf budget deps model told → ⊥
found_apart one budget deps model blocks told found (cause, keeps, is) =
    let s = scheduled model deps (items_of blocks) (bands_from 0 blocks) (marks_of blocks) in
    let run : IsScheduled s = record { blocks = blocks; run = found.0; items = refl; bands = refl; parallel = refl } in
    one model deps budget (Ok s) (Err cause) (refl, refl, run, found.1) keeps tt (decided cause told is)

-- it is kept for one line
one_line : OneAnswer → (budget : ℕ) (deps : List Dependence) (model : KernelModel) (told other : KeptLine)
    → IsCauseOf budget deps model told → IsCauseOf budget deps model other → told ≡ other
one_line one budget deps model told other (a, keeps, is) (b, keeps_other, is_other) =
    let same = one model deps budget (Err a) (Err b) keeps keeps_other (decided a told is) (decided b other is_other) in
    let lines : Some told ≡ Some other = sym is ∙ (cause_line a b same ∙ is_other) in
    cc

-- a model has one text
pub one_text : OneSchedule → OneAnswer → (budget : ℕ) (model : KernelModel) (text other : List ℕ)
    → IsPlanOf budget model text → IsPlanOf budget model other → text ≡ other
one_text schedule one budget model text other (inl (blocks, found, is)) (inl (others, found_other, is_other)) =
    is ∙ (ap schedule_text (schedule _ _ _ blocks others found.0 found_other.0) ∙ sym is_other)
one_text schedule one budget model text other (inl (blocks, found, is)) (inr (told, cause, line)) =
    absurd (found_apart one budget (covers_of budget [] model) model blocks told found cause)
one_text schedule one budget model text other (inr (told, cause, line)) (inl (blocks, found, is)) =
    absurd (found_apart one budget (covers_of budget [] model) model blocks told found cause)
one_text schedule one budget model text other (inr (told, cause, line)) (inr (why, cause_other, line_other)) =
    line ∙ (ap kept_text (one_line one budget (covers_of budget [] model) model told why cause cause_other)
    ∙ sym line_other)
