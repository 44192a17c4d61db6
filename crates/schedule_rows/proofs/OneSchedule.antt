-- Dependences have one schedule.
use Rattle.scop_syntax.proofs.Common.{◌≡◌, subst, ℕ, List, [], ◌∷◌}
use Rattle.iteration_domains.specs.Dependence.{Dependence}
use Rattle.schedule_rows.specs.Items.{Block}
use Rattle.schedule_rows.specs.Next.{State}
use Rattle.schedule_rows.specs.Outcomes.{Outcome, ends, goes, IsSchedule, Next, Runs, state}
use Rattle.schedule_rows.proofs.Determinism.{restricts_unique}

-- a state has one outcome
abbrev pub OneOutcome : Type 0
OneOutcome = (m : ℕ) (loops : List ℕ) (s : State) (o q : Outcome) → Next m loops s o → Next m loops s q → o ≡ q

-- so runs from one state have one end
one_end : OneOutcome → (m : ℕ) (loops : List ℕ) (s : State) (ss : List State) (bs : List Block) (ts : List State)
    (cs : List Block) → Runs m loops s ss bs → Runs m loops s ts cs → bs ≡ cs
one_end one m loops s [] bs [] cs a b = let same = one m loops s (ends bs) (ends cs) a b in cc
one_end one m loops s [] bs (t ∷ ts) cs a b = let same = one m loops s (ends bs) (goes t) a b.0 in cc
one_end one m loops s (u ∷ us) bs [] cs a b = let same = one m loops s (goes u) (ends cs) a.0 b in cc
one_end one m loops s (u ∷ us) bs (t ∷ ts) cs a b =
    let goes_on = one m loops s (goes u) (goes t) a.0 b.0 in
    let same : u ≡ t = cc in
    one_end one m loops t us bs ts cs (subst (λ v. Runs m loops v us bs) same a.1) b.1

-- and dependences have one schedule
pub one_schedule : OneOutcome → (m : ℕ) (loops : List ℕ) (deps : List Dependence) (bs cs : List Block)
    → IsSchedule m loops deps bs → IsSchedule m loops deps cs → bs ≡ cs
one_schedule one m loops deps bs cs a b =
    let same = restricts_unique m [] deps a.taken b.taken a.takes b.takes in
    one_end one m loops (state [] [] b.taken) a.states bs b.states cs
    (subst (λ taken. Runs m loops (state [] [] taken) a.states bs) same a.runs) b.runs
