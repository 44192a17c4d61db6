-- `schedule`, `deps`, `certify` and `check` have no lines.
use Rattle.scop_syntax.proofs.Common.{◌≡◌, ◌∙◌, sym, subst, ap, refl, inl, inr, ℕ, List, [], ◌∷◌, ◌++◌, Option}
use Rattle.io_ports.specs.Writes.{SinkShows}
use Rattle.plan_search.specs.Status.{Status}
use Rattle.plan_search.specs.Status.TheVariants.{Done, Usage, Refused, BadData, Outside, ReadFault}
use Rattle.plan_search.specs.Status.TheVariants.{WriteFault, NoMemory, Rejected}
use Rattle.command_line.specs.declared.command.Command.TheVariants.{OfKernel, Check}
use Rattle.command_line.specs.declared.command.KernelCommand.TheVariants.{Schedule, Deps, Certify}
use Rattle.command_line.specs.Command.{command_of}
use Rattle.polypar.specs.Told.{Told}
use Rattle.polypar.specs.Deserves.{AsksFor, Asks}
use Rattle.polypar.specs.Answered.{HasLines}

-- words whose command asks for no lines
abbrev AskNoLines : List (List ℕ) → Type 0
AskNoLines words = (input : List ℕ) (told : Told) → Asks words input told → told.lines ≡ []

-- so does `schedule`
pub schedule_quiet : (words : List (List ℕ)) (budget : ℕ) → command_of words ≡ OfKernel (Schedule budget)
    → AskNoLines words
schedule_quiet words budget is input told asks =
    let asked = subst (λ c. AsksFor c input told) is asks.1 in asked.1.1

-- so does `deps`
pub deps_quiet : (words : List (List ℕ)) (budget : ℕ) → command_of words ≡ OfKernel (Deps budget) → AskNoLines words
deps_quiet words budget is input told asks =
    let asked = subst (λ c. AsksFor c input told) is asks.1 in asked.1.1

-- so does `certify`
pub certify_quiet : (words : List (List ℕ)) (budget : ℕ) → command_of words ≡ OfKernel (Certify budget)
    → AskNoLines words
certify_quiet words budget is input told asks =
    let asked = subst (λ c. AsksFor c input told) is asks.1 in asked.1.1

-- so does `check`
pub check_quiet : (words : List (List ℕ)) → command_of words ≡ Check → AskNoLines words
check_quiet words is input told asks =
    let asked = subst (λ c. AsksFor c input told) is asks.1 in ap (λ (t : Told). t.lines) asked.1.yes

-- a front of nothing is nothing
front_nothing : (front rest : List ℕ) → front ++ rest ≡ [] → front ≡ []
front_nothing [] rest is = refl
front_nothing (x ∷ xs) rest is = cc

-- then nothing stands on `err` before the status line
pub quiet_lines : (words : List (List ℕ)) (left : Option (List ℕ)) (status : Status) (out out_after : SinkShows)
    (lines : List ℕ) → HasLines words left status out out_after lines → AskNoLines words → lines ≡ []
quiet_lines words left Done out out_after lines has quiet = has.5 ∙ quiet has.0 has.1 has.3
quiet_lines words left WriteFault out out_after lines has quiet =
    let none = quiet has.0 has.1 has.3 in
    elim has.4 [
      | inl whole ↦ whole.0 ∙ none
      | inr stopped ↦ front_nothing lines stopped.0.0 (sym stopped.0.1 ∙ none)
    ]
quiet_lines words left Usage out out_after lines has quiet = has
quiet_lines words left (Refused refusal) out out_after lines has quiet = has
quiet_lines words left (BadData refusal) out out_after lines has quiet = has
quiet_lines words left (Outside f) out out_after lines has quiet = has
quiet_lines words left (Rejected kind line) out out_after lines has quiet = has
quiet_lines words left ReadFault out out_after lines has quiet = has
quiet_lines words left NoMemory out out_after lines has quiet = has
