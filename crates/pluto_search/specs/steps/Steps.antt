-- The search's states, and what a step from one says.
use Rattle.std.specs.Prelude.{◌≡◌, ℕ, ℤ, List, ◌++◌, map, All, Result, Ok, Err, ⊤, Vec}
use Rattle.std.specs.Global.{Global}
use Rattle.iteration_domains.specs.Dependence.{Dependence}
use Rattle.schedule_rows.specs.Posed.{IsFull}
use Rattle.schedule_rows.specs.Next.{State, rows_of}
use Rattle.schedule_rows.specs.Outcomes.{goes, ends, no_row, no_order, large, state, Next}
use Rattle.schedule_rows.specs.Schedule.{block_of, marked_of}
use Rattle.schedule_rows.specs.declared.item.Block.TheVariants as code_block
use Rattle.pluto_systems.specs.Posing.{RuledDep, IsRuled, dep_of, ruled_run}
use Rattle.pluto_search.specs.Questions.{AnswersAt, Answered, AsksFirst, ComesAnswered, IsPosedAt, IsTold, StopsAt}
use Rattle.pluto_search.specs.Searching.{Keeps}
use Rattle.pluto_search.specs.declared.state.Search.{Search}
use Rattle.pluto_search.specs.declared.state.Progress.{Progress}
use Rattle.pluto_search.specs.declared.state.Step.TheVariants as step
use Rattle.pluto_search.specs.declared.kept.Kept.TheVariants as kept
use Rattle.pluto_search.specs.steps.Stopping.{IsStop}

-- what the code's state stands for
abbrev pub state_of : Progress → State
state_of p =
    state (map block_of p.closed.items) (map marked_of p.rows.items) (map dep_of p.ruled.items ++ p.bare.items)

-- each statement's kernel vectors
abbrev pub vectors_in : Progress → List (List (List ℤ))
vectors_in p = map (λ vs. map (λ v. v.items) vs.items) p.vectors.items

-- some statement's rows have no full rank
abbrev pub HasMore : Search → State → Type 0
HasMore g s = IsFull g.loops.now (rows_of s) → ⊥

-- the rows of each dependence are its rows, and those of the run with this budget
abbrev pub AreRules : ℕ → List RuledDep → Type 0
AreRules budget xs = All (λ x. IsRuled x × (ruled_run budget x.dep ≡ Ok x)) xs

-- why nothing comes behind a state: all its questions are answered, or one stops
abbrev pub KeepsAt : Search → State → kept.the_data → Type 0
KeepsAt g s (kept.Stuck stuck) = IsTold stuck × StopsAt g.parameters g.loops.now g.budget s stuck
KeepsAt g s (kept.NoRow posed) =
    AnswersAt g.parameters g.loops.now g.budget s × Next g.parameters g.loops.now s no_row
    × IsPosedAt g.parameters g.loops.now g.budget s posed
KeepsAt g s (kept.NoOrder component) =
    AnswersAt g.parameters g.loops.now g.budget s × Next g.parameters g.loops.now s (no_order component)
KeepsAt g s kept.NoMemory = ⊤
KeepsAt g s (kept.Large row) =
    AnswersAt g.parameters g.loops.now g.budget s × Next g.parameters g.loops.now s (large row)

-- the progress of this search
pub record IsOf (g : Search) (p : Progress) : Type 0 where
  pub search : p.search.now ≡ g
  pub rules : AreRules g.budget p.ruled.items

-- what comes next, all questions answered, or why nothing does
abbrev pub Steps : Search → State → Result step.the_data kept.the_data → Type 0
Steps g s (Ok (step.Goes p)) =
    AnswersAt g.parameters g.loops.now g.budget s × Next g.parameters g.loops.now s (goes (state_of p)) × IsOf g p
Steps g s (Ok (step.Ends blocks)) =
    AnswersAt g.parameters g.loops.now g.budget s × Next g.parameters g.loops.now s (ends (map block_of blocks.items))
Steps g s (Err kept) = KeepsAt g s kept

-- a step that goes on, where a part of it does
abbrev pub going : Result Progress kept.the_data → Result step.the_data kept.the_data
going (Ok p) = Ok (step.Goes p)
going (Err kept) = Err kept

-- the first state, or the first stop among the first questions
abbrev pub Starts : Search → List Dependence → Result Progress kept.the_data → Type 0
Starts g deps (Ok p) = IsOf g p × Answered g.parameters g.loops.now g.budget deps (state_of p)
Starts g deps (Err kept) = IsStop (AsksFirst g.budget deps) kept

-- the blocks of the determined run, or why the order is kept
abbrev pub Runs : Search → List Dependence → Result (Vec code_block.the_data Global) kept.the_data → Type 0
Runs g deps (Ok blocks) =
    ComesAnswered g.parameters g.loops.now g.budget deps (ends (map block_of blocks.items))
Runs g deps (Err kept) = Keeps g.parameters g.loops.now deps g.budget kept
