-- Step by step along the determined run.
use Rattle.scop_syntax.proofs.Common.{◌≡◌, ℕ, ◌<◌, List, [], ◌∷◌, ◌++◌, refl, sym, subst, Ok}
use Rattle.iteration_domains.specs.Dependence.{Dependence}
use Rattle.schedule_rows.specs.Items.{Block}
use Rattle.iteration_domains.specs.Model.{KernelModel}
use Rattle.schedule_rows.specs.Next.{State, Restricts}
use Rattle.schedule_rows.specs.Outcomes.{goes, ends, state, Next, Runs, IsSchedule}
use Rattle.schedule_rows.specs.Reaching.{Path}
use Rattle.schedule_rows.specs.Schedule.{Scheduled, scheduled, items_of, bands_from, marks_of, loops_in}
use Rattle.schedule_rows.specs.Measure.{measure}
use Rattle.schedule_rows.proofs.BandStarts.{path_more}
use Rattle.schedule_rows.proofs.NextSteps.{next_goes}
use Rattle.schedule_rows.proofs.Measures.{step_falls}
use Rattle.pluto_search.specs.declared.state.Search.{Search}
use Rattle.pluto_search.specs.Questions.{AnswersFirst, AnswersAt, AnswersAlong, Answered, ComesAnswered}
use Rattle.pluto_search.specs.Searching.{Searches}
use Rattle.pluto_search.proofs.NextStates.{laws}

-- the measure of the loop
pub falls : (g : Search) (s t : State) → Next g.parameters g.loops.now s (goes t)
    → measure g.loops.now t < measure g.loops.now s
falls g s t n = step_falls laws g.parameters g.loops.now s t (next_goes g.parameters g.loops.now s t n)

path_runs : (m : ℕ) (loops : List ℕ) (s : State) (vs : List State) (t : State) (blocks : List Block)
    → Path m loops s vs t → Next m loops t (ends blocks) → Runs m loops s vs blocks
path_runs m loops s [] t blocks p n = subst (λ (z : State). Next m loops z (ends blocks)) (sym p) n
path_runs m loops s (v ∷ vs) t blocks p n = (p.0, path_runs m loops v vs t blocks p.1 n)

-- the first state, the first questions answered
pub answered_first : (g : Search) (deps taken : List Dependence) (s : State) → s ≡ state [] [] taken
    → Restricts g.parameters [] deps taken → AnswersFirst g.budget deps
    → Answered g.parameters g.loops.now g.budget deps s
answered_first g deps taken s e r a =
    subst (Answered g.parameters g.loops.now g.budget deps) (sym e)
    (record {
      reached = record { taken = taken; states = []; takes = r; path = refl };
      first = a;
      along = tt;
    })

along_more : (m : ℕ) (loops : List ℕ) (budget : ℕ) (s : State) (vs : List State) (t u : State) → Path m loops s vs t
    → AnswersAlong m loops budget s vs → AnswersAt m loops budget t → AnswersAlong m loops budget s (vs ++ u ∷ [])
along_more m loops budget s [] t u p a own = (subst (λ (z : State). AnswersAt m loops budget z) (sym p) own, tt)
along_more m loops budget s (v ∷ vs) t u p a own = (a.0, along_more m loops budget v vs t u p.1 a.1 own)

-- one state further, all questions of the last one answered
pub answered_more : (g : Search) (deps : List Dependence) (s t : State)
    → Answered g.parameters g.loops.now g.budget deps s → AnswersAt g.parameters g.loops.now g.budget s
    → Next g.parameters g.loops.now s (goes t) → Answered g.parameters g.loops.now g.budget deps t
answered_more g deps s t r own n =
    let first = state [] [] r.reached.taken in
    let old = r.reached.states in
    record {
      reached = record {
        taken = r.reached.taken;
        states = old ++ t ∷ [];
        takes = r.reached.takes;
        path = path_more g.parameters g.loops.now first old s t r.reached.path n;
      };
      first = r.first;
      along = along_more g.parameters g.loops.now g.budget first old s t r.reached.path r.along own;
    }

-- a run that comes to blocks is a schedule
pub comes_schedule : (m : ℕ) (loops : List ℕ) (budget : ℕ) (deps : List Dependence) (blocks : List Block)
    → ComesAnswered m loops budget deps (ends blocks) → IsSchedule m loops deps blocks
comes_schedule m loops budget deps blocks c =
    let r = c.answered.reached in
    record {
      taken = r.taken;
      states = r.states;
      takes = r.takes;
      runs = path_runs m loops (state [] [] r.taken) r.states c.last blocks r.path c.next;
    }

-- it is what the search answers
pub comes_found : (model : KernelModel) (deps : List Dependence) (budget : ℕ) (blocks : List Block) (s : Scheduled)
    → ComesAnswered model.parameters (loops_in model) budget deps (ends blocks)
    → s ≡ scheduled model deps (items_of blocks) (bands_from 0 blocks) (marks_of blocks)
    → Searches model deps budget (Ok s)
comes_found model deps budget blocks s c e =
    subst (λ (z : Scheduled). Searches model deps budget (Ok z)) (sym e) (
      refl,
      refl,
      record {
        blocks = blocks;
        run = comes_schedule model.parameters (loops_in model) budget deps blocks c;
        items = refl;
        bands = refl;
        parallel = refl;
      },
      c,
    )
