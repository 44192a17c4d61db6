use Rattle.scop_syntax.proofs.Common.{◌≡◌, ℕ, ℤ, List, map, sym, ◌∙◌, ap, subst, inl, inr, None, Some, Err, Ok}
use Rattle.scop_syntax.proofs.Common.{Option, Vec, In}
use Rattle.std.specs.Global.{Global}
use Rattle.iteration_domains.specs.Dependence.{Dependence}
use Rattle.integer_sets.specs.Constraints.{Constraints}
use Rattle.schedule_rows.specs.Next.{State, rows_of}
use Rattle.schedule_rows.specs.Posed.{IsLeast, HasNone}
use Rattle.whole_numbers.specs.Lexicographic as lexicographic
use Rattle.pip_solver.specs.Minimum.{IsTaken, IsMinimum, Minimizes, held}
use Rattle.pluto_systems.specs.Posing.{RuledDep, AreVectorsOf, AreSmallVectors, HasPosed}
use Rattle.pluto_systems.specs.Placing.{columns_of, row_from}
use Rattle.pluto_systems.proofs.Rows.{least_row, no_row}
use Rattle.pluto_search.specs.declared.kept.Kept.TheVariants as kept
use Rattle.pluto_search.specs.Questions.{IsPosedAt, StopsAt, StopsMinimum}
use Rattle.pluto_search.specs.steps.Steps.{state_of, Steps}
use Rattle.pluto_search.proofs.GoodStates.{Vectors, shown, small_vectors, are_between, remains, posed_at}
use Rattle.pluto_search.proofs.QuestionStops.{stop_of, stop_at, minimum_stops}
use Rattle.pluto_search.proofs.next.next_row.Goals as goal
use Rattle.pluto_search.proofs.next.next_row.Goals.{In-Ok}

none_at : (m : ℕ) (loops : List ℕ) (t : State) (s : Constraints) → HasPosed m loops t.remaining (rows_of t) s
    → s.dimensions ≡ columns_of m loops → IsMinimum s None → HasNone m loops t.remaining (rows_of t)
none_at m loops t s h d min = no_row m loops t.remaining (rows_of t) s h (λ xs e k. min xs (e ∙ sym d) k)

least_at : (m : ℕ) (loops : List ℕ) (t : State) (s : Constraints) (xs : List ℤ)
    → HasPosed m loops t.remaining (rows_of t) s
    → s.dimensions ≡ columns_of m loops → IsMinimum s (Some xs) → IsLeast m loops t.remaining (rows_of t)
    (row_from m loops xs)
least_at m loops t s xs h d min =
    least_row m loops t.remaining (rows_of t) s xs h (subst (λ (n : ℕ). lexicographic.IsLeast (IsTaken s) n xs) d min)

pub posed_over-requires-clause-between : goal.posed_over-requires-clause-between
posed_over-requires-clause-between c x i =
    let p = c.args.progress in
    are_between p x c.requires.rules (subst (λ (z : List RuledDep). In x z) c.deref.ensures.value i)

pub posed_over-requires-clause-vectors : goal.posed_over-requires-clause-vectors
posed_over-requires-clause-vectors c =
    subst (λ (z : List Vectors). AreSmallVectors c.args.progress.search.now.loops.now (map shown z))
    (sym c.deref-2.ensures.value) (small_vectors c.args.progress)

-- the system is the state's posed system, and holds its posed rows
is_posed : (c : In-Ok)
    → IsPosedAt c.args.progress.search.now.parameters c.args.progress.search.now.loops.now
    c.args.progress.search.now.budget (state_of c.args.progress) c.in-Ok.posed
is_posed c =
    posed_at c.args.progress c.deref.result.now c.deref-2.result.now c.in-Ok.posed c.deref.ensures.value
    c.deref-2.ensures.value c.requires.ruled c.requires.rules c.in-Ok.ensures.exact

has : (c : In-Ok)
    → HasPosed c.args.progress.search.now.parameters c.args.progress.search.now.loops.now
    (state_of c.args.progress).remaining (rows_of (state_of c.args.progress)) c.in-Ok.posed
has c =
    let p = c.args.progress in
    let g = p.search.now in
    let before = rows_of (state_of p) in
    subst (λ (ds : List Dependence). HasPosed g.parameters g.loops.now ds before c.in-Ok.posed)
    (remains p c.deref.result.now c.deref.ensures.value c.requires.ruled)
    (c.in-Ok.ensures.points before (subst (λ (z : List Vectors). AreVectorsOf g.loops.now before (map shown z))
    (sym c.deref-2.ensures.value) p.good.vectors))

columns : (c : In-Ok)
    → c.in-Ok.posed.dimensions ≡ columns_of c.args.progress.search.now.parameters c.args.progress.search.now.loops.now
columns c = ap (λ (z : Constraints). z.dimensions) c.in-Ok.ensures.exact

pub lack-requires-clause-none : goal.lack-requires-clause-none
lack-requires-clause-none c =
    let g = c.args.progress.search.now in
    let at = (goal.at.lack-requires-clause-none c).In-Ok in
    let s = c.in-Ok.posed in
    let is = c.in-Ok-None.field-0-is in (
      (
        s,
        is_posed at,
        subst (λ (f : Option (Vec ℤ Global)). Minimizes (Ok f) g.budget s) is c.in-Ok-None.ensures.run,
      ),
      none_at g.parameters g.loops.now (state_of c.args.progress) s (has at) (columns at)
          (subst (λ f. IsMinimum s (held f)) is c.in-Ok-None.ensures.minimum),
    )

pub lack-requires-clause-posed : goal.lack-requires-clause-posed
lack-requires-clause-posed c = is_posed (goal.at.lack-requires-clause-posed c).In-Ok

pub take-requires-clause-size : goal.take-requires-clause-size
take-requires-clause-size c =
    let least = subst (λ f. IsMinimum c.in-Ok.posed (held f)) c.in-Ok-Some.field-0-is c.in-Ok-Some.ensures.minimum in
    least.size ∙ columns (goal.at.take-requires-clause-size c).In-Ok

pub take-requires-clause-least : goal.take-requires-clause-least
take-requires-clause-least c =
    let g = c.args.progress.search.now in
    let at = (goal.at.take-requires-clause-least c).In-Ok in
    let s = c.in-Ok.posed in
    let is = c.in-Ok-Some.field-0-is in (
      (
        c.in-Ok-Some.numbers,
        (
          s,
          is_posed at,
          subst (λ (f : Option (Vec ℤ Global)). Minimizes (Ok f) g.budget s) is c.in-Ok-Some.ensures.run,
        ),
      ),
      least_at g.parameters g.loops.now (state_of c.args.progress) s c.in-Ok-Some.numbers.items (has at)
          (columns at) (subst (λ f. IsMinimum s (held f)) is c.in-Ok-Some.ensures.minimum),
    )

pub returns-in-Err-least_point_in : goal.returns-in-Err-least_point_in
returns-in-Err-least_point_in c =
    let g = c.args.progress.search.now in
    let at = (goal.at.returns-in-Err-least_point_in c).In-Ok in
    let t = state_of c.args.progress in
    let s = c.in-Ok.posed in
    subst (λ (k : kept.the_data). Steps g t (Err k)) (sym c.by_solver.ensures)
    (stop_at g t _
    (stop_of (StopsMinimum g.budget s) (StopsAt g.parameters g.loops.now g.budget t) _
    (λ stop h. inr (c.requires.more, inr (inl (s, is_posed at, h))))
    (minimum_stops g.budget s c.in-Err-least_point_in.stop c.in-Err-least_point_in.ensures.run)))
