-- Sources are what a text can tell: their quasts speak of the variables at their places, and name instances.
use Rattle.dataflow.proofs.Common.{◌≡◌, ℕ, zero, suc, ◌+◌, ◌^◌, ◌<◌, ◌≤◌, List, [], ◌∷◌, ◌++◌, length, ◌-◌, Option}
use Rattle.dataflow.proofs.Common.{Some, None, Result, Ok, Err, refl, sym, ap, subst, ◌∙◌, arith, inl, inr, ⊤, IfOk}
use Rattle.dataflow.proofs.Common.{slice_get, length-map, Affine, In, Placed, statements_of}
use Rattle.dataflow.proofs.Common.{Program, in_from_place, in_map_from, place_of, lexmin-speaks, lexmin-forms, Source}
use Rattle.dataflow.proofs.Common.{source_of, Tree, leaf, branch, bind, count, Speaks, LeavesHave, tree_of}
use Rattle.dataflow.proofs.Common.{named-speaks, HasForms, node_limit, join-speaks, Dependence, Modelled, KernelModel}
use Rattle.dataflow.proofs.Common.{model_of, modelled, conflicts_of, AreSources, IsSourceOf, reads_from}
use Rattle.dataflow.proofs.Common.{reads_of_statement, reads_in, reads_of, Stopped, writers_run, solve_between}
use Rattle.dataflow.proofs.Common.{turned_back, is_candidate, candidates_of, turns_in, read_variables, top, all_below}
use Rattle.dataflow.proofs.Common.{posed_rows, posed_context, writer_end, reader_end, IsInstance}
use Rattle.dataflow.proofs.Common.{NamesInstances, IsToldOver}
use Rattle.scop_syntax.proofs.Common.{loops_in}
use Rattle.wide_math.specs.Checked.{◌>>=◌}
use Rattle.wide_math.proofs.Steps.{chain-ok}
use Rattle.affine_forms.specs.Runs.{compose_run}
use Rattle.quast_trees.specs.Tree.{initial, named}
use Rattle.quast_trees.specs.Mapped.{composed_run, leaf_run, map_run}
use Rattle.quast_trees.proofs.ListRuns.{each_run-map}
use Rattle.quast_joins.specs.declared.way.Way.{Way}
use Rattle.quast_joins.specs.declared.way.Way.TheVariants.{Later, Earlier}
use Rattle.quast_joins.proofs.Counts.{join-forms}
use Rattle.quast_joins.proofs.JoinedLeaves.{join_leaves}
use Rattle.dataflow.specs.ReadSources.{TellsStop}
use Rattle.dataflow.specs.WriterRuns.{solve_run}
use Rattle.dataflow.specs.Told.{IsToldStop, IsToldAt, AreTold}
use Rattle.dataflow.specs.declared.source.ReadSource.{ReadSource}
use Rattle.dataflow.proofs.CandidateRuns.{reader_is, variables_are}
use Rattle.dataflow.proofs.JoinedRuns.{run_keeps}
use Rattle.dataflow.proofs.ResolvedWriters.{chosen_in, posed-speaks, context-speaks, solved_of, back_speaks}
use Rattle.dataflow.proofs.ResolvedWriters.{length-all_below}
use Rattle.pip_solver.specs.declared.stop.Stop.TheVariants as solver
use Rattle.tableau_rows.specs.Run as run
use Rattle.dataflow.specs.WriterRuns as writer
use Rattle.dataflow.specs.declared.source.ReadSource.TheVariants as source
use Rattle.dataflow.specs.declared.source.SourceStop.TheVariants as stop

-- ---- leaves name instances

-- a named tree
named-instances : (model : KernelModel) (s : Source) (t : Tree) → IsInstance model (Some s)
    → NamesInstances model (named s t)
named-instances model s initial h = tt
named-instances model s (leaf l) h = h
named-instances model s (branch test x y) h = (named-instances model s x h, named-instances model s y h)
named-instances model s (bind f d x) h = named-instances model s x h

-- ---- leaves have a form for each loop

-- a mapped tree has those of the map
mapped-forms : (forms : List Affine) (t u : Tree) → map_run forms t ≡ Ok u → LeavesHave (length forms) u
mapped-forms forms initial u h = let e : u ≡ initial = cc in rw e tt
mapped-forms forms (leaf l) u h =
    let c = chain-ok (leaf_run forms l) (λ m. Ok (leaf m)) u h in
    let d = chain-ok (composed_run forms l.forms l.variables) (λ gs. Ok (record l { forms = gs })) c.0 c.1 in
    let none : Affine → ℕ = λ f. 0 in
    let composed = λ (f : Affine). compose_run f l.forms l.variables in
    let same = each_run-map {C = ℕ} composed none none (λ f g run. refl) forms d.0 d.1 in
    let size : length d.0 ≡ length forms =
    sym (length-map d.0 none) ∙ (ap length same ∙ length-map forms none) in
    let e : u ≡ leaf (record l { forms = d.0 }) = cc (c.2, d.2) in
    rw e size
mapped-forms forms (branch test a b) u h =
    let c = chain-ok (map_run forms a) (λ x. map_run forms b >>= λ y. Ok (branch test x y)) u h in
    let d = chain-ok (map_run forms b) (λ y. Ok (branch test c.0 y)) u c.2 in
    let e : u ≡ branch test c.0 d.0 = cc (d.2) in
    rw e (mapped-forms forms a c.0 c.1, mapped-forms forms b d.0 d.1)
mapped-forms forms (bind f divisor t) u h =
    let c = chain-ok (map_run forms t) (λ x. Ok (bind f divisor x)) u h in
    let e : u ≡ bind f divisor c.0 = cc (c.2) in
    rw e (mapped-forms forms t c.0 c.1)

-- a minimum turned back
back_forms : (way : Way) (d : ℕ) (least back : Tree) → LeavesHave d least → turned_back way d least ≡ Ok back
    → LeavesHave d back
back_forms Later d least back forms h =
    subst (λ (i : ℕ). LeavesHave i back) (length-all_below top d 0 d) (mapped-forms (all_below top d 0 d) least back h)
back_forms Earlier d least back forms h = let same : least ≡ back = cc in subst (LeavesHave d) same forms

-- a named tree
named-forms : (s : Source) (t : Tree) → LeavesHave (length s.loops) t → HasForms (named s t)
named-forms s initial h = tt
named-forms s (leaf l) h = h
named-forms s (branch test x y) h = (named-forms s x h.0, named-forms s y h.1)
named-forms s (bind f d x) h = named-forms s x h

-- ---- the run

-- what a candidate's quast is
abbrev pub IsOver : KernelModel → ℕ → Tree → Type 0
IsOver model n t = Speaks n t × NamesInstances model t × HasForms t

-- each statement has a dimension for each loop
abbrev pub HaveLoops : KernelModel → Type 0
HaveLoops model = (t : Modelled) → In t model.statements → length t.loops ≡ t.domain.dimensions

initial_over : (model : KernelModel) (n : ℕ) (t : Tree) → initial ≡ t → IsOver model n t
initial_over model n t e = subst (IsOver model n) e (tt, tt, tt)

between_over : (way : Way) (model : KernelModel) (budget : ℕ) (dep : Dependence) (o q : Option Modelled) (tree : Tree)
    → HaveLoops model → slice_get model.statements (writer_end way dep).statement ≡ o
    → solve_between way model.parameters budget dep o q ≡ Ok tree
    → IsOver model (model.parameters + turns_in q) tree
between_over way model budget dep None q tree loops here h =
    initial_over model (model.parameters + turns_in q) tree cc
between_over way model budget dep (Some s) None tree loops here h =
    initial_over model (model.parameters + 0) tree cc
between_over way model budget dep (Some s) (Some t) tree loops here h =
    let m = model.parameters in
    let d = s.domain.dimensions in
    let n = m + t.domain.dimensions in
    let rows = posed-speaks way s t m dep in
    let context = context-speaks t m in
    let solved = solved_of way m budget dep s t tree h in
    let least = solved.minimum in
    let speaks = lexmin-speaks budget d n (posed_rows way s t m dep) (posed_context t m) least solved.left rows context
    solved.run in
    let number = (writer_end way dep).statement in
    let from = source_of number s.loops in
    let back = solved.back in
    let inside = in_from_place model.statements number s here in
    let forms : LeavesHave d back = back_forms way d least back
    (lexmin-forms budget d n (posed_rows way s t m dep) (posed_context t m) least solved.left rows context solved.run)
    solved.turned in
    subst (IsOver model n) (sym solved.is) (
      named-speaks from n back (back_speaks way d n least back speaks solved.turned),
      named-instances model from back (s, here, refl),
      named-forms from back (subst (λ (i : ℕ). LeavesHave i back) (sym (loops s inside)) forms),
    )

pub solved_over : (way : Way) (model : KernelModel) (budget : ℕ) (dep : Dependence) (tree : Tree) → HaveLoops model
    → solve_run way model budget dep ≡ Ok tree → IsOver model (read_variables model (reader_end way dep).statement) tree
unfolding solve_run
solved_over way model budget dep tree loops h =
    between_over way model budget dep (slice_get model.statements (writer_end way dep).statement)
    (slice_get model.statements (reader_end way dep).statement) tree loops refl h

-- the quast of an access
pub quast_over : (way : Way) (model : KernelModel) (budget statement access : ℕ) (u : Tree) → HaveLoops model
    → writers_run way model budget statement access ≡ Ok u
    → IsOver model (read_variables model statement) u × (count u ≤ node_limit)
quast_over way model budget statement access u loops h =
    let n = read_variables model statement in
    run_keeps way (IsOver model n) n (solve_run way model budget)
    (λ a b x y. (
      join-speaks way n a b x.0 y.0,
      join_leaves (λ l. IsInstance model l.source) (λ n k l is. is) way n a b x.1 y.1,
      join-forms way n a b x.2 y.2,
    ))
    (candidates_of way model statement access) initial u
    (λ dep t i e. let c = chosen_in (is_candidate way statement access) (conflicts_of model) dep i in
    subst (λ (k : ℕ). IsOver model (read_variables model k) t) (reader_is way statement access dep c.1)
    (solved_over way model budget dep t loops e))
    (tt, tt, tt) (omega arith) h

-- ---- sources

-- a stop's moves are the budget
stop_told : (way : Way) (model : KernelModel) (budget : ℕ) (told : solver.the_data) (why : Stopped) → budget < 2 ^ 64
    → TellsStop way model budget told why → IsToldStop told
stop_told way model budget (solver.Wide told moves) why small h = tt
stop_told way model budget (solver.Spent told moves) (writer.solver dep run.spent) small h =
    let same = h.0 in omega (arith, same)
stop_told way model budget (solver.Spent told moves) (writer.solver dep (run.wide w left)) small h = absurd h
stop_told way model budget (solver.Spent told moves) (writer.wide_leaf dep) small h = absurd h
stop_told way model budget solver.NoMemory (writer.solver dep run.spent) small h = absurd h
stop_told way model budget solver.NoMemory (writer.solver dep (run.wide w left)) small h = absurd h
stop_told way model budget solver.NoMemory (writer.wide_leaf dep) small h = absurd h

-- a source
source_told : (way : Way) (model : KernelModel) (budget statement access : ℕ) (from : ReadSource) → HaveLoops model
    → budget < 2 ^ 64 → IsSourceOf way model budget statement access from
    → IsToldOver model (read_variables model statement) from
source_told way model budget statement access (source.Resolved quast) loops small is =
    let r = quast_over way model budget statement access (tree_of quast) loops is in
    record { speaks = r.0.0; leaves = r.0.1; forms = r.0.2; few = r.1 }
source_told way model budget statement access (source.Unresolved (stop.Solver told)) loops small is =
    stop_told way model budget told is.0 small is.2
source_told way model budget statement access (source.Unresolved (stop.Join count)) loops small is =
    let same = is.2 in omega (arith, same)

-- that of a statement's access, where there is one
pub told_if_ok : {E : Type 0} (way : Way) (model : KernelModel) (budget access : ℕ) (s : Modelled)
    (r : Result ReadSource E) → HaveLoops model
    → ((k : ℕ) (t : Modelled) → slice_get model.statements k ≡ Some t → t.number ≡ k) → budget < 2 ^ 64
    → In s model.statements → IfOk r (IsSourceOf way model budget s.number access)
    → IfOk r (IsToldOver model (model.parameters + length s.loops))
told_if_ok way model budget access s (Err e) loops places small among is = tt
told_if_ok way model budget access s (Ok from) loops places small among is =
    subst (λ (n : ℕ). IsToldOver model n from)
    (variables_are model s places among ∙ ap (λ (d : ℕ). model.parameters + d) (sym (loops s among)))
    (source_told way model budget s.number access from loops small is)

-- ---- reads

-- a read's statement is one of the model, with a dimension for each loop
abbrev IsRead : KernelModel → ℕ → Type 0
IsRead model number =
    (s : Modelled) × (slice_get model.statements number ≡ Some s) × (length s.loops ≡ s.domain.dimensions)

abbrev AreReads : KernelModel → List (ℕ × ℕ) → Type 0
AreReads model [] = ⊤
AreReads model (r ∷ rs) = IsRead model r.0 × AreReads model rs

reads-append : (model : KernelModel) (rs qs : List (ℕ × ℕ)) → AreReads model rs → AreReads model qs
    → AreReads model (rs ++ qs)
reads-append model [] qs h k = k
reads-append model (r ∷ rs) qs h k = (h.0, reads-append model rs qs h.1 k)

reads_there : (model : KernelModel) (number k n : ℕ) → IsRead model number → AreReads model (reads_from number k n)
reads_there model number k zero h = tt
reads_there model number k (suc n) h = (h, reads_there model number (k + 1) n h)

statements_there : (model : KernelModel) (ss : List Modelled) → ((s : Modelled) → In s ss → IsRead model s.number)
    → AreReads model (reads_in ss)
statements_there model [] each = tt
statements_there model (s ∷ ss) each =
    reads-append model (reads_of_statement s) (reads_in ss)
    (reads_there model s.number 1 (length s.accesses - 1) (each s (inl refl)))
    (statements_there model ss (λ t i. each t (inr i)))

-- all reads of a model
pub all_there : (model : KernelModel)
    → ((k : ℕ) (t : Modelled) → slice_get model.statements k ≡ Some t → t.number ≡ k)
    → HaveLoops model → AreReads model (reads_of model)
all_there model places loops =
    statements_there model model.statements (λ s i. let p = place_of model.statements s i in
    let here : slice_get model.statements s.number ≡ Some s =
    subst (λ (k : ℕ). slice_get model.statements k ≡ Some s) (sym (places p.0 s p.1)) p.1 in
    (s, here, loops s i))

-- a source at its read
source_at_read : (model : KernelModel) (number : ℕ) (from : ReadSource) → IsRead model number
    → IsToldOver model (read_variables model number) from
    → IsToldAt model (slice_get model.statements number) from
source_at_read model number from there told =
    let s = there.0 in
    let over : IsToldOver model (model.parameters + s.domain.dimensions) from =
    subst (λ (o : Option Modelled). IsToldOver model (model.parameters + turns_in o) from) there.1 told in
    subst (λ (o : Option Modelled). IsToldAt model o from) (sym there.1)
    (subst (λ (d : ℕ). IsToldOver model (model.parameters + d) from) (sym there.2) over)

-- sources of a model's reads are told
pub sources_told : (way : Way) (model : KernelModel) (budget : ℕ) (reads : List (ℕ × ℕ)) (sources : List ReadSource)
    → HaveLoops model → budget < 2 ^ 64 → AreReads model reads → AreSources way model budget reads sources
    → AreTold model reads sources
sources_told way model budget [] [] loops small there are = tt
sources_told way model budget [] (s ∷ ss) loops small there are = absurd are
sources_told way model budget (r ∷ rs) [] loops small there are = absurd are
sources_told way model budget (r ∷ rs) (s ∷ ss) loops small there are = (
  source_at_read model r.0 s there.0
      (source_told way model budget r.0 r.1 s loops small are.0),
  sources_told way model budget rs ss loops small there.1 are.1,
)

-- a statement of a kernel has a dimension for each loop
pub loops_are : (program : Program) (model : KernelModel) → model ≡ model_of program
    → ((p : Placed) → In p (statements_of program) → length p.loops ≡ loops_in p.scopes)
    → HaveLoops model
loops_are program model is loops t among =
    let m = length program.parameters in
    let from = in_map_from (modelled m) t (statements_of program)
    (subst (λ (k : KernelModel). In t k.statements) is among) in
    subst (λ (s : Modelled). length s.loops ≡ s.domain.dimensions) (sym from.2) (loops from.0 from.1)
