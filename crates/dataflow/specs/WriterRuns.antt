-- The run that finds an access's last or next writers: its candidates' problems solved and joined one after the other.
use Rattle.std.specs.Prelude.{ℕ, ◌+◌, Bool, true, false, ℤ, neg_ℤ, List, [], ◌∷◌, nat_eq, if◌then◌else◌, Option, Some}
use Rattle.std.specs.Prelude.{None, Result, Ok, Err, slice_get}
use Rattle.std.specs.Int.Signed.{le_z}
use Rattle.whole_numbers.specs.Affine.{Affine}
use Rattle.wide_math.specs.declared.Wide.{Wide}
use Rattle.tableau_rows.specs.Problem.{problem_of}
use Rattle.tableau_rows.specs.Run.{Stop}
use Rattle.pip_solver.specs.Nodes.{Counted, lexmin_run}
use Rattle.quast_trees.specs.Source.{source_of}
use Rattle.quast_trees.specs.Tree.{Tree, initial, leaf, branch, bind, named}
use Rattle.quast_trees.specs.Mapped.{map_run}
use Rattle.quast_joins.specs.Limits.{leaf_limit}
use Rattle.quast_joins.specs.declared.way.Way.{Way}
use Rattle.quast_joins.specs.declared.way.Way.TheVariants.{Later, Earlier}
use Rattle.iteration_domains.specs.Model.{Modelled, KernelModel}
use Rattle.iteration_domains.specs.Dependence.{Dependence}
use Rattle.conflict_deps.specs.Conflicts.{conflicts_of}
use Rattle.dataflow.specs.Problems.{top, all_below, posed_rows, posed_context}
use Rattle.dataflow.specs.Runs.{Halt, sources_run}
use Rattle.dataflow.specs.Sources.{writer_end, reader_end}

-- why a candidate is not solved: its problem's run stops so, or a number of a leaf's forms is beyond 2^125, which is
-- told as too wide with 0 moves
pub data Stopped : Type 0 where
  solver : Dependence → Stop → Stopped
  wide_leaf : Dependence → Stopped

-- whether a number is at most the bound in absolute value
abbrev pub number_fits : ℤ → ℤ → Bool
number_fits most z = if le_z (neg_ℤ most) z then le_z z most else false

-- whether each number is
abbrev pub numbers_fit : ℤ → List ℤ → Bool
numbers_fit most [] = true
numbers_fit most (z ∷ zs) = if number_fits most z then numbers_fit most zs else false

-- whether each number of a form is
abbrev pub form_fits : ℤ → Affine → Bool
form_fits most f = if numbers_fit most f.coefficients then number_fits most f.constant else false

-- whether each number of some forms is
abbrev pub forms_fit : ℤ → List Affine → Bool
forms_fit most [] = true
forms_fit most (f ∷ fs) = if form_fits most f then forms_fit most fs else false

-- whether each number of the leaves' forms is
abbrev pub leaves_fit : ℤ → Tree → Bool
leaves_fit most initial = true
leaves_fit most (leaf l) = forms_fit most l.forms
leaves_fit most (branch f x y) = if leaves_fit most x then leaves_fit most y else false
leaves_fit most (bind f d x) = leaves_fit most x

-- a tree, if its leaves are not too wide
abbrev pub fitting : Result Tree Wide → Option Tree
fitting (Err w) = None
fitting (Ok t) = if leaves_fit leaf_limit t then Some t else None

-- with its source
abbrev pub sourced : Way → Dependence → List ℕ → Option Tree → Result Tree Stopped
sourced way dep loops None = Err (wide_leaf dep)
sourced way dep loops (Some t) = Ok (named (source_of (writer_end way dep).statement loops) t)

-- the writer's d turns in place of the minimum: for a last writer 2^46 less each
abbrev pub turned_back : Way → ℕ → Tree → Result Tree Wide
turned_back Later d least = map_run (all_below top d 0 d) least
turned_back Earlier d least = Ok least

-- the minimum so turned back
abbrev pub turned_tree : Way → Dependence → ℕ → List ℕ → Counted Tree → Result Tree Stopped
turned_tree way dep d loops (Err stop) = Err (solver dep stop)
turned_tree way dep d loops (Ok least) = sourced way dep loops (fitting (turned_back way d least.0))

-- the run of a candidate's problem between the writer s and the reader t of a model with m parameters
abbrev pub posed_run : Way → ℕ → ℕ → Dependence → Modelled → Modelled → Counted Tree
posed_run way m budget dep s t =
    lexmin_run budget (m + t.domain.dimensions) (problem_of s.domain.dimensions (posed_rows way s t m dep))
    (posed_context t m)

-- a candidate between the writer and the reader of such a model
abbrev pub solve_between : Way → ℕ → ℕ → Dependence → Option Modelled → Option Modelled → Result Tree Stopped
solve_between way m budget dep (Some s) (Some t) =
    turned_tree way dep s.domain.dimensions s.loops (posed_run way m budget dep s t)
solve_between way m budget dep (Some s) None = Ok initial
solve_between way m budget dep None t = Ok initial

-- a candidate of a model
unfoldable pub solve_run : Way → KernelModel → ℕ → Dependence → Result Tree Stopped
solve_run way model budget dep =
    solve_between way model.parameters budget dep (slice_get model.statements (writer_end way dep).statement)
    (slice_get model.statements (reader_end way dep).statement)

-- whether a dependence is one between a write and an access, the write before it or behind it
abbrev pub is_candidate : Way → ℕ → ℕ → Dependence → Bool
is_candidate way statement access dep =
    if nat_eq (reader_end way dep).statement statement
    then (if nat_eq (reader_end way dep).access access then nat_eq (writer_end way dep).access 0 else false)
    else false

-- the dependences that pass a test, in their order
abbrev pub chosen_deps : (Dependence → Bool) → List Dependence → List Dependence
chosen_deps test [] = []
chosen_deps test (d ∷ ds) = if test d then d ∷ chosen_deps test ds else chosen_deps test ds

-- the candidates of an access, by the writing statement, then by depth
abbrev pub candidates_of : Way → KernelModel → ℕ → ℕ → List Dependence
candidates_of way model statement access = chosen_deps (is_candidate way statement access) (conflicts_of model)

-- how many turns the statement of a number has
abbrev pub turns_in : Option Modelled → ℕ
turns_in None = 0
turns_in (Some s) = s.domain.dimensions

-- how many variables an access's quast speaks of: the kernel's parameters, and then the reader's turns
abbrev pub read_variables : KernelModel → ℕ → ℕ
read_variables model statement = model.parameters + turns_in (slice_get model.statements statement)

-- the quast of an access of a statement, or the first stop that is met
abbrev pub writers_run : Way → KernelModel → ℕ → ℕ → ℕ → Result Tree (Halt Stopped)
writers_run way model budget statement access =
    sources_run way (read_variables model statement) (solve_run way model budget) initial
    (candidates_of way model statement access)
