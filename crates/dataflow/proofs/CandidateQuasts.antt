-- A candidate's quast, or its stop, from those of its problem.
use Rattle.dataflow.proofs.Common.{◌≡◌, ℕ, ◌+◌, List, [], ◌∷◌, Option, Some, None, Ok, Err, sym, ap, ap₂, subst, ◌∙◌}
use Rattle.dataflow.proofs.Common.{All, slice_get, Affine, All-nil, All-cons, problem_of, Counted, source_of, Tree}
use Rattle.dataflow.proofs.Common.{Postfix, tree_of, leaf_limit, LeavesWithin, Modelled, KernelModel, Dependence}
use Rattle.dataflow.proofs.Common.{IsPosed, posed_rows, posed_context, writer_end, reader_end, fitting, sourced}
use Rattle.dataflow.proofs.Common.{turned_back, turned_tree, solve_between, turns_in}
use Rattle.affine_forms.specs.Parts.{variables_of}
use Rattle.tableau_rows.specs.Problem.{Speaks as RowsSpeak}
use Rattle.pip_solver.specs.Problem.{Problem}
use Rattle.pip_solver.specs.Nodes.{lexmin_run}
use Rattle.pip_solver.specs.Solving.{solved, Stops}
use Rattle.quast_trees.specs.Tree.{named}
use Rattle.quast_joins.specs.declared.way.Way.{Way}
use Rattle.dataflow.specs.Posed.{IsPosedOf}
use Rattle.dataflow.specs.steps.Steps.{Solves, IsToldAs}
use Rattle.dataflow.specs.WriterRuns.{posed_run, solve_run}
use Rattle.dataflow.proofs.Fits.{fitting_is, named_within}
use Rattle.dataflow.proofs.ResolvedWriters.{posed-speaks, context-speaks}
use Rattle.tableau_rows.specs.Run as run
use Rattle.pip_solver.specs.declared.stop.Stop.TheVariants as solver
use Rattle.dataflow.specs.WriterRuns as writer

-- rows over n variables
pub all_speak : (n : ℕ) (fs : List Affine) → RowsSpeak n fs → All (λ f. variables_of f ≡ n) fs
all_speak n [] h = All-nil (λ f. variables_of f ≡ n)
all_speak n (f ∷ fs) h = All-cons (λ f. variables_of f ≡ n) f fs h.0 (all_speak n fs h.1)

-- a posed problem's rows and context
pub posed_over : (way : Way) (m : ℕ) (s t : Modelled) (dep : Dependence) (problem : Problem)
    → IsPosed way m s t dep problem
    → All (λ f. variables_of f ≡ problem.unknowns + problem.parameters) problem.rows.items
    × All (λ f. variables_of f ≡ problem.parameters) problem.context.items
posed_over way m s t dep problem is = (
  subst (λ (fs : List Affine). All (λ f. variables_of f ≡ problem.unknowns + problem.parameters) fs) (sym is.rows)
      (subst (λ (n : ℕ). All (λ f. variables_of f ≡ n) (posed_rows way s t m dep))
      (sym (ap₂ (λ (a b : ℕ). a + b) is.unknowns is.parameters))
      (all_speak (s.domain.dimensions + (m + t.domain.dimensions)) (posed_rows way s t m dep)
      (posed-speaks way s t m dep))),
  subst (λ (fs : List Affine). All (λ f. variables_of f ≡ problem.parameters) fs) (sym is.context)
      (subst (λ (n : ℕ). All (λ f. variables_of f ≡ n) (posed_context t m)) (sym is.parameters)
      (all_speak (m + t.domain.dimensions) (posed_context t m) (context-speaks t m))),
)

-- a candidate's writer s and reader t, and its problem
pub record IsBetween (way : Way) (model : KernelModel) (dep : Dependence) (s t : Modelled) (problem : Problem)
    : Type 0 where
  pub writes : slice_get model.statements (writer_end way dep).statement ≡ Some s
  pub reads : slice_get model.statements (reader_end way dep).statement ≡ Some t
  pub posed : IsPosed way model.parameters s t dep problem

posed_of : (way : Way) (model : KernelModel) (dep : Dependence) (s t : Modelled) (problem : Problem)
    → IsBetween way model dep s t problem → IsPosedOf way model dep problem
posed_of way model dep s t problem is =
    record { writer = s; reader = t; writes = is.writes; reads = is.reads; posed = is.posed }

-- the problem's run
run_is : (way : Way) (m budget : ℕ) (s t : Modelled) (dep : Dependence) (problem : Problem)
    → IsPosed way m s t dep problem → solved budget problem ≡ posed_run way m budget dep s t
run_is way m budget s t dep problem is =
    ap (λ (d : ℕ). lexmin_run budget problem.parameters (problem_of d problem.rows.items) problem.context.items)
    is.unknowns
    ∙ (ap (λ (n : ℕ). lexmin_run budget n (problem_of s.domain.dimensions problem.rows.items) problem.context.items)
    is.parameters
    ∙ ap₂ (λ (rows context : List Affine). lexmin_run budget (m + t.domain.dimensions)
    (problem_of s.domain.dimensions rows) context) is.rows is.context)

-- and the candidate's
between_is : (way : Way) (model : KernelModel) (budget : ℕ) (dep : Dependence) (s t : Modelled) (problem : Problem)
    (r : Counted Tree) → IsBetween way model dep s t problem → solved budget problem ≡ r
    → solve_run way model budget dep ≡ turned_tree way dep s.domain.dimensions s.loops r
unfolding solve_run
between_is way model budget dep s t problem r is e =
    ap₂ (solve_between way model.parameters budget dep) is.writes is.reads
    ∙ ap (turned_tree way dep s.domain.dimensions s.loops)
    (sym (run_is way model.parameters budget s t dep problem is.posed) ∙ e)

-- its stop is told
pub stop_told : (way : Way) (model : KernelModel) (budget : ℕ) (dep : Dependence) (s t : Modelled) (problem : Problem)
    (stop : solver.the_data) → IsBetween way model dep s t problem → Stops stop budget problem
    → Solves way model budget dep (Err stop)
stop_told way model budget dep s t problem (solver.Wide told moves) is h = (
  writer.solver dep (run.wide h.0 h.1),
  between_is way model budget dep s t problem (Err (run.wide h.0 h.1)) is h.2,
  (h.3, subst (IsPosedOf way model dep) (sym h.4) (posed_of way model dep s t problem is)),
)
stop_told way model budget dep s t problem (solver.Spent told moves) is h = (
  writer.solver dep run.spent,
  between_is way model budget dep s t problem (Err run.spent) is h.0,
  (h.1, subst (IsPosedOf way model dep) (sym h.2) (posed_of way model dep s t problem is)),
)
stop_told way model budget dep s t problem solver.NoMemory is h = tt

-- a leaf that is too wide
pub leaf_told : (way : Way) (model : KernelModel) (budget : ℕ) (dep : Dependence) (s t : Modelled) (problem : Problem)
    (least : Tree) (left : ℕ) (stop : solver.the_data) → IsBetween way model dep s t problem
    → solved budget problem ≡ Ok (least, left) → fitting (turned_back way s.domain.dimensions least) ≡ None
    → IsToldAs way model budget stop (writer.wide_leaf dep) → Solves way model budget dep (Err stop)
leaf_told way model budget dep s t problem least left (solver.Wide told moves) is e wide tells = (
  writer.wide_leaf dep,
  between_is way model budget dep s t problem (Ok (least, left)) is e
      ∙ ap (sourced way dep s.loops) wide,
  tells,
)
leaf_told way model budget dep s t problem least left (solver.Spent told moves) is e wide tells = (
  writer.wide_leaf dep,
  between_is way model budget dep s t problem (Ok (least, left)) is e
      ∙ ap (sourced way dep s.loops) wide,
  tells,
)
leaf_told way model budget dep s t problem least left solver.NoMemory is e wide tells = tt

-- a quast with its source
pub found_told : (way : Way) (model : KernelModel) (budget : ℕ) (dep : Dependence) (s t : Modelled) (problem : Problem)
    (least : Tree) (left : ℕ) (wanted quast : Postfix) → IsBetween way model dep s t problem
    → solved budget problem ≡ Ok (least, left)
    → fitting (turned_back way s.domain.dimensions least) ≡ Some (tree_of wanted)
    → tree_of quast ≡ named (source_of (writer_end way dep).statement s.loops) (tree_of wanted)
    → quast.parameters ≡ problem.parameters → Solves way model budget dep (Ok quast)
found_told way model budget dep s t problem least left wanted quast is e fits name over =
    let f = fitting_is (turned_back way s.domain.dimensions least) (tree_of wanted) fits in
    let source = source_of (writer_end way dep).statement s.loops in (
      between_is way model budget dep s t problem (Ok (least, left)) is e
          ∙ (ap (sourced way dep s.loops) fits ∙ ap Ok (sym name)),
      record {
        parameters = over ∙ (is.posed.parameters
            ∙ ap (λ (o : Option Modelled). model.parameters + turns_in o) (sym is.reads));
        leaves = subst (λ (z : Tree). LeavesWithin leaf_limit z) (sym name)
            (named_within leaf_limit source (tree_of wanted) f.1);
      },
    )
