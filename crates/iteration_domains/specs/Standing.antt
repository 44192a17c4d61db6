-- The rows of a statement as they stand when some of what stands round it has been gone through.
use Rattle.std.specs.Prelude.{◌≡◌, ℕ, ◌+◌, ◌^◌, ◌≤◌, List, [], ◌++◌, All, length, map, ◌∷◌}
use Rattle.whole_numbers.specs.Affine.{Affine, composed}
use Rattle.integer_sets.specs.Parts.{variables_of}
use Rattle.scop_syntax.specs.Tree.{Test}
use Rattle.scop_syntax.specs.Kernel.{AreScopes}
use Rattle.scop_syntax.specs.Statements.{Scope, round, under, loops_in}
use Rattle.iteration_domains.specs.Rows.{variable, variables, composed_test, within_loop, rows_from, forms_from}
use Rattle.iteration_domains.specs.Constraints.{equalities_in, rows_in}
use Rattle.iteration_domains.specs.Sizes.{forms_size, grown}

-- over so many variables, within so many loops: the forms of the point, the equalities and the rows
pub record Standing : Type 0 where
  pub variables : ℕ
  pub loops : ℕ
  pub forms : List Affine
  pub equalities : List Affine
  pub rows : List Affine

-- the rows with these parts
abbrev pub standing : ℕ → ℕ → List Affine → List Affine → List Affine → Standing
standing variables loops forms equalities rows =
    record { variables = variables; loops = loops; forms = forms; equalities = equalities; rows = rows }

-- the forms of a statement's point, its equalities and its rows
pub record Gathered : Type 0 where
  pub forms : List Affine
  pub equalities : List Affine
  pub rows : List Affine

-- what is there when the rest has been gone through too
abbrev pub finished : Standing → List Scope → Gathered
finished s rest =
    record {
      forms = forms_from s.variables s.loops rest s.forms;
      equalities = s.equalities ++ equalities_in (rows_from s.variables s.loops rest s.forms);
      rows = s.rows ++ rows_in (rows_from s.variables s.loops rest s.forms);
    }

-- before anything has been gone through, of m parameters and so many loops
abbrev pub starting : ℕ → ℕ → Standing
starting m loops = standing (loops + m) 0 (variables (loops + m) loops m) [] []

-- with these comparisons behind
abbrev pub with_tests : Standing → List Test → Standing
with_tests s tests =
    standing s.variables s.loops s.forms (s.equalities ++ equalities_in tests) (s.rows ++ rows_in tests)

-- with one more loop or guard gone through
abbrev pub entered : Standing → Scope → Standing
entered s (under tests) = with_tests s (map (composed_test s.variables s.forms) tests)
entered s (round head) =
    standing s.variables (s.loops + 1) (within_loop s.variables s.loops head s.forms) s.equalities
    (s.rows ++ variable s.variables s.loops
    ∷ composed head.condition (within_loop s.variables s.loops head s.forms) s.variables ∷ [])

-- the rest can be gone through: it is that of a kernel, there are variables for its loops, and the numbers stay small
pub record CanEnter (s : Standing) (rest : List Scope) : Type 0 where
  pub sized : All (λ f. variables_of f ≡ s.variables) s.forms
  pub scopes : AreScopes (length s.forms) rest
  pub loops : s.loops + loops_in rest ≤ s.variables
  pub small : grown (loops_in rest) (forms_size s.forms) ≤ 2 ^ 40
