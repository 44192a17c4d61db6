-- What the code's values stand for while it goes down a tree.
use Rattle.whole_numbers.specs.Affine.{Affine}
use Rattle.std.specs.Prelude.{◌≡◌, ℕ, ◌+◌, ◌≤◌, List, map, length, ◌++◌, All}
use Rattle.scop_syntax.specs.Tree.{Access, Statement, Trees}
use Rattle.scop_syntax.specs.Kernel.{AreScopes, AreTrees}
use Rattle.scop_syntax.specs.Statements.{Scope, round, under, loops_in, Placed}
use Rattle.scop_syntax.specs.View.{test_of}
use Rattle.iteration_domains.specs.Standing.{Standing, standing, Gathered}
use Rattle.iteration_domains.specs.Model.{Modelled, modelled}
use Rattle.iteration_domains.specs.Sizes.{CanCompose}
use Rattle.iteration_domains.specs.declared.items.Path.{Path as CodePath}
use Rattle.iteration_domains.specs.declared.rows.Scope.{Scope as CodeScope}
use Rattle.iteration_domains.specs.declared.rows.Scope.TheVariants.{Round, Under}
use Rattle.iteration_domains.specs.declared.rows.StatementRows.{StatementRows}

-- the loop or the guard that a value of the code stands for
abbrev pub scope_of : CodeScope → Scope
scope_of (Round head) = round head.now
scope_of (Under guard) = under (map test_of guard.now.tests.items)

-- those that a list of the code's stands for, outermost first
abbrev pub scopes_of : List CodeScope → List Scope
scopes_of scopes = map scope_of scopes

-- the rows so far, as they stand among their variables and loops
abbrev pub shown : StatementRows → Standing
shown s = standing s.variables s.loops s.forms.items s.equalities.items s.rows.items

-- the rows so far alone
abbrev pub gathered_of : StatementRows → Gathered
gathered_of s = record { forms = s.forms.items; equalities = s.equalities.items; rows = s.rows.items }

-- a place in a tree: the number of parameters, and what stands round it, outermost first, with the loops among that
pub record Path : Type 0 where
  pub parameters : ℕ
  pub scopes : List Scope
  pub loops : List ℕ

-- the place of these parts
abbrev pub path_at : ℕ → List Scope → List ℕ → Path
path_at parameters scopes loops = record { parameters = parameters; scopes = scopes; loops = loops }

-- the place that a value of the code stands for
abbrev pub path_of : CodePath → Path
path_of p = path_at p.parameters (scopes_of p.scopes.items) p.loops.items

-- a statement of a tree that stands there, as one of the whole
abbrev pub placed_in : Path → Placed → Placed
placed_in path p =
    record {
      number = p.number;
      loops = path.loops ++ p.loops;
      scopes = path.scopes ++ p.scopes;
      body = p.body;
    }

-- its model
abbrev pub modelled_in : Path → Placed → Modelled
modelled_in path p = modelled path.parameters (placed_in path p)

-- a statement that stands there
abbrev pub placed_at : Path → ℕ → Statement → Placed
placed_at path number body = record { number = number; loops = path.loops; scopes = path.scopes; body = body }

-- trees of a kernel that stand there
pub record CanModel (path : Path) (body : Trees) : Type 0 where
  pub ranks : List ℕ
  pub room : ℕ
  pub comparisons : ℕ
  pub parameters : path.parameters ≤ 4
  pub scopes : AreScopes path.parameters path.scopes
  pub loops : length path.loops ≡ loops_in path.scopes
  pub few : loops_in path.scopes + room ≤ 5
  pub trees : AreTrees ranks (path.parameters + loops_in path.scopes) room comparisons body

-- each subscript can be composed with forms over n variables
pub record CanAccess (n : ℕ) (forms : List Affine) (access : Access) : Type 0 where
  pub subscripts : All (CanCompose n forms) access.subscripts
