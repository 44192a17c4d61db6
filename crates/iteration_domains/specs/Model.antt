-- The model of a kernel: of each statement its domain and its accesses, over the turns of the loops round it and the
-- parameters (Feautrier 1991).
use Rattle.std.specs.Prelude.{ℕ, List, length, map}
use Rattle.whole_numbers.specs.Affine.{Affine, composed}
use Rattle.integer_sets.specs.Constraints.{Constraints}
use Rattle.scop_syntax.specs.Tree.{Access, Program}
use Rattle.scop_syntax.specs.Cells.{accesses}
use Rattle.scop_syntax.specs.Statements.{loops_in, Placed, statements_of}
use Rattle.iteration_domains.specs.Rows.{variables_of_statement, rows_of, point_forms}
use Rattle.iteration_domains.specs.Constraints.{constraints_of}

-- a statement: its number in textual order from 0, the loops round it, each by the number of its first statement, its
-- domain, and its accesses by number. Its number and its loops are its place in the text.
pub record Modelled : Type 0 where
  pub number : ℕ
  pub loops : List ℕ
  pub domain : Constraints
  pub accesses : List Access

-- the modelled statement of these parts
abbrev pub statement_model : ℕ → List ℕ → Constraints → List Access → Modelled
statement_model number loops domain accesses =
    record { number = number; loops = loops; domain = domain; accesses = accesses }

-- a kernel: the number of its parameters, and its statements in textual order
pub record KernelModel : Type 0 where
  pub parameters : ℕ
  pub statements : List Modelled

-- an access of the source over n variables, where its point has the given forms
abbrev pub composed_access : ℕ → List Affine → Access → Access
composed_access n forms f =
    record { array = f.array; subscripts = map (λ form. composed form forms n) f.subscripts }

-- an access of a statement over its turns and m parameters
abbrev pub access_over : ℕ → Placed → Access → Access
access_over m p f = composed_access (variables_of_statement m p) (point_forms m p) f

-- a statement's domain with m parameters
abbrev pub domain_of : ℕ → Placed → Constraints
domain_of m p = constraints_of (loops_in p.scopes) m (rows_of m p)

-- the model of a statement, with m parameters
abbrev pub modelled : ℕ → Placed → Modelled
modelled m p = statement_model p.number p.loops (domain_of m p) (map (access_over m p) (accesses p.body))

-- the model of these parts
abbrev pub kernel_model : ℕ → List Modelled → KernelModel
kernel_model parameters statements = record { parameters = parameters; statements = statements }

-- the model of a program
abbrev pub model_of : Program → KernelModel
model_of program =
    kernel_model (length program.parameters)
    (map (modelled (length program.parameters)) (statements_of program))
