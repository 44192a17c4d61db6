-- Rows over the turns of the loops round a statement and, behind them, the parameters (Feautrier 1991): the source's
-- iterators are forms of these, composed from loop to loop.
use Rattle.std.specs.Prelude.{ℕ, zero, suc, ◌+◌, pos, List, [], ◌∷◌, ◌++◌, map, set}
use Rattle.whole_numbers.specs.Lists.{zeros}
use Rattle.whole_numbers.specs.Affine.{Affine, form_of, sum_of_forms, multiple_of_form, composed}
use Rattle.scop_syntax.specs.Tree.{Test, at_least, equal, Head}
use Rattle.scop_syntax.specs.Statements.{Scope, round, under, Placed, loops_in}

-- the variable j of n, as a form
abbrev pub variable : ℕ → ℕ → Affine
variable n j = form_of (set (zeros n) j (pos 1)) (pos 0)

-- m variables from j on
abbrev pub variables : ℕ → ℕ → ℕ → List Affine
variables n j zero = []
variables n j (suc m) = variable n j ∷ variables n (j + 1) m

-- a comparison of the source over n variables, where its point has the given forms
abbrev pub composed_test : ℕ → List Affine → Test → Test
composed_test n forms (at_least f) = at_least (composed f forms n)
composed_test n forms (equal f) = equal (composed f forms n)

-- the iterator of a loop whose turn is the variable j: its first value and its stride times the turn
abbrev pub iterator : ℕ → ℕ → Head → List Affine → Affine
iterator n j head forms = sum_of_forms (composed head.first forms n) (multiple_of_form head.stride (variable n j))

-- the forms of the point within that loop
abbrev pub within_loop : ℕ → ℕ → Head → List Affine → List Affine
within_loop n j head forms = forms ++ iterator n j head forms ∷ []

-- the rows of what stands round a statement, from the outside: for a loop that its turn is not negative and that its
-- condition holds, for a guard its comparisons; j loops stand outside
abbrev pub rows_from : ℕ → ℕ → List Scope → List Affine → List Test
rows_from n j [] forms = []
rows_from n j (under tests ∷ scopes) forms = map (composed_test n forms) tests ++ rows_from n j scopes forms
rows_from n j (round head ∷ scopes) forms =
    at_least (variable n j) ∷ at_least (composed head.condition (within_loop n j head forms) n)
    ∷ rows_from n (j + 1) scopes (within_loop n j head forms)

-- the forms of the point at which the statement runs
abbrev pub forms_from : ℕ → ℕ → List Scope → List Affine → List Affine
forms_from n j [] forms = forms
forms_from n j (under tests ∷ scopes) forms = forms_from n j scopes forms
forms_from n j (round head ∷ scopes) forms = forms_from n (j + 1) scopes (within_loop n j head forms)

-- how many variables a statement has, with m parameters: the turns of its loops, then the parameters
abbrev pub variables_of_statement : ℕ → Placed → ℕ
variables_of_statement m p = loops_in p.scopes + m

-- the parameters as forms over a statement's variables
abbrev pub parameter_forms : ℕ → Placed → List Affine
parameter_forms m p = variables (variables_of_statement m p) (loops_in p.scopes) m

-- a statement's rows, with m parameters
abbrev pub rows_of : ℕ → Placed → List Test
rows_of m p = rows_from (variables_of_statement m p) 0 p.scopes (parameter_forms m p)

-- the forms of a statement's point, with m parameters
abbrev pub point_forms : ℕ → Placed → List Affine
point_forms m p = forms_from (variables_of_statement m p) 0 p.scopes (parameter_forms m p)
