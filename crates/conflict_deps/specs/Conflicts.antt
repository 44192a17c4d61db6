-- The systems whose whole points are the pairs of conflicting instances (Feautrier 1991).
use Rattle.std.specs.Prelude.{ℕ, zero, suc, ◌+◌, Bool, true, false, nat_eq, nat_lt, ℤ, pos, negsuc, List, [], ◌∷◌, ◌++◌}
use Rattle.std.specs.Prelude.{map, if◌then◌else◌}
use Rattle.std.specs.List.{flat_map}
use Rattle.whole_numbers.specs.Lists.{zeros}
use Rattle.whole_numbers.specs.Affine.{Affine, form_of, sum_of_forms, multiple_of_form}
use Rattle.integer_sets.specs.Constraints.{Constraints}
use Rattle.scop_syntax.specs.Tree.{Access, Test, at_least, equal}
use Rattle.scop_syntax.specs.Order.{common}
use Rattle.scop_syntax.specs.Reductions.{is_marked}
use Rattle.iteration_domains.specs.Rows.{variable, variables}
use Rattle.iteration_domains.specs.Constraints.{constraints_of, tests_of}
use Rattle.iteration_domains.specs.Model.{Modelled, KernelModel}
use Rattle.iteration_domains.specs.Dependence.{Dependence, dependence}
use Rattle.iteration_domains.specs.declared.dep.DepEnd.{DepEnd}

-- f - g
abbrev pub difference_of_forms : Affine → Affine → Affine
difference_of_forms f g = sum_of_forms f (multiple_of_form (negsuc 0) g)

-- an access of a statement with its number
pub record Side : Type 0 where
  pub statement : Modelled
  pub number : ℕ
  pub access : Access

-- the access of these parts
abbrev pub side : Modelled → ℕ → Access → Side
side s k a = record { statement = s; number = k; access = a }

-- how many turns an instance has
abbrev pub loops_of : Side → ℕ
loops_of s = s.statement.domain.dimensions

-- the accesses of a statement, numbered from k on
abbrev pub sides_from : Modelled → ℕ → List Access → List Side
sides_from s k [] = []
sides_from s k (a ∷ rest) = side s k a ∷ sides_from s (k + 1) rest

-- the accesses of a statement, numbered from 0 on
abbrev pub sides_of : Modelled → List Side
sides_of s = sides_from s 0 s.accesses

-- the accesses of all statements, in textual order
abbrev pub sides_in : KernelModel → List Side
sides_in model = flat_map sides_of model.statements

-- the coefficients of the source's d turns, then a zero for each of the target's e, then those of the parameters
abbrev pub spread : ℕ → ℕ → List ℤ → List ℤ
spread e zero cs = zeros e ++ cs
spread e (suc d) [] = []
spread e (suc d) (c ∷ cs) = c ∷ spread e d cs

-- a form of the source over the variables of a pair: the source's turns, the target's, the parameters
abbrev pub source_form : ℕ → ℕ → Affine → Affine
source_form d e f = form_of (spread e d f.coefficients) f.constant

-- a form of the target over them
abbrev pub target_form : ℕ → Affine → Affine
target_form d f = form_of (zeros d ++ f.coefficients) f.constant

-- a comparison with its form mapped
abbrev pub map_test : (Affine → Affine) → Test → Test
map_test h (at_least f) = at_least (h f)
map_test h (equal f) = equal (h f)

-- equal subscripts: source's minus target's
abbrev pub same_subscripts : ℕ → ℕ → List Affine → List Affine → List Test
same_subscripts d e [] gs = []
same_subscripts d e (f ∷ fs) [] = []
same_subscripts d e (f ∷ fs) (g ∷ gs) =
    equal (difference_of_forms (source_form d e f) (target_form d g)) ∷ same_subscripts d e fs gs

-- target's turn minus source's, of n variables, for a loop that both have
abbrev pub step : ℕ → ℕ → ℕ → Affine
step n d k = difference_of_forms (variable n (d + k)) (variable n k)

-- the turns of the outermost k loops are equal
abbrev pub equal_turns : ℕ → ℕ → ℕ → List Test
equal_turns n d zero = []
equal_turns n d (suc k) = equal_turns n d k ++ equal (step n d k) ∷ []

-- the form 1
abbrev pub one_form : ℕ → Affine
one_form n = form_of (zeros n) (pos 1)

-- the target's turn of the loop behind them is later: target's minus source's minus 1
abbrev pub later_turn : ℕ → ℕ → ℕ → Test
later_turn n d k = at_least (difference_of_forms (step n d k) (one_form n))

-- how the target comes after the source: the depth, counted from 1, and the rows that say so
pub record After : Type 0 where
  pub depth : ℕ
  pub rows : List Test

-- the order of these parts
abbrev pub after : ℕ → List Test → After
after depth rows = record { depth = depth; rows = rows }

-- from loop k on, of which c are common: a later turn there, or equal turns and what comes then; with no common loop
-- left the text decides
abbrev pub afters : ℕ → ℕ → ℕ → ℕ → Bool → List After
afters n d k zero earlier = if earlier then after (k + 1) (equal_turns n d k) ∷ [] else []
afters n d k (suc c) earlier =
    after (k + 1) (equal_turns n d k ++ later_turn n d k ∷ []) ∷ afters n d (k + 1) c earlier

-- the variables of a pair, with m parameters
abbrev pub pair_size : ℕ → Side → Side → ℕ
pair_size m s t = loops_of s + loops_of t + m

-- the domain of the source over the variables of the pair
abbrev pub source_rows : Side → Side → List Test
source_rows s t = map (map_test (source_form (loops_of s) (loops_of t))) (tests_of s.statement.domain)

-- the domain of the target over them
abbrev pub target_rows : Side → Side → List Test
target_rows s t = map (map_test (target_form (loops_of s))) (tests_of t.statement.domain)

-- the two accesses touch one cell: equal subscripts
abbrev pub cell_rows : Side → Side → List Test
cell_rows s t = same_subscripts (loops_of s) (loops_of t) s.access.subscripts t.access.subscripts

-- no parameter is negative
abbrev pub parameter_rows : ℕ → Side → Side → List Test
parameter_rows m s t = map at_least (variables (pair_size m s t) (loops_of s + loops_of t) m)

-- both domains, equal subscripts, the order, no parameter negative
abbrev pub tests_between : ℕ → Side → Side → After → List Test
tests_between m s t a = source_rows s t ++ (target_rows s t ++ (cell_rows s t ++ (a.rows ++ parameter_rows m s t)))

-- these as a system over the turns of both and the parameters
abbrev pub system_between : ℕ → Side → Side → After → Constraints
system_between m s t a = constraints_of (loops_of s + loops_of t) m (tests_between m s t a)

-- an access as an end of a dependence
abbrev pub end_of : Side → DepEnd
end_of s = record { statement = s.statement.number; loops = loops_of s; access = s.number }

-- the dependence of t on s in one order
abbrev pub dep_of : ℕ → Side → Side → After → Dependence
dep_of m s t a = dependence (end_of s) (end_of t) a.depth (system_between m s t a)

-- the orders in which an instance of t may come after one of s
abbrev pub afters_of : ℕ → Side → Side → List After
afters_of m s t =
    afters (pair_size m s t) (loops_of s) 0 (common s.statement.loops t.statement.loops)
    (nat_lt s.statement.number t.statement.number)

-- one array, and one of the two accesses writes
abbrev pub may_conflict : Side → Side → Bool
may_conflict s t =
    if nat_eq s.access.array t.access.array then (if nat_eq s.number 0 then true else nat_eq t.number 0) else false

-- the dependences of t on s, by depth
abbrev pub deps_between : ℕ → Side → Side → List Dependence
deps_between m s t = if may_conflict s t then map (dep_of m s t) (afters_of m s t) else []

-- those on an access of the model, but on one to a marked array none
abbrev pub deps_on : List ℕ → KernelModel → Side → List Dependence
deps_on marked model s =
    if is_marked marked s.access.array then [] else flat_map (deps_between model.parameters s) (sides_in model)

-- all but those on marked arrays, by source statement, its access, target statement, its access and depth
abbrev pub conflicts_without : List ℕ → KernelModel → List Dependence
conflicts_without marked model = flat_map (deps_on marked model) (sides_in model)

-- all of them
abbrev pub conflicts_of : KernelModel → List Dependence
conflicts_of model = conflicts_without [] model
