-- The constraints of a leaf: over the turns of both instances, what is bound on the way to the leaf, and the parameters.
use Rattle.std.specs.Prelude.{ℕ, suc, ◌+◌, ◌-◌, ℤ, pos, neg_ℤ, negsuc, ◌-ℤ◌, List, [], ◌∷◌, ◌++◌, length, take, drop}
use Rattle.whole_numbers.specs.Lists.{zeros}
use Rattle.whole_numbers.specs.Affine.{Affine, form_of, sum_of_forms, multiple_of_form, complement}
use Rattle.iteration_domains.specs.Rows.{variable}
use Rattle.quast_trees.specs.Paths.{Turn, up, down, bound}
use Rattle.dataflow.specs.declared.leaf_rows.Layout.{Layout}

-- how many variables stand before the reader's turns, how many turns it has, how many stand behind them, how many are
-- bound on the way, and how many parameters there are; of those before and behind one are the writer's turns
abbrev pub layout_of : ℕ → ℕ → ℕ → ℕ → ℕ → Layout
layout_of before turns behind binds parameters =
    record { before = before; turns = turns; behind = behind; binds = binds; parameters = parameters }

-- how many variables there are
abbrev pub width : Layout → ℕ
width l = l.before + (l.turns + (l.behind + (l.binds + l.parameters)))

-- the variable that is bound k-th, from 0
abbrev pub bound_form : Layout → ℕ → Affine
bound_form l k = variable (width l) (l.before + (l.turns + (l.behind + k)))

-- the numbers of the parameters, the reader's turns and what is bound so far, each at its variable, and 0 elsewhere
abbrev pub placed_numbers : Layout → List ℤ → List ℤ
placed_numbers l cs =
    zeros l.before
    ++ (take l.turns (drop l.parameters cs)
    ++ (zeros l.behind
    ++ (drop (l.parameters + l.turns) cs
    ++ (zeros (l.binds - length (drop (l.parameters + l.turns) cs)) ++ take l.parameters cs))))

-- a form of the quast over all variables
abbrev pub placed : Layout → Affine → Affine
placed l f = form_of (placed_numbers l f.coefficients) f.constant

-- f - d q, where q is bound k-th
abbrev pub bind_begins : Layout → ℕ → Affine → ℤ → Affine
bind_begins l k f d = sum_of_forms (placed l f) (multiple_of_form (neg_ℤ d) (bound_form l k))

-- d q + d - 1 - f: both are not negative just where q is the quotient of f by d, rounded down
abbrev pub bind_ends : Layout → ℕ → Affine → ℤ → Affine
bind_ends l k f d =
    sum_of_forms (form_of (multiple_of_form d (bound_form l k)).coefficients (d -ℤ pos 1))
    (multiple_of_form (negsuc 0) (placed l f))

-- the rows of what is passed, where k are bound before
abbrev pub path_rows : Layout → ℕ → List Turn → List Affine
path_rows l k [] = []
path_rows l k (up f ∷ ts) = placed l f ∷ path_rows l k ts
path_rows l k (down f ∷ ts) = complement (placed l f) ∷ path_rows l k ts
path_rows l k (bound f d ∷ ts) = bind_begins l k f d ∷ bind_ends l k f d ∷ path_rows l (suc k) ts

-- a turn of the writer, the variable j, is a form: turn - form
abbrev pub turn_equality : Layout → ℕ → Affine → Affine
turn_equality l j f = sum_of_forms (variable (width l) j) (multiple_of_form (negsuc 0) (placed l f))

-- its turns, from the variable j on, are the forms
abbrev pub turn_equalities : Layout → ℕ → List Affine → List Affine
turn_equalities l j [] = []
turn_equalities l j (f ∷ fs) = turn_equality l j f ∷ turn_equalities l (suc j) fs
