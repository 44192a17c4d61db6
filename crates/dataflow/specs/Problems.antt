-- The problem whose minimum is the last or next writer of a candidate, at the kernel's parameters and then the reader's
-- turns: its unknowns are the writer's turns x, or x' with x = 2^46 - x' for a last writer, which is a maximum.
use Rattle.std.specs.Prelude.{ℕ, zero, suc, ◌+◌, ◌-◌, ◌^◌, ℤ, pos, negsuc, List, [], ◌∷◌, ◌++◌, map, take, drop, length}
use Rattle.std.specs.Prelude.{Some}
use Rattle.whole_numbers.specs.Affine.{Affine, form_of, composed, multiple_of_form}
use Rattle.quast_trees.specs.Source.{source_of}
use Rattle.quast_trees.specs.Leaf.{Leaf, initial, found}
use Rattle.quast_joins.specs.declared.way.Way.{Way}
use Rattle.quast_joins.specs.declared.way.Way.TheVariants.{Later, Earlier}
use Rattle.scop_syntax.specs.Limits.{most_parameter}
use Rattle.iteration_domains.specs.Rows.{variable, variables}
use Rattle.iteration_domains.specs.Model.{Modelled}
use Rattle.iteration_domains.specs.Dependence.{Dependence}
use Rattle.dataflow.specs.Flips.{flipped}

-- a number above all turns
abbrev pub top : ℤ
top = pos (2 ^ 46)

-- a number less the variable j of n
abbrev pub below : ℤ → ℕ → ℕ → Affine
below most n j = form_of (multiple_of_form (negsuc 0) (variable n j)).coefficients most

-- the same of m variables from j on
abbrev pub all_below : ℤ → ℕ → ℕ → ℕ → List Affine
all_below most n j zero = []
all_below most n j (suc m) = below most n j ∷ all_below most n (j + 1) m

-- what stands for the variables of a conflict's system among the unknowns (d, the writer's turns), the m parameters and
-- the reader's e turns: the source's turns, the target's, the parameters
abbrev pub moved_pair : Way → ℕ → ℕ → ℕ → List Affine
moved_pair Later d m e =
    all_below top (d + (m + e)) 0 d ++ (variables (d + (m + e)) (d + m) e ++ variables (d + (m + e)) d m)
moved_pair Earlier d m e =
    variables (d + (m + e)) (d + m) e ++ (variables (d + (m + e)) 0 d ++ variables (d + (m + e)) d m)

-- and for those of the reader's domain among the parameters and its turns
abbrev pub moved_variables : ℕ → ℕ → List Affine
moved_variables m e = variables (m + e) m e ++ variables (m + e) 0 m

-- a form of a conflict's system, so turned
abbrev pub turned : Way → ℕ → ℕ → ℕ → Affine → Affine
turned way d m e f = composed f (moved_pair way d m e) (d + (m + e))

-- a form of the reader's domain, so moved
abbrev pub moved : ℕ → ℕ → Affine → Affine
moved m e f = composed f (moved_variables m e) (m + e)

-- an equality as two rows
abbrev pub flat : List Affine → List Affine
flat [] = []
flat (f ∷ fs) = f ∷ multiple_of_form (negsuc 0) f ∷ flat fs

-- the forms but those from place a on that are b
abbrev pub own : ℕ → ℕ → List Affine → List Affine
own a b fs = take a fs ++ drop (a + b) fs

-- the same without the last m
abbrev pub own_rows : ℕ → ℕ → ℕ → List Affine → List Affine
own_rows a b m fs = take a fs ++ take (length fs - (a + b) - m) (drop (a + b) fs)

-- where a conflict's system has the forms of the reader's domain, by how many the writer's has: the source's stand
-- first
abbrev pub reader_begins : Way → ℕ → ℕ
reader_begins Later writers = writers
reader_begins Earlier writers = 0

-- a conflict's equalities but those of the reader's domain; here and below the writer is s and the reader t
abbrev pub own_equalities_of : Way → Modelled → Modelled → Dependence → List Affine
own_equalities_of way s t dep =
    own (reader_begins way (length s.domain.equalities)) (length t.domain.equalities) dep.system.equalities

-- and its rows but those, and those of the parameters
abbrev pub own_rows_of : Way → Modelled → Modelled → ℕ → Dependence → List Affine
own_rows_of way s t m dep =
    own_rows (reader_begins way (length s.domain.rows)) (length t.domain.rows) m dep.system.rows

-- the rows: the writer's domain, the subscripts, the order
abbrev pub posed_rows : Way → Modelled → Modelled → ℕ → Dependence → List Affine
posed_rows way s t m dep =
    flat (map (turned way s.domain.dimensions m t.domain.dimensions) (own_equalities_of way s t dep))
    ++ map (turned way s.domain.dimensions m t.domain.dimensions) (own_rows_of way s t m dep)

-- the context: the reader's domain, and no parameter above the greatest
abbrev pub posed_context : Modelled → ℕ → List Affine
posed_context t m =
    flat (map (moved m t.domain.dimensions) t.domain.equalities)
    ++ (map (moved m t.domain.dimensions) t.domain.rows ++ all_below (pos most_parameter) (m + t.domain.dimensions) 0 m)

-- the writer's turns by the unknowns
abbrev pub writer_turns : Way → List ℤ → List ℤ
writer_turns Later xs = flipped top xs
writer_turns Earlier xs = xs

-- the leaf of the minimum, turned back and with its source
abbrev pub turned_leaf : Way → ℕ → List ℕ → Leaf → Leaf
turned_leaf way number loops initial = initial
turned_leaf way number loops (found o xs) = found (Some (source_of number loops)) (writer_turns way xs)
