-- The names of emitted loops, and the forms that stand in an emitted text: in order of the parameters, the loops,
-- outermost first, and the source iterators that are given before.
use Rattle.std.specs.Prelude.{ℕ, zero, suc, ℤ, List, [], ◌∷◌, ◌++◌, take, drop, codes, decimal}
use Rattle.whole_numbers.specs.Affine.{Affine, form_of, sum_of_forms, multiple_of_form}
use Rattle.whole_numbers.specs.Lists.{zeros}
use Rattle.scop_lexer.specs.Bytes.{Text}
use Rattle.scop_syntax.specs.Tree.{Head}
use Rattle.form_text.specs.Forms.{form_text}

-- `pp_1`, the iterator of a loop without loops round it, and so on
abbrev pub loop_name : ℕ → Text
loop_name d = codes "pp_" ++ decimal (suc d)

-- those of d loops, outermost first
abbrev pub loop_names : ℕ → List Text
loop_names zero = []
loop_names (suc d) = loop_names d ++ (loop_name d ∷ [])

-- what forms speak of within so many loops
abbrev pub names_in : List Text → ℕ → List Text
names_in parameters loops = parameters ++ loop_names loops

-- the coefficients of a form of the tree, which has those of the loops first, in the order of the text
abbrev pub turned : ℕ → List ℤ → List ℤ
turned loops cs = drop loops cs ++ take loops cs

-- a form of the tree over the names within so many loops
abbrev pub tree_form_text : List Text → ℕ → Affine → Text
tree_form_text names loops form = form_text names (form_of (turned loops form.coefficients) form.constant)

-- the coefficients of a form of the source, which speaks of no loop, in the order of the text
abbrev pub spread : ℕ → ℕ → List ℤ → List ℤ
spread parameters loops cs = take parameters cs ++ (zeros loops ++ drop parameters cs)

-- a source iterator: where its loop starts, and its stride times the turn
abbrev pub iterator_form : ℕ → ℕ → Head → Affine → Affine
iterator_form parameters loops head turn =
    sum_of_forms (form_of (spread parameters loops head.first.coefficients) head.first.constant)
    (multiple_of_form head.stride (form_of (turned loops turn.coefficients) turn.constant))
