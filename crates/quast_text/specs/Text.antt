-- The text of a quast over names (quasts: Feautrier, Parametric integer programming, 1988).
use Rattle.std.specs.Prelude.{ℕ, zero, suc, true, ℤ, List, [], ◌∷◌, ◌++◌, codes, Option, Some, None, map, Vec}
use Rattle.std.specs.List.{concat}
use Rattle.whole_numbers.specs.Affine.{Affine}
use Rattle.scop_lexer.specs.Bytes.{Text}
use Rattle.form_text.specs.Forms.{constant_text, form_text}
use Rattle.form_text.specs.Numerals.{numeral}
use Rattle.quast_trees.specs.Source.{Source, Forms}
use Rattle.quast_trees.specs.Tree.{Tree, initial, leaf, branch, bind}
use Rattle.std.specs.declared.alloc.Global.{Global}

-- what the k-th `let` from the outside binds
abbrev pub bound_name : ℕ → Text
bound_name k = codes "#" ++ numeral k

-- what forms speak of within k `let`s: the outer names, then what the `let`s bind, the outermost first
abbrev pub names_within : List Text → ℕ → List Text
names_within outer zero = outer
names_within outer (suc k) = names_within outer k ++ bound_name (suc k) ∷ []

-- what stands in front of the entry at a place: nothing in front of the first, else a comma
abbrev pub comma : ℕ → Text
comma zero = []
comma (suc at) = codes ", "

-- forms from the one at this place on
abbrev pub forms_from : List Text → ℕ → List Affine → Text
forms_from names at [] = []
forms_from names at (f ∷ fs) = (comma at ++ form_text names f) ++ forms_from names (suc at) fs

-- `SN ` in front of a leaf's forms, where its statement is known; statements are numbered from 1
abbrev pub statement_name : Option Source → Text
statement_name None = []
statement_name (Some s) = concat (codes "S" ∷ numeral (suc s.statement) ∷ codes " " ∷ [])

-- `SN (FORM, ..)`: a statement at its turns
abbrev pub leaf_text : List Text → Forms → Text
leaf_text names l = concat (statement_name l.source ∷ codes "(" ∷ forms_from names 0 l.forms ∷ codes ")" ∷ [])

-- `if FORM >= 0 { `
abbrev pub test_text : List Text → Affine → Text
test_text names test = concat (codes "if " ∷ form_text names test ∷ codes " >= 0 { " ∷ [])

-- `let #K = floor(FORM / D) { `, the form's names being those outside
abbrev pub let_text : List Text → ℕ → Affine → ℤ → Text
let_text names k form divisor =
    concat (codes "let " ∷ bound_name k ∷ codes " = floor(" ∷ form_text names form ∷ codes " / "
    ∷ constant_text true divisor ∷ codes ") { " ∷ [])

-- a quast within k `let`s: `initial`, `SN (FORM, ..)`, `if FORM >= 0 { Q } else { Q }` or
-- `let #K = floor(FORM / D) { Q }`
abbrev pub quast_text : List Text → ℕ → Tree → Text
quast_text outer k initial = codes "initial"
quast_text outer k (leaf l) = leaf_text (names_within outer k) l
quast_text outer k (branch test first second) =
    concat (test_text (names_within outer k) test ∷ quast_text outer k first ∷ codes " } else { "
    ∷ quast_text outer k second ∷ codes " }" ∷ [])
quast_text outer k (bind form divisor body) =
    concat (let_text (names_within outer k) (suc k) form divisor ∷ quast_text outer (suc k) body ∷ codes " }" ∷ [])

-- the texts of names
abbrev pub texts_of : List (Vec ℕ Global) → List Text
texts_of names = map (λ n. n.items) names
