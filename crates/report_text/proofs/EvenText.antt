-- The text of the sources of `even`, whose numbers are too large to be spelled by computing their numerals.
use Rattle.scop_syntax.proofs.Common.{◌≡◌, ◌∙◌, refl, sym, ap, ℕ, suc, List, [], ◌∷◌, ◌++◌, pos, negsuc, Some, codes}
use Rattle.scop_syntax.proofs.Common.{decimal, arith, true}
use Rattle.std.specs.Fmt.{digits}
use Rattle.std.specs.List.{concat}
use Rattle.whole_numbers.specs.Affine.{Affine, form_of}
use Rattle.scop_lexer.specs.Bytes.{Text}
use Rattle.form_text.specs.Forms.{constant_text, form_text}
use Rattle.form_text.specs.Numerals.{numeral}
use Rattle.form_text.proofs.Numerals.{decimal_is_numeral}
use Rattle.quast_trees.specs.Source.{source_of}
use Rattle.quast_text.specs.Text.{bound_name, comma, statement_name}
use Rattle.report_text.specs.DepsExamples.{even, even_source, even_text, over, resolved}
use Rattle.report_text.specs.DepsText.{deps_text}

-- what the forms outside all `let`s speak of, within one, and within two
abbrev outside : List Text
outside = codes "N" ∷ codes "$1" ∷ []

abbrev within_one : List Text
within_one = codes "N" ∷ codes "$1" ∷ codes "#1" ∷ []

abbrev within_two : List Text
within_two = codes "N" ∷ codes "$1" ∷ codes "#1" ∷ codes "#2" ∷ []

-- a branch whose other side is the initial value, and a `let` of a half
abbrev branch_of : Text → Text → Text
branch_of test first =
    concat (concat (codes "if " ∷ test ∷ codes " >= 0 { " ∷ []) ∷ first ∷ codes " } else { " ∷ codes "initial"
    ∷ codes " }" ∷ [])

abbrev half_of : ℕ → Text → Text → Text
half_of k form body =
    concat (concat (codes "let " ∷ bound_name k ∷ codes " = floor(" ∷ form ∷ codes " / " ∷ constant_text true (pos 2)
    ∷ codes ") { " ∷ []) ∷ body ∷ codes " }" ∷ [])

abbrev leaf_of : Text → Text
leaf_of form =
    concat (statement_name (Some (source_of 0 (0 ∷ []))) ∷ codes "(" ∷ ((comma 0 ++ form) ++ []) ∷ codes ")" ∷ [])

-- the line, by the texts of the two forms with large numbers
abbrev line_with : Text → Text → Text
line_with halved leaf =
    concat (codes "S" ∷ decimal 2 ∷ codes " read " ∷ decimal 1 ∷ codes " " ∷ codes "A" ∷ codes ": "
    ∷ branch_of (form_text outside (over (pos 2) (negsuc 0) (negsuc 1)))
    (half_of 1 (form_text outside (over (pos 0) (pos 1) (pos 0)))
    (branch_of (form_text within_one (form_of (pos 0 ∷ negsuc 0 ∷ pos 2 ∷ []) (pos 0)))
    (half_of 2 halved (leaf_of leaf)))) ∷ codes "\n" ∷ []) ++ []

abbrev halved_form : ℕ → Affine
halved_form n = form_of (pos 0 ∷ negsuc 0 ∷ pos 0 ∷ []) (pos n)

abbrev leaf_form : ℕ → Affine
leaf_form n = form_of (pos 0 ∷ pos 0 ∷ pos 0 ∷ negsuc 0 ∷ []) (pos n)

line_is : deps_text even (resolved even_source)
    ≡ line_with (form_text within_one (halved_form 140737488355328)) (form_text within_two (leaf_form 70368744177664))
unfolding digits
line_is = refl

halved_with : (n : ℕ) (ds : Text) → numeral (suc n) ≡ ds
    → form_text within_one (halved_form (suc n)) ≡ codes "-$1 + " ++ ds
unfolding form_text
halved_with n ds e = ap (λ (t : Text). codes "-$1 + " ++ t) e

leaf_with : (n : ℕ) (ds : Text) → numeral (suc n) ≡ ds
    → form_text within_two (leaf_form (suc n)) ≡ codes "-#2 + " ++ ds
unfolding form_text
leaf_with n ds e = ap (λ (t : Text). codes "-#2 + " ++ t) e

two_to_47 : decimal 140737488355328 ≡ codes "140737488355328"
unfolding digits
two_to_47 = refl

two_to_46 : decimal 70368744177664 ≡ codes "70368744177664"
unfolding digits
two_to_46 = refl

halved_is : form_text within_one (halved_form 140737488355328) ≡ codes "-$1 + 140737488355328"
halved_is = halved_with 140737488355327 (codes "140737488355328")
    (sym (decimal_is_numeral 140737488355328 (omega arith)) ∙ two_to_47)

leaf_is : form_text within_two (leaf_form 70368744177664) ≡ codes "-#2 + 70368744177664"
leaf_is = leaf_with 70368744177663 (codes "70368744177664")
    (sym (decimal_is_numeral 70368744177664 (omega arith)) ∙ two_to_46)

line_ends : line_with (codes "-$1 + 140737488355328") (codes "-#2 + 70368744177664") ≡ even_text
unfolding digits form_text
line_ends = refl

pub even_text_is : deps_text even (resolved even_source) ≡ even_text
even_text_is = line_is ∙ ((λ i. line_with (halved_is i) (leaf_is i)) ∙ line_ends)
