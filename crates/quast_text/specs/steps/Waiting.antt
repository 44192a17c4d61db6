-- The text of a quast as the code writes it: what waits behind what is written lies on a stack.
use Rattle.std.specs.Prelude.{◌≡◌, ℕ, suc, ◌+◌, ◌*◌, List, [], ◌∷◌, ◌++◌, length, codes, Vec}
use Rattle.std.specs.declared.alloc.Global.{Global}
use Rattle.scop_lexer.specs.Bytes.{Text}
use Rattle.quast_trees.specs.Tree.{count}
use Rattle.quast_trees.specs.Place.{subtree}
use Rattle.quast_text.specs.Text.{names_within, quast_text, texts_of}
use Rattle.quast_text.specs.declared.writer.Rest.TheVariants as rest

-- how many `let`s end in what waits
abbrev pub lets_in : List rest.the_data → ℕ
lets_in [] = 0
lets_in (rest.Tree place ∷ rs) = lets_in rs
lets_in (rest.Second place ∷ rs) = lets_in rs
lets_in (rest.EndOfBranch ∷ rs) = lets_in rs
lets_in (rest.EndOfLet ∷ rs) = suc (lets_in rs)

-- the text of what waits, the nearest first
abbrev pub waiting_text : List Text → List rest.the_data → Text
waiting_text outer [] = []
waiting_text outer (rest.Tree place ∷ rs) = quast_text outer (lets_in rs) (subtree place) ++ waiting_text outer rs
waiting_text outer (rest.Second place ∷ rs) =
    codes " } else { " ++ (quast_text outer (lets_in rs) (subtree place) ++ (codes " }" ++ waiting_text outer rs))
waiting_text outer (rest.EndOfBranch ∷ rs) = codes " }" ++ waiting_text outer rs
waiting_text outer (rest.EndOfLet ∷ rs) = codes " }" ++ waiting_text outer rs

-- a number above that of the steps that one of these takes
abbrev pub weight : rest.the_data → ℕ
weight (rest.Tree place) = 3 * count (subtree place)
weight (rest.Second place) = 3 * count (subtree place) + 2
weight rest.EndOfBranch = 1
weight rest.EndOfLet = 1

-- that of all
abbrev pub weights : List rest.the_data → ℕ
weights [] = 0
weights (r ∷ rs) = weight r + weights rs

-- where the names are those of what waits, `outer` of them round the whole: what is written and what waits are the same
-- text as before, and the names are again those of what waits
abbrev pub GoesOn : ℕ → List rest.the_data → List (Vec ℕ Global) → Text → List rest.the_data
    → List (Vec ℕ Global) → Text → Type 0
GoesOn count old names out new names' out' =
    (outer : List Text) → count ≡ length outer → texts_of names ≡ names_within outer (lets_in old)
    → (texts_of names' ≡ names_within outer (lets_in new)) ×
    (out' ++ waiting_text outer new ≡ out ++ waiting_text outer old)
