-- Forms with more variables: put in at a place, so that the form's own from there on move, or behind its own.
use Rattle.std.specs.Prelude.{ℕ, zero, suc, ◌+◌, ℤ, List, [], ◌∷◌, ◌++◌, map}
use Rattle.whole_numbers.specs.Affine.{Affine, form_of}
use Rattle.whole_numbers.specs.Lists.{zeros}
use Rattle.quast_trees.specs.Source.{Forms}

-- k zeros put in at place n
abbrev pub shifted : ℕ → ℕ → List ℤ → List ℤ
shifted zero k xs = zeros k ++ xs
shifted (suc n) k [] = zeros k
shifted (suc n) k (x ∷ xs) = x ∷ shifted n k xs

-- a form's variables from n on moved by k
abbrev pub shifted_form : ℕ → ℕ → Affine → Affine
shifted_form n k f = form_of (shifted n k f.coefficients) f.constant

-- a leaf with those of each of its forms moved
abbrev pub shifted_leaf : ℕ → ℕ → Forms → Forms
shifted_leaf n k l = record l { variables = l.variables + k; forms = map (shifted_form n k) l.forms }

-- a leaf over k variables more behind its own, which its forms do not use
abbrev pub widened : ℕ → Forms → Forms
widened k l = shifted_leaf l.variables k l
