-- The pieces of elements one after another.
use Rattle.scop_syntax.proofs.Common.{◌≡◌, ℕ, ◌+◌, List, [], ◌∷◌, ◌++◌, sym, ap, ◌∙◌, append_assoc, length-append}
use Rattle.scop_syntax.proofs.Common.{arith}
use Rattle.scop_expressions.specs.Tree.{size, tokens_of, written}
use Rattle.scop_grammar.specs.Kernel.{Element, sign, expression, Piece, nodes_from, pieces, marked, spelled}
use Rattle.scop_units.specs.Judging.{width}

pub pieces-at : (a b : ℕ) (es : List Element) → a ≡ b → pieces a es ≡ pieces b es
pieces-at a b es e = ap (λ (n : ℕ). pieces n es) e

pub pieces-append : (at : ℕ) (es fs : List Element) → pieces at (es ++ fs) ≡ pieces at es ++ pieces (at + width es) fs
pieces-append at [] fs = pieces-at at (at + 0) fs (omega arith)
pieces-append at (sign t m ∷ es) fs =
    let place : at + 1 + width es ≡ at + width (sign t m ∷ es) = omega arith in
    ap (λ (ps : List Piece). marked m at ++ ps)
    (pieces-append (at + 1) es fs ∙ ap (λ (ps : List Piece). pieces (at + 1) es ++ ps) (pieces-at _ _ fs place))
    ∙ sym (append_assoc (marked m at) (pieces (at + 1) es) (pieces (at + width (sign t m ∷ es)) fs))
pieces-append at (expression x t ∷ es) fs =
    let wide : width (expression x t ∷ es) ≡ size x + (1 + width es) =
    length-append (tokens_of x) (t ∷ spelled es) ∙ omega arith in
    let place : at + size x + 1 + width es ≡ at + width (expression x t ∷ es) = omega (arith, wide) in
    ap (λ (ps : List Piece). nodes_from at (written 0 x) ∷ ps)
    (pieces-append (at + size x + 1) es fs
    ∙ ap (λ (ps : List Piece). pieces (at + size x + 1) es ++ ps) (pieces-at _ _ fs place))

pub width-append : (es fs : List Element) → width (es ++ fs) ≡ width es + width fs
width-append [] fs = omega arith
width-append (sign t m ∷ es) fs = let e = width-append es fs in omega (arith, e)
width-append (expression x t ∷ es) fs =
    let e = width-append es fs in
    let long = length-append (tokens_of x) (t ∷ spelled es) in
    let longer = length-append (tokens_of x) (t ∷ spelled (es ++ fs)) in
    omega (arith, e, long, longer)
