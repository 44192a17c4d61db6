-- The value of an expression of two parts, whose reads stand one behind the other in a list.
use Rattle.scop_syntax.proofs.Common.{◌≡◌, ℕ, ◌+◌, List, length, drop, ap, ap₂, sym, ◌∙◌, arith, length-append, ℤ}
use Rattle.scop_syntax.proofs.Common.{drop-drop, Expression, Operator, binary, reads_of, applied, value_on}

-- behind the reads of the right lie those that follow the whole
pub chained_end : (whole e f : Expression) (op : Operator) (at next end : ℕ) → whole ≡ binary op e f
    → next ≡ at + length (reads_of e) → end ≡ next + length (reads_of f) → end ≡ at + length (reads_of whole)
chained_end whole e f op at next end is behind last =
    let all = ap (λ (x : Expression). length (reads_of x)) is in
    let joined = length-append (reads_of e) (reads_of f) in
    omega arith

-- the value of the whole, from those of the parts
pub chained_value : (whole e f : Expression) (op : Operator) (point : List ℤ) (vs : List ℕ) (at next a b r : ℕ)
    → whole ≡ binary op e f → next ≡ at + length (reads_of e) → a ≡ value_on e point (drop at vs)
    → b ≡ value_on f point (drop next vs) → r ≡ applied op a b → r ≡ value_on whole point (drop at vs)
chained_value whole e f op point vs at next a b r is behind first second made =
    let rest = ap (λ n. drop n vs) behind ∙ sym (drop-drop (length (reads_of e)) at vs) in
    made
    ∙ (ap₂ (applied op) first (second ∙ ap (value_on f point) rest)
    ∙ ap (λ (x : Expression). value_on x point (drop at vs)) (sym is))
