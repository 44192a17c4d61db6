-- Contents within the types of a text's arrays hold numbers of their types wherever an expression reads them.
use Rattle.scop_syntax.proofs.Common.{◌≡◌, refl, ℕ, ◌+◌, Bool, true, false, ℤ, List, map, get_or, get_or_from_slice_get}
use Rattle.scop_syntax.proofs.Common.{get_map, held, HoldWidths}
use Rattle.scop_expressions.specs.Tree.{Tree, size}
use Rattle.scop_expressions.specs.Tree as tree
use Rattle.scop_roles.specs.declared.formula.Meaning.{Meaning}
use Rattle.scop_roles.specs.declared.formula.Meaning.TheVariants as meaning
use Rattle.scop_roles.specs.Formula.{formula, name}
use Rattle.scop_units.specs.Words.{Words}
use Rattle.scop_units.specs.Scopes.{Scope, Ranked, look, meaning_in}
use Rattle.scop_arithmetic.specs.Arithmetic.{narrow, cell_class, array_named, HoldTypes}
use Rattle.scop_arithmetic.specs.Meaning.{NamesMean}

-- which arrays in scope are of uint32_t
abbrev narrow_in : Scope → List Bool
narrow_in s = map (λ (a : Ranked). a.narrow) s.arrays

narrow_name : (m : Meaning) (at : ℕ) → cell_class (name m at) ≡ narrow
    → (r : ℕ) × (m ≡ meaning.Array (array_named (name m at)) r true)
narrow_name (meaning.Array k r true) at e = (r, refl)
narrow_name _ at e = absurd (cc)

place_narrow : (words : Words) (s : Scope) (at : ℕ) (t : Tree) → NamesMean s
    → cell_class (formula (look words s) at t) ≡ narrow
    → get_or (narrow_in s) (array_named (formula (look words s) at t)) false ≡ true
place_narrow words s at tree.name names e =
    let m = narrow_name (meaning_in s (words.spelling at)) at e in
    let k = array_named (name (meaning_in s (words.spelling at)) at) in
    let a : Ranked = record { name = words.spelling at; rank = m.0; narrow = true } in
    get_or_from_slice_get (narrow_in s) k true false
    (get_map (λ (b : Ranked). b.narrow) s.arrays k a ((names.arrays k a).0 m.1))
place_narrow words s at (tree.group t) names e = place_narrow words s (at + 1) t names e
place_narrow words s at (tree.index t i) names e = place_narrow words s at t names e
place_narrow words s at _ names e = absurd (cc)

pub contents_typed : (words : Words) (s : Scope) (at : ℕ) (t : Tree) (p : List ℤ) (extents contents : List (List ℕ))
    → NamesMean s → HoldWidths (narrow_in s) contents
    → HoldTypes (held extents contents) p (formula (look words s) at t)
contents_typed words s at (tree.group t) p es rows names hold = contents_typed words s (at + 1) t p es rows names hold
contents_typed words s at (tree.index t i) p es rows names hold =
    λ e. hold (array_named (formula (look words s) at t)) _ (place_narrow words s at t names e)
contents_typed words s at (tree.unary o t) p es rows names hold = contents_typed words s (at + 1) t p es rows names hold
contents_typed words s at (tree.cast w t) p es rows names hold =
    contents_typed words s (at + 1 + 1 + 1) t p es rows names hold
contents_typed words s at (tree.binary o a b) p es rows names hold = (
  contents_typed words s at a p es rows names hold,
  contents_typed words s (at + size a + 1) b p es rows names hold,
)
contents_typed words s at _ p es rows names hold = tt
