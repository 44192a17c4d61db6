-- Whether an entry is named along subscripts, and along arguments.
use Rattle.scop_syntax.proofs.Common.{◌≡◌, ℕ, Bool, true, false, List, [], ◌∷◌, fold, ap, sym, ◌∙◌, refl, ◌||◌}
use Rattle.scop_syntax.proofs.Common.{list_any}
use Rattle.scop_expressions.specs.Op.TheVariants as op
use Rattle.scop_roles.specs.Formula.{Formula, index, binary, with_argument}
use Rattle.scop_units.specs.Loops.{names_entry}

or_none : (a : Bool) → a ≡ (a || false)
or_none true = refl
or_none false = refl

or_assoc : (a b c : Bool) → ((a || b) || c) ≡ (a || (b || c))
or_assoc true b c = refl
or_assoc false b c = refl

subscripts_name : (k : ℕ) (p : Formula) (is : List Formula)
    → names_entry k (fold index p is) ≡ (names_entry k p || list_any (names_entry k) is)
subscripts_name k p [] = or_none (names_entry k p)
subscripts_name k p (i ∷ is) =
    subscripts_name k (index p i) is ∙ or_assoc (names_entry k p) (names_entry k i) (list_any (names_entry k) is)

arguments_name : (k : ℕ) (f : Formula) (gs : List (Formula × ℕ))
    → names_entry k (fold with_argument f gs) ≡ (names_entry k f || list_any (λ g. names_entry k g.0) gs)
arguments_name k f [] = or_none (names_entry k f)
arguments_name k f (g ∷ gs) =
    arguments_name k (with_argument f g) gs
    ∙ or_assoc (names_entry k f) (names_entry k g.0) (list_any (λ g. names_entry k g.0) gs)

pub index_names : (k : ℕ) (f p i : Formula) (is : List Formula) (a b c x : Bool) → f ≡ index (fold index p is) i
    → a ≡ names_entry k p → b ≡ list_any (names_entry k) is → c ≡ names_entry k i → x ≡ ((a || b) || c)
    → x ≡ names_entry k f
index_names k f p i is a b c x e a_is b_is c_is x_is =
    let whole : ((names_entry k p || list_any (names_entry k) is) || names_entry k i)
    ≡ names_entry k (index (fold index p is) i) =
    ap (λ y. y || names_entry k i) (sym (subscripts_name k p is)) in
    x_is ∙ rw (a_is, b_is, c_is) whole ∙ ap (names_entry k) (sym e)

pub commas_name : (k : ℕ) (f g h : Formula) (gs : List (Formula × ℕ)) (at : ℕ) (a b c x : Bool)
    → f ≡ binary op.Comma (fold with_argument g gs) h at
    → a ≡ names_entry k g → b ≡ list_any (λ g. names_entry k g.0) gs → c ≡ names_entry k h → x ≡ ((a || b) || c)
    → x ≡ names_entry k f
commas_name k f g h gs at a b c x e a_is b_is c_is x_is =
    let any = list_any (λ g. names_entry k g.0) gs in
    let whole : ((names_entry k g || any) || names_entry k h)
    ≡ names_entry k (binary op.Comma (fold with_argument g gs) h at) =
    ap (λ y. y || names_entry k h) (sym (arguments_name k g gs)) in
    x_is ∙ rw (a_is, b_is, c_is) whole ∙ ap (names_entry k) (sym e)
