-- The cell that a place names is the one that it is, and a value reads the cells of its places.
use Rattle.scop_syntax.proofs.Common.{◌≡◌, ℕ, Bool, true, false, ℤ, List, [], ◌∷◌, ◌++◌, length, map, ap, ap₂, sym, ◌∙◌}
use Rattle.scop_syntax.proofs.Common.{refl, None, if◌then◌else◌, map-append, value_of, Access, Expression, affine}
use Rattle.scop_syntax.proofs.Common.{implied, Cell, cell_of, reads_of, values}
use Rattle.std.proofs.lemmas.List.{append-nil}
use Rattle.scop_expressions.specs.Op.{Op}
use Rattle.scop_expressions.specs.declared.token.Sign.TheVariants as sign
use Rattle.scop_roles.specs.declared.formula.Meaning.TheVariants as meaning
use Rattle.scop_roles.specs.declared.formula.Role.TheVariants as role
use Rattle.scop_roles.specs.Faults.{first, faults, place_faults, is_count}
use Rattle.scop_roles.specs.Forms.{is_shift, is_signed, is_narrow, form}
use Rattle.scop_roles.specs.Formula.{Formula, constant, name, index, unary, cast, binary, meaning_of}
use Rattle.scop_roles.specs.Values.{access, array_number, subscript_forms, expression, signed_value, joined}
use Rattle.scop_roles.specs.Values.{narrowed_where}
use Rattle.scop_roles.proofs.Affines.{sign_reads, narrowed_reads, cast_reads, joined_shift_reads, joined_other_reads}
use Rattle.scop_roles.proofs.Parts.{place_parts, index_value, cast_value, unary_value, binary_value, shift_count}
use Rattle.scop_arithmetic.specs.Arithmetic.{array_named, subscripts_at, cell, cells_in}
use Rattle.scop_arithmetic.proofs.Wholes.{form_value}
use Rattle.scop_arithmetic.proofs.Classes.{signed_parts}

array_same : (f : Formula) → array_number (meaning_of f) ≡ array_named f
array_same (name (meaning.Array k r b) at) = refl
array_same (index q i) = array_same q
array_same _ = refl

subscripts_same : (n : ℕ) (f : Formula) (p : List ℤ) → length p ≡ n → first (place_faults n f) ≡ None
    → values (subscript_forms n f) p ≡ subscripts_at p f
subscripts_same n (index q i) p long h =
    let parts = place_parts n q i h in
    map-append (λ f. value_of f p) (subscript_forms n q) (form n i ∷ [])
    ∙ ap₂ (λ (xs : List ℤ) (x : ℤ). xs ++ x ∷ []) (subscripts_same n q p long parts.0) (form_value n i p long parts.1)
subscripts_same n _ p long h = refl

-- the cell that a place names is the one that it is
pub cell_same : (n : ℕ) (f : Formula) (p : List ℤ) → length p ≡ n → first (place_faults n f) ≡ None
    → cell_of (access n f) p ≡ cell p f
cell_same n f p long h =
    ap₂ (λ (k : ℕ) (xs : List ℤ). record { array = k; subscripts = xs }) (array_same f) (subscripts_same n f p long h)

-- the cells of accesses, in order
abbrev pub cells_of : List ℤ → List Access → List Cell
cells_of p accesses = map (λ access. cell_of access p) accesses

-- signed parts and counts read nothing
signed_reads : (f : Formula) (p : List ℤ) → is_signed f ≡ true → cells_in p f ≡ []
signed_reads (constant s v at) p e = refl
signed_reads (name m at) p e = refl
signed_reads (unary sign.Minus f at) p e = signed_reads f p e
signed_reads (binary o f g at) p e =
    let parts = signed_parts o f g at e in
    rw (signed_reads f p parts.1, signed_reads g p parts.2) refl
signed_reads _ p e = absurd (cc)

pub count_reads : (f : Formula) (k : ℕ) (p : List ℤ) → is_count 0 k f ≡ true → cells_in p f ≡ []
count_reads (constant s v at) k p e = refl
count_reads _ k p e = absurd (cc)

-- an operator of unsigned values reads what its sides do
unsigned_reads : (n : ℕ) (o : Op) (f g : Formula) (at : ℕ) (e d : Expression) (p : List ℤ) (b : Bool) → is_shift o ≡ b
    → (b ≡ true → is_count 0 63 g ≡ true) → cells_of p (reads_of e) ≡ cells_in p f
    → cells_of p (reads_of d) ≡ cells_in p g
    → cells_of p (reads_of (joined o f g at e d)) ≡ cells_in p f ++ cells_in p g
unsigned_reads n o f g at e d p true shift counts left right =
    ap (cells_of p) (joined_shift_reads o f g at e d shift) ∙ (left ∙ (sym (append-nil (cells_in p f))
    ∙ ap (λ cs. cells_in p f ++ cs) (sym (count_reads g 63 p (counts refl)))))
unsigned_reads n o f g at e d p false plain counts left right =
    ap (cells_of p) (joined_other_reads o f g at e d plain)
    ∙ (map-append (λ (a : Access). cell_of a p) (reads_of e) (reads_of d)
    ∙ ap₂ (λ (xs ys : List Cell). xs ++ ys) left right)

-- a value reads the cells of its places
pub reads_same : (n : ℕ) (f : Formula) (p : List ℤ) → length p ≡ n → first (faults n role.Value f) ≡ None
    → cells_of p (reads_of (expression n f)) ≡ cells_in p f
reads_same n (index q i) p long h =
    ap (λ c. c ∷ []) (cell_same n (index q i) p long (index_value n q i h).0)
reads_same n (unary s f at) p long h =
    by_sign (is_signed (unary s f at)) refl (λ u. reads_same n f p long (unary_value n s f at u h))
  where
    by_sign : (b : Bool) → is_signed (unary s f at) ≡ b
        → (is_signed (unary s f at) ≡ false → cells_of p (reads_of (expression n f)) ≡ cells_in p f)
        → cells_of p
        (reads_of (if b then affine (form n (unary s f at))
        else narrowed_where (is_narrow (unary s f at)) implied (signed_value s (expression n f))))
        ≡ cells_in p f
    by_sign true e ih = sym (signed_reads (unary s f at) p e)
    by_sign false e ih =
        ap (cells_of p) (narrowed_reads (is_narrow (unary s f at)) implied (signed_value s (expression n f))
        ∙ sign_reads s (expression n f)) ∙ ih e
reads_same n (cast w f at) p long h =
    ap (cells_of p) (cast_reads w (expression n f)) ∙ reads_same n f p long (cast_value n w f at h)
reads_same n (binary o f g at) p long h =
    by_sign (is_signed (binary o f g at)) refl
    (λ u. reads_same n f p long (binary_value n o f g at u h).0)
    (λ u. reads_same n g p long (binary_value n o f g at u h).1)
  where
    by_sign : (b : Bool) → is_signed (binary o f g at) ≡ b
        → (is_signed (binary o f g at) ≡ false → cells_of p (reads_of (expression n f)) ≡ cells_in p f)
        → (is_signed (binary o f g at) ≡ false → cells_of p (reads_of (expression n g)) ≡ cells_in p g)
        → cells_of p (reads_of
        (if b then affine (form n (binary o f g at)) else joined o f g at (expression n f) (expression n g)))
        ≡ cells_in p f ++ cells_in p g
    by_sign true e left right = sym (signed_reads (binary o f g at) p e)
    by_sign false e left right =
        unsigned_reads n o f g at (expression n f) (expression n g) p (is_shift o) refl
        (λ t. shift_count n o f g at t h) (left e) (right e)
reads_same n _ p long h = refl
