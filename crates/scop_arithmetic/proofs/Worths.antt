-- What expressions are worth over the numbers that they read, and what operators make of these in each unsigned type.
use Rattle.scop_syntax.proofs.Common.{◌≡◌, ℕ, ◌-◌, ◌*◌, ◌/◌, ◌%◌, ◌^◌, ◌<◌, Bool, true, false, ◌&&◌, ℤ, List, ◌++◌}
use Rattle.scop_syntax.proofs.Common.{length, drop, map, ap, ap₂, sym, ◌∙◌, refl, arith, append_assoc, map-append}
use Rattle.scop_syntax.proofs.Common.{length-map, div-le_self, mod-mod, mod-eq_of_lt, drop-append_seam, Access}
use Rattle.scop_syntax.proofs.Common.{Operator, Expression, negated, complemented, shifted_left, shifted_right, implied}
use Rattle.scop_syntax.proofs.Common.{converted, Cell, cell_of, reads_of, applied, applied_narrow, value_on}
use Rattle.scop_syntax.proofs.Common.{applied_kept}
use Rattle.scop_expressions.specs.Width.{Width}
use Rattle.scop_expressions.specs.Width.TheVariants as width
use Rattle.scop_syntax.specs.Tree as scop
use Rattle.scop_roles.specs.Values.{narrowed_where, cast_to}
use Rattle.scop_arithmetic.specs.Arithmetic.{named_class, bits, kept, joined}
use Rattle.scop_arithmetic.proofs.Places.{cells_of}
use Rattle.scop_arithmetic.proofs.Classes.{type_by}
use Rattle.scop_syntax.proofs.NarrowValues.{negated_kept, complemented_kept, moved_kept}

-- what the cells of these accesses hold, in order
abbrev pub contents : (Cell → ℕ) → List ℤ → List Access → List ℕ
contents held p accesses = map held (cells_of p accesses)

contents_behind : (held : Cell → ℕ) (p : List ℤ) (xs ys : List Access) (more : List ℕ)
    → contents held p (xs ++ ys) ++ more ≡ contents held p xs ++ (contents held p ys ++ more)
contents_behind held p xs ys more =
    ap (λ cs. map held cs ++ more) (map-append (λ (a : Access). cell_of a p) xs ys)
    ∙ (ap (λ vs. vs ++ more) (map-append held (cells_of p xs) (cells_of p ys))
    ∙ append_assoc (contents held p xs) (contents held p ys) more)

contents_past : (held : Cell → ℕ) (p : List ℤ) (xs : List Access) (more : List ℕ)
    → drop (length xs) (contents held p xs ++ more) ≡ more
contents_past held p xs more =
    let size = length-map (cells_of p xs) held ∙ length-map xs (λ (a : Access). cell_of a p) in
    ap (λ k. drop k (contents held p xs ++ more)) (sym size) ∙ drop-append_seam (contents held p xs) more

-- a value, whatever is read behind it
abbrev pub IsWorth : Expression → List ℤ → (Cell → ℕ) → ℕ → Type 0
IsWorth e p held w = (more : List ℕ) → value_on e p (contents held p (reads_of e) ++ more) ≡ w

binary_worth : (k : Operator) (e d : Expression) (p : List ℤ) (held : Cell → ℕ) (v w : ℕ) → IsWorth e p held v
    → IsWorth d p held w → IsWorth (scop.binary k e d) p held (applied k v w)
binary_worth k e d p held v w x y more =
    let rest = contents held p (reads_of d) ++ more in
    let both = contents held p (reads_of e) ++ rest in
    ap (λ vs. applied k (value_on e p vs) (value_on d p (drop (length (reads_of e)) vs)))
    (contents_behind held p (reads_of e) (reads_of d) more)
    ∙ ap₂ (applied k) (x rest)
    (ap (λ vs. value_on d p vs) (contents_past held p (reads_of e) rest) ∙ y more)

-- b: in 32 bits; s, t: a side is signed, and is converted there
side_worth : (e : Expression) (p : List ℤ) (held : Cell → ℕ) (s : Bool) (v : ℕ) → IsWorth e p held v
    → (s ≡ false → v < 2 ^ 32) → IsWorth (narrowed_where s converted e) p held (v % 2 ^ 32)
side_worth e p held true v x small more = ap (λ (w : ℕ). w % 2 ^ 32) (x more)
side_worth e p held false v x small more = x more ∙ sym (mod-eq_of_lt (small refl))

pub joined_worth : (k : Operator) (e d : Expression) (p : List ℤ) (held : Cell → ℕ) (b s t : Bool) (v w : ℕ)
    → IsWorth e p held v → IsWorth d p held w → (b ≡ true → s ≡ false → v < 2 ^ 32)
    → (b ≡ true → t ≡ false → w < 2 ^ 32)
    → IsWorth (narrowed_where b implied (scop.binary k (narrowed_where (b && s) converted e)
    (narrowed_where (b && t) converted d))) p held (joined (type_by false b) k v w)
joined_worth k e d p held false s t v w x y left right more = binary_worth k e d p held v w x y more
joined_worth k e d p held true s t v w x y left right more =
    ap (λ (u : ℕ). u % 2 ^ 32) (binary_worth k (narrowed_where s converted e) (narrowed_where t converted d) p held
    (v % 2 ^ 32) (w % 2 ^ 32) (side_worth e p held s v x (left refl)) (side_worth d p held t w y (right refl)) more)
    ∙ (applied_kept k (v % 2 ^ 32) (w % 2 ^ 32) (omega arith)
    ∙ ap₂ (applied_narrow k) (mod-mod v (2 ^ 32)) (mod-mod w (2 ^ 32)))

pub negated_worth : (e : Expression) (p : List ℤ) (held : Cell → ℕ) (b : Bool) (v : ℕ) → IsWorth e p held v
    → (b ≡ true → v < 2 ^ 32) → IsWorth (narrowed_where b implied (negated e)) p held
    ((2 ^ bits (type_by false b) - v) % 2 ^ bits (type_by false b))
negated_worth e p held true v x small more =
    ap (λ (w : ℕ). (2 ^ 64 - w) % 2 ^ 64 % 2 ^ 32) (x more) ∙ negated_kept v (small refl)
negated_worth e p held false v x small more = ap (λ (w : ℕ). (2 ^ 64 - w) % 2 ^ 64) (x more)

pub complemented_worth : (e : Expression) (p : List ℤ) (held : Cell → ℕ) (b : Bool) (v : ℕ) → IsWorth e p held v
    → (b ≡ true → v < 2 ^ 32) → IsWorth (narrowed_where b implied (complemented e)) p held
    (2 ^ bits (type_by false b) - 1 - v)
complemented_worth e p held true v x small more =
    ap (λ (w : ℕ). (2 ^ 64 - 1 - w) % 2 ^ 32) (x more) ∙ complemented_kept v (small refl)
complemented_worth e p held false v x small more = ap (λ (w : ℕ). 2 ^ 64 - 1 - w) (x more)

pub cast_worth : (w : Width) (e : Expression) (p : List ℤ) (held : Cell → ℕ) (v : ℕ) → IsWorth e p held v
    → IsWorth (cast_to w e) p held (kept (named_class w) v)
cast_worth width.Narrow e p held v x more = ap (λ (w : ℕ). w % 2 ^ 32) (x more)
cast_worth width.Full e p held v x more = x more

-- shifts of what is not signed
pub moved_left_worth : (e : Expression) (p : List ℤ) (held : Cell → ℕ) (b s : Bool) (v k : ℕ) → s ≡ false
    → IsWorth e p held v
    → IsWorth (narrowed_where b implied (shifted_left (narrowed_where (b && s) converted e) k)) p held
    ((v * 2 ^ k) % 2 ^ bits (type_by false b))
moved_left_worth e p held false s v k u x more = ap (λ (w : ℕ). (w * 2 ^ k) % 2 ^ 64) (x more)
moved_left_worth e p held true false v k u x more =
    ap (λ (w : ℕ). (w * 2 ^ k) % 2 ^ 64 % 2 ^ 32) (x more) ∙ moved_kept (v * 2 ^ k)
moved_left_worth e p held true true v k u x more = absurd (cc)

pub moved_right_worth : (e : Expression) (p : List ℤ) (held : Cell → ℕ) (b s : Bool) (v k : ℕ) → s ≡ false
    → IsWorth e p held v → (b ≡ true → v < 2 ^ 32)
    → IsWorth (narrowed_where b implied (shifted_right (narrowed_where (b && s) converted e) k)) p held (v / 2 ^ k)
moved_right_worth e p held false s v k u x small more = ap (λ (w : ℕ). w / 2 ^ k) (x more)
moved_right_worth e p held true false v k u x small more =
    let h = small refl in
    let d = div-le_self v (2 ^ k) in
    ap (λ (w : ℕ). w / 2 ^ k % 2 ^ 32) (x more) ∙ mod-eq_of_lt (omega arith)
moved_right_worth e p held true true v k u x small more = absurd (cc)
