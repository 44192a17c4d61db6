-- Values and places of a statement are worth in the program what they are at the source's point, where numbers fit and
-- subscripts lie inside.
use Rattle.scop_syntax.proofs.Common.{◌≡◌, ◌∙◌, ap, ap₂, sym, subst, refl, ℕ, ◌+◌, ◌-◌, ◌*◌, ◌/◌, ◌%◌, ◌^◌, nat_lt}
use Rattle.scop_syntax.proofs.Common.{◌<ℤ◌, ◌<◌, ◌≤◌, Bool, true, false, ◌&&◌, if◌then◌else◌, ℤ, pos, List, [], ◌∷◌}
use Rattle.scop_syntax.proofs.Common.{◌++◌, length, map, drop, arith, ints, Option, Some, None, inl, All, All-head}
use Rattle.scop_syntax.proofs.Common.{All-tail, slice_index_or, le_z_holds, In, in_front, in_back, Affine, value_of}
use Rattle.scop_syntax.proofs.Common.{Access, Expression, read, affine, negated, complemented, cast, binary}
use Rattle.scop_syntax.proofs.Common.{shifted_left, shifted_right, implied, converted, narrowed, values, Cell, cell_of}
use Rattle.scop_syntax.proofs.Common.{reads_of, held, AreWithin, IsCell, IsAccess, IsAffine, IsExpression}
use Rattle.scop_syntax.specs.Tree.{constant, explicit}
use Rattle.scop_syntax.specs.Widths as widths
use Rattle.std.proofs.lemmas.Bool.{lt-ltb}
use Rattle.std.proofs.lemmas.List.{append_assoc, map-append}
use Rattle.std.specs.Int.Signed.{lt_z}
use Rattle.form_text.specs.Reading.{when}
use Rattle.c_printer.specs.Values as printed
use Rattle.c_meaning.specs.Syntax.{Value}
use Rattle.c_meaning.specs.Syntax as c
use Rattle.c_meaning.specs.Expressions.{worth, worths}
use Rattle.c_meaning.specs.Assignments.{Arrays, Contents, are_within, is_cell, cell_with, named, found, is_narrow}
use Rattle.c_meaning.specs.Assignments.{number_of}
use Rattle.c_meaning.specs.Programs.{source_expression, place_in, signed_in, value_in}
use Rattle.c_meaning.specs.Narrow.{SubscriptsFit, ValueFits}
use Rattle.c_meaning.proofs.FormWorths.{kept_wide, source_form_worth}
use Rattle.c_meaning.proofs.BoundWorths.{fails_lt_z}

-- where a statement stands: the arrays, what they hold, the values of parameters, loops of the tree and constants, and
-- the number of names
pub record Spot : Type 0 where
  pub arrays : Arrays
  pub contents : Contents
  pub params : List ℤ
  pub outer : List ℤ
  pub given : List ℤ
  pub names : ℕ

-- the values of the names there, and the source's point
abbrev pub point_at : Spot → List ℤ
point_at s = s.params ++ (s.outer ++ s.given)

abbrev pub source_at : Spot → List ℤ
source_at s = s.params ++ s.given

abbrev pub place_at : Spot → Access → c.Place
place_at s access = place_in (length s.params) (length s.outer) s.names access

abbrev pub value_at : Spot → Expression → Value
value_at s e = value_in (length s.params) (length s.outer) s.names e

-- what the cell of an access holds
abbrev pub held_at : Spot → Access → ℕ
held_at s access = held s.arrays.extents s.contents (cell_of access (source_at s))

-- the cells of these accesses are their arrays'
abbrev pub AreInside : Spot → List Access → Type 0
AreInside s accesses = (access : Access) → In access accesses → IsCell s.arrays.extents (cell_of access (source_at s))

-- the names are counted, and the source's forms have entries for the parameters
pub record IsSpot (s : Spot) (m : ℕ) : Type 0 where
  pub count : s.names ≡ length (point_at s)
  pub long : length s.params ≤ m

-- what comes of a part's value
pub one : {A B : Type 0} (o : Option A) (a : A) (f : A → Option B) (r : Option B) → o ≡ Some a → f a ≡ r
    → when o f ≡ r
one o a f r e g = ap (λ q. when q f) e ∙ g

subscripts_worth : (s : Spot) (m : ℕ) (forms : List Affine) → IsSpot s m → All (IsAffine m) forms
    → SubscriptsFit s.params s.outer s.given forms
    → worths (point_at s) (map (source_expression (length s.params) (length s.outer) s.names) forms)
    ≡ Some (values forms (source_at s))
subscripts_worth s m [] at is fit = refl
subscripts_worth s m (form ∷ forms) at is fit =
    let long = at.long in
    let entries = (All-head (IsAffine m) form forms is).entries in
    let z = value_of form (source_at s) in
    one (worth (point_at s) (source_expression (length s.params) (length s.outer) s.names form)) z
    (λ x. when (worths (point_at s) (map (source_expression (length s.params) (length s.outer) s.names) forms))
    (λ xs. Some (x ∷ xs))) (Some (z ∷ values forms (source_at s)))
    (source_form_worth s.params s.outer s.given s.names form at.count (omega (arith, long, entries)) fit.0)
    (ap (λ (o : Option (List ℤ)). when o (λ xs. Some (z ∷ xs)))
    (subscripts_worth s m forms at (All-tail (IsAffine m) form forms is) fit.1))

lt_z_holds : (a b : ℤ) → a <ℤ b → lt_z a b ≡ true
lt_z_holds a b h = by_test (lt_z a b) refl
  where
    by_test : (t : Bool) → lt_z a b ≡ t → lt_z a b ≡ true
    by_test true e = e
    by_test false e = let l = fails_lt_z a b e in absurd (omega (arith, ints, h, l))

within_is : (zs : List ℤ) (ns : List ℕ) → AreWithin zs ns → are_within zs ns ≡ true
within_is [] [] h = refl
within_is [] (n ∷ ns) h = absurd h
within_is (z ∷ zs) [] h = absurd h
within_is (z ∷ zs) (n ∷ ns) h =
    ap (λ (b : Bool). b && (lt_z z (pos n) && are_within zs ns)) (le_z_holds (pos 0) z h.0)
    ∙ (ap (λ (b : Bool). b && are_within zs ns) (lt_z_holds z (pos n) h.1) ∙ within_is zs ns h.2)

pub named_is : (s : Spot) (ranks : List ℕ) (m : ℕ) (access : Access) → IsSpot s m → IsAccess ranks m access
    → SubscriptsFit s.params s.outer s.given access.subscripts
    → named (point_at s) (place_at s access) ≡ Some (cell_of access (source_at s))
named_is s ranks m access at is fit =
    ap (λ (o : Option (List ℤ)). when o (λ zs. Some (cell_with access.array zs)))
    (subscripts_worth s m access.subscripts at is.subscripts fit)

pub found_is : (s : Spot) (ranks : List ℕ) (m : ℕ) (access : Access) → IsSpot s m → IsAccess ranks m access
    → SubscriptsFit s.params s.outer s.given access.subscripts
    → IsCell s.arrays.extents (cell_of access (source_at s))
    → found s.arrays (point_at s) (place_at s access) ≡ Some (cell_of access (source_at s))
found_is s ranks m access at is fit inside =
    let cell = cell_of access (source_at s) in
    let there = named_is s ranks m access at is fit in
    let here : is_cell s.arrays cell ≡ true =
    ap (λ (b : Bool). b && are_within cell.subscripts (slice_index_or s.arrays.extents cell.array []))
    (lt-ltb cell.array (length s.arrays.extents) inside.array)
    ∙ within_is cell.subscripts (slice_index_or s.arrays.extents cell.array []) inside.subscripts in
    one (named (point_at s) (place_at s access)) cell (λ q. if is_cell s.arrays q then Some q else None) (Some cell) there
    (ap (λ (b : Bool). if b then Some cell else None) here)

-- a part whose type is known
typed : (o : Option ℕ) (w : ℕ) (t u : Bool) (f : Bool → ℕ → Option ℕ) → o ≡ Some w → t ≡ u → when o (f t) ≡ f u w
typed o w t u f e g = one o w (f t) (f u w) e (ap (λ (b : Bool). f b w) g)

-- a shift by a count that its type has
pub counted : (k : ℕ) (t : Bool) (v : ℕ) → k < widths.bits t
    → (if nat_lt k (widths.bits t) then Some v else None) ≡ Some v
counted k t v h = ap (λ (b : Bool). if b then Some v else None) (lt-ltb k (widths.bits t) h)

drop_none : (xs : List ℕ) → drop 0 xs ≡ xs
drop_none [] = refl
drop_none (x ∷ xs) = refl

pub drop_mapped : (h : Access → ℕ) (xs : List Access) (ys : List ℕ) → drop (length xs) (map h xs ++ ys) ≡ ys
drop_mapped h [] ys = drop_none ys
drop_mapped h (x ∷ xs) ys = drop_mapped h xs ys

signed_narrow : (s : Spot) (e : Expression) (v : Value)
    → is_narrow s.arrays (signed_in (length s.params) (length s.outer) s.names e v) ≡ true
signed_narrow s (constant k) v = refl
signed_narrow s (affine form) v = refl
signed_narrow s _ v = refl

-- a value's type is that of the tree
pub type_is : (s : Spot) (e : Expression)
    → is_narrow s.arrays (value_at s e) ≡ widths.is_narrow s.arrays.narrow e
type_is s (read access) = refl
type_is s (constant k) = refl
type_is s (affine form) = refl
type_is s (negated e) = type_is s e
type_is s (complemented e) = type_is s e
type_is s (cast e) = refl
type_is s (binary op e f) = ap₂ (λ (a b : Bool). a && b) (type_is s e) (type_is s f)
type_is s (shifted_left e k) = type_is s e
type_is s (shifted_right e k) = type_is s e
type_is s (narrowed implied e) = type_is s e
type_is s (narrowed explicit e) = refl
type_is s (narrowed converted e) = signed_narrow s e (value_at s e)

-- a value has this worth, whatever stands behind its reads
abbrev pub Has : Spot → Expression → List ℕ → Type 0
Has s e rest =
    number_of s.arrays s.contents (point_at s) (value_at s e)
    ≡ Some (printed.worth s.arrays.narrow e (source_at s) (map (held_at s) (reads_of e) ++ rest))

converted_is : (s : Spot) (ranks : List ℕ) (m : ℕ) (e : Expression) (rest : List ℕ) → IsSpot s m
    → IsExpression ranks m (narrowed converted e) → ValueFits s.params s.outer s.given e
    → Has s (narrowed converted e) rest
converted_is s ranks m (constant k) rest at is fit =
    let small = is.0 in
    ap (λ (o : Option ℤ). when o (λ z. Some (printed.residue true z))) (kept_wide (pos k) (omega (arith, small)))
converted_is s ranks m (affine form) rest at is fit =
    let long = at.long in
    let entries = is.1.entries in
    ap (λ (o : Option ℤ). when o (λ z. Some (printed.residue true z)))
    (source_form_worth s.params s.outer s.given s.names form at.count (omega (arith, long, entries)) fit)
converted_is s ranks m _ rest at is fit = absurd is.0

pub value_is : (s : Spot) (ranks : List ℕ) (m : ℕ) (b : Bool) (e : Expression) (rest : List ℕ) → IsSpot s m
    → widths.IsTypedAs s.arrays.narrow b e → IsExpression ranks m e → ValueFits s.params s.outer s.given e
    → AreInside s (reads_of e) → Has s e rest
value_is s ranks m b (negated e) rest at type is fit inside =
    typed (number_of s.arrays s.contents (point_at s) (value_at s e)) _ (is_narrow s.arrays (value_at s e))
    (widths.is_narrow s.arrays.narrow e) (λ t a. Some ((printed.modulus t - a) % printed.modulus t))
    (value_is s ranks m false e rest at type.1 is fit inside) (type_is s e)
value_is s ranks m b (complemented e) rest at type is fit inside =
    typed (number_of s.arrays s.contents (point_at s) (value_at s e)) _ (is_narrow s.arrays (value_at s e))
    (widths.is_narrow s.arrays.narrow e) (λ t a. Some (printed.modulus t - 1 - a))
    (value_is s ranks m false e rest at type.1 is fit inside) (type_is s e)
value_is s ranks m b (binary op e f) rest at type is fit inside =
    let h = held_at s in
    let xs = reads_of e in
    let ys = reads_of f in
    let behind = map h ys ++ rest in
    let all : map h (xs ++ ys) ++ rest ≡ map h xs ++ behind =
    ap (λ (zs : List ℕ). zs ++ rest) (map-append h xs ys) ∙ append_assoc (map h xs) (map h ys) rest in
    let left = value_is s ranks m false e behind at type.1 is.0 fit.0 (λ a i. inside a (in_front a xs ys i)) in
    let right = value_is s ranks m false f rest at type.2 is.1 fit.1 (λ a i. inside a (in_back a xs ys i)) in
    let narrow = s.arrays.narrow in
    let q = source_at s in
    let v = printed.worth narrow e q (map h xs ++ behind) in
    let w = printed.worth narrow f q behind in
    let t = widths.is_narrow narrow (binary op e f) in
    one (number_of s.arrays s.contents (point_at s) (value_at s e)) v
    (λ x. when (number_of s.arrays s.contents (point_at s) (value_at s f))
    (λ y. Some (printed.made (is_narrow s.arrays (value_at s (binary op e f))) op x y))) _ left
    (typed (number_of s.arrays s.contents (point_at s) (value_at s f)) w
    (is_narrow s.arrays (value_at s (binary op e f))) t (λ u y. Some (printed.made u op v y)) right
    (type_is s (binary op e f))
    ∙ (ap (λ (zs : List ℕ). Some (printed.made t op v (printed.worth narrow f q zs))) (sym (drop_mapped h xs behind))
    ∙ ap (λ (zs : List ℕ). Some (printed.worth narrow (binary op e f) q zs)) (sym all)))
value_is s ranks m b (shifted_left e k) rest at type is fit inside =
    typed (number_of s.arrays s.contents (point_at s) (value_at s e)) _ (is_narrow s.arrays (value_at s e))
    (widths.is_narrow s.arrays.narrow e)
    (λ t a. if nat_lt k (widths.bits t) then Some ((a * 2 ^ k) % printed.modulus t) else None)
    (value_is s ranks m false e rest at type.2 is.1 fit inside) (type_is s e)
    ∙ counted k (widths.is_narrow s.arrays.narrow e) _ (subst (λ (t : Bool). k < widths.bits t) (sym type.0) type.1)
value_is s ranks m b (shifted_right e k) rest at type is fit inside =
    typed (number_of s.arrays s.contents (point_at s) (value_at s e)) _ (is_narrow s.arrays (value_at s e))
    (widths.is_narrow s.arrays.narrow e) (λ t a. if nat_lt k (widths.bits t) then Some (a / 2 ^ k) else None)
    (value_is s ranks m false e rest at type.2 is.1 fit inside) (type_is s e)
    ∙ counted k (widths.is_narrow s.arrays.narrow e) _ (subst (λ (t : Bool). k < widths.bits t) (sym type.0) type.1)
value_is s ranks m true _ rest at type is fit inside = absurd type
value_is s ranks m false (read access) rest at type is fit inside =
    ap (λ (o : Option Cell). when o (λ q. Some (held s.arrays.extents s.contents q)))
    (found_is s ranks m access at is fit (inside access (inl refl)))
value_is s ranks m false (constant k) rest at type is fit inside =
    ap (λ (b : Bool). if b then Some k else None) (lt-ltb k (2 ^ 64) is)
value_is s ranks m false (affine form) rest at type is fit inside =
    let long = at.long in
    let entries = is.entries in
    ap (λ (o : Option ℤ). when o (λ z. Some (printed.residue false z)))
    (source_form_worth s.params s.outer s.given s.names form at.count (omega (arith, long, entries)) fit)
value_is s ranks m false (cast e) rest at type is fit inside =
    ap (λ (o : Option ℕ). when o (λ a. Some a)) (value_is s ranks m false e rest at type is fit inside)
value_is s ranks m false (narrowed implied e) rest at type is fit inside =
    value_is s ranks m true e rest at type is.1 fit inside
value_is s ranks m false (narrowed explicit e) rest at type is fit inside =
    ap (λ (o : Option ℕ). when o (λ a. Some (a % 2 ^ 32)))
    (value_is s ranks m false e rest at type is.1 fit inside)
value_is s ranks m false (narrowed converted e) rest at type is fit inside = converted_is s ranks m e rest at is fit
