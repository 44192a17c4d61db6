-- Expressions of forms are worth what the forms are, where each number on the way fits.
use Rattle.scop_syntax.proofs.Common.{◌≡◌, ◌∙◌, ap, sym, subst, refl, ℕ, zero, suc, ◌+◌, ◌^◌, Bool, true, false, ◌&&◌}
use Rattle.scop_syntax.proofs.Common.{if◌then◌else◌, ℤ, pos, negsuc, neg_ℤ, ◌+ℤ◌, ◌-ℤ◌, ◌*ℤ◌, List, [], ◌∷◌, ◌++◌}
use Rattle.scop_syntax.proofs.Common.{length, take, drop, arith, ints, Option, Some, None, slice_get, ◌≤◌, zeros}
use Rattle.scop_syntax.proofs.Common.{length-zeros, dot-zeros, ltb-true, length-drop, length-take-le, take-append-drop}
use Rattle.scop_syntax.proofs.Common.{dot, dot-append, Affine, value_of, mul_neg_left}
use Rattle.std.proofs.lemmas.Bool.{lt-ltb}
use Rattle.std.proofs.lemmas.List.{length-append}
use Rattle.form_text.specs.Reading.{when}
use Rattle.c_printer.specs.Forms.{turned, spread}
use Rattle.c_meaning.specs.Syntax.{Expression, number, opposite}
use Rattle.c_meaning.specs.Expressions.{kept, is_int, worth}
use Rattle.c_meaning.specs.Programs.{integer, factor, opposed, with_term, with_constant, behind, from, tree_expression}
use Rattle.c_meaning.specs.Programs.{source_expression}
use Rattle.c_meaning.specs.Narrow.{SourceFormFits, Fits, SumsFit, TreeFormFits}

pub kept_wide : (z : ℤ) → Fits z → kept false z ≡ Some z
kept_wide (pos n) h = ap (λ (t : Bool). if t then Some (pos n) else None) (lt-ltb n (2 ^ 63) h)
kept_wide (negsuc n) h =
    ap (λ (t : Bool). if t then Some (negsuc n) else None) (lt-ltb n (2 ^ 63) (omega (arith, h)))

pub kept_of : (t : Bool) (z : ℤ) → t ≡ false → Fits z → kept t z ≡ Some z
kept_of t z e h = subst (λ (s : Bool). kept s z ≡ Some z) (sym e) (kept_wide z h)

pub first_wide : (a b : Bool) → a ≡ false → (a && b) ≡ false
first_wide a b e = ap (λ (t : Bool). t && b) e

pub second_wide : (a b : Bool) → b ≡ false → (a && b) ≡ false
second_wide true b e = e
second_wide false b e = refl

-- both operands have values
pub two : (o q : Option ℤ) (a b : ℤ) (f : ℤ → ℤ → Option ℤ) → o ≡ Some a → q ≡ Some b
    → when o (λ x. when q (λ y. f x y)) ≡ f a b
two o q a b f e g =
    ap (λ (r : Option ℤ). when r (λ x. when q (λ y. f x y))) e ∙ ap (λ (r : Option ℤ). when r (λ y. f a y)) g

pub some_same : (a b : ℤ) → a ≡ b → Some a ≡ Some b
some_same a b e = ap (λ (z : ℤ). Some z) e

pub opposite_fits : (z : ℤ) → Fits z → Fits (neg_ℤ z)
opposite_fits (pos zero) h = h
opposite_fits (pos (suc n)) h = h
opposite_fits (negsuc n) h = h

factor_wide : (m k : ℕ) → is_int (factor m k) ≡ false
factor_wide zero k = refl
factor_wide (suc zero) k = refl
factor_wide (suc (suc m)) k = second_wide (is_int (number (suc (suc m)))) false refl

factor_worth : (p : List ℤ) (m k : ℕ) (y : ℤ) → slice_get p k ≡ Some y → Fits (pos m) → Fits (pos m *ℤ y)
    → worth p (factor m k) ≡ Some (pos m *ℤ y)
factor_worth p zero k y at h g =
    two (kept false (pos 0)) (slice_get p k) (pos 0) y (λ a b. kept false (a *ℤ b)) (kept_wide (pos 0) h) at
    ∙ kept_wide (pos 0 *ℤ y) g
factor_worth p (suc zero) k y at h g = at ∙ some_same y (pos 1 *ℤ y) (omega (arith, ints))
factor_worth p (suc (suc m)) k y at h g =
    let t = is_int (number (suc (suc m))) && false in
    two (kept false (pos (suc (suc m)))) (slice_get p k) (pos (suc (suc m))) y (λ a b. kept t (a *ℤ b))
    (kept_wide (pos (suc (suc m))) h) at
    ∙ kept_of t (pos (suc (suc m)) *ℤ y) (second_wide (is_int (number (suc (suc m)))) false refl) g

-- the opposite of a numeral is of its type
pub numeral_opposed : (p : List ℤ) (m : ℕ) → Fits (negsuc m) → worth p (opposite (number (suc m))) ≡ Some (negsuc m)
numeral_opposed p m h =
    ap (λ (o : Option ℤ). when o (λ a. kept (is_int (number (suc m))) (neg_ℤ a))) (kept_wide (pos (suc m)) h)
    ∙ by_type (is_int (number (suc m))) refl
  where
    by_type : (t : Bool) → is_int (number (suc m)) ≡ t → kept t (negsuc m) ≡ Some (negsuc m)
    by_type true e =
        let l = ltb-true (suc m) (2 ^ 31) e in
        ap (λ (t : Bool). if t then Some (negsuc m) else None) (lt-ltb m (2 ^ 31) (omega (arith, l)))
    by_type false e = kept_wide (negsuc m) h

pub integer_worth : (p : List ℤ) (z : ℤ) → Fits z → worth p (integer z) ≡ Some z
integer_worth p (pos n) h = kept_wide (pos n) h
integer_worth p (negsuc n) h = numeral_opposed p n h

opposed_wide : (m k : ℕ) → is_int (opposed m k) ≡ false
opposed_wide zero k = refl
opposed_wide (suc m) k = second_wide (is_int (number (suc (suc m)))) false refl

opposed_worth : (p : List ℤ) (m k : ℕ) (y : ℤ) → slice_get p k ≡ Some y → Fits (negsuc m) → Fits (negsuc m *ℤ y)
    → worth p (opposed m k) ≡ Some (negsuc m *ℤ y)
opposed_worth p zero k y at h g =
    let e : neg_ℤ y ≡ negsuc 0 *ℤ y = omega (arith, ints) in
    ap (λ (o : Option ℤ). when o (λ a. kept false (neg_ℤ a))) at
    ∙ (ap (λ (z : ℤ). kept false z) e ∙ kept_wide (negsuc 0 *ℤ y) g)
opposed_worth p (suc m) k y at h g =
    let t = is_int (number (suc (suc m))) && false in
    two (worth p (opposite (number (suc (suc m))))) (slice_get p k) (negsuc (suc m)) y (λ a b. kept t (a *ℤ b))
    (numeral_opposed p (suc m) h) at
    ∙ kept_of t (negsuc (suc m) *ℤ y) (second_wide (is_int (number (suc (suc m)))) false refl) g

with_term_wide : (e : Expression) (c : ℤ) (k : ℕ) → is_int e ≡ false → is_int (with_term e c k) ≡ false
with_term_wide e (pos zero) k w = w
with_term_wide e (pos (suc m)) k w = first_wide (is_int e) (is_int (factor (suc m) k)) w
with_term_wide e (negsuc m) k w = first_wide (is_int e) (is_int (factor (suc m) k)) w

with_term_worth : (p : List ℤ) (e : Expression) (s c y : ℤ) (k : ℕ) → worth p e ≡ Some s → is_int e ≡ false
    → slice_get p k ≡ Some y → Fits c → Fits (c *ℤ y) → Fits (s +ℤ (c *ℤ y))
    → worth p (with_term e c k) ≡ Some (s +ℤ (c *ℤ y))
with_term_worth p e s (pos zero) y k is w at h g r = is ∙ some_same s (s +ℤ (pos 0 *ℤ y)) (omega (arith, ints))
with_term_worth p e s (pos (suc m)) y k is w at h g r =
    let t = is_int e && is_int (factor (suc m) k) in
    two (worth p e) (worth p (factor (suc m) k)) s (pos (suc m) *ℤ y) (λ a b. kept t (a +ℤ b)) is
    (factor_worth p (suc m) k y at h g)
    ∙ kept_of t (s +ℤ (pos (suc m) *ℤ y)) (first_wide (is_int e) (is_int (factor (suc m) k)) w) r
with_term_worth p e s (negsuc m) y k is w at h g r =
    let t = is_int e && is_int (factor (suc m) k) in
    let f : pos (suc m) *ℤ y ≡ neg_ℤ (negsuc m *ℤ y) = mul_neg_left (negsuc m) y in
    let i : Fits (pos (suc m) *ℤ y) = subst Fits (sym f) (opposite_fits (negsuc m *ℤ y) g) in
    let d : s -ℤ (pos (suc m) *ℤ y) ≡ s +ℤ (negsuc m *ℤ y) = omega (arith, ints, f) in
    two (worth p e) (worth p (factor (suc m) k)) s (pos (suc m) *ℤ y) (λ a b. kept t (a -ℤ b)) is
    (factor_worth p (suc m) k y at h i)
    ∙ (ap (λ (z : ℤ). kept t z) d
    ∙ kept_of t (s +ℤ (negsuc m *ℤ y)) (first_wide (is_int e) (is_int (factor (suc m) k)) w) r)

with_constant_worth : (p : List ℤ) (e : Expression) (s z : ℤ) → worth p e ≡ Some s → is_int e ≡ false → Fits z
    → Fits (s +ℤ z) → worth p (with_constant e z) ≡ Some (s +ℤ z)
with_constant_worth p e s (pos zero) is w h r = is ∙ some_same s (s +ℤ pos 0) (omega (arith, ints))
with_constant_worth p e s (pos (suc m)) is w h r =
    let t = is_int e && is_int (number (suc m)) in
    two (worth p e) (kept false (pos (suc m))) s (pos (suc m)) (λ a b. kept t (a +ℤ b)) is (kept_wide (pos (suc m)) h)
    ∙ kept_of t (s +ℤ pos (suc m)) (first_wide (is_int e) (is_int (number (suc m))) w) r
with_constant_worth p e s (negsuc m) is w h r =
    let t = is_int e && is_int (number (suc m)) in
    let d : s -ℤ pos (suc m) ≡ s +ℤ negsuc m = omega (arith, ints) in
    two (worth p e) (kept false (pos (suc m))) s (pos (suc m)) (λ a b. kept t (a -ℤ b)) is (kept_wide (pos (suc m)) h)
    ∙ (ap (λ (z : ℤ). kept t z) d ∙ kept_of t (s +ℤ negsuc m) (first_wide (is_int e) (is_int (number (suc m))) w) r)

here : (p : List ℤ) (k : ℕ) (y : ℤ) (ys : List ℤ) → ((i : ℕ) → slice_get p (k + i) ≡ slice_get (y ∷ ys) i)
    → slice_get p k ≡ Some y
here p k y ys a = subst (λ j. slice_get p j ≡ Some y) (omega arith) (a 0)

next : (p : List ℤ) (k : ℕ) (y : ℤ) (ys : List ℤ) → ((i : ℕ) → slice_get p (k + i) ≡ slice_get (y ∷ ys) i)
    → (i : ℕ) → slice_get p (suc k + i) ≡ slice_get ys i
next p k y ys a i =
    subst (λ j. slice_get p j ≡ slice_get ys i) (omega arith) (a (suc i))

behind_worth : (p : List ℤ) (e : Expression) (s : ℤ) (k : ℕ) (cs : List ℤ) (z : ℤ) (ys : List ℤ)
    → worth p e ≡ Some s → is_int e ≡ false → ((i : ℕ) → slice_get p (k + i) ≡ slice_get ys i) → SumsFit s cs ys z
    → worth p (behind e k (length ys) cs z) ≡ Some (s +ℤ (dot cs ys +ℤ z))
behind_worth p e s k [] z ys is w a f =
    with_constant_worth p e s z is w f.0 f.1
    ∙ some_same (s +ℤ z) (s +ℤ (pos 0 +ℤ z)) (omega (arith, ints))
behind_worth p e s k (c ∷ cs) z [] is w a f =
    with_constant_worth p e s z is w f.0 f.1
    ∙ some_same (s +ℤ z) (s +ℤ (pos 0 +ℤ z)) (omega (arith, ints))
behind_worth p e s k (c ∷ cs) z (y ∷ ys) is w a f =
    behind_worth p (with_term e c k) (s +ℤ (c *ℤ y)) (suc k) cs z ys
    (with_term_worth p e s c y k is w (here p k y ys a) f.0 f.1 f.2) (with_term_wide e c k w) (next p k y ys a) f.3
    ∙ some_same ((s +ℤ (c *ℤ y)) +ℤ (dot cs ys +ℤ z)) (s +ℤ (((c *ℤ y) +ℤ dot cs ys) +ℤ z)) (omega (arith, ints))

pub from_worth : (p : List ℤ) (k : ℕ) (cs : List ℤ) (z : ℤ) (ys : List ℤ)
    → ((i : ℕ) → slice_get p (k + i) ≡ slice_get ys i) → SumsFit (pos 0) cs ys z
    → worth p (from k (length ys) cs z) ≡ Some (dot cs ys +ℤ z)
from_worth p k [] z ys a f = integer_worth p z f.0 ∙ some_same z (pos 0 +ℤ z) (omega (arith, ints))
from_worth p k (c ∷ cs) z [] a f = integer_worth p z f.0 ∙ some_same z (pos 0 +ℤ z) (omega (arith, ints))
from_worth p k (pos zero ∷ cs) z (y ∷ ys) a f =
    let e : pos 0 +ℤ (pos 0 *ℤ y) ≡ pos 0 = omega (arith, ints) in
    from_worth p (suc k) cs z ys (next p k y ys a) (subst (λ (s : ℤ). SumsFit s cs ys z) e f.3)
    ∙ some_same (dot cs ys +ℤ z) (((pos 0 *ℤ y) +ℤ dot cs ys) +ℤ z) (omega (arith, ints))
from_worth p k (pos (suc m) ∷ cs) z (y ∷ ys) a f =
    let c = pos (suc m) in
    behind_worth p (factor (suc m) k) (pos 0 +ℤ (c *ℤ y)) (suc k) cs z ys
    (factor_worth p (suc m) k y (here p k y ys a) f.0 f.1
    ∙ some_same (c *ℤ y) (pos 0 +ℤ (c *ℤ y)) (omega (arith, ints))) (factor_wide (suc m) k) (next p k y ys a) f.3
    ∙ some_same ((pos 0 +ℤ (c *ℤ y)) +ℤ (dot cs ys +ℤ z)) (((c *ℤ y) +ℤ dot cs ys) +ℤ z) (omega (arith, ints))
from_worth p k (negsuc m ∷ cs) z (y ∷ ys) a f =
    let c = negsuc m in
    behind_worth p (opposed m k) (pos 0 +ℤ (c *ℤ y)) (suc k) cs z ys
    (opposed_worth p m k y (here p k y ys a) f.0 f.1
    ∙ some_same (c *ℤ y) (pos 0 +ℤ (c *ℤ y)) (omega (arith, ints))) (opposed_wide m k) (next p k y ys a) f.3
    ∙ some_same ((pos 0 +ℤ (c *ℤ y)) +ℤ (dot cs ys +ℤ z)) (((c *ℤ y) +ℤ dot cs ys) +ℤ z) (omega (arith, ints))

-- coefficients in the order of the text have the same value
turned_value : (cs params loops : List ℤ) → length cs ≡ length loops + length params
    → dot (turned (length loops) cs) (params ++ loops) ≡ dot cs (loops ++ params)
turned_value cs params loops h =
    let d = length loops in
    let l : length (take d cs) ≡ d = length-take-le d cs (omega (arith, h)) in
    let k = length-drop d cs in
    let m : length (drop d cs) ≡ length params = omega (arith, h, k) in
    let a = dot-append (drop d cs) (take d cs) params loops m in
    let c = dot-append (take d cs) (drop d cs) loops params l in
    let e = ap (λ (xs : List ℤ). dot xs (loops ++ params)) (take-append-drop d cs) in
    omega (arith, ints, a, c, e)

pub all_from : (p : List ℤ) (i : ℕ) → slice_get p (0 + i) ≡ slice_get p i
all_from p i = ap (λ (j : ℕ). slice_get p j) (omega arith)

-- a form of the tree is worth its value
pub tree_form_worth : (params outer : List ℤ) (form : Affine)
    → length form.coefficients ≡ length outer + length params → TreeFormFits form params outer
    → worth (params ++ outer) (tree_expression (length params) (length outer) form)
    ≡ Some (value_of form (outer ++ params))
tree_form_worth params outer form h f =
    let cs = turned (length outer) form.coefficients in
    let p = params ++ outer in
    ap (λ (n : ℕ). worth p (from 0 n cs form.constant)) (sym (length-append params outer))
    ∙ (from_worth p 0 cs form.constant p (all_from p) f
    ∙ ap (λ (d : ℤ). Some (d +ℤ form.constant)) (turned_value form.coefficients params outer h))

-- a form of the source has no coefficient for loops of the tree
spread_value : (cs params outer given : List ℤ) → length params ≤ length cs
    → dot (spread (length params) (length outer) cs) (params ++ (outer ++ given)) ≡ dot cs (params ++ given)
spread_value cs params outer given h =
    let m = length params in
    let back = drop m cs in
    let l : length (take m cs) ≡ m = length-take-le m cs h in
    let a = dot-append (take m cs) (zeros (length outer) ++ back) params (outer ++ given) l in
    let b = dot-append (zeros (length outer)) back outer given (length-zeros (length outer)) in
    let c = dot-zeros (length outer) outer in
    let d = dot-append (take m cs) back params given l in
    let e = ap (λ (xs : List ℤ). dot xs (params ++ given)) (take-append-drop m cs) in
    omega (arith, ints, a, b, c, d, e)

-- a form of the source is worth its value
pub source_form_worth : (params outer given : List ℤ) (n : ℕ) (form : Affine)
    → n ≡ length (params ++ (outer ++ given)) → length params ≤ length form.coefficients
    → SourceFormFits params outer given form
    → worth (params ++ (outer ++ given)) (source_expression (length params) (length outer) n form)
    ≡ Some (value_of form (params ++ given))
source_form_worth params outer given n form count long f =
    let cs = spread (length params) (length outer) form.coefficients in
    let p = params ++ (outer ++ given) in
    ap (λ (k : ℕ). worth p (from 0 k cs form.constant)) count
    ∙ (from_worth p 0 cs form.constant p (all_from p) f
    ∙ ap (λ (d : ℤ). Some (d +ℤ form.constant)) (spread_value form.coefficients params outer given long))
