-- Checked steps, one after another: `checked-fits`, `checked-wide`, `chain-ok`, `chain-err`, `cross_of-exact`.
use Rattle.whole_numbers.proofs.Common.{◌≡◌, ℤ, ◌+ℤ◌, ◌-ℤ◌, ◌*ℤ◌, Bool, true, false, IsFalse, Result, Ok, Err, ◌↔◌, ◌⊎◌}
use Rattle.whole_numbers.proofs.Common.{inl, inr, refl, sym, ◌∙◌, if◌then◌else◌, ap, arith, ints, fits}
use Rattle.std.proofs.Common.{IsTrue}
use Rattle.wide_math.specs.declared.Op.{Op}
use Rattle.wide_math.specs.declared.Wide.{Wide}
use Rattle.wide_math.specs.Checked.{wide, checked, sum_of, difference_of, product_of, cross_of, cross_sum_of, ◌>>=◌}
use Rattle.wide_math.specs.declared.Op.TheVariants.{Add, Sub, Mul}

-- a number that fits is the result
pub checked-fits : (op : Op) (a b z : ℤ) → IsTrue (fits z) → checked op a b z ≡ Ok z
unfolding checked
checked-fits op a b z h = rw h

-- one that does not fit is the error that names the operation
pub checked-wide : (op : Op) (a b z : ℤ) → IsFalse (fits z) → checked op a b z ≡ Err (wide op a b)
unfolding checked
checked-wide op a b z h = rw h

-- a choice between a result and an error that gave a result
chosen-ok : (b : Bool) (w : Wide) (z y : ℤ) → (if b then Ok z else Err w) ≡ Ok y → (y ≡ z) × (b ≡ true)
chosen-ok true w z y h = (cc, refl)
chosen-ok false w z y h = cc

-- a choice that gave an error
chosen-err : (b : Bool) (w e : Wide) (z : ℤ) → (if b then Ok z else Err w) ≡ Err e → (e ≡ w) × (b ≡ false)
chosen-err true w e z h = cc
chosen-err false w e z h = (cc, refl)

-- an operation gives exactly its exact result, where that fits
pub checked-ok : (op : Op) (a b z y : ℤ) → (checked op a b z ≡ Ok y) ↔ ((y ≡ z) × IsTrue (fits z))
unfolding checked
checked-ok op a b z y = (
  chosen-ok (fits z) (wide op a b) z y,
  λ (h : (y ≡ z) × IsTrue (fits z)). checked-fits op a b z h.1 ∙ ap (λ (k : ℤ). Ok k) (sym h.0),
)

-- it gives exactly the error that names it, where its exact result does not fit
pub checked-err : (op : Op) (a b z : ℤ) (e : Wide)
    → (checked op a b z ≡ Err e) ↔ ((e ≡ wide op a b) × IsFalse (fits z))
unfolding checked
checked-err op a b z e = (
  chosen-err (fits z) (wide op a b) e z,
  λ (h : (e ≡ wide op a b) × IsFalse (fits z)). checked-wide op a b z h.1 ∙ ap (λ (w : Wide). Err w) (sym h.0),
)

-- a sum is given exactly where it fits
pub sum_of-ok : (a b y : ℤ) → (sum_of a b ≡ Ok y) ↔ ((y ≡ a +ℤ b) × IsTrue (fits (a +ℤ b)))
sum_of-ok a b y = checked-ok Add a b (a +ℤ b) y

-- a difference is given exactly where it fits
pub difference_of-ok : (a b y : ℤ) → (difference_of a b ≡ Ok y) ↔ ((y ≡ a -ℤ b) × IsTrue (fits (a -ℤ b)))
difference_of-ok a b y = checked-ok Sub a b (a -ℤ b) y

-- a product is given exactly where it fits
pub product_of-ok : (a b y : ℤ) → (product_of a b ≡ Ok y) ↔ ((y ≡ a *ℤ b) × IsTrue (fits (a *ℤ b)))
product_of-ok a b y = checked-ok Mul a b (a *ℤ b) y

-- what a chain gives: each step gave something
pub chain-ok : {A B : Type 0} (r : Result A Wide) (f : A → Result B Wide) (y : B)
    → r >>= f ≡ Ok y → (x : A) × (r ≡ Ok x) × (f x ≡ Ok y)
chain-ok (Ok x) f y h = (x, refl, h)
chain-ok (Err e) f y h = cc

-- a chain's error is that of the first step that has one
pub chain-err : {A B : Type 0} (r : Result A Wide) (f : A → Result B Wide) (e : Wide)
    → r >>= f ≡ Err e → (r ≡ Err e) ⊎ ((x : A) × (r ≡ Ok x) × (f x ≡ Err e))
chain-err (Ok x) f e h = inr (x, refl, h)
chain-err (Err d) f e h = inl (let same : d ≡ e = cc in ap (λ (w : Wide). Err w) same)

-- a b - c d, where no number on the way is too wide
pub cross_of-exact : (a b c d z : ℤ) → cross_of a b c d ≡ Ok z → z ≡ (a *ℤ b) -ℤ (c *ℤ d)
unfolding cross_of
cross_of-exact a b c d z h =
    let p = chain-ok (product_of a b) (λ (left : ℤ). product_of c d >>= λ right. difference_of left right) z h in
    let q = chain-ok (product_of c d) (λ (right : ℤ). difference_of p.0 right) z p.2 in
    let e = ((product_of-ok a b p.0).0 p.1).0 in
    let f = ((product_of-ok c d q.0).0 q.1).0 in
    let g = ((difference_of-ok p.0 q.0 z).0 q.2).0 in
    omega (arith, ints)

-- a b + c d, likewise
pub cross_sum_of-exact : (a b c d z : ℤ) → cross_sum_of a b c d ≡ Ok z → z ≡ (a *ℤ b) +ℤ (c *ℤ d)
unfolding cross_sum_of
cross_sum_of-exact a b c d z h =
    let p = chain-ok (product_of a b) (λ (left : ℤ). product_of c d >>= λ right. sum_of left right) z h in
    let q = chain-ok (product_of c d) (λ (right : ℤ). sum_of p.0 right) z p.2 in
    let e = ((product_of-ok a b p.0).0 p.1).0 in
    let f = ((product_of-ok c d q.0).0 q.1).0 in
    let g = ((sum_of-ok p.0 q.0 z).0 q.2).0 in
    omega (arith, ints)
