-- A derivation that ends in a contradiction shows that its rows have no whole point.
use Rattle.scop_syntax.proofs.Common.{◌≡◌, ℕ, zero, suc, Bool, true, false, ℤ, pos, negsuc, ◌*ℤ◌, neg_ℤ, ◌≤ℤ◌, ◌<ℤ◌}
use Rattle.scop_syntax.proofs.Common.{List, [], ◌∷◌, ◌++◌, length, All, refl, sym, ◌∙◌, ap, subst, arith, Option, Some}
use Rattle.scop_syntax.proofs.Common.{None, Result, Ok, Err, if◌then◌else◌, ints, All-nil, All-cons, All-append}
use Rattle.scop_syntax.proofs.Common.{All-head, All-tail, Affine, form_of, value_of, values_of, floor, remainder, dot}
use Rattle.scop_syntax.proofs.Common.{floor_is, floor_at_least, mul_distrib_left, mul_assoc_int, mul_neg_left}
use Rattle.scop_syntax.proofs.Common.{mul_comm_int, mul_zero_left, mul_not_negative, value_of-composed}
use Rattle.whole_numbers.specs.Floor.{floors}
use Rattle.wide_math.specs.declared.Wide.{Wide}
use Rattle.affine_forms.specs.Parts.{variables_of}
use Rattle.affine_forms.specs.Runs.{compose_run}
use Rattle.affine_forms.proofs.Values.{compose_run-exact, compose_run-variables}
use Rattle.plan_check.specs.declared.lines.Term.{Term}
use Rattle.plan_check.specs.declared.lines.Fault.{Fault}
use Rattle.plan_check.specs.declared.lines.Fault.TheVariants as fault
use Rattle.plan_check.specs.Derivations.{row_at, in_front, named, factors_of, is_zero, are_zero, is_negative}
use Rattle.plan_check.specs.Derivations.{are_multiples, divided, is_contradiction, held, sum_said, quotient_said}
use Rattle.plan_check.specs.Derivations.{row_said, Told, then_row, derived, IsLine, Step}

-- z passes
zero_is : (z : ℤ) → is_zero z ≡ true → z ≡ pos 0
zero_is (pos zero) h = refl
zero_is (pos (suc n)) h = absurd cc
zero_is (negsuc n) h = absurd cc

-- both of two tests hold
both : (a b : Bool) → (if a then b else false) ≡ true → (a ≡ true) × (b ≡ true)
both true b h = (refl, h)
both false b h = absurd cc

-- a divisor of each number: the product of the quotients' with a point
pub dot_floors : (d : ℤ) (xs point : List ℤ) → are_multiples d xs ≡ true
    → d *ℤ dot (floors d xs) point ≡ dot xs point
dot_floors d [] point h = let z = mul_comm_int d (pos 0) in let y = mul_zero_left d in omega (arith, ints)
dot_floors d (x ∷ xs) [] h = let z = mul_comm_int d (pos 0) in let y = mul_zero_left d in omega (arith, ints)
dot_floors d (x ∷ xs) (p ∷ ps) h =
    let tests = both (is_zero (remainder x d)) (are_multiples d xs) h in
    let here = zero_is (remainder x d) tests.0 in
    let more = dot_floors d xs ps tests.1 in
    let s = mul_distrib_left (floor x d *ℤ p) (dot (floors d xs) ps) d in
    let a = mul_assoc_int d (floor x d) p in
    let e : d *ℤ floor x d ≡ x = omega (arith, ints) in
    let f = ap (λ (z : ℤ). z *ℤ p) e in
    omega (arith, ints)

-- a row that is at least 0 is so too when it is divided and rounded down
pub divided_kept : (d : ℤ) (f : Affine) (point : List ℤ) → pos 1 ≤ℤ d → are_multiples d f.coefficients ≡ true
    → pos 0 ≤ℤ value_of f point → pos 0 ≤ℤ value_of (divided d f) point
divided_kept d f point positive h at =
    let v = dot (floors d f.coefficients) point in
    let e = dot_floors d f.coefficients point h in
    let above : pos 0 <ℤ d = omega (arith, ints) in
    let law = floor_at_least f.constant d (floor f.constant d) (neg_ℤ v) above (floor_is f.constant d above) in
    let n = mul_neg_left v d in
    let c = mul_comm_int d v in
    let below : (neg_ℤ v *ℤ d) ≤ℤ f.constant = omega (arith, ints) in
    let least = law.1 below in
    omega (arith, ints)

-- rows that terms name are among the rows
row_kept : (P : Affine → Type 0) (rows : List Affine) (k : ℕ) (g : Affine) → All P rows → row_at rows k ≡ Some g → P g
row_kept P rows zero g all h = absurd cc
row_kept P [] (suc k) g all h = absurd cc
row_kept P (r ∷ rows) (suc zero) g all h =
    let e : r ≡ g = cc in subst P e (All-head P r rows all)
row_kept P (r ∷ rows) (suc (suc k)) g all h = row_kept P rows (suc k) g (All-tail P r rows all) h

in_front_is : (g : Option Affine) (gs : Option (List Affine)) (hs : List Affine) → in_front g gs ≡ Some hs
    → (x : Affine) × (xs : List Affine) × (g ≡ Some x) × (gs ≡ Some xs) × (hs ≡ x ∷ xs)
in_front_is None gs hs h = absurd cc
in_front_is (Some x) None hs h = absurd cc
in_front_is (Some x) (Some xs) hs h = (x, xs, refl, refl, cc)

pub named_sized : (rows : List Affine) (terms : List Term) (gs : List Affine) → named rows terms ≡ Some gs
    → length gs ≡ length terms
named_sized rows [] gs h = let e : [] ≡ gs = cc in ap length (sym e)
named_sized rows (t ∷ terms) gs h =
    let p = in_front_is (row_at rows t.row) (named rows terms) gs h in
    ap length p.4 ∙ ap suc (named_sized rows terms p.1 p.3)

pub named_kept : (P : Affine → Type 0) (rows : List Affine) (terms : List Term) (gs : List Affine) → All P rows
    → named rows terms ≡ Some gs → All P gs
named_kept P rows [] gs all h = let e : [] ≡ gs = cc in subst (All P) e (All-nil P)
named_kept P rows (t ∷ terms) gs all h =
    let p = in_front_is (row_at rows t.row) (named rows terms) gs h in
    subst (All P) (sym p.4)
    (All-cons P p.0 p.1 (row_kept P rows t.row p.0 all p.2) (named_kept P rows terms p.1 all p.3))

-- the sum of rows that are at least 0
dot_kept : (terms : List Term) (gs : List Affine) (point : List ℤ) → All (λ t. pos 1 ≤ℤ t.factor) terms
    → All (λ f. pos 0 ≤ℤ value_of f point) gs → pos 0 ≤ℤ dot (factors_of terms) (values_of gs point)
dot_kept [] gs point h k = omega (arith, ints)
dot_kept (t ∷ terms) [] point h k = omega (arith, ints)
dot_kept (t ∷ terms) (g ∷ gs) point h k =
    let factor = All-head (λ (t : Term). pos 1 ≤ℤ t.factor) t terms h in
    let row = All-head (λ f. pos 0 ≤ℤ value_of f point) g gs k in
    let product = mul_not_negative t.factor (value_of g point) (omega (arith, ints)) row in
    let more = dot_kept terms gs point (All-tail (λ (t : Term). pos 1 ≤ℤ t.factor) t terms h)
    (All-tail (λ f. pos 0 ≤ℤ value_of f point) g gs k) in
    omega (arith, ints)

held_is : (r : Result Affine Wide) (f : Affine) → held r ≡ Ok f → r ≡ Ok f
held_is (Ok x) f h = let e : x ≡ f = cc in ap (λ (g : Affine). Ok g) e
held_is (Err w) f h = absurd cc

-- what is said of a row that is a sum, and of one that is divided
pub quotient_is : (d : ℤ) (all : Result Affine Fault) (g : Affine) → quotient_said d all ≡ Ok g
    → (f : Affine) × (all ≡ Ok f) × (are_multiples d f.coefficients ≡ true) × (g ≡ divided d f)
quotient_is d (Err e) g h = absurd cc
quotient_is d (Ok f) g h =
    let c = chosen (are_multiples d f.coefficients) fault.Division (divided d f) g h in (f, refl, c.0, c.1)
  where
    chosen : (b : Bool) (w : Fault) (x y : Affine) → (if b then Ok x else Err w) ≡ Ok y → (b ≡ true) × (y ≡ x)
    chosen true w x y e = (refl, cc)
    chosen false w x y e = absurd cc

sum_is : (n : ℕ) (terms : List Term) (found : Option (List Affine)) (f : Affine) → sum_said n terms found ≡ Ok f
    → (gs : List Affine) × (found ≡ Some gs) × (compose_run (form_of (factors_of terms) (pos 0)) gs n ≡ Ok f)
sum_is n terms None f h = absurd cc
sum_is n terms (Some gs) f h =
    (gs, refl, held_is (compose_run (form_of (factors_of terms) (pos 0)) gs n) f h)

-- a line's row is over as many variables
pub row_said_sized : (n : ℕ) (rows : List Affine) (line : Step) (g : Affine) → All (λ f. variables_of f ≡ n) rows
    → row_said n rows line ≡ Ok g → variables_of g ≡ n
row_said_sized n rows line g sized run =
    let terms = line.terms in
    let q = quotient_is line.divisor (sum_said n terms (named rows terms)) g run in
    let s = sum_is n terms (named rows terms) q.0 q.1 in
    let over = named_kept (λ f. variables_of f ≡ n) rows terms s.0 sized s.1 in
    let size = compose_run-variables (form_of (factors_of terms) (pos 0)) s.0 n q.0 over s.2 in
    subst (λ (h : Affine). variables_of h ≡ n) (sym q.3) (floors_sized line.divisor q.0.coefficients ∙ size)
  where
    floors_sized : (d : ℤ) (xs : List ℤ) → length (floors d xs) ≡ length xs
    floors_sized d [] = refl
    floors_sized d (x ∷ xs) = ap suc (floors_sized d xs)

-- and is at least 0 where all rows before it are
pub row_said_kept : (n : ℕ) (rows : List Affine) (line : Step) (g : Affine) (point : List ℤ)
    → All (λ f. variables_of f ≡ n) rows → IsLine line → row_said n rows line ≡ Ok g
    → All (λ f. pos 0 ≤ℤ value_of f point) rows → pos 0 ≤ℤ value_of g point
row_said_kept n rows line g point sized fits run at =
    let terms = line.terms in
    let q = quotient_is line.divisor (sum_said n terms (named rows terms)) g run in
    let s = sum_is n terms (named rows terms) q.0 q.1 in
    let over = named_kept (λ f. variables_of f ≡ n) rows terms s.0 sized s.1 in
    let kept = named_kept (λ f. pos 0 ≤ℤ value_of f point) rows terms s.0 at s.1 in
    let exact = compose_run-exact (form_of (factors_of terms) (pos 0)) s.0 n q.0 over s.2 in
    let value = ap (λ (f : Affine). value_of f point) exact
    ∙ value_of-composed (form_of (factors_of terms) (pos 0)) s.0 n point in
    let d = dot_kept terms s.0 point fits.factors kept in
    let least : pos 0 ≤ℤ value_of q.0 point = omega (arith, ints) in
    subst (λ (h : Affine). pos 0 ≤ℤ value_of h point) (sym q.3)
    (divided_kept line.divisor q.0 point fits.divisor q.2 least)

-- a row without coefficients has its constant as its value
zero_dot : (xs point : List ℤ) → are_zero xs ≡ true → dot xs point ≡ pos 0
zero_dot [] point h = refl
zero_dot (x ∷ xs) [] h = refl
zero_dot (x ∷ xs) (p ∷ ps) h =
    let tests = both (is_zero x) (are_zero xs) h in
    let here = ap (λ (z : ℤ). z *ℤ p) (zero_is x tests.0) in
    let z = mul_zero_left p in
    let more = zero_dot xs ps tests.1 in
    omega (arith, ints)

negative_is : (z : ℤ) → is_negative z ≡ true → z <ℤ pos 0
negative_is (pos n) h = absurd cc
negative_is (negsuc n) h = omega (arith, ints)

pub no_point : (f : Affine) (point : List ℤ) → is_contradiction f ≡ true → pos 0 ≤ℤ value_of f point → ⊥
no_point f point h at =
    let tests = both (are_zero f.coefficients) (is_negative f.constant) h in
    let z = zero_dot f.coefficients point tests.0 in
    let n = negative_is f.constant tests.1 in
    omega (arith, ints)

pub then_is : (k : ℕ) (r : Result Affine Fault) (next : Affine → Result Bool Told) (b : Bool) → then_row k r next ≡ Ok b
    → (g : Affine) × (r ≡ Ok g) × (next g ≡ Ok b)
then_is k (Err f) next b h = absurd cc
then_is k (Ok g) next b h = (g, refl, h)

-- and so is each derivation's last row
pub derived_none : (n k : ℕ) (ended : Bool) (rows : List Affine) (lines : List Step) (point : List ℤ)
    → All (λ f. variables_of f ≡ n) rows → All IsLine lines → (ended ≡ true → ⊥)
    → derived n k ended rows lines ≡ Ok true → All (λ f. pos 0 ≤ℤ value_of f point) rows → ⊥
derived_none n k true rows [] point sized fits last run at = last refl
derived_none n k false rows [] point sized fits last run at = absurd cc
derived_none n k ended rows (l ∷ lines) point sized fits last run at =
    let s = then_is (suc k) (row_said n rows l)
    (λ g. derived n (suc k) (is_contradiction g) (rows ++ g ∷ []) lines) true run in
    let g = s.0 in
    let size = row_said_sized n rows l g sized s.1 in
    let least = row_said_kept n rows l g point sized (All-head IsLine l lines fits) s.1 at in
    derived_none n (suc k) (is_contradiction g) (rows ++ g ∷ []) lines point
    (All-append (λ f. variables_of f ≡ n) rows (g ∷ []) sized
    (All-cons (λ f. variables_of f ≡ n) g [] size (All-nil (λ f. variables_of f ≡ n))))
    (All-tail IsLine l lines fits)
    (λ e. no_point g point e least)
    s.2
    (All-append (λ f. pos 0 ≤ℤ value_of f point) rows (g ∷ []) at
    (All-cons (λ f. pos 0 ≤ℤ value_of f point) g [] least (All-nil (λ f. pos 0 ≤ℤ value_of f point))))
