-- What a cut takes off, and the parameter that it is tied to.
use Rattle.whole_numbers.proofs.Common.{◌≡◌, ℕ, zero, suc, ◌+◌, ◌<◌, ◌≤◌, ℤ, pos, neg_ℤ, ◌+ℤ◌, ◌-ℤ◌, ◌*ℤ◌, ◌≤ℤ◌, ◌<ℤ◌}
use Rattle.whole_numbers.proofs.Common.{Bool, true, false, Some, List, [], ◌∷◌, ◌++◌, length, get_or, map, drop, refl}
use Rattle.whole_numbers.proofs.Common.{subst, ap, ap₂, sym, ◌∙◌, arith, length-append, add-one, append_assoc}
use Rattle.whole_numbers.proofs.Common.{if◌then◌else◌, ints, length-map, length-drop, dot, zeros, NotNegative, Affine}
use Rattle.whole_numbers.proofs.Common.{value_of, floor, remainder, IsFloor, floor_is, floor_unique, mul_not_negative}
use Rattle.whole_numbers.proofs.Common.{length-zeros, dot-padded, dot-past, mul_zero_left, mul_comm_int, mul_neg_left}
use Rattle.tableau_rows.specs.Rows.{Row}
use Rattle.tableau_rows.specs.Moves.{cut_entries}
use Rattle.tableau_rows.specs.Solutions.{IsTied}
use Rattle.tableau_rows.proofs.Cuts.{length-cut, remainder_in, cut_constant}
use Rattle.lexmin_runs.specs.Nodes.{Bound, longer_row, is_zero, all_zero, same_list, is_bound_as, place_of, taken_off}
use Rattle.lexmin_runs.specs.Solutions.{AreBound}
use Rattle.lexmin_runs.proofs.AddedParameters.{dot-same, zero_true, dot-behind, value-constant}

-- what a cut takes off is not negative, and is what the cut's row has without columns
pub dot-neg : (zs p : List ℤ) → dot (map neg_ℤ zs) p ≡ pos 0 -ℤ dot zs p
dot-neg [] p = omega (arith, ints)
dot-neg (z ∷ zs) [] = omega (arith, ints)
dot-neg (z ∷ zs) (x ∷ p) = let a = mul_neg_left z x in let b = dot-neg zs p in omega (arith, ints)

pub taken_off-value : (n : ℕ) (row : Row) (p : List ℤ)
    → value_of (taken_off n row) p ≡ pos 0 -ℤ dot (cut_entries n row.denominator row.entries) (zeros n ++ pos 1 ∷ p)
taken_off-value n row p =
    let cs = cut_entries n row.denominator row.entries in
    let a = dot-behind n cs p in
    let b = dot-neg (drop (n + 1) cs) p in
    let c = ap (λ (k : ℕ). dot (drop k cs) p) (add-one n) in
    omega (arith, ints)

pub rest_not_negative : (n : ℕ) (d : ℤ) (es p : List ℤ) → pos 0 <ℤ d → NotNegative p
    → pos 0 ≤ℤ dot (map neg_ℤ (drop (suc n) (cut_entries n d es))) p
rest_not_negative n d [] p positive not = omega (arith, ints)
rest_not_negative zero d (e ∷ es) p positive not = all_rest es p not
  where
    all_rest : (es p : List ℤ) → NotNegative p → pos 0 ≤ℤ dot (map neg_ℤ (cut_entries zero d es)) p
    all_rest [] p not = omega (arith, ints)
    all_rest (e ∷ es) [] not = omega (arith, ints)
    all_rest (e ∷ es) (x ∷ p) not =
        let r = (remainder_in (neg_ℤ e) d positive).0 in
        let f : neg_ℤ (neg_ℤ (remainder (neg_ℤ e) d)) ≡ remainder (neg_ℤ e) d = omega (arith, ints) in
        let a = ap (λ (k : ℤ). k *ℤ x) f in
        let b = mul_not_negative (remainder (neg_ℤ e) d) x r not.0 in
        let c = all_rest es p not.1 in
        omega (arith, ints)
rest_not_negative (suc n) d (e ∷ es) p positive not = rest_not_negative n d es p positive not

pub taken_off_not_negative : (n : ℕ) (row : Row) (p : List ℤ) → pos 0 <ℤ row.denominator → NotNegative p
    → pos 0 ≤ℤ value_of (taken_off n row) p
taken_off_not_negative n row p positive not =
    let a = rest_not_negative n row.denominator row.entries p positive not in
    let b = (cut_constant n row.denominator row.entries positive).0 in
    let c = ap (λ (k : ℕ). dot (map neg_ℤ (drop k (cut_entries n row.denominator row.entries))) p) (add-one n) in
    omega (arith, ints)

pub taken_off_size : (n m : ℕ) (row : Row) → length row.entries ≡ n + 1 + m → length (taken_off n row).coefficients ≡ m
taken_off_size n m row size =
    let l = length-drop (n + 1) (cut_entries n row.denominator row.entries) in
    let k = length-cut n row.denominator row.entries in
    simp length-map (omega arith)

-- a parameter's value stands behind the columns and the constant
pub get_or-behind : (ys t : List ℤ) (k : ℕ) → get_or (ys ++ pos 1 ∷ t) (length ys + 1 + k) (pos 0) ≡ get_or t k (pos 0)
get_or-behind [] t k =
    let e : suc k ≡ 0 + 1 + k = omega arith in
    subst (λ (j : ℕ). get_or (pos 1 ∷ t) j (pos 0) ≡ get_or t k (pos 0)) e refl
get_or-behind (y ∷ ys) t k =
    let e : suc (length ys + 1 + k) ≡ length (y ∷ ys) + 1 + k = omega arith in
    subst (λ (j : ℕ). get_or (y ∷ (ys ++ pos 1 ∷ t)) j (pos 0) ≡ get_or t k (pos 0)) e (get_or-behind ys t k)

pub get_or-last : (p : List ℤ) (q : ℤ) → get_or (p ++ q ∷ []) (length p) (pos 0) ≡ q
get_or-last [] q = refl
get_or-last (x ∷ p) q = get_or-last p q

pub get_or-front : (p : List ℤ) (q : ℤ) (k : ℕ) → k < length p → get_or (p ++ q ∷ []) k (pos 0) ≡ get_or p k (pos 0)
get_or-front [] q k h = absurd (omega arith)
get_or-front (x ∷ p) q zero h = refl
get_or-front (x ∷ p) q (suc k) h = get_or-front p q k (omega arith)

-- a place that is found has the quotient
pub place-says : (p : List ℤ) (f : Affine) (d : ℤ) (bs : List Bound) (k : ℕ) → AreBound p bs → place_of f d bs ≡ Some k
    → (k < length p) × (get_or p k (pos 0) ≡ floor (value_of f p) d)
place-says p f d [] k are h = cc
place-says p f d (b ∷ bs) k are h = by_match (is_bound_as f d b) refl h (λ g. place-says p f d bs k are.1 g)
  where
    constants : (c : Bool) → is_zero (b.form.constant -ℤ f.constant) ≡ c
        → (if c then is_zero (b.divisor -ℤ d) else false) ≡ true
        → (b.form.constant ≡ f.constant) × (b.divisor ≡ d)
    constants true e h =
        let x = zero_true (b.form.constant -ℤ f.constant) e in let y = zero_true (b.divisor -ℤ d) h in
        (omega (arith, ints), omega (arith, ints))
    constants false e h = cc

    lists : (c : Bool) → same_list b.form.coefficients f.coefficients ≡ c
        → (if c then (if is_zero (b.form.constant -ℤ f.constant) then is_zero (b.divisor -ℤ d) else false) else false)
        ≡ true
        → (value_of b.form p ≡ value_of f p) × (b.divisor ≡ d)
    lists true e h =
        let x = dot-same b.form.coefficients f.coefficients p e in
        let y = constants (is_zero (b.form.constant -ℤ f.constant)) refl h in
        (ap₂ (λ (u v : ℤ). u +ℤ v) x y.0, y.1)
    lists false e h = cc

    by_match : (c : Bool) → is_bound_as f d b ≡ c → (if c then Some b.place else place_of f d bs) ≡ Some k
        → (place_of f d bs ≡ Some k → (k < length p) × (get_or p k (pos 0) ≡ floor (value_of f p) d))
        → (k < length p) × (get_or p k (pos 0) ≡ floor (value_of f p) d)
    by_match true e h more =
        let g : b.place ≡ k = cc in
        let s = lists (same_list b.form.coefficients f.coefficients) refl e in
        let is = are.0 in
        let v = ap₂ (λ (x y : ℤ). floor x y) s.0 s.1 in
        subst (λ (i : ℕ). (i < length p) × (get_or p i (pos 0) ≡ floor (value_of f p) d)) g (is.0, is.2 ∙ v)
    by_match false e h more = more h

-- where a cut takes off a constant, its quotient is 0; where a parameter is bound to it, it is that parameter's value
pub constant_floor : (n : ℕ) (row : Row) (p : List ℤ) → pos 0 <ℤ row.denominator
    → all_zero (taken_off n row).coefficients ≡ true → IsFloor (value_of (taken_off n row) p) row.denominator (pos 0)
constant_floor n row p positive none =
    let v = value-constant (taken_off n row) p none in
    let c = cut_constant n row.denominator row.entries positive in
    let low = c.0 in
    let high = c.1 in
    let z = mul_zero_left row.denominator in
    record { below = omega (arith, ints); above = omega (arith, ints) }

pub bound_floor : (n : ℕ) (row : Row) (p : List ℤ) (bs : List Bound) (k : ℕ) → pos 0 <ℤ row.denominator
    → AreBound p bs → place_of (taken_off n row) row.denominator bs ≡ Some k → (ys : List ℤ) → length ys ≡ n
    → IsFloor (value_of (taken_off n row) p) row.denominator (get_or (ys ++ pos 1 ∷ p) (n + 1 + k) (pos 0))
bound_floor n row p bs k positive are found ys size =
    let f = taken_off n row in
    subst (λ (z : ℤ). IsFloor (value_of f p) row.denominator z)
    (sym (subst (λ (j : ℕ). get_or (ys ++ pos 1 ∷ p) (j + 1 + k) (pos 0) ≡ get_or p k (pos 0)) size
    (get_or-behind ys p k) ∙ (place-says p f row.denominator bs k are found).1))
    (floor_is (value_of f p) row.denominator positive)

-- the bound parameters keep their values under one more
pub bound-more : (p : List ℤ) (q : ℤ) (bs : List Bound) → AreBound p bs → AreBound (p ++ q ∷ []) bs
bound-more p q [] are = tt
bound-more p q (b ∷ bs) are =
    let is = are.0 in
    let l = is.0 in
    let m = is.1 in
    let v = ap (λ (z : ℤ). floor (z +ℤ b.form.constant) b.divisor) (dot-past b.form.coefficients p (q ∷ []) is.1) in (
      (
        simp length-append (omega arith),
        simp length-append (omega arith),
        get_or-front p q b.place is.0 ∙ is.2 ∙ sym
            v,
      ),
      bound-more p q bs are.1,
    )

-- a cut of a row with one parameter more
pub cut-longer : (n : ℕ) (d : ℤ) (es : List ℤ) → pos 0 <ℤ d → n ≤ length es
    → cut_entries n d (es ++ pos 0 ∷ []) ≡ cut_entries n d es ++ pos 0 ∷ []
cut-longer zero d [] positive h =
    let z = mul_zero_left d in
    let f = floor_unique (pos 0) d (floor (pos 0) d) (pos 0) positive (floor_is (pos 0) d positive)
    (record { below = omega (arith, ints); above = omega (arith, ints) }) in
    let g = ap (λ (k : ℤ). d *ℤ k) f in
    let c = mul_comm_int d (pos 0) in
    let e : neg_ℤ (pos 0 -ℤ (d *ℤ floor (pos 0) d)) ≡ pos 0 = omega (arith, ints) in
    ap (λ (k : ℤ). k ∷ []) e
cut-longer (suc n) d [] positive h = absurd (omega arith)
cut-longer zero d (e ∷ es) positive h =
    ap (λ (zs : List ℤ). neg_ℤ (remainder (neg_ℤ e) d) ∷ zs) (cut-longer zero d es positive (omega arith))
cut-longer (suc n) d (e ∷ es) positive h =
    ap (λ (zs : List ℤ). remainder e d ∷ zs) (cut-longer n d es positive (omega arith))

-- a cut of a row with one parameter more is tied to the new one
pub tied_new : (n m : ℕ) (row : Row) (p : List ℤ) (q : ℤ) → pos 0 <ℤ row.denominator
    → length row.entries ≡ n + 1 + length p
    → length p ≡ m → IsFloor (value_of (taken_off n row) p) row.denominator q
    → IsTied n (Some (n + 1 + m)) (longer_row row) (p ++ q ∷ [])
tied_new n m row p q positive long same is ys sy =
    let d = row.denominator in
    let f = taken_off n row in
    let cs = cut_entries n d row.entries in
    let count = length-cut n d row.entries in
    let lz = length-zeros n in
    let v = zeros n ++ pos 1 ∷ p in
    let a = ap (λ (zs : List ℤ). dot zs (zeros n ++ pos 1 ∷ (p ++ q ∷ [])))
    (cut-longer n d row.entries positive (omega arith)) in
    let b = dot-padded cs 1 (zeros n ++ pos 1 ∷ (p ++ q ∷ [])) in
    let e = ap (λ (w : List ℤ). dot cs w) (append_assoc (zeros n) (pos 1 ∷ p) (q ∷ [])) in
    let g = dot-past cs v (q ∷ []) (simp length-append (omega arith)) in
    let h = taken_off-value n row p in
    let all : pos 0 -ℤ dot (cut_entries n d (row.entries ++ pos 0 ∷ [])) (zeros n ++ pos 1 ∷ (p ++ q ∷ [])) ≡ value_of
    f p
    = omega (arith, ints) in
    let j : length ys + 1 + length p ≡ n + 1 + m = omega arith in
    let t = subst (λ (k : ℕ). get_or (ys ++ pos 1 ∷ (p ++ q ∷ [])) k (pos 0) ≡ q) j
    (get_or-behind ys (p ++ q ∷ []) (length p) ∙ get_or-last p q) in
    subst (λ (z : ℤ). IsFloor z d (get_or (ys ++ pos 1 ∷ (p ++ q ∷ [])) (n + 1 + m) (pos 0))) (sym all)
    (subst (λ (z : ℤ). IsFloor (value_of f p) d z) (sym t) is)
