-- Coefficient matching: the equalities in unknowns and multipliers hold exactly where Farkas's identity does.
use Rattle.whole_numbers.proofs.Common.{◌≡◌, ℕ, zero, suc, ◌+◌, ◌<◌, ◌≤◌, ℤ, pos, negsuc, ◌+ℤ◌, ◌*ℤ◌, neg_ℤ, ◌≤ℤ◌, ◌<ℤ◌}
use Rattle.whole_numbers.proofs.Common.{List, [], ◌∷◌, ◌++◌, length, get_or, ◌↔◌, refl, sym, ◌∙◌, ap, append_assoc}
use Rattle.whole_numbers.proofs.Common.{subst, All, arith, map, ints, All-cons, All-nil, All-head, All-tail, length-map}
use Rattle.whole_numbers.proofs.Common.{get_or_past, dite, dot, multiples, zeros, Affine, form_of, mul_zero_right}
use Rattle.whole_numbers.proofs.Common.{mul_zero_left, mul_one_left, dot-append, dot-zeros, dot-multiples_right}
use Rattle.whole_numbers.proofs.Common.{length-multiples, length-zeros, get_or-sums, get_or-multiples}
use Rattle.std.proofs.lemmas.List.{length-append}
use native.Mathlib.Decide.{dec_lt}
use Rattle.fractions.specs.Fractions.{value_over, HoldsOver}
use Rattle.fractions.specs.Elimination.{coefficient_of}
use Rattle.fractions.specs.Farkas.{HoldsForSomeMore, combination, AreNotNegative, HasFarkas, form_at, matched}
use Rattle.fractions.specs.Farkas.{matched_constant, matched_from, own_rows}
use Rattle.fractions.proofs.Combination.{combination_linear, combination_constant}

zero_plus : (n : ℕ) → 0 + n ≡ n
zero_plus n = omega arith

-- one coefficient's equality
matched_value : (i : ℕ) (l : List ℤ) (gs : List Affine) (d k : ℤ) (xs : List ℤ) (m : ℤ) (ms : List ℤ) → length l
    ≡ length xs
    → value_over (matched i l gs) d (multiples k xs ++ m ∷ ms)
    ≡ (k *ℤ dot l xs) +ℤ neg_ℤ (coefficient_of i (combination ms gs))
matched_value i l gs d k xs m ms h =
    let back = map (λ g. neg_ℤ (coefficient_of i g)) gs in
    let e = dot-append l (pos 0 ∷ back) (multiples k xs) (m ∷ ms) (omega (arith, length-multiples k xs)) in
    let f = dot-multiples_right k l xs in
    let g = combination_linear ms gs i in
    let z = mul_zero_left m in
    let y = mul_zero_left d in
    omega (arith, ints)

matched_constant_value : (l : List ℤ) (gs : List Affine) (d k : ℤ) (xs : List ℤ) (m : ℤ) (ms : List ℤ) → length l
    ≡ length xs
    → value_over (matched_constant l gs) d (multiples k xs ++ m ∷ ms)
    ≡ (k *ℤ dot l xs) +ℤ neg_ℤ (m +ℤ (combination ms gs).constant)
matched_constant_value l gs d k xs m ms h =
    let back = map (λ g. neg_ℤ g.constant) gs in
    let e = dot-append l (negsuc 0 ∷ back) (multiples k xs) (m ∷ ms) (omega (arith, length-multiples k xs)) in
    let f = dot-multiples_right k l xs in
    let g = combination_constant ms gs in
    let z = mul_one_left m in
    let y = mul_zero_left d in
    omega (arith, ints)

-- all of them, coefficient by coefficient
abbrev pub Matches : ℕ → List (List ℤ) → List ℤ → List Affine → ℤ → List ℤ → ℤ → List ℤ → Type 0
Matches i ls l0 gs k xs m ms =
    ((j : ℕ) → j < length ls → k *ℤ get_or (map (λ l. dot l xs) ls) j (pos 0) ≡ coefficient_of (i + j)
    (combination ms gs))
    × (k *ℤ dot l0 xs ≡ m +ℤ (combination ms gs).constant)

pub matched_all : (i : ℕ) (ls : List (List ℤ)) (l0 : List ℤ) (gs : List Affine) (d k : ℤ) (xs : List ℤ) (m : ℤ)
    (ms : List ℤ)
    → All (λ l. length l ≡ length xs) ls → length l0 ≡ length xs
    → All (λ f. value_over f d (multiples k xs ++ m ∷ ms) ≡ pos 0) (matched_from i ls l0 gs)
    ↔ Matches i ls l0 gs k xs m ms
matched_all i [] l0 gs d k xs m ms hs h0 =
    let Zero : Affine → Type 0 = λ f. value_over f d (multiples k xs ++ m ∷ ms) ≡ pos 0 in
    let v = matched_constant_value l0 gs d k xs m ms h0 in (
      λ all. (
        λ j inside. absurd (omega arith),
        let e = All-head Zero (matched_constant l0 gs) [] all in omega
            (arith, ints),
      ),
      λ h. All-cons Zero (matched_constant l0 gs) [] (let e = h.1 in omega (arith, ints)) (All-nil Zero),
    )
matched_all i (l ∷ ls) l0 gs d k xs m ms hs h0 =
    let Zero : Affine → Type 0 = λ f. value_over f d (multiples k xs ++ m ∷ ms) ≡ pos 0 in
    let v = matched_value i l gs d k xs m ms (All-head (λ l. length l ≡ length xs) l ls hs) in
    let more = matched_all (suc i) ls l0 gs d k xs m ms (All-tail (λ l. length l ≡ length xs) l ls hs) h0 in (
      λ all.
          let e = All-head Zero (matched i l gs) (matched_from (suc i) ls l0 gs) all in
          let r = more.0 (All-tail Zero (matched i l gs) (matched_from (suc i) ls l0 gs) all) in
          (both i l ls gs k xs ms (omega (arith, ints)) r.0, r.1),
      λ h.
          let e = first i l ls gs k xs ms h.0 in
          All-cons Zero (matched i l gs) (matched_from (suc i) ls l0 gs) (omega (arith, ints))
          (more.1 (rest i l ls gs k xs ms h.0, h.1)),
    )
  where
    Linear : ℕ → List (List ℤ) → List Affine → ℤ → List ℤ → List ℤ → Type 0
    Linear i ls gs k xs ms = (j : ℕ) → j < length ls → k *ℤ get_or (map (λ l. dot l xs) ls) j (pos 0)
        ≡ coefficient_of (i + j) (combination ms gs)

    both : (i : ℕ) (l : List ℤ) (ls : List (List ℤ)) (gs : List Affine) (k : ℤ) (xs ms : List ℤ)
        → k *ℤ dot l xs ≡ coefficient_of i (combination ms gs) → Linear (suc i) ls gs k xs ms
        → Linear i (l ∷ ls) gs k xs ms
    both i l ls gs k xs ms e r zero inside = subst (λ (n : ℕ). k *ℤ dot l xs ≡ coefficient_of n (combination ms gs))
        (omega arith) e
    both i l ls gs k xs ms e r (suc j) inside =
        subst (λ (n : ℕ). k *ℤ get_or (map (λ l. dot l xs) ls) j (pos 0) ≡ coefficient_of n (combination ms gs))
        (omega arith) (r j (omega arith))

    first : (i : ℕ) (l : List ℤ) (ls : List (List ℤ)) (gs : List Affine) (k : ℤ) (xs ms : List ℤ)
        → Linear i (l ∷ ls) gs k xs ms → k *ℤ dot l xs ≡ coefficient_of i (combination ms gs)
    first i l ls gs k xs ms r = subst (λ (n : ℕ). k *ℤ dot l xs ≡ coefficient_of n (combination ms gs))
        (omega arith)
        (r 0 (omega arith))

    rest : (i : ℕ) (l : List ℤ) (ls : List (List ℤ)) (gs : List Affine) (k : ℤ) (xs ms : List ℤ)
        → Linear i (l ∷ ls) gs k xs ms → Linear (suc i) ls gs k xs ms
    rest i l ls gs k xs ms r j inside =
        subst (λ (n : ℕ). k *ℤ get_or (map (λ l. dot l xs) ls) j (pos 0) ≡ coefficient_of n (combination ms gs))
        (omega arith) (r (suc j) (omega arith))

-- the own rows say that what stands there is not negative
own_value : (front : List ℤ) (n : ℕ) (d x : ℤ) (rest : List ℤ)
    → value_over (form_of (zeros (length front) ++ pos 1 ∷ zeros n) (pos 0)) d (front ++ x ∷ rest) ≡ x
own_value front n d x rest =
    let e = dot-append (zeros (length front)) (pos 1 ∷ zeros n) front (x ∷ rest) (length-zeros (length front)) in
    let f = dot-zeros (length front) front in
    let g = dot-zeros n rest in
    let y = mul_zero_left d in
    let o = mul_one_left x in
    omega (arith, ints)

pub own_rows_hold : (front : List ℤ) (d : ℤ) (ms : List ℤ)
    → All (λ f. pos 0 ≤ℤ value_over f d (front ++ ms)) (own_rows (length front) (length ms)) ↔ AreNotNegative ms
own_rows_hold front d [] =
    (λ h. All-nil (λ x. pos 0 ≤ℤ x), λ h. All-nil (λ f. pos 0 ≤ℤ value_over f d (front ++ [])))
own_rows_hold front d (m ∷ ms) =
    let own = form_of (zeros (length front) ++ pos 1 ∷ zeros (length ms)) (pos 0) in
    let Least : Affine → Type 0 = λ f. pos 0 ≤ℤ value_over f d (front ++ m ∷ ms) in
    let v = own_value front (length ms) d m ms in
    let more = own_rows_hold (front ++ m ∷ []) d ms in
    let longer : length (front ++ m ∷ []) ≡ length front + 1 = length-append front (m ∷ []) in
    let joined : (front ++ m ∷ []) ++ ms ≡ front ++ m ∷ ms = append_assoc front (m ∷ []) ms in
    let more' : All Least (own_rows (length front + 1) (length ms))
    ↔ AreNotNegative ms = rw (longer, joined) at more in (
      λ all. All-cons (λ x. pos 0 ≤ℤ x) m ms
          (subst (λ (z : ℤ). pos 0 ≤ℤ z) v (All-head Least own (own_rows (length front + 1) (length ms)) all))
          (more'.0 (All-tail Least own (own_rows (length front + 1) (length ms)) all)),
      λ h. All-cons Least own (own_rows (length front + 1) (length ms))
          (subst (λ (z : ℤ). pos 0 ≤ℤ z) (sym v) (All-head (λ x. pos 0 ≤ℤ x) m ms h))
          (more'.1 (All-tail (λ x. pos 0 ≤ℤ x) m ms h)),
    )

pub own_rows_sized : (front : List ℤ) (d : ℤ) (ms : List ℤ) (b n : ℕ) → length front ≡ b → length ms ≡ n
    → All (λ f. pos 0 ≤ℤ value_over f d (front ++ ms)) (own_rows b n) ↔ AreNotNegative ms
own_rows_sized front d ms b n hb hn =
    let Least : Affine → Type 0 = λ f. pos 0 ≤ℤ value_over f d (front ++ ms) in
    subst (λ (c : ℕ). All Least (own_rows c n) ↔ AreNotNegative ms) hb
    (subst (λ (c : ℕ). All Least (own_rows (length front) c) ↔ AreNotNegative ms) hn (own_rows_hold front d ms))

-- past the last coefficient of all rows a combination has none
past : (n : ℕ) (ms : List ℤ) (gs : List Affine) → All (λ g. length g.coefficients ≤ n) gs → (i : ℕ) → n ≤ i
    → coefficient_of i (combination ms gs) ≡ pos 0
past n [] gs h i le = refl
past n (m ∷ ms) [] h i le = refl
past n (m ∷ ms) (g ∷ gs) h i le =
    let short = All-head (λ g. length g.coefficients ≤ n) g gs h in
    let more = past n ms gs (All-tail (λ g. length g.coefficients ≤ n) g gs h) i le in
    let s = get_or-sums (multiples m g.coefficients) (combination ms gs).coefficients i in
    let t = get_or-multiples m g.coefficients i in
    let e : coefficient_of i g ≡ pos 0 = get_or_past g.coefficients i (pos 0) (omega arith) in
    let u = ap (λ (z : ℤ). m *ℤ z) e in
    let w = mul_zero_right m in
    omega (arith, ints)

-- whole unknowns satisfy what is left when m0 and the multipliers are eliminated, exactly where the form has Farkas's
-- identity
pub matching_is_farkas : (ls : List (List ℤ)) (l0 : List ℤ) (gs : List Affine) (xs : List ℤ)
    → All (λ l. length l ≡ length xs) ls → length l0 ≡ length xs → All (λ g. length g.coefficients ≤ length ls) gs
    → HoldsForSomeMore (suc (length gs)) (matched_from 0 ls l0 gs) (own_rows (length xs) (suc (length gs)))
    (pos 1) xs
    ↔ HasFarkas gs (form_at ls l0 xs)
matching_is_farkas ls l0 gs xs hs h0 sized = (λ s. there s.factor s.more s.positive s.size s.holds, back)
  where
    linear : (k m : ℤ) (ms : List ℤ)
        → ((j : ℕ) → j < length ls → k *ℤ get_or (map (λ l. dot l xs) ls) j (pos 0)
        ≡ coefficient_of (0 + j) (combination ms gs))
        → (i : ℕ) → k *ℤ coefficient_of i (form_at ls l0 xs) ≡ coefficient_of i (combination ms gs)
    linear k m ms e i = dite (dec_lt i (length ls)) (λ inside. rw zero_plus at (e i inside))
        (λ outside.
        let none = past (length ls) ms gs sized i (omega arith) in
        let long : length (map (λ l. dot l xs) ls) ≡ length ls = length-map ls (λ l. dot l xs) in
        let g = get_or_past (map (λ l. dot l xs) ls) i (pos 0) (omega arith) in
        ap (λ (z : ℤ). k *ℤ z) g ∙ mul_zero_right k ∙ sym none)

    there : (k : ℤ) (more : List ℤ) → pos 0 <ℤ k → length more ≡ suc (length gs)
        → HoldsOver (matched_from 0 ls l0 gs) (own_rows (length xs) (suc (length gs))) (k *ℤ pos 1)
        (multiples k xs ++ more)
        → HasFarkas gs (form_at ls l0 xs)
    there k [] hk size h = absurd (omega arith)
    there k (m ∷ ms) hk size h =
        let e = (matched_all 0 ls l0 gs (k *ℤ pos 1) k xs m ms hs h0).0 h.0 in
        let o = own_rows_sized (multiples k xs) (k *ℤ pos 1) (m ∷ ms) (length xs) (suc (length gs))
        (length-multiples k xs) size in
        record {
          factor = k;
          free = m;
          multipliers = ms;
          positive = hk;
          size = omega arith;
          not_negative = o.0 h.1;
          linear = linear k m ms e.0;
          constant = e.1;
        }

    back : HasFarkas gs (form_at ls l0 xs)
        → HoldsForSomeMore (suc (length gs)) (matched_from 0 ls l0 gs) (own_rows (length xs) (suc (length gs)))
        (pos 1) xs
    back f =
        let k = f.factor in
        let m = f.free in
        let ms = f.multipliers in
        let size : length (m ∷ ms) ≡ suc (length gs) = ap suc f.size in
        let o = own_rows_sized (multiples k xs) (k *ℤ pos 1) (m ∷ ms) (length xs) (suc (length gs))
        (length-multiples k xs) size in
        record {
          factor = k;
          more = m ∷ ms;
          positive = f.positive;
          size = size;
          holds = (
            (matched_all 0 ls l0 gs (k *ℤ pos 1) k xs m ms hs h0).1
                (λ j inside. rw zero_plus (f.linear j), f.constant),
            o.1 f.not_negative,
          );
        }
