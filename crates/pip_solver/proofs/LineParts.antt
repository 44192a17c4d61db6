-- What is read off a row's line: its part, and what a cut takes off.
use Rattle.whole_numbers.proofs.Common.{◌≡◌, ℕ, zero, suc, ◌+◌, ◌<◌, ◌≤◌, ℤ, pos, neg_ℤ, ◌-ℤ◌, ◌<ℤ◌, ◌⊎◌, inl, inr}
use Rattle.whole_numbers.proofs.Common.{Bool, true, false, List, [], ◌∷◌, length, get_or, drop, map, refl, subst, ap}
use Rattle.whole_numbers.proofs.Common.{ap₂, sym, ◌∙◌, arith, ints, if◌then◌else◌, drop-map, length-drop, floor}
use Rattle.whole_numbers.proofs.Common.{remainder, form_of, mul_sub_left, mul_neg_right, mul_one_right, remainder_is}
use Rattle.std.proofs.Common.{drop-drop}
use Rattle.std.proofs.Math.ListN.{drop_of_length-le}
use Rattle.whole_numbers.proofs.Euclid.{euclid_unique}
use Rattle.checked_tableau.specs.Rows.{Row}
use Rattle.checked_tableau.specs.Moves.{line_row, cut_entries}
use Rattle.checked_tableau.specs.Nodes.{all_zero, same_list, taken_off}
use Rattle.checked_tableau.proofs.Lines.{entry_at}

-- the remainder of an opposite
pub opposite-zero : (a d : ℤ) → pos 0 <ℤ d → remainder a d ≡ pos 0 → remainder (neg_ℤ a) d ≡ pos 0
opposite-zero a d positive none =
    let e = remainder_is a d positive in
    let p = e.parts in
    let m = mul_neg_right d (floor a d) in
    (euclid_unique (neg_ℤ a) d (floor (neg_ℤ a) d) (remainder (neg_ℤ a) d) (neg_ℤ (floor a d)) (pos 0)
    (remainder_is (neg_ℤ a) d positive)
    (record { parts = omega (arith, ints); not_negative = omega (arith, ints); below = omega (arith, ints) })).1

pub opposite-more : (a d : ℤ) → pos 0 <ℤ d → pos 0 <ℤ remainder a d → remainder (neg_ℤ a) d ≡ d -ℤ remainder a d
opposite-more a d positive some =
    let e = remainder_is a d positive in
    let p = e.parts in
    let b = e.below in
    let m = mul_neg_right d (floor a d) in
    let k = mul_sub_left (neg_ℤ (floor a d)) (pos 1) d in
    let o = mul_one_right d in
    (euclid_unique (neg_ℤ a) d (floor (neg_ℤ a) d) (remainder (neg_ℤ a) d) (neg_ℤ (floor a d) -ℤ pos 1)
    (d -ℤ remainder a d) (remainder_is (neg_ℤ a) d positive)
    (record { parts = omega (arith, ints); not_negative = omega (arith, ints); below = omega (arith, ints) })).1

-- what a cut takes off, read off the line
neg-neg : (z : ℤ) → neg_ℤ (neg_ℤ z) ≡ z
neg-neg z = omega (arith, ints)

map-neg : (d : ℤ) (zs : List ℤ) → map neg_ℤ (map (λ b. neg_ℤ (remainder (neg_ℤ b) d)) zs)
    ≡ map (λ b. remainder (neg_ℤ b) d) zs
map-neg d [] = refl
map-neg d (z ∷ zs) = ap₂ (λ (y : ℤ) (ys : List ℤ). y ∷ ys) (neg-neg (remainder (neg_ℤ z) d)) (map-neg d zs)

cut-part : (d : ℤ) (es : List ℤ) → cut_entries 0 d es ≡ map (λ b. neg_ℤ (remainder (neg_ℤ b) d)) es
cut-part d [] = refl
cut-part d (e ∷ es) = ap (λ (ys : List ℤ). neg_ℤ (remainder (neg_ℤ e) d) ∷ ys) (cut-part d es)

cut-behind : (n : ℕ) (d : ℤ) (es : List ℤ) → n ≤ length es
    → drop n (cut_entries n d es) ≡ map (λ b. neg_ℤ (remainder (neg_ℤ b) d)) (drop n es)
cut-behind zero d es within = cut-part d es
cut-behind (suc n) d [] within = absurd (omega arith)
cut-behind (suc n) d (e ∷ es) within = cut-behind n d es (omega arith)

cut-at : (n : ℕ) (d : ℤ) (es : List ℤ) → n < length es
    → get_or (cut_entries n d es) n (pos 0) ≡ neg_ℤ (remainder (neg_ℤ (get_or es n (pos 0))) d)
cut-at n d [] within = absurd (omega arith)
cut-at zero d (e ∷ es) within = refl
cut-at (suc n) d (e ∷ es) within = cut-at n d es (omega arith)

pub taken-off-line : (n : ℕ) (line : List ℤ) (row : Row) → line_row line ≡ row → n + 1 < length line
    → form_of (map (λ b. remainder (neg_ℤ b) (get_or line 0 (pos 0))) (drop (n + 1 + 1) line))
    (remainder (neg_ℤ (get_or line (n + 1) (pos 0))) (get_or line 0 (pos 0)))
    ≡ taken_off n row
taken-off-line n line row is long =
    let d = get_or line 0 (pos 0) in
    let es = drop 1 line in
    let g : ℤ → ℤ = λ b. neg_ℤ (remainder (neg_ℤ b) d) in
    let size = length-drop 1 line in
    let a : drop (n + 1) (cut_entries n d es) ≡ map g (drop (n + 1 + 1) line) =
    sym (drop-drop 1 n (cut_entries n d es)) ∙ ap (λ (zs : List ℤ). drop 1 zs) (cut-behind n d es (omega arith))
    ∙ drop-map g 1 (drop n es)
    ∙ ap (λ (zs : List ℤ). map g zs) (drop-drop 1 n es ∙ drop-drop (n + 1) 1 line
    ∙ (let k : 1 + (n + 1) ≡ n + 1 + 1 = omega arith in ap (λ (i : ℕ). drop i line) k)) in
    let b : get_or (cut_entries n d es) n (pos 0) ≡ g (get_or line (n + 1) (pos 0)) =
    cut-at n d es (omega arith) ∙ ap (λ (z : ℤ). neg_ℤ (remainder (neg_ℤ z) d)) (entry_at line n) in
    subst (λ (r : Row). form_of (map (λ b. remainder (neg_ℤ b) d) (drop (n + 1 + 1) line))
    (remainder (neg_ℤ (get_or line (n + 1) (pos 0))) d) ≡ taken_off n r) is
    (sym (ap₂ (λ (zs : List ℤ) (z : ℤ). form_of (map neg_ℤ zs) (neg_ℤ z)) a b
    ∙ ap₂ (λ (zs : List ℤ) (z : ℤ). form_of zs z) (map-neg d (drop (n + 1 + 1) line))
    (neg-neg (remainder (neg_ℤ (get_or line (n + 1) (pos 0))) d))))

-- lists that are equal as far as both go
same-behind : (xs ys : List ℤ) (k : ℕ) → (length xs ≤ k) ⊎ (length ys ≤ k)
    → same_list (drop k xs) (drop k ys) ≡ same_list xs ys
    → (if all_zero (drop k xs) then all_zero (drop k ys) else false) ≡ same_list xs ys
same-behind xs ys k (inl short) kept =
    let e = drop_of_length-le xs short in
    (rw e refl) ∙ (rw e at kept)
same-behind xs ys k (inr short) kept =
    let e = drop_of_length-le ys short in
    (rw e (by_list (drop k xs))) ∙ (rw e at kept)
  where
    by_bool : (b : Bool) → (if b then true else false) ≡ b
    by_bool true = refl
    by_bool false = refl

    by_list : (zs : List ℤ) → (if all_zero zs then true else false) ≡ same_list zs []
    by_list [] = refl
    by_list (z ∷ zs) = by_bool (all_zero (z ∷ zs))

pub same-then : (xs ys : List ℤ) (k : ℕ) → (length xs ≤ k) ⊎ (length ys ≤ k)
    → same_list (drop k xs) (drop k ys) ≡ same_list xs ys
    → all_zero (drop k xs) ≡ true → all_zero (drop k ys) ≡ same_list xs ys
same-then xs ys k short kept zero_first = rw zero_first at (same-behind xs ys k short kept)

pub same-else : (xs ys : List ℤ) (k : ℕ) → (length xs ≤ k) ⊎ (length ys ≤ k)
    → same_list (drop k xs) (drop k ys) ≡ same_list xs ys
    → all_zero (drop k xs) ≡ false → false ≡ same_list xs ys
same-else xs ys k short kept some = rw some at (same-behind xs ys k short kept)
