-- What the matching's run forms is the matching of coefficients, of the size of all its columns.
use Rattle.whole_numbers.proofs.Common.{◌≡◌, ℕ, zero, suc, ◌+◌, ℤ, pos, negsuc, neg_ℤ, List, [], ◌∷◌, ◌++◌, length}
use Rattle.whole_numbers.proofs.Common.{refl, sym, ◌∙◌, ap, ap₂, All, arith, map, Ok, ◌*◌, ints, length-map, map-append}
use Rattle.whole_numbers.proofs.Common.{All-cons, All-nil, All-head, All-tail, Affine, form_of, multiple_of_form, zeros}
use Rattle.whole_numbers.proofs.Common.{mul_neg_left, mul_one_left, get_or-multiples, length-zeros}
use Rattle.std.proofs.lemmas.List.{length-append}
use Rattle.wide_math.specs.Checked.{difference_of, ◌>>=◌}
use Rattle.wide_math.proofs.Steps.{chain-ok, difference_of-ok}
use Rattle.affine_forms.specs.Parts.{variables_of}
use Rattle.fractions.specs.Farkas.{two_rows, matched, matched_constant, matched_from, own_rows, IsHomogeneous}
use Rattle.integer_sets.specs.Constraints.{Constraints}
use Rattle.farkas.specs.declared.matching.Entry.{Entry}
use Rattle.farkas.specs.declared.matching.Entry.TheVariants as entry
use Rattle.farkas.specs.Matching.{entry_of, equality_columns_run, row_columns_run, matched_run, coefficients_run}
use Rattle.farkas.specs.Matching.{matching_run, multipliers_of}
use Rattle.farkas.specs.Meaning.{rows_of}

-- the columns of the multipliers
abbrev pub columns : Entry → List Affine → List ℤ
columns e gs = map (λ g. neg_ℤ (entry_of e g)) gs

opposite : (a b : ℤ) → difference_of (pos 0) a ≡ Ok b → b ≡ neg_ℤ a
opposite a b h = let s = ((difference_of-ok (pos 0) a b).0 h).0 in omega (arith, ints)

other_row : (e : Entry) (f : Affine) → neg_ℤ (entry_of e (multiple_of_form (negsuc 0) f)) ≡ entry_of e f
other_row (entry.Coefficient i) f =
    let g = get_or-multiples (negsuc 0) f.coefficients i in
    let n = mul_neg_left (pos 1) (entry_of (entry.Coefficient i) f) in
    let o = mul_one_left (entry_of (entry.Coefficient i) f) in
    omega (arith, ints)
other_row entry.Constant f =
    let n = mul_neg_left (pos 1) f.constant in
    let o = mul_one_left f.constant in
    omega (arith, ints)

equality_columns : (e : Entry) (fs : List Affine) (bs : List ℤ) → equality_columns_run e fs ≡ Ok bs
    → bs ≡ columns e (two_rows fs)
equality_columns e [] bs h = cc
equality_columns e (f ∷ fs) bs h =
    let c = chain-ok (difference_of (pos 0) (entry_of e f))
    (λ (b : ℤ). equality_columns_run e fs >>= λ rest. Ok (b ∷ entry_of e f ∷ rest)) bs h in
    let d = chain-ok (equality_columns_run e fs) (λ (rest : List ℤ). Ok (c.0 ∷ entry_of e f ∷ rest)) bs c.2 in
    let is : c.0 ∷ entry_of e f ∷ d.0 ≡ bs = cc (d.2) in
    let more = equality_columns e fs d.0 d.1 in
    let first = opposite (entry_of e f) c.0 c.1 in
    let second = sym (other_row e f) in
    sym is ∙ ap (λ (b : ℤ). b ∷ entry_of e f ∷ d.0) first
    ∙ ap (λ (b : ℤ). neg_ℤ (entry_of e f) ∷ b ∷ d.0) second
    ∙ ap (λ (zs : List ℤ). neg_ℤ (entry_of e f) ∷ neg_ℤ (entry_of e (multiple_of_form (negsuc 0) f)) ∷ zs) more

row_columns : (e : Entry) (fs : List Affine) (bs : List ℤ) → row_columns_run e fs ≡ Ok bs → bs ≡ columns e fs
row_columns e [] bs h = cc
row_columns e (f ∷ fs) bs h =
    let c = chain-ok (difference_of (pos 0) (entry_of e f))
    (λ (b : ℤ). row_columns_run e fs >>= λ rest. Ok (b ∷ rest)) bs h in
    let d = chain-ok (row_columns_run e fs) (λ (rest : List ℤ). Ok (c.0 ∷ rest)) bs c.2 in
    let is : c.0 ∷ d.0 ≡ bs = cc (d.2) in
    sym is ∙ ap₂ (λ (b : ℤ) (zs : List ℤ). b ∷ zs) (opposite (entry_of e f) c.0 c.1) (row_columns e fs d.0 d.1)

matched_is : (e : Entry) (own : List ℤ) (free : ℤ) (s : Constraints) (f : Affine) → matched_run e own free s ≡ Ok f
    → f ≡ form_of (own ++ free ∷ columns e (rows_of s)) (pos 0)
unfolding matched_run
matched_is e own free s f h =
    let c = chain-ok (equality_columns_run e s.equalities)
    (λ (es : List ℤ). row_columns_run e s.rows >>= λ rs. Ok (form_of (own ++ free ∷ (es ++ rs)) (pos 0))) f h in
    let d = chain-ok (row_columns_run e s.rows) (λ (rs : List ℤ). Ok (form_of (own ++ free ∷ (c.0 ++ rs)) (pos 0))) f
    c.2 in
    let is : form_of (own ++ free ∷ (c.0 ++ d.0)) (pos 0) ≡ f = cc (d.2) in
    let both : c.0 ++ d.0 ≡ columns e (rows_of s) =
    ap₂ (λ (xs ys : List ℤ). xs ++ ys) (equality_columns e s.equalities c.0 c.1) (row_columns e s.rows d.0 d.1)
    ∙ sym (map-append (λ g. neg_ℤ (entry_of e g)) (two_rows s.equalities) s.rows) in
    sym is ∙ ap (λ (zs : List ℤ). form_of (own ++ free ∷ zs) (pos 0)) both

coefficients_are : (i : ℕ) (owns : List (List ℤ)) (constant : List ℤ) (s : Constraints) (fs : List Affine) (f : Affine)
    → coefficients_run i owns s ≡ Ok fs → f ≡ matched_constant constant (rows_of s)
    → fs ++ f ∷ [] ≡ matched_from i owns constant (rows_of s)
coefficients_are i [] constant s fs f h last =
    let none : [] ≡ fs = cc in
    ap (λ (zs : List Affine). zs ++ f ∷ []) (sym none) ∙ ap (λ (z : Affine). z ∷ []) last
coefficients_are i (own ∷ owns) constant s fs f h last =
    let c = chain-ok (matched_run (entry.Coefficient i) own (pos 0) s)
    (λ (g : Affine). coefficients_run (suc i) owns s >>= λ rest. Ok (g ∷ rest)) fs h in
    let d = chain-ok (coefficients_run (suc i) owns s) (λ (rest : List Affine). Ok (c.0 ∷ rest)) fs c.2 in
    let is : c.0 ∷ d.0 ≡ fs = cc (d.2) in
    ap (λ (zs : List Affine). zs ++ f ∷ []) (sym is)
    ∙ ap₂ (λ (z : Affine) (zs : List Affine). z ∷ zs) (matched_is (entry.Coefficient i) own (pos 0) s c.0 c.1)
    (coefficients_are (suc i) owns constant s d.0 f d.1 last)

pub matching_is : (linear : List (List ℤ)) (constant : List ℤ) (s : Constraints) (es : List Affine)
    → matching_run linear constant s ≡ Ok es → es ≡ matched_from 0 linear constant (rows_of s)
unfolding matching_run
matching_is linear constant s es h =
    let c = chain-ok (coefficients_run 0 linear s)
    (λ (fs : List Affine). matched_run entry.Constant constant (negsuc 0) s >>= λ f. Ok (fs ++ f ∷ [])) es h in
    let d = chain-ok (matched_run entry.Constant constant (negsuc 0) s) (λ (f : Affine). Ok (c.0 ++ f ∷ [])) es c.2 in
    let is : c.0 ++ d.0 ∷ [] ≡ es = cc (d.2) in
    sym is ∙ coefficients_are 0 linear constant s c.0 d.0 c.1 (matched_is entry.Constant constant (negsuc 0) s d.0 d.1)

-- sizes
length-two_rows : (es : List Affine) → length (two_rows es) ≡ 2 * length es
length-two_rows [] = refl
length-two_rows (e ∷ es) = let more = length-two_rows es in omega arith

pub multipliers_are : (s : Constraints) → multipliers_of s ≡ suc (length (rows_of s))
multipliers_are s = omega (arith, length-append (two_rows s.equalities) s.rows, length-two_rows s.equalities)

row_sized : (n k : ℕ) (own : List ℤ) (free : ℤ) (h : Affine → ℤ) (gs : List Affine) → length own ≡ n
    → k ≡ suc (length gs)
    → length (own ++ free ∷ map h gs) ≡ n + k
row_sized n k own free h gs size count =
    omega (arith, length-append own (free ∷ map h gs), length-map gs h)

pub matched_sized : (n k i : ℕ) (linear : List (List ℤ)) (constant : List ℤ) (gs : List Affine)
    → All (λ l. length l ≡ n) linear → length constant ≡ n → k ≡ suc (length gs)
    → All (λ f. variables_of f ≡ n + k) (matched_from i linear constant gs)
matched_sized n k i [] constant gs hs h0 count =
    All-cons (λ f. variables_of f ≡ n + k) (matched_constant constant gs) []
    (row_sized n k constant (negsuc 0) (λ g. neg_ℤ g.constant) gs h0 count) (All-nil (λ f. variables_of f ≡ n + k))
matched_sized n k i (l ∷ ls) constant gs hs h0 count =
    All-cons (λ f. variables_of f ≡ n + k) (matched i l gs) (matched_from (suc i) ls constant gs)
    (row_sized n k l (pos 0) (λ g. neg_ℤ (entry_of (entry.Coefficient i) g)) gs (All-head (λ l. length l ≡ n) l ls
    hs) count)
    (matched_sized n k (suc i) ls constant gs (All-tail (λ l. length l ≡ n) l ls hs) h0 count)

pub matched_homogeneous : (i : ℕ) (linear : List (List ℤ)) (constant : List ℤ) (gs : List Affine)
    → All IsHomogeneous (matched_from i linear constant gs)
matched_homogeneous i [] constant gs = All-cons IsHomogeneous (matched_constant constant gs) [] refl (All-nil
    IsHomogeneous)
matched_homogeneous i (l ∷ ls) constant gs =
    All-cons IsHomogeneous (matched i l gs) (matched_from (suc i) ls constant gs) refl
    (matched_homogeneous (suc i) ls constant gs)

pub own_rows_length : (b n : ℕ) → length (own_rows b n) ≡ n
own_rows_length b zero = refl
own_rows_length b (suc n) = ap suc (own_rows_length (b + 1) n)

pub own_rows_speak : (b n v : ℕ) → b + n ≡ v → All (λ f. variables_of f ≡ v) (own_rows b n)
own_rows_speak b zero v h = All-nil (λ f. variables_of f ≡ v)
own_rows_speak b (suc n) v h =
    All-cons (λ f. variables_of f ≡ v) (form_of (zeros b ++ pos 1 ∷ zeros n) (pos 0)) (own_rows (b + 1) n)
    (omega (arith, length-append (zeros b) (pos 1 ∷ zeros n), length-zeros b, length-zeros n))
    (own_rows_speak (b + 1) n v (omega arith))

pub own_rows_homogeneous : (b n : ℕ) → All IsHomogeneous (own_rows b n)
own_rows_homogeneous b zero = All-nil IsHomogeneous
own_rows_homogeneous b (suc n) =
    All-cons IsHomogeneous (form_of (zeros b ++ pos 1 ∷ zeros n) (pos 0)) (own_rows (b + 1) n) refl
    (own_rows_homogeneous (b + 1) n)
