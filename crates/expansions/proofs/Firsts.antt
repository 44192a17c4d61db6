-- Lists one behind another, and what a function gives for the numbers below n.
use Rattle.scop_syntax.proofs.Common.{◌≡◌, ◌<◌, ◌≤◌, ◌+◌, ℕ, zero, suc, List, [], ◌∷◌, ◌++◌, Some, ap, refl, sym, ◌∙◌}
use Rattle.scop_syntax.proofs.Common.{arith, length, get_or, subst, slice_get, get_or_from_slice_get, nat_cases}
use Rattle.scop_syntax.proofs.Common.{there_is}
use Rattle.std.proofs.lemmas.List.{append_assoc, length-append}
use Rattle.expansions.specs.steps.Marks.{firsts}

pub at_front : {A : Type 0} (xs ys : List A) (i : ℕ) (x : A) → slice_get xs i ≡ Some x
    → slice_get (xs ++ ys) i ≡ Some x
at_front [] ys i x h = absurd cc
at_front (y ∷ xs) ys zero x h = h
at_front (y ∷ xs) ys (suc i) x h = at_front xs ys i x h

pub at_back : {A : Type 0} (xs ys : List A) (i : ℕ) → slice_get (xs ++ ys) (length xs + i) ≡ slice_get ys i
at_back [] ys i = let e : 0 + i ≡ i = omega arith in ap (λ (k : ℕ). slice_get ys k) e
at_back (x ∷ xs) ys i =
    let e : suc (length xs) + i ≡ suc (length xs + i) = omega arith in
    ap (λ (k : ℕ). slice_get (x ∷ (xs ++ ys)) k) e ∙ at_back xs ys i

pub firsts_long : (f : ℕ → ℕ) (n : ℕ) → length (firsts f n) ≡ n
firsts_long f zero = refl
firsts_long f (suc n) =
    let long = length-append (firsts f n) (f n ∷ []) in
    let front = firsts_long f n in
    omega (arith, long, front)

pub firsts_at : (f : ℕ → ℕ) (n r : ℕ) → r < n → slice_get (firsts f n) r ≡ Some (f r)
firsts_at f zero r less = absurd (omega (arith, less))
firsts_at f (suc n) r less = nat_cases r n
    (λ l. at_front (firsts f n) (f n ∷ []) r (f r) (firsts_at f n r l))
    (λ e. let long = firsts_long f n in
    let at : r ≡ length (firsts f n) + 0 = omega (arith, e, long) in
    ap (λ (k : ℕ). slice_get (firsts f n ++ f n ∷ []) k) at
    ∙ (at_back (firsts f n) (f n ∷ []) 0 ∙ ap (λ (k : ℕ). Some (f k)) (sym e)))
    (λ l. absurd (omega (arith, l, less)))

-- one more is put
pub firsts_more : (f : ℕ → ℕ) (k : ℕ) (old now new : List ℕ) (x : ℕ) → now ≡ old ++ firsts f k → x ≡ f k
    → new ≡ now ++ x ∷ [] → new ≡ old ++ firsts f (k + 1)
firsts_more f k old now new x is told e =
    let next : suc k ≡ k + 1 = omega arith in
    e
    ∙ (ap (λ (zs : List ℕ). zs ++ x ∷ []) is
    ∙ (append_assoc old (firsts f k) (x ∷ [])
    ∙ (ap (λ (z : ℕ). old ++ (firsts f k ++ z ∷ [])) told
    ∙ ap (λ (n : ℕ). old ++ firsts f n) next)))

-- an element of a list at its index
pub got_at : {A : Type 0} (xs : List A) (k : ℕ) (x : A) → k < length xs → x ≡ get_or xs k x → slice_get xs k ≡ Some x
got_at xs k x inside is =
    let t = there_is xs k inside in
    t.1 ∙ ap Some (sym (is ∙ get_or_from_slice_get xs k t.0 x t.1))

-- a number that no element gone through is above
pub few_more : {A : Type 0} (f : A → ℕ) (xs : List A) (k most next : ℕ) (x : A) → x ≡ get_or xs k x → most ≤ next
    → f x ≤ next → ((i : ℕ) (y : A) → i < k → slice_get xs i ≡ Some y → f y ≤ most)
    → (i : ℕ) (y : A) → i < k + 1 → slice_get xs i ≡ Some y → f y ≤ next
few_more f xs k most next x is more own few i y less at = nat_cases i k
    (λ l. let old = few i y l at in omega (arith, old, more))
    (λ e. let same : x ≡ y = is ∙ (ap (λ (j : ℕ). get_or xs j x) (sym e) ∙ get_or_from_slice_get xs i y x at) in
    subst (λ z. f z ≤ next) same own)
    (λ l. absurd (omega (arith, l, less)))
