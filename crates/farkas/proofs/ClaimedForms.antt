-- The claimed form is linear in the unknowns, with the factors that the matching has.
use Rattle.whole_numbers.proofs.Common.{◌≡◌, ℕ, zero, suc, ◌+◌, ◌<◌, ◌≤◌, ℤ, pos, ◌+ℤ◌, ◌-ℤ◌, ◌*ℤ◌, Bool, true, false}
use Rattle.whole_numbers.proofs.Common.{List, ◌∷◌, ◌++◌, length, get_or, set, refl, sym, ◌∙◌, ap, ap₂, subst, All}
use Rattle.whole_numbers.proofs.Common.{arith, map, nat_eq, nat_lt, if◌then◌else◌, ints, eqb-true, map-append}
use Rattle.whole_numbers.proofs.Common.{length-set, get_or-set_other, All-cons, All-nil, All-append, form_of, value_of}
use Rattle.whole_numbers.proofs.Common.{dot, zeros, multiples, mul_neg_left, mul_one_left, mul_distrib_left, dot-zeros}
use Rattle.whole_numbers.proofs.Common.{dot-set_left, dot-append, dot-multiples, get_or-zeros, length-zeros}
use Rattle.whole_numbers.proofs.Common.{length-multiples}
use Rattle.std.proofs.lemmas.List.{length-append}
use Rattle.fractions.specs.Farkas.{form_at}
use Rattle.farkas.specs.declared.claim.Claim.{Claim}
use Rattle.farkas.specs.declared.claim.Claim.TheVariants.{Legality, Bounding}
use Rattle.iteration_domains.specs.declared.dep.DepEnd.{DepEnd}
use Rattle.farkas.specs.declared.layout.Layout.{Layout}
use Rattle.iteration_domains.specs.Dependence.{IsOne}
use Rattle.farkas.specs.Unknowns.{behind, places, layout_of, coefficients_of, shift_of, bounds_of}
use Rattle.farkas.specs.Claims.{target_factor, source_factor, bound_factor, claimed, only, iterators, parameters}
use Rattle.farkas.specs.Claims.{linear, constant, nones}
use Rattle.farkas.specs.Meaning.{phi}

-- where the unknowns stand
pub record Facts (p : ℕ) (source target : DepEnd) (l : Layout) : Type 0 where
  pub bound : p < l.unknowns
  pub source_inside : l.source + source.loops < l.unknowns
  pub target_inside : l.target + target.loops < l.unknowns
  pub source_behind : p < l.source + source.loops
  pub target_behind : p < l.target + target.loops
  pub one : nat_eq source.statement target.statement ≡ true → l.source ≡ l.target
  pub two : nat_eq source.statement target.statement ≡ false → l.source + source.loops ≡ l.target + target.loops → ⊥

facts_by : (p : ℕ) (source target : DepEnd) (b c : Bool) → IsOne source target
    → nat_eq source.statement target.statement ≡ b
    → Facts p source target (if b then places (behind (p + 1) source) (p + 1) (p + 1)
    else if c then places (behind (behind (p + 1) source) target) (p + 1) (behind (p + 1) source)
    else places (behind (behind (p + 1) target) source) (behind (p + 1) target) (p + 1))
facts_by p source target true c same h =
    let loops = same (eqb-true source.statement target.statement h) in
    record {
      bound = omega arith;
      source_inside = omega arith;
      target_inside = omega arith;
      source_behind = omega arith;
      target_behind = omega arith;
      one = λ e. refl;
      two = λ e at. cc;
    }
facts_by p source target false true same h = record {
  bound = omega arith;
  source_inside = omega arith;
  target_inside = omega arith;
  source_behind = omega arith;
  target_behind = omega arith;
  one = λ e. cc;
  two = λ e at. omega arith;
}
facts_by p source target false false same h = record {
  bound = omega arith;
  source_inside = omega arith;
  target_inside = omega arith;
  source_behind = omega arith;
  target_behind = omega arith;
  one = λ e. cc;
  two = λ e at. omega arith;
}

pub facts : (p : ℕ) (source target : DepEnd) (l : Layout) → l ≡ layout_of p source target → IsOne source target
    → Facts p source target l
unfolding layout_of
facts p source target l is same =
    subst (λ (k : Layout). Facts p source target k) (sym is)
    (facts_by p source target (nat_eq source.statement target.statement) (nat_lt source.statement target.statement)
    same refl)

-- factors and their values
pub only_length : (n place : ℕ) (k : ℤ) → length (only n place k) ≡ n
only_length n place k = length-set (zeros n) place k ∙ length-zeros n

only_value : (n place : ℕ) (k : ℤ) (xs : List ℤ) → place < n → dot (only n place k) xs ≡ k *ℤ get_or xs place (pos 0)
only_value n place k xs h =
    let x = get_or xs place (pos 0) in
    let moved = dot-set_left (zeros n) xs place k (omega (arith, length-zeros n)) in
    let none = dot-zeros n xs in
    let entry = get_or-zeros n place in
    let e : k -ℤ get_or (zeros n) place (pos 0) ≡ k = omega (arith, ints) in
    let s = ap (λ (z : ℤ). z *ℤ x) e in
    omega (arith, ints)

pub iterators_sized : (n first : ℕ) (k : ℤ) (loops : ℕ) → All (λ l. length l ≡ n) (iterators n first k loops)
iterators_sized n first k zero = All-nil (λ l. length l ≡ n)
iterators_sized n first k (suc loops) =
    All-cons (λ l. length l ≡ n) (only n (first + loops) k) (iterators n first k loops) (only_length n (first +
    loops) k)
    (iterators_sized n first k loops)

pub iterators_length : (n first : ℕ) (k : ℤ) (loops : ℕ) → length (iterators n first k loops) ≡ loops
iterators_length n first k zero = refl
iterators_length n first k (suc loops) = ap suc (iterators_length n first k loops)

iterators_value : (n first : ℕ) (k : ℤ) (loops : ℕ) (xs : List ℤ) → first + loops ≤ n
    → map (λ l. dot l xs) (iterators n first k loops) ≡ multiples k (coefficients_of xs first loops)
iterators_value n first k zero xs h = refl
iterators_value n first k (suc loops) xs h =
    ap₂ (λ (z : ℤ) (zs : List ℤ). z ∷ zs) (only_value n (first + loops) k xs (omega arith))
    (iterators_value n first k loops xs (omega arith))

parameters_sized : (n i : ℕ) (k : ℤ) (count : ℕ) → All (λ l. length l ≡ n) (parameters n i k count)
parameters_sized n i k zero = All-nil (λ l. length l ≡ n)
parameters_sized n i k (suc count) =
    All-cons (λ l. length l ≡ n) (only n i k) (parameters n (suc i) k count) (only_length n i k)
    (parameters_sized n (suc i) k count)

parameters_length : (n i : ℕ) (k : ℤ) (count : ℕ) → length (parameters n i k count) ≡ count
parameters_length n i k zero = refl
parameters_length n i k (suc count) = ap suc (parameters_length n (suc i) k count)

parameters_value : (n i : ℕ) (k : ℤ) (count : ℕ) (xs : List ℤ) → i + count ≤ n
    → map (λ l. dot l xs) (parameters n i k count) ≡ multiples k (bounds_of xs i count)
parameters_value n i k zero xs h = refl
parameters_value n i k (suc count) xs h =
    ap₂ (λ (z : ℤ) (zs : List ℤ). z ∷ zs) (only_value n i k xs (omega arith))
    (parameters_value n (suc i) k count xs (omega arith))

-- all coefficients
nones_sized : (n b : ℕ) → All (λ l. length l ≡ n) (nones n b)
nones_sized n zero = All-nil (λ l. length l ≡ n)
nones_sized n (suc b) = All-cons (λ l. length l ≡ n) (zeros n) (nones n b) (length-zeros n) (nones_sized n b)

pub nones_length : (n b : ℕ) → length (nones n b) ≡ b
nones_length n zero = refl
nones_length n (suc b) = ap suc (nones_length n b)

nones_value : (n b : ℕ) (xs : List ℤ) → map (λ l. dot l xs) (nones n b) ≡ zeros b
nones_value n zero xs = refl
nones_value n (suc b) xs = ap₂ (λ (z : ℤ) (zs : List ℤ). z ∷ zs) (dot-zeros n xs) (nones_value n b xs)

pub linear_sized : (claim : Claim) (source target : DepEnd) (b p : ℕ)
    → All (λ l. length l ≡ (layout_of p source target).unknowns) (linear claim source target b p)
unfolding linear
linear_sized claim source target b p =
    let l = layout_of p source target in
    let n = l.unknowns in
    let first = iterators n l.source (source_factor claim) source.loops in
    let second = iterators n l.target (target_factor claim) target.loops in
    let last = parameters n 0 (bound_factor claim) p in
    let third = nones n b ++ last in
    All-append (λ l. length l ≡ n) first (second ++ third) (iterators_sized n l.source (source_factor claim)
    source.loops)
    (All-append (λ l. length l ≡ n) second third (iterators_sized n l.target (target_factor claim) target.loops)
    (All-append (λ l. length l ≡ n) (nones n b) last (nones_sized n b) (parameters_sized n 0 (bound_factor claim) p)))

pub linear_length : (claim : Claim) (source target : DepEnd) (b p : ℕ)
    → length (linear claim source target b p) ≡ source.loops + target.loops + b + p
unfolding linear
linear_length claim source target b p =
    let l = layout_of p source target in
    let n = l.unknowns in
    let first = iterators n l.source (source_factor claim) source.loops in
    let second = iterators n l.target (target_factor claim) target.loops in
    let last = parameters n 0 (bound_factor claim) p in
    let third = nones n b ++ last in
    let a = iterators_length n l.source (source_factor claim) source.loops in
    let g = iterators_length n l.target (target_factor claim) target.loops in
    let c = parameters_length n 0 (bound_factor claim) p in
    let f = length-append (nones n b) last in
    let h = nones_length n b in
    let d = length-append first (second ++ third) in
    let e = length-append second third in
    omega arith

-- the constant
pub constant_length : (claim : Claim) (source target : DepEnd) (p : ℕ)
    → length (constant claim source target p) ≡ (layout_of p source target).unknowns
unfolding constant
constant_length claim source target p = by_test (nat_eq source.statement target.statement)
  where
    l : Layout
    l = layout_of p source target

    bound : List ℤ
    bound = only (layout_of p source target).unknowns p (bound_factor claim)

    by_test : (b : Bool) → length (if b then only (layout_of p source target).unknowns p (bound_factor claim)
        else set (set (only (layout_of p source target).unknowns p (bound_factor claim))
        ((layout_of p source target).source + source.loops) (source_factor claim))
        ((layout_of p source target).target + target.loops) (target_factor claim))
        ≡ (layout_of p source target).unknowns
    by_test true = only_length (layout_of p source target).unknowns p (bound_factor claim)
    by_test false =
        length-set (set (only (layout_of p source target).unknowns p (bound_factor claim))
        ((layout_of p source target).source + source.loops) (source_factor claim))
        ((layout_of p source target).target + target.loops) (target_factor claim)
        ∙ length-set (only (layout_of p source target).unknowns p (bound_factor claim))
        ((layout_of p source target).source + source.loops) (source_factor claim)
        ∙ only_length (layout_of p source target).unknowns p (bound_factor claim)

factors_cancel : (claim : Claim) (z : ℤ) → (source_factor claim *ℤ z) +ℤ (target_factor claim *ℤ z) ≡ pos 0
factors_cancel Legality z = let n = mul_neg_left (pos 1) z in let o = mul_one_left z in omega (arith, ints)
factors_cancel Bounding z = let n = mul_neg_left (pos 1) z in let o = mul_one_left z in omega (arith, ints)

-- a factor more at a place that has none
set_value : (xs ys : List ℤ) (i : ℕ) (k : ℤ) → i < length xs → get_or xs i (pos 0) ≡ pos 0
    → dot (set xs i k) ys ≡ dot xs ys +ℤ (k *ℤ get_or ys i (pos 0))
set_value xs ys i k h none =
    let moved = dot-set_left xs ys i k h in
    let e : k -ℤ get_or xs i (pos 0) ≡ k = omega (arith, ints) in
    let s = ap (λ (z : ℤ). z *ℤ get_or ys i (pos 0)) e in
    omega (arith, ints)

two_shifts : (n p a b : ℕ) (h j k : ℤ) (xs : List ℤ) → p < n → a < n → b < n → p < a → p < b → (a ≡ b → ⊥)
    → dot (set (set (only n p h) a j) b k) xs
    ≡ (h *ℤ get_or xs p (pos 0)) +ℤ ((j *ℤ get_or xs a (pos 0)) +ℤ (k *ℤ get_or xs b (pos 0)))
two_shifts n p a b h j k xs hp ha hb pa pb differ =
    let first = only n p h in
    let second = set first a j in
    let size = only_length n p h in
    let size' = length-set first a j in
    let none_a = get_or-set_other (zeros n) p a h (pos 0) (omega arith) ∙ get_or-zeros n a in
    let none_b = get_or-set_other first a b j (pos 0) (λ (e : b ≡ a). differ (sym e))
    ∙ get_or-set_other (zeros n) p b h (pos 0) (omega arith) ∙ get_or-zeros n b in
    let u = set_value second xs b k (omega arith) none_b in
    let v = set_value first xs a j (omega arith) none_a in
    let w = only_value n p h xs hp in
    omega (arith, ints)

constant_value : (claim : Claim) (source target : DepEnd) (p : ℕ) (l : Layout) (xs : List ℤ) (b : Bool)
    → IsOne source target → Facts p source target l → nat_eq source.statement target.statement ≡ b
    → dot (if b then only l.unknowns p (bound_factor claim)
    else set (set (only l.unknowns p (bound_factor claim)) (l.source + source.loops) (source_factor claim))
    (l.target + target.loops) (target_factor claim)) xs
    ≡ (bound_factor claim *ℤ get_or xs p (pos 0))
    +ℤ ((source_factor claim *ℤ shift_of xs l.source source.loops) +ℤ (target_factor claim *ℤ shift_of xs l.target
    target.loops))
constant_value claim source target p l xs true same f h =
    let value = only_value l.unknowns p (bound_factor claim) xs f.bound in
    let loops = same (eqb-true source.statement target.statement h) in
    let begin = f.one h in
    let at : l.target + target.loops ≡ l.source + source.loops = omega arith in
    let shift = ap (λ (i : ℕ). target_factor claim *ℤ get_or xs i (pos 0)) at in
    let none = factors_cancel claim (shift_of xs l.source source.loops) in
    omega (arith, ints)
constant_value claim source target p l xs false same f h =
    two_shifts l.unknowns p (l.source + source.loops) (l.target + target.loops) (bound_factor claim) (source_factor
    claim)
    (target_factor claim) xs f.bound f.source_inside f.target_inside f.source_behind f.target_behind (f.two h)

-- the form whose numbers have these factors is the claimed one
pub claimed_is : (claim : Claim) (source target : DepEnd) (b p : ℕ) (xs : List ℤ) → IsOne source target
    → form_at (linear claim source target b p) (constant claim source target p) xs
    ≡ claimed claim source target b p xs
unfolding linear constant claimed
claimed_is claim source target b p xs same =
    let l = layout_of p source target in
    let n = l.unknowns in
    let f = facts p source target l refl same in
    let value : List ℤ → ℤ = λ z. dot z xs in
    let first = iterators n l.source (source_factor claim) source.loops in
    let second = iterators n l.target (target_factor claim) target.loops in
    let last = parameters n 0 (bound_factor claim) p in
    let third = nones n b ++ last in
    let inside = f.source_inside in
    let within = f.target_inside in
    let low = f.bound in
    let a = iterators_value n l.source (source_factor claim) source.loops xs (omega arith) in
    let g = iterators_value n l.target (target_factor claim) target.loops xs (omega arith) in
    let c = map-append value (nones n b) last ∙ ap₂ (λ (ys zs : List ℤ). ys ++ zs) (nones_value n b xs)
    (parameters_value n 0 (bound_factor claim) p xs (omega arith)) in
    let coefficients = map-append value first (second ++ third)
    ∙ ap₂ (λ (ys zs : List ℤ). ys ++ zs) a (map-append value second third ∙ ap₂ (λ (ys zs : List ℤ). ys ++ zs) g c) in
    ap₂ (λ (ys : List ℤ) (z : ℤ). form_of ys z) coefficients
    (constant_value claim source target p l xs (nat_eq source.statement target.statement) same f refl)

-- its value at a point
coefficients_length : (xs : List ℤ) (first loops : ℕ) → length (coefficients_of xs first loops) ≡ loops
coefficients_length xs first zero = refl
coefficients_length xs first (suc loops) = ap suc (coefficients_length xs first loops)

pub claimed_value : (claim : Claim) (source target : DepEnd) (b p : ℕ) (xs i j r q : List ℤ)
    → length i ≡ source.loops → length j ≡ target.loops → length r ≡ b
    → value_of (claimed claim source target b p xs) (i ++ (j ++ (r ++ q)))
    ≡ (bound_factor claim *ℤ (dot (bounds_of xs 0 p) q +ℤ get_or xs p (pos 0)))
    +ℤ ((source_factor claim *ℤ phi xs (layout_of p source target).source source.loops i)
    +ℤ (target_factor claim *ℤ phi xs (layout_of p source target).target target.loops j))
unfolding claimed
claimed_value claim source target b p xs i j r q hi hj hr =
    let l = layout_of p source target in
    let cs = coefficients_of xs l.source source.loops in
    let ct = coefficients_of xs l.target target.loops in
    let u = bounds_of xs 0 p in
    let ks = source_factor claim in
    let kt = target_factor claim in
    let kb = bound_factor claim in
    let size_s = coefficients_length xs l.source source.loops in
    let size_t = coefficients_length xs l.target target.loops in
    let long_s = length-multiples ks cs in
    let long_t = length-multiples kt ct in
    let a = dot-append (multiples ks cs) (multiples kt ct ++ (zeros b ++ multiples kb u)) i (j ++ (r ++ q))
    (omega arith) in
    let k = dot-append (multiples kt ct) (zeros b ++ multiples kb u) j (r ++ q) (omega arith) in
    let m = dot-append (zeros b) (multiples kb u) r q (omega (arith, length-zeros b)) in
    let o = dot-zeros b r in
    let c = dot-multiples ks cs i in
    let d = dot-multiples kt ct j in
    let e = dot-multiples kb u q in
    let f = mul_distrib_left (dot cs i) (shift_of xs l.source source.loops) ks in
    let g = mul_distrib_left (dot ct j) (shift_of xs l.target target.loops) kt in
    let h = mul_distrib_left (dot u q) (get_or xs p (pos 0)) kb in
    omega (arith, ints)

pub ruleset value_laws = (claimed_value)
