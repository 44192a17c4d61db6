-- Sums of products in parts: of the first entries, and of the rest.
use Rattle.scop_syntax.proofs.Common.{◌≡◌, ℕ, zero, suc, ℤ, pos, negsuc, List, [], ◌∷◌, ◌++◌, length, drop, ap, refl}
use Rattle.scop_syntax.proofs.Common.{sym, arith, subst, ◌+◌, ◌∙◌, ◌+ℤ◌, ◌*ℤ◌, FitsSigned, w128, ints, dot, dot-nil}
use Rattle.scop_syntax.proofs.Common.{dot-split}
use Rattle.loop_tree.specs.Fits.{Room, SumsFit}

pub room_fits : (z : ℤ) → Room z → FitsSigned w128 z
room_fits (pos n) h = omega (arith, ints)
room_fits (negsuc n) h = omega (arith, ints)

pub dot_one : (c : ℤ) (cs : List ℤ) (x : ℤ) → dot (c ∷ cs) (x ∷ []) ≡ c *ℤ x
dot_one c cs x = let e = dot-nil cs in omega (arith, ints)

abbrev empty : List ℤ
empty = []

drop_none : (k : ℕ) → drop k empty ≡ empty
drop_none zero = refl
drop_none (suc k) = refl

pub fits_front : (sum : ℤ) (cs xs ys : List ℤ) → SumsFit sum cs (xs ++ ys) → SumsFit sum cs xs
fits_front sum [] xs ys h = tt
fits_front sum (c ∷ cs) [] ys h = tt
fits_front sum (c ∷ cs) (x ∷ xs) ys h = (h.0, h.1, fits_front (sum +ℤ (c *ℤ x)) cs xs ys h.2)

pub fits_back : (sum : ℤ) (cs xs ys : List ℤ) → SumsFit sum cs (xs ++ ys)
    → SumsFit (sum +ℤ dot cs xs) (drop (length xs) cs) ys
fits_back sum cs [] ys h =
    let e : sum ≡ sum +ℤ dot cs [] = let n = dot-nil cs in omega (arith, ints) in
    subst (λ s. SumsFit s cs ys) e h
fits_back sum [] (x ∷ xs) ys h = tt
fits_back sum (c ∷ cs) (x ∷ xs) ys h =
    let r = fits_back (sum +ℤ (c *ℤ x)) cs xs ys h.2 in
    let e : (sum +ℤ (c *ℤ x)) +ℤ dot cs xs ≡ sum +ℤ ((c *ℤ x) +ℤ dot cs xs) = omega (arith, ints) in
    subst (λ s. SumsFit s (drop (length xs) cs) ys) e r

pub drop_parts : (cs xs ys : List ℤ) → drop (length (xs ++ ys)) cs ≡ drop (length ys) (drop (length xs) cs)
drop_parts cs [] ys = refl
drop_parts [] (x ∷ xs) ys = sym (drop_none (length ys))
drop_parts (c ∷ cs) (x ∷ xs) ys = drop_parts cs xs ys

-- a sum whose first entries have been put
pub record Summing (start sum : ℤ) (coefficients rest xs ys : List ℤ) : Type 0 where
  pub fits : SumsFit sum rest ys
  pub whole : sum +ℤ dot rest ys ≡ start +ℤ dot coefficients xs

pub summed_one : (start sum next : ℤ) (coefficients rest left xs ys zs : List ℤ) (y : ℤ)
    → Summing start sum coefficients rest xs ys → ys ≡ y ∷ zs → next ≡ sum +ℤ dot rest (y ∷ [])
    → left ≡ drop 1 rest → Summing start next coefficients left xs zs
summed_one start sum next coefficients rest left xs ys zs y s here is drops =
    let fits = subst (SumsFit sum rest) here s.fits in
    let back = fits_back sum rest (y ∷ []) zs fits in
    let parts = dot-split rest (y ∷ []) zs in
    let whole = s.whole in
    let same = ap (λ (ws : List ℤ). dot rest ws) here in
    let end = ap (λ (cs : List ℤ). dot cs zs) drops in
    record {
      fits = subst (λ n. SumsFit n left zs) (sym is) (subst (λ (cs : List ℤ). SumsFit (sum +ℤ dot rest (y ∷ [])) cs zs)
          (sym drops) back);
      whole = omega (arith, ints);
    }

pub summed_fits : (start sum : ℤ) (coefficients rest xs ys zs : List ℤ) (y : ℤ)
    → Summing start sum coefficients rest xs ys → ys ≡ y ∷ zs → SumsFit sum rest (y ∷ [])
summed_fits start sum coefficients rest xs ys zs y s here =
    fits_front sum rest (y ∷ []) zs (subst (SumsFit sum rest) here s.fits)

-- one more is left out
drop_next : (k : ℕ) (cs : List ℤ) → drop 1 (drop k cs) ≡ drop (suc k) cs
drop_next zero cs = refl
drop_next (suc k) [] = refl
drop_next (suc k) (c ∷ cs) = drop_next k cs

pub drop_one : (k : ℕ) (cs : List ℤ) → drop 1 (drop k cs) ≡ drop (k + 1) cs
drop_one k cs =
    let e : suc k ≡ k + 1 = omega arith in
    drop_next k cs ∙ ap (λ (n : ℕ). drop n cs) e
