-- The forms of a join, as the code puts them together.
use Rattle.whole_numbers.proofs.Common.{◌≡◌, ℕ, zero, suc, ◌-◌, ◌≤◌, ℤ, pos, negsuc, ◌+ℤ◌, ◌-ℤ◌, ◌*ℤ◌, List, []}
use Rattle.whole_numbers.proofs.Common.{◌∷◌, ◌++◌, length, take, drop, refl, sym, ap, ap₂, ◌∙◌, arith, append_assoc}
use Rattle.whole_numbers.proofs.Common.{neg_ℤ, ints, length-drop, take-length, zeros, multiples, sums, Affine, form_of}
use Rattle.whole_numbers.proofs.Common.{sum_of_forms, multiple_of_form, multiples-one}
use Rattle.quast_joins.specs.Shifts.{shifted, shifted_form}
use Rattle.quast_joins.specs.Joins.{less_by_one}

-- a list with zeros put in, in three parts
shifted_parts : (n k : ℕ) (cs : List ℤ) → n ≤ length cs → shifted n k cs ≡ take n cs ++ (zeros k ++ drop n cs)
shifted_parts zero k cs h = refl
shifted_parts (suc n) k [] h = absurd (omega arith)
shifted_parts (suc n) k (c ∷ cs) h = ap (λ zs. c ∷ zs) (shifted_parts n k cs (omega arith))

-- the parts put together one by one
pub shifted_put : (n k : ℕ) (f g : Affine) (first second third : List ℤ) → n ≤ length f.coefficients
    → first ≡ take n f.coefficients → second ≡ first ++ zeros k
    → third ≡ second ++ take (length f.coefficients - n) (drop n f.coefficients) → g ≡ form_of third f.constant
    → g ≡ shifted_form n k f
shifted_put n k f g first second third h a b c is =
    let cs = f.coefficients in
    let rest : take (length cs - n) (drop n cs) ≡ drop n cs =
    ap (λ m. take m (drop n cs)) (sym (length-drop n cs)) ∙ take-length (drop n cs) in
    is ∙ ap (λ (zs : List ℤ). form_of zs f.constant)
    (c ∙ (ap₂ (λ (xs ys : List ℤ). xs ++ ys) (b ∙ ap (λ (xs : List ℤ). xs ++ zeros k) a) rest
    ∙ (append_assoc (take n cs) (zeros k) (drop n cs) ∙ sym (shifted_parts n k cs h))))

-- a difference with 1 taken off its constant
pub less_put : (f g d h : Affine) → d ≡ sum_of_forms (multiple_of_form (pos 1) f) (multiple_of_form (negsuc 0) g)
    → h.coefficients ≡ d.coefficients → h.constant ≡ d.constant -ℤ pos 1 → h ≡ less_by_one f g
less_put f g d h entries cs k =
    let others = multiples (negsuc 0) g.coefficients in
    let a : d.coefficients ≡ sums f.coefficients others =
    ap (λ (e : Affine). e.coefficients) entries ∙ ap (λ xs. sums xs others) (multiples-one f.coefficients) in
    let b : d.constant ≡ (pos 1 *ℤ f.constant) +ℤ (negsuc 0 *ℤ g.constant) =
    ap (λ (e : Affine). e.constant) entries in
    let e : h.constant ≡ f.constant +ℤ (neg_ℤ g.constant -ℤ pos 1) = omega (arith, ints) in
    ap₂ form_of (cs ∙ a) e
