-- Lists and forms without an entry.
use Rattle.whole_numbers.proofs.Common.{◌≡◌, ℕ, zero, suc, ◌<◌, ℤ, List, [], ◌∷◌, ◌++◌, length, get_or, take, drop}
use Rattle.whole_numbers.proofs.Common.{refl, sym, ap, ◌+◌, ◌∙◌, ap₂, subst, All, arith, map, Result, Ok, take_more}
use Rattle.whole_numbers.proofs.Common.{map-append, All-map, Affine}
use Rattle.affine_forms.specs.Parts.{variables_of}
use Rattle.fractions.specs.Elimination.{removed, narrowed}

pub removed_is : (i : ℕ) (xs : List ℤ) → removed i xs ≡ take i xs ++ drop (suc i) xs
removed_is zero [] = refl
removed_is (suc i) [] = refl
removed_is zero (x ∷ xs) = refl
removed_is (suc i) (x ∷ xs) = ap (λ (zs : List ℤ). x ∷ zs) (removed_is i xs)

-- results that are the same
abbrev pub ok_of : {X E : Type 0} → X → Result X E
ok_of x = Ok x

pub same_ok : {X E : Type 0} (a b : X) → ok_of {E = E} a ≡ ok_of b → a ≡ b
same_ok a b h = cc

removed_length : (i n : ℕ) (xs : List ℤ) → length xs ≡ suc n → i < suc n → length (removed i xs) ≡ n
removed_length i n [] size inside = absurd (omega arith)
removed_length zero n (x ∷ xs) size inside = omega (arith, size)
removed_length (suc i) zero (x ∷ xs) size inside = absurd (omega arith)
removed_length (suc i) (suc n) (x ∷ xs) size inside =
    ap suc (removed_length i n xs (omega (arith, size)) (omega (arith, inside)))

pub narrowed_sized : (i n : ℕ) (fs gs : List Affine) → All (λ f. variables_of f ≡ suc n) fs → i < suc n
    → gs ≡ map (narrowed i) fs → All (λ f. variables_of f ≡ n) gs
narrowed_sized i n fs gs all inside is =
    subst (λ (hs : List Affine). All (λ f. variables_of f ≡ n) hs) (sym is)
    (All-map (λ f. variables_of f ≡ n) (narrowed i) fs
    (λ k d within. removed_length i n (get_or fs k d).coefficients (all k d within) inside))

-- a form more of those without an entry
pub narrowed_more : (i : ℕ) (fs : List Affine) (k : ℕ) (f g : Affine) (out new : List Affine) → k < length fs
    → f ≡ get_or fs k f → out ≡ map (narrowed i) (take k fs) → g ≡ narrowed i f → new ≡ out ++ g ∷ []
    → new ≡ map (narrowed i) (take (k + 1) fs)
narrowed_more i fs k f g out new inside is done made gained =
    gained ∙ ap₂ (λ (hs : List Affine) (h : Affine). hs ++ h ∷ []) done (made ∙ ap (λ (h : Affine). narrowed i h) is)
    ∙ sym (map-append (narrowed i) (take k fs) (get_or fs k f ∷ []))
    ∙ ap (λ (hs : List Affine). map (narrowed i) hs) (sym (take_more fs k f inside))
