-- The rows of a range.
use Rattle.whole_numbers.proofs.Common.{◌≡◌, ℕ, zero, suc, ◌+◌, ◌-◌, ◌<◌, pos, List, [], ◌∷◌, ◌++◌, refl, sym, ◌∙◌, ap}
use Rattle.whole_numbers.proofs.Common.{subst, All, arith, append_assoc, negsuc, All-cons, All-nil, zeros, Affine}
use Rattle.whole_numbers.proofs.Common.{length-zeros}
use Rattle.std.proofs.Math.ListN.{length-set}
use Rattle.std.proofs.lemmas.List.{append-nil}
use Rattle.affine_forms.specs.Parts.{variables_of}
use Rattle.fm_projection.specs.Alone.{place_form, range_rows}

-- a variable is at least 0; it is at most 65536
abbrev pub least_row : ℕ → ℕ → Affine
least_row v i = place_form v i (pos 1) (pos 0)

abbrev pub most_row : ℕ → ℕ → Affine
most_row v i = place_form v i (negsuc 0) (pos 65536)

pub two_more : (old rows done : List Affine) (a b f g : Affine) → rows ≡ old ++ done → a ≡ f → b ≡ g
    → (rows ++ a ∷ []) ++ b ∷ [] ≡ old ++ (done ++ f ∷ g ∷ [])
two_more old rows done a b f g is e k =
    rw (is, e, k) (append_assoc (old ++ done) (f ∷ []) (g ∷ []) ∙ append_assoc old done (f ∷ g ∷ []))

pub range_more : (v i : ℕ) (done all : List Affine) → i < v → done ++ range_rows v i (v - i) ≡ all
    → (done ++ least_row v i ∷ most_row v i ∷ []) ++ range_rows v (i + 1) (v - (i + 1)) ≡ all
range_more v i done all inside is =
    append_assoc done (least_row v i ∷ most_row v i ∷ []) (range_rows v (i + 1) (v - (i + 1)))
    ∙ ap (λ (fs : List Affine). done ++ fs)
    (next (v - i) (v - (i + 1)) (i + 1) (omega (arith, inside)) (omega arith)) ∙ is
  where
    next : (n m j : ℕ) → n ≡ suc m → j ≡ suc i
        → least_row v i ∷ most_row v i ∷ range_rows v j m ≡ range_rows v i n
    next n m j e k = rw (e, k) refl

pub range_end : (v i : ℕ) (done all : List Affine) → v - i ≡ 0 → done ++ range_rows v i (v - i) ≡ all → done ≡ all
range_end v i done all none is =
    sym (append-nil done) ∙ subst (λ (n : ℕ). done ++ range_rows v i n ≡ all) none is

pub range_sized : (v i m : ℕ) → All (λ f. variables_of f ≡ v) (range_rows v i m)
range_sized v i zero = All-nil (λ f. variables_of f ≡ v)
range_sized v i (suc m) =
    let P : Affine → Type 0 = λ f. variables_of f ≡ v in
    All-cons P (least_row v i) (most_row v i ∷ range_rows v (suc i) m)
    (length-set (zeros v) i (pos 1) ∙ length-zeros v)
    (All-cons P (most_row v i) (range_rows v (suc i) m) (length-set (zeros v) i (negsuc 0) ∙ length-zeros v)
    (range_sized v (suc i) m))
