-- One place more among those of the tightest rows, by the place of the first whose row has the same coefficients; and
-- among those whose coefficient of a variable passes a test.
use Rattle.scop_syntax.proofs.Common.{◌≡◌, ℕ, ◌<◌, ◌≤◌, Bool, true, false, List, [], ◌∷◌, ◌++◌, length, get_or, set}
use Rattle.scop_syntax.proofs.Common.{refl, ◌∙◌, ap, subst, arith, Affine, ℤ, ◌+◌, drop, drop-cons, add-one, sym}
use Rattle.scop_syntax.proofs.Common.{append_assoc, if◌then◌else◌}
use Rattle.fractions.specs.Elimination.{coefficient_of}
use Rattle.fm_projection.specs.Tightest.{are_parallel}
use Rattle.plan_certificate.specs.Derivation.{chosen, row_of, tighter, with_place}
use Rattle.plan_certificate.specs.steps.Places.{one_if, parallel_place}

module _ (rows : List Affine) (q : ℕ) where
  -- behind the others
  pub put_behind : (ps : List ℕ) → length ps ≤ parallel_place rows q ps → ps ++ q ∷ [] ≡ with_place rows ps q
  put_behind [] past = refl
  put_behind (p ∷ ps) past = by (are_parallel (row_of rows p) (row_of rows q)) refl (put_behind ps)
    where
      by : (b : Bool) → are_parallel (row_of rows p) (row_of rows q) ≡ b
          → (length ps ≤ parallel_place rows q ps → ps ++ q ∷ [] ≡ with_place rows ps q)
          → p ∷ (ps ++ q ∷ []) ≡ with_place rows (p ∷ ps) q
      by true same rest = let m = rw same at past in absurd (omega (arith, m))
      by false other rest =
          let m = rw other at past in rw other (ap (λ (ks : List ℕ). p ∷ ks) (rest (omega (arith, m))))

  -- in the place of another
  put_at : (ps : List ℕ) (d : ℕ) → parallel_place rows q ps < length ps
      → set ps (parallel_place rows q ps) (tighter rows (get_or ps (parallel_place rows q ps) d) q)
      ≡ with_place rows ps q
  put_at [] d inside = absurd (omega (arith, inside))
  put_at (p ∷ ps) d inside = by (are_parallel (row_of rows p) (row_of rows q)) refl (put_at ps d)
    where
      by : (b : Bool) → are_parallel (row_of rows p) (row_of rows q) ≡ b
          → (parallel_place rows q ps < length ps
          → set ps (parallel_place rows q ps) (tighter rows (get_or ps (parallel_place rows q ps) d) q)
          ≡ with_place rows ps q)
          → set (p ∷ ps) (parallel_place rows q (p ∷ ps))
          (tighter rows (get_or (p ∷ ps) (parallel_place rows q (p ∷ ps)) d) q)
          ≡ with_place rows (p ∷ ps) q
      by true same rest = rw same refl
      by false other rest =
          let i = rw other at inside in rw other (ap (λ (ks : List ℕ). p ∷ ks) (rest (omega (arith, i))))

  pub put_tighter : (ps : List ℕ) (place old new : ℕ) → place ≡ parallel_place rows q ps → place < length ps
      → old ≡ get_or ps place old → new ≡ tighter rows old q → set ps place new ≡ with_place rows ps q
  put_tighter ps place old new is inside there own =
      ap (λ (k : ℕ). set ps place k) own
      ∙ (ap (λ (k : ℕ). set ps place (tighter rows k q)) there
      ∙ (ap (λ (k : ℕ). set ps k (tighter rows (get_or ps k old) q)) is
      ∙ put_at ps old (subst (λ k. k < length ps) is inside)))

-- one place more, if its coefficient passes
pub chosen_more : (test : ℤ → Bool) (v : ℕ) (rows : List Affine) (ps : List ℕ) (i : ℕ) (z : ℤ) (stays : Bool)
    (out new whole : List ℕ) → i < length ps → z ≡ coefficient_of v (row_of rows (get_or ps i 0)) → stays ≡ test z
    → new ≡ out ++ one_if stays (get_or ps i 0) → out ++ chosen test v rows (drop i ps) ≡ whole
    → new ++ chosen test v rows (drop (i + 1) ps) ≡ whole
chosen_more test v rows ps i z stays out new whole inside found told grown so_far =
    let p = get_or ps i 0 in
    let rest = chosen test v rows (drop (i + 1) ps) in
    let here : drop i ps ≡ p ∷ drop (i + 1) ps =
    drop-cons ps i 0 inside ∙ ap (λ (k : ℕ). p ∷ drop k ps) (sym (add-one i)) in
    ap (λ (ks : List ℕ). ks ++ rest) grown
    ∙ (at stays p rest
    ∙ (ap (λ (b : Bool). out ++ (if b then p ∷ rest else rest)) (told ∙ ap test found)
    ∙ (ap (λ (ks : List ℕ). out ++ chosen test v rows ks) (sym here) ∙ so_far)))
  where
    at : (b : Bool) (p : ℕ) (rest : List ℕ) → (out ++ one_if b p) ++ rest ≡ out ++ (if b then p ∷ rest else rest)
    at true p rest = append_assoc out (p ∷ []) rest
    at false p rest = append_assoc out [] rest
