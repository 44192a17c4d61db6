-- Eliminations with rows dropped between them leave exactly the points for which some fractions serve.
use Rattle.whole_numbers.proofs.Common.{◌≡◌, ℕ, zero, suc, ◌+◌, ◌≤◌, ℤ, pos, ◌≤ℤ◌, List, [], ◌∷◌, ◌++◌, length, ◌↔◌}
use Rattle.whole_numbers.proofs.Common.{inl, inr, sym, ◌∙◌, append_assoc, subst, All, map, All-append, All-head}
use Rattle.whole_numbers.proofs.Common.{All-tail, Affine, all_front, all_back}
use Rattle.std.proofs.lemmas.List.{append-nil}
use Rattle.fractions.specs.Fractions.{value_over, HoldsOver}
use Rattle.fractions.specs.Elimination.{narrowed, eliminated}
use Rattle.fractions.specs.Farkas.{HoldsForSomeMore, AreNotNegative, IsHomogeneous, HasFarkas, form_at}
use Rattle.fractions.specs.Farkas.{matched_from, own_rows, Dropped, AreAmong, Leaves}
use Rattle.fractions.proofs.Chain.{chain_step, chain_end}
use Rattle.fractions.proofs.ImpliedRows.{implied_row}
use Rattle.fractions.proofs.Matching.{matching_is_farkas}
use Rattle.fractions.proofs.DroppedRows.{dropping_keeps}

-- the rows left hold where all do
dropped_among : (n : ℕ) (es front rest kept : List Affine) (P : Affine → Type 0) → Dropped n es front rest kept
    → All P (front ++ rest) → All P kept
dropped_among n es front [] kept P h all = subst (λ (fs : List Affine). All P fs) (append-nil front ∙ h) all
dropped_among n es front (r ∷ rest) kept P (inl h) all =
    dropped_among n es (front ++ r ∷ []) rest kept P h
    (subst (λ (fs : List Affine). All P fs) (sym (append_assoc front (r ∷ []) rest)) all)
dropped_among n es front (r ∷ rest) kept P (inr h) all =
    dropped_among n es front rest kept P h.1
    (All-append P front rest (all_front P front (r ∷ rest) all)
    (All-tail P r rest (all_back P front (r ∷ rest) all)))

-- where nothing is negative they imply all
pub dropped_implied : (es front rest kept : List Affine) (d : ℤ) (xs : List ℤ)
    → Dropped (length xs) es front rest kept
    → All IsHomogeneous es → All IsHomogeneous (front ++ rest) → AreNotNegative xs → HoldsOver es kept d xs
    → HoldsOver es (front ++ rest) d xs
dropped_implied es front [] kept d xs h he hs positive holds =
    subst (λ (fs : List Affine). HoldsOver es fs d xs) (sym h ∙ sym (append-nil front)) holds
dropped_implied es front (r ∷ rest) kept d xs (inl h) he hs positive holds =
    let joined = append_assoc front (r ∷ []) rest in
    let homogeneous = subst (λ (fs : List Affine). All IsHomogeneous fs) (sym joined) hs in
    subst (λ (fs : List Affine). HoldsOver es fs d xs) joined
    (dropped_implied es (front ++ r ∷ []) rest kept d xs h he homogeneous positive holds)
dropped_implied es front (r ∷ rest) kept d xs (inr h) he hs positive holds =
    let f = all_front IsHomogeneous front (r ∷ rest) hs in
    let b = all_back IsHomogeneous front (r ∷ rest) hs in
    let others = All-append IsHomogeneous front rest f (All-tail IsHomogeneous r rest b) in
    implied_row es front r rest d xs he others (All-head IsHomogeneous r rest b) h.0 positive
    (dropped_implied es front rest kept d xs h.1 he others positive holds)

-- one elimination and its dropping
leaves_step : (n : ℕ) (es rs es' rs' kept : List Affine) (d : ℤ) (xs : List ℤ) → AreNotNegative xs
    → HoldsForSomeMore n es' rs' d xs ↔ HoldsForSomeMore (suc n) es rs d xs
    → Dropped (length xs + n) es' [] rs' kept → AreAmong (own_rows (length xs) n) kept → All IsHomogeneous es'
    → All IsHomogeneous rs'
    → HoldsForSomeMore n es' kept d xs ↔ HoldsForSomeMore (suc n) es rs d xs
leaves_step n es rs es' rs' kept d xs positive step dropped own he hr =
    let same = dropping_keeps n es' rs' kept d xs positive
    (λ e point holds. (
      holds.0,
      dropped_among (length xs + n) es' [] rs' kept
          (λ f. pos 0 ≤ℤ value_over f e point) dropped holds.1,
    ))
    (λ e point holds. own e point holds.1)
    (λ e point size nonneg holds.
    dropped_implied es' [] rs' kept e point
    (subst (λ (m : ℕ). Dropped m es' [] rs' kept) (sym size) dropped) he hr nonneg holds) in
    (λ h. step.0 (same.0 h), λ h. same.1 (step.1 h))

-- whole unknowns that are not negative satisfy what is left exactly where some fractions for what was eliminated
-- satisfy all
pub leaves_exactly : (n : ℕ) (es rs last_es last_rs : List Affine) (d : ℤ) (xs : List ℤ) → AreNotNegative xs
    → Leaves (length xs) n es rs last_es last_rs → HoldsOver last_es last_rs d xs ↔ HoldsForSomeMore n es rs d xs
leaves_exactly zero es rs last_es last_rs d xs positive h =
    let e = chain_end es rs d xs in
    let same : HoldsOver last_es last_rs d xs ↔ HoldsOver es rs d xs = (
      λ k. subst (λ (fs : List Affine). HoldsOver fs rs d xs) (sym h.0)
          (subst (λ (fs : List Affine). HoldsOver last_es fs d xs) (sym h.1) k),
      λ k. subst (λ (fs : List Affine). HoldsOver last_es fs d xs) h.1
          (subst (λ (fs : List Affine). HoldsOver fs rs d xs) h.0 k),
    ) in
    (λ k. e.1 (same.0 k), λ k. same.1 (e.0 k))
leaves_exactly (suc n) es rs last_es last_rs d xs positive h =
    let b = length xs in
    let es' = map (narrowed b) (eliminated b es rs).0 in
    let rs' = map (narrowed b) (eliminated b es rs).1 in
    let step = leaves_step n es rs es' rs' h.0 d xs positive (chain_step n es rs d xs) h.1 h.2 h.3 h.4 in
    let more = leaves_exactly n es' h.0 last_es last_rs d xs positive h.5 in
    (λ k. step.0 (more.0 k), λ k. more.1 (step.1 k))

-- what is left when m0 and the multipliers are eliminated from the matching of coefficients is Farkas's identity
pub left_is_farkas : (ls : List (List ℤ)) (l0 : List ℤ) (gs last_es last_rs : List Affine) (xs : List ℤ)
    → All (λ l. length l ≡ length xs) ls → length l0 ≡ length xs → All (λ g. length g.coefficients ≤ length ls) gs
    → AreNotNegative xs
    → Leaves (length xs) (suc (length gs)) (matched_from 0 ls l0 gs)
    (own_rows (length xs) (suc (length gs))) last_es last_rs
    → HoldsOver last_es last_rs (pos 1) xs ↔ HasFarkas gs (form_at ls l0 xs)
left_is_farkas ls l0 gs last_es last_rs xs hs h0 sized positive h =
    let own = own_rows (length xs) (suc (length gs)) in
    let a = leaves_exactly (suc (length gs)) (matched_from 0 ls l0 gs) own last_es last_rs (pos 1) xs positive h in
    let b = matching_is_farkas ls l0 gs xs hs h0 sized in
    (λ k. b.0 (a.0 k), λ k. a.1 (b.1 k))
