-- The order of places is the order of the tiling.
use Rattle.scop_syntax.proofs.Common.{◌≡◌, ℕ, zero, suc, ◌+◌, ◌-◌, ◌<◌, ◌≤◌, ℤ, pos, List, [], ◌∷◌, ◌++◌, refl, sym}
use Rattle.scop_syntax.proofs.Common.{◌∙◌, ap, subst, arith, length, map, inl, inr, ◌↔◌, length-map, value_of, floor}
use Rattle.scop_syntax.proofs.Common.{LexLess, zeros, length-zeros, LexLess-irrefl, LexLess-rest, Instance}
use Rattle.std.proofs.lemmas.List.{append_assoc, length-append}
use Rattle.whole_numbers.proofs.Lexicographic.{LexLess-append_iff}
use Rattle.loop_tree.specs.Tiling.{TileRow, Items, item_values, coordinates, wave_sum, order_of}
use Rattle.schedule_rows.specs.Items.{Marked, Block, scalar, band}
use Rattle.schedule_rows.proofs.BlockOrder.{length-values}
use Rattle.tile_skew.specs.Places.{place_of}
use Rattle.tile_skew.specs.Tilings.{rows_at, leading_at, first_band_at, statement_items}
use Rattle.tile_skew.specs.Tilings.{statements_from}
use Rattle.tile_skew.proofs.TilingAgreement.{items_found, order_by, values_agree}

-- behind fronts of one length, what matters is what stands behind equal ones
behind_fronts : (xs ys us vs ms ns : List ℤ) → length xs ≡ length ys → (xs ≡ ys → LexLess us vs ↔ LexLess ms ns)
    → LexLess (xs ++ us) (ys ++ vs) ↔ LexLess (xs ++ ms) (ys ++ ns)
behind_fronts xs ys us vs ms ns e f =
    let first = LexLess-append_iff xs ys us vs e in
    let second = LexLess-append_iff xs ys ms ns e in (
      λ h. elim (first.0 h) [
        | inl less ↦ second.1 (inl less)
        | inr q ↦ second.1 (inr (q.0, (f q.0).0 q.1))
      ],
      λ h. elim (second.0 h) [
        | inl less ↦ first.1 (inl less)
        | inr q ↦ first.1 (inr (q.0, (f q.0).1 q.1))
      ],
    )

-- equal fronts do not count
equal_fronts : (xs ys us vs : List ℤ) → xs ≡ ys → LexLess us vs ↔ LexLess (xs ++ us) (ys ++ vs)
equal_fronts xs ys us vs e = (
  λ h. subst (λ zs. LexLess (xs ++ us) (zs ++ vs)) e (LexLess-rest xs us vs h),
  λ h. elim ((LexLess-append_iff xs ys us vs (ap length e)).0 h) [
    | inl less ↦ absurd (LexLess-irrefl ys (subst (λ zs. LexLess zs ys) e less))
    | inr q ↦ q.1
  ],
)

both_ways : {A B C : Type 0} → A ↔ B → B ↔ C → A ↔ C
both_ways f g = (λ a. g.0 (f.0 a), λ c. f.1 (g.1 c))

moved : {a b c d : List ℤ} → a ≡ b → c ≡ d → LexLess b d → LexLess a c
moved {a = a} {b = b} {c = c} e f h = subst (λ us. LexLess us c) (sym e) (subst (λ us. LexLess b us) (sym f) h)

-- lists that are others are in order as those are
as_other : {a b c d p q r s : List ℤ} → a ≡ p → b ≡ q → c ≡ r → d ≡ s → LexLess p q ↔ LexLess r s
    → LexLess a b ↔ LexLess c d
as_other e f g h k = (λ l. moved g h (k.0 (moved (sym e) (sym f) l)), λ l. moved e f (k.1 (moved (sym g) (sym h) l)))

-- the parts of a place and of an order, the leading scalars standing twice in the order
twice : (hs bs w v cs ds is js us vs zs ns ms : List ℤ) → length hs ≡ length bs → length w ≡ length v
    → length cs ≡ length ds → length is ≡ length js → length us ≡ length vs
    → LexLess (hs ++ (w ++ (cs ++ (is ++ (us ++ ns))))) (bs ++ (v ++ (ds ++ (js ++ (vs ++ ms)))))
    ↔ LexLess (hs ++ (w ++ (hs ++ (cs ++ (is ++ (us ++ (zs ++ ns)))))))
    (bs ++ (v ++ (bs ++ (ds ++ (js ++ (vs ++ (zs ++ ms)))))))
twice hs bs w v cs ds is js us vs zs ns ms a b c d e =
    let whole = cs ++ (is ++ (us ++ (zs ++ ns))) in
    let other = ds ++ (js ++ (vs ++ (zs ++ ms))) in
    behind_fronts hs bs (w ++ (cs ++ (is ++ (us ++ ns)))) (v ++ (ds ++ (js ++ (vs ++ ms)))) (w ++ (hs ++ whole))
    (v ++ (bs ++ other)) a
    (λ same. behind_fronts w v (cs ++ (is ++ (us ++ ns))) (ds ++ (js ++ (vs ++ ms))) (hs ++ whole) (bs ++ other) b
    (λ q. both_ways
    (behind_fronts cs ds (is ++ (us ++ ns)) (js ++ (vs ++ ms)) (is ++ (us ++ (zs ++ ns))) (js ++ (vs ++ (zs ++ ms))) c
    (λ r. behind_fronts is js (us ++ ns) (vs ++ ms) (us ++ (zs ++ ns)) (vs ++ (zs ++ ms)) d
    (λ s. behind_fronts us vs ns ms (zs ++ ns) (zs ++ ms) e
    (λ t. equal_fronts zs zs ns ms refl))))
    (equal_fronts hs bs whole other same)))

zeros_both : (m n : ℕ) → zeros (m + n) ≡ zeros m ++ zeros n
zeros_both zero n = let e : 0 + n ≡ n = omega arith in ap zeros e
zeros_both (suc m) n =
    let e : suc m + n ≡ suc (m + n) = omega arith in
    ap zeros e ∙ ap (λ (zs : List ℤ). pos 0 ∷ zs) (zeros_both m n)

-- a place as its parts
place_parts : (size : ℤ) (n : ℕ) (s : Items) (ts ns : List ℤ)
    → place_of size n s ts ++ ns
    ≡ map pos s.leading ++ ((wave_sum size s.band ts ∷ []) ++ (coordinates size s.band ts ++ (item_values s ts
    ++ ((ts ++ zeros (n - length ts)) ++ ns))))
place_parts size n s ts ns =
    let w = wave_sum size s.band ts in
    let cs = coordinates size s.band ts in
    let is = item_values s ts in
    let us = ts ++ zeros (n - length ts) in
    append_assoc (map pos s.leading ++ w ∷ (cs ++ is)) us ns
    ∙ (append_assoc (map pos s.leading) (w ∷ (cs ++ is)) (us ++ ns)
    ∙ ap (λ (ys : List ℤ). map pos s.leading ++ w ∷ ys) (append_assoc cs is (us ++ ns)))

-- an order as its parts
order_parts : (n : ℕ) (ls ws cs is ts ns : List ℤ) → length ts ≤ n → n ≤ 5
    → (ls ++ ws) ++ ((ls ++ cs) ++ (is ++ (ts ++ (zeros (5 - length ts) ++ ns))))
    ≡ ls ++ (ws ++ (ls ++ (cs ++ (is ++ ((ts ++ zeros (n - length ts)) ++ (zeros (5 - n) ++ ns))))))
order_parts n ls ws cs is ts ns few most =
    let e : 5 - length ts ≡ (n - length ts) + (5 - n) = omega arith in
    let split = ap zeros e ∙ zeros_both (n - length ts) (5 - n) in
    let last : ts ++ (zeros (5 - length ts) ++ ns) ≡ (ts ++ zeros (n - length ts)) ++ (zeros (5 - n) ++ ns) =
    ap (λ (zs : List ℤ). ts ++ (zs ++ ns)) split
    ∙ (ap (λ (zs : List ℤ). ts ++ zs) (append_assoc (zeros (n - length ts)) (zeros (5 - n)) ns)
    ∙ sym (append_assoc ts (zeros (n - length ts)) (zeros (5 - n) ++ ns))) in
    append_assoc ls ws ((ls ++ cs) ++ (is ++ (ts ++ (zeros (5 - length ts) ++ ns))))
    ∙ ap (λ (ys : List ℤ). ls ++ (ws ++ ys))
    (append_assoc ls cs (is ++ (ts ++ (zeros (5 - length ts) ++ ns)))
    ∙ ap (λ (ys : List ℤ). ls ++ (cs ++ (is ++ ys))) last)

-- the parts of two statements have one length
rows_lengths : (ms : List Marked) (j k : ℕ) → length (rows_at ms j) ≡ length (rows_at ms k)
rows_lengths [] j k = refl
rows_lengths (m ∷ ms) j k = ap suc (rows_lengths ms j k)

pub leading_lengths : (bs : List Block) (j k : ℕ) → length (leading_at bs j) ≡ length (leading_at bs k)
leading_lengths [] j k = refl
leading_lengths (scalar numbers ∷ bs) j k = ap suc (leading_lengths bs j k)
leading_lengths (band ms ∷ bs) j k = refl

pub band_lengths : (bs : List Block) (j k : ℕ) → length (first_band_at bs j) ≡ length (first_band_at bs k)
band_lengths [] j k = refl
band_lengths (scalar numbers ∷ bs) j k = band_lengths bs j k
band_lengths (band ms ∷ bs) j k = rows_lengths ms j k

padded_length : (n : ℕ) (ts : List ℤ) → length ts ≤ n → length (ts ++ zeros (n - length ts)) ≡ n
padded_length n ts h =
    let a = length-append ts (zeros (n - length ts)) in
    let z = length-zeros (n - length ts) in
    omega arith

pub in_order_of : (bs : List Block) (size count n : ℕ) (x y : Instance) → x.number < count → y.number < count
    → length x.turns ≤ n → length y.turns ≤ n → n ≤ 5
    → LexLess (place_of (pos size) n (statement_items bs x.number) x.turns ++ pos x.number ∷ [])
    (place_of (pos size) n (statement_items bs y.number) y.turns ++ pos y.number ∷ [])
    ↔ LexLess (order_of size (statements_from bs 0 count) x) (order_of size (statements_from bs 0 count) y)
in_order_of bs size count n x y hx hy fx fy most =
    let z = pos size in
    let s = statement_items bs x.number in
    let t = statement_items bs y.number in
    let leads = length-map s.leading pos ∙ (leading_lengths bs x.number y.number ∙ sym (length-map t.leading pos)) in
    let tiles = length-map s.band (λ (r : TileRow). floor (value_of r.form x.turns) z)
    ∙ (band_lengths bs x.number y.number
    ∙ sym (length-map t.band (λ (r : TileRow). floor (value_of r.form y.turns) z))) in
    let items = ap length (values_agree bs x) ∙ (length-values bs x y ∙ sym (ap length (values_agree bs y))) in
    let turns = padded_length n x.turns fx ∙ sym (padded_length n y.turns fy) in
    let same = twice (map pos s.leading) (map pos t.leading) (wave_sum z s.band x.turns ∷ [])
    (wave_sum z t.band y.turns ∷ []) (coordinates z s.band x.turns) (coordinates z t.band y.turns)
    (item_values s x.turns) (item_values t y.turns) (x.turns ++ zeros (n - length x.turns))
    (y.turns ++ zeros (n - length y.turns)) (zeros (5 - n)) (pos x.number ∷ []) (pos y.number ∷ []) leads refl tiles
    items turns in
    let first = place_parts z n s x.turns (pos x.number ∷ []) in
    let second = place_parts z n t y.turns (pos y.number ∷ []) in
    let third = ap (order_by z x) (items_found bs count x.number hx)
    ∙ order_parts n (map pos s.leading) (wave_sum z s.band x.turns ∷ []) (coordinates z s.band x.turns)
    (item_values s x.turns) x.turns (pos x.number ∷ []) fx most in
    let fourth = ap (order_by z y) (items_found bs count y.number hy)
    ∙ order_parts n (map pos t.leading) (wave_sum z t.band y.turns ∷ []) (coordinates z t.band y.turns)
    (item_values t y.turns) y.turns (pos y.number ∷ []) fy most in
    as_other first second third fourth same
