-- Rows that hold at each of several sets.
use Rattle.scop_syntax.proofs.Common.{◌≡◌, ℕ, zero, suc, ◌+◌, ◌<◌, ℤ, pos, negsuc, List, [], ◌∷◌, ◌++◌, length, get_or}
use Rattle.scop_syntax.proofs.Common.{refl, ap, subst, sym, ◌∙◌, All, arith, neg_ℤ, ◌+ℤ◌, ◌*ℤ◌, ◌≤ℤ◌, zeros}
use Rattle.scop_syntax.proofs.Common.{length-zeros, get_or-append_seam, mul_one_left, mul_neg_left, ints, All-append}
use Rattle.scop_syntax.proofs.Common.{All-cons, All-nil, Affine, value_of, form_of, ◌≤◌, ◌^◌, unsigned_abs}
use Rattle.std.proofs.Math.ListN.{length-set}
use Rattle.affine_forms.specs.Parts.{variables_of}
use Rattle.fm_projection.proofs.WholePoints.{one_more}
use Rattle.fm_projection.proofs.Ranges.{place_value}
use Rattle.scop_syntax.specs.Limits.{AreInRange}
use Rattle.integer_sets.specs.Scanned.{Scanned}
use Rattle.fm_projection.specs.Alone.{place_form}
use Rattle.plain_scan.specs.Between.{HasSmallNumbers}
use Rattle.plain_scan.specs.declared.outline.Shadow.{Shadow}
use Rattle.plain_scan.specs.declared.set_outline.Outline.{Outline}
use Rattle.plain_scan.specs.Sets.{IsKeyOf}
use Rattle.plain_scan.specs.Outlines.{IsRowBefore, IsShadowOf}
use Rattle.plain_scan.specs.Hulls.{HoldsAt, IsAlike, IsHullRow, AreHullRows, IsHull}
use Rattle.plain_scan.specs.steps.Pieces.{Hold}
use Rattle.plain_scan.proofs.Rows.{weaker_row}
use Rattle.plain_scan.proofs.Smallness.{place_has_small}

pub weaker : (depth : ℕ) (cs : List ℤ) (c d : ℤ) (o : Outline) → c ≤ℤ d → HoldsAt depth (form_of cs c) o
    → HoldsAt depth (form_of cs d) o
weaker depth cs c d o less h = λ params outer r range size key. weaker_row cs c d (outer ++ params) less
    (h params outer r range size key)

-- one element more
pub next_at : (Q : Outline → Type 0) (xs : List Outline) (i : ℕ) (o : Outline) → o ≡ get_or xs i o → i < length xs
    → ((k : ℕ) (d : Outline) → k < i → Q (get_or xs k d)) → Q o → (k : ℕ) (d : Outline) → k < i + 1 → Q (get_or xs k d)
next_at Q [] i o is inside all one k d less = absurd (omega (arith, inside))
next_at Q (x ∷ xs) zero o is inside all one zero d less = subst Q is one
next_at Q (x ∷ xs) zero o is inside all one (suc k) d less = absurd (omega (arith, less))
next_at Q (x ∷ xs) (suc i) o is inside all one zero d less = all 0 d (omega arith)
next_at Q (x ∷ xs) (suc i) o is inside all one (suc k) d less =
    next_at Q xs i o is (omega (arith, inside)) (λ j e l. all (suc j) e (omega (arith, l))) one k d
    (omega (arith, less))

-- the rows of a shadow hold at each key of the set
pub rows_at : (n : ℕ) (s : Scanned) (fs : List Affine) (params outer r : List ℤ) → All (IsRowBefore n s) fs
    → AreInRange params → length outer + n ≡ s.system.dimensions → IsKeyOf params s (outer ++ r)
    → Hold fs (outer ++ params)
rows_at n s fs params outer r rows range size key = λ k d inside. (rows k d inside).holds params outer r range size key

pub own_row : (depth : ℕ) (cs : List ℤ) (c : ℤ) (o : Outline) (fs : List Affine)
    → All (IsRowBefore depth o.set.now) fs
    → ((point : List ℤ) → Hold fs point → pos 0 ≤ℤ value_of (form_of cs c) point) → HoldsAt depth (form_of cs c) o
own_row depth cs c o fs rows h = λ params outer r range size key. h (outer ++ params)
    (rows_at depth o.set.now fs params outer r rows range size key)

-- the last value in front of the parameters
last_of : (front : List ℤ) (m : ℕ) → length front ≡ suc m → (outer : List ℤ) × (x : ℤ) × (front ≡ outer ++ x ∷ [])
    × (length outer ≡ m)
last_of [] m size = absurd (omega (arith, size))
last_of (y ∷ []) zero size = ([], y, refl, refl)
last_of (y ∷ []) (suc m) size = absurd (omega (arith, size))
last_of (y ∷ z ∷ front) zero size = absurd (omega (arith, size))
last_of (y ∷ z ∷ front) (suc m) size =
    let r = last_of (z ∷ front) m (omega (arith, size)) in
    (y ∷ r.0, r.1, ap (λ (zs : List ℤ). y ∷ zs) r.2, ap suc r.3)

-- some shadow
any_of : (xs : List Shadow) (k : ℕ) → k < length xs → Shadow
any_of [] k inside = absurd (omega (arith, inside))
any_of (x ∷ xs) k inside = x

any_shadow : (o : Outline) (k : ℕ) → k < length o.shadows.items → Shadow
any_shadow o k inside = any_of o.shadows.items k inside

number_value : (n place : ℕ) (k c : ℤ) (outer : List ℤ) (x : ℤ) (params : List ℤ) → place < n → length outer ≡ place
    → value_of (place_form n place k c) ((outer ++ x ∷ []) ++ params) ≡ (k *ℤ x) +ℤ c
number_value n place k c outer x params inside size =
    let e = one_more outer x params in
    let v = place_value n place k c (outer ++ x ∷ params) inside in
    let g : get_or (outer ++ x ∷ params) place (pos 0) ≡ x =
    subst (λ (i : ℕ). get_or (outer ++ x ∷ params) i (pos 0) ≡ x) size (get_or-append_seam outer x params (pos 0)) in
    subst (λ (z : ℤ). value_of (place_form n place k c) ((outer ++ x ∷ []) ++ params) ≡ (k *ℤ z) +ℤ c) g
    (ap (λ (q : List ℤ). value_of (place_form n place k c) q) e ∙ v)

-- the numbers of a shadow hold at each key
between_at : (depth place : ℕ) (o : Outline) (d : Shadow) → depth < length o.shadows.items
    → o.set.now.system.dimensions ≡ place + suc depth
    → (params outer : List ℤ) (x : ℤ) (r : List ℤ) → AreInRange params → length outer ≡ place
    → IsKeyOf params o.set.now ((outer ++ x ∷ []) ++ r)
    → ((get_or o.shadows.items depth d).low ≤ℤ x) × (x ≤ℤ (get_or o.shadows.items depth d).high)
between_at depth place o d inside dims params outer x r range size key =
    (o.are.each depth d inside).between params outer x r range (omega (arith, size, dims))
    (subst (IsKeyOf params o.set.now) (one_more outer x r) key)

pub low_holds : (depth place n : ℕ) (low number : ℤ) (o : Outline) → place < n
    → o.set.now.system.dimensions ≡ place + suc depth → depth < length o.shadows.items
    → number ≡ neg_ℤ low → ((d : Shadow) → low ≤ℤ (get_or o.shadows.items depth d).low)
    → HoldsAt depth (place_form n place (pos 1) number) o
low_holds depth place n low number o inside dims here is least params front r range size key =
    let q = last_of front place (omega (arith, size, dims)) in
    let key2 = subst (λ (zs : List ℤ). IsKeyOf params o.set.now (zs ++ r)) q.2 key in
    let d = any_shadow o depth here in
    let b = (between_at depth place o d here dims params q.0 q.1 r range q.3 key2).0 in
    let l = least d in
    let v = number_value n place (pos 1) number q.0 q.1 params inside q.3 in
    let one = mul_one_left q.1 in
    subst (λ (zs : List ℤ). pos 0 ≤ℤ value_of (place_form n place (pos 1) number) (zs ++ params)) (sym q.2)
    (omega (arith, ints, v, one, b, l, is))

pub high_holds : (depth place n : ℕ) (high : ℤ) (o : Outline) → place < n
    → o.set.now.system.dimensions ≡ place + suc depth → depth < length o.shadows.items
    → ((d : Shadow) → (get_or o.shadows.items depth d).high ≤ℤ high)
    → HoldsAt depth (place_form n place (negsuc 0) high) o
high_holds depth place n high o inside dims here most params front r range size key =
    let q = last_of front place (omega (arith, size, dims)) in
    let key2 = subst (λ (zs : List ℤ). IsKeyOf params o.set.now (zs ++ r)) q.2 key in
    let d = any_shadow o depth here in
    let b = (between_at depth place o d here dims params q.0 q.1 r range q.3 key2).1 in
    let l = most d in
    let v = number_value n place (negsuc 0) high q.0 q.1 params inside q.3 in
    let one = mul_neg_left (pos 1) q.1 in
    let two = mul_one_left q.1 in
    subst (λ (zs : List ℤ). pos 0 ≤ℤ value_of (place_form n place (negsuc 0) high) (zs ++ params)) (sym q.2)
    (omega (arith, ints, v, one, two, b, l))

pub no_greater : (a b c : ℤ) → a ≤ℤ b → b ≤ℤ c → a ≤ℤ c
no_greater a b c h k = omega (arith, ints, h, k)

-- the hull with its two numbers alone
pub hull_start : (depth place n : ℕ) (outlines : List Outline) (fs : List Affine) (low number high : ℤ) → place < n
    → All (IsAlike depth n) outlines → All (λ o. o.set.now.system.dimensions ≡ place + suc depth) outlines
    → number ≡ neg_ℤ low → unsigned_abs number ≤ 2 ^ 40 → unsigned_abs high ≤ 2 ^ 40
    → All (λ o. (d : Shadow) → low ≤ℤ (get_or o.shadows.items depth d).low) outlines
    → All (λ o. (d : Shadow) → (get_or o.shadows.items depth d).high ≤ℤ high) outlines
    → fs ≡ place_form n place (pos 1) number ∷ place_form n place (negsuc 0) high ∷ []
    → IsHull depth place n outlines fs
hull_start depth place n outlines fs low number high inside alike dims opposite small_low small_high least most is =
    let P = IsHullRow depth n outlines in
    let first = place_form n place (pos 1) number in
    let second = place_form n place (negsuc 0) high in
    record {
      low = number;
      high = high;
      others = [];
      is = is;
      rows =
          subst (AreHullRows depth n outlines) (sym is)
          (All-cons P first (second ∷ [])
          (record {
            sized = length-set (zeros n) place (pos 1) ∙ length-zeros n;
            small = place_has_small n place (pos 1) number (omega arith) small_low;
            holds = λ k d here. low_holds depth place n low number (get_or outlines k d) inside (dims k d here)
                (alike k d here).inside opposite (least k d here);
          })
          (All-cons P second []
          (record {
            sized = length-set (zeros n) place (negsuc 0) ∙ length-zeros n;
            small = place_has_small n place (negsuc 0) high (omega arith) small_high;
            holds = λ k d here. high_holds depth place n high (get_or outlines k d) inside (dims k d here)
                (alike k d here).inside (most k d here);
          })
          (All-nil P)));
    }

pub hull_row_more : (depth n : ℕ) (outlines : List Outline) (old new : List Affine) (f : Affine) → new ≡ old ++ f ∷ []
    → AreHullRows depth n outlines old → IsHullRow depth n outlines f → AreHullRows depth n outlines new
hull_row_more depth n outlines old new f is rows row =
    let P = IsHullRow depth n outlines in
    subst (AreHullRows depth n outlines) (sym is)
    (All-append P old (f ∷ []) rows (All-cons P f [] row (All-nil P)))

hull_more : (depth place n : ℕ) (outlines : List Outline) (fs gs more : List Affine)
    → IsHull depth place n outlines fs → gs ≡ fs ++ more
    → AreHullRows depth n outlines gs → IsHull depth place n outlines gs
hull_more depth place n outlines fs gs more h is rows = record {
  low = h.low;
  high = h.high;
  others = h.others ++ more;
  is = is ∙ ap (λ (xs : List Affine). xs ++ more) h.is;
  rows = rows;
}

-- its rows speak of the place
pub hull_sized : (depth place n : ℕ) (outlines : List Outline) (fs : List Affine) → place < n
    → IsHull depth place n outlines fs → All (λ f. place < variables_of f) fs
hull_sized depth place n outlines fs inside h k d here =
    let size = (h.rows k d here).sized in omega (arith, size, inside)

-- a row of the first set's shadow: what appending rows made of it asks, and that the rows stay those of a hull
pub record IsFirstRow (depth place n : ℕ) (outlines : List Outline) (f : Affine) : Type 0 where
  pub inside : place < variables_of f
  pub alike : All (IsAlike depth (variables_of f)) outlines
  pub small : HasSmallNumbers f
  pub stays : (old new : List Affine) → IsHull depth place n outlines old
      → ((more : List Affine) × (new ≡ old ++ more))
      → (AreHullRows depth (variables_of f) outlines old → AreHullRows depth (variables_of f) outlines new)
      → IsHull depth place n outlines new

pub first_row : (depth place n : ℕ) (outlines : List Outline) (o : Outline) (h : Shadow) (fs : List Affine) (k : ℕ)
    (f : Affine) → All (IsAlike depth n) outlines → place < n → 0 < length outlines
    → h ≡ get_or (get_or outlines 0 o).shadows.items depth h → fs ≡ h.rows.items → k < length fs → f ≡ get_or fs k f
    → IsFirstRow depth place n outlines f
first_row depth place n outlines o h fs k f alike inside some at is here one =
    let first = get_or outlines 0 o in
    let same : IsAlike depth n first = alike 0 o some in
    let shadow = subst (IsShadowOf depth first.set.now) (sym at) (first.are.each depth h same.inside) in
    let rows = subst (All (IsRowBefore depth first.set.now)) (sym is) shadow.rows in
    let row = rows k f here in
    let own = ap variables_of one in
    let wide = row.sized in
    let count = same.count in
    let size : variables_of f ≡ n = omega (arith, own, wide, count) in
    record {
      inside = omega (arith, size, inside);
      alike = subst (λ m. All (IsAlike depth m) outlines) (sym size) alike;
      small = subst HasSmallNumbers (sym one) row.small;
      stays = λ old new hull more kept.
          let keep = subst (λ m. AreHullRows depth m outlines old → AreHullRows depth m outlines new) size kept in
          hull_more depth place n outlines old new more.0 hull more.1 (keep hull.rows);
    }
