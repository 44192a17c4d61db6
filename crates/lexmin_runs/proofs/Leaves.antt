-- The leaf's tree gives the parts over their denominators.
use Rattle.whole_numbers.proofs.Common.{◌≡◌, ℕ, suc, ◌+◌, ◌<◌, ◌≤◌, ℤ, pos, ◌+ℤ◌, ◌*ℤ◌, ◌<ℤ◌, Bool, true, false, List}
use Rattle.whole_numbers.proofs.Common.{[], ◌∷◌, ◌++◌, length, get_or, map, drop, refl, subst, ap, ap₂, sym, ◌∙◌, arith}
use Rattle.whole_numbers.proofs.Common.{length-append, append_assoc, if◌then◌else◌, ints, length-drop, length-map, dot}
use Rattle.whole_numbers.proofs.Common.{zeros, multiples, Affine, value_of, form_of, floor, remainder, mul_one_left}
use Rattle.whole_numbers.proofs.Common.{mul_distrib_left, mul_comm_int, floor_is, floor_unique, dot-padded, dot-append}
use Rattle.whole_numbers.proofs.Common.{dot-zeros, dot-multiples, length-zeros, dot-past}
use Rattle.std.proofs.lemmas.List.{append-nil}
use Rattle.tableau_rows.specs.Rows.{Row, entry, Sized}
use Rattle.tableau_rows.specs.Problem.{row_values, Speaks}
use Rattle.tableau_rows.specs.Run.{point}
use Rattle.lexmin_runs.specs.Nodes.{longer_form, part_of, is_zero, all_divided, divided, padded, leaf_tree}
use Rattle.lexmin_runs.proofs.Verdicts.{verdict}
use Rattle.lexmin_runs.proofs.AddedParameters.{zero_true, values-longer, speaks-longer, speaks-append}
use Rattle.lexmin_runs.proofs.AddedParameters.{row_values-append}
use Rattle.quast_trees.specs.Tree.{bind}

-- the parts over their denominators at a point
abbrev pub floors : ℕ → List Row → List ℤ → List ℤ
floors n [] p = []
floors n (row ∷ rows) p = floor (value_of (part_of n row) p) row.denominator ∷ floors n rows p

pub divided-multiples : (d : ℤ) (zs : List ℤ) → all_divided d zs ≡ true
    → zs ≡ multiples d (map (λ (z : ℤ). floor z d) zs)
divided-multiples d [] h = refl
divided-multiples d (z ∷ zs) h = by_zero (is_zero (remainder z d)) refl h (λ g. divided-multiples d zs g)
  where
    by_zero : (b : Bool) → is_zero (remainder z d) ≡ b → (if b then all_divided d zs else false) ≡ true
        → (all_divided d zs ≡ true → zs ≡ multiples d (map (λ (z : ℤ). floor z d) zs))
        → z ∷ zs ≡ multiples d (map (λ (z : ℤ). floor z d) (z ∷ zs))
    by_zero true e h more =
        let a = zero_true (remainder z d) e in
        let f : z ≡ d *ℤ floor z d = omega (arith, ints) in
        ap₂ (λ (k : ℤ) (ks : List ℤ). k ∷ ks) f (more h)
    by_zero false e h more = cc

pub divided-value : (d : ℤ) (f : Affine) (p : List ℤ) → all_divided d (f.constant ∷ f.coefficients) ≡ true
    → value_of f p ≡ d *ℤ value_of (divided d f) p
divided-value d f p h =
    let m = divided-multiples d (f.constant ∷ f.coefficients) h in
    let bs = map (λ (z : ℤ). floor z d) f.coefficients in
    let a : f.constant ≡ d *ℤ floor f.constant d = ap (λ (zs : List ℤ). get_or zs 0 (pos 0)) m in
    let b : f.coefficients ≡ multiples d bs = ap (λ (zs : List ℤ). drop 1 zs) m in
    let c = ap (λ (zs : List ℤ). dot zs p) b in
    let e = dot-multiples d bs p in
    let s = mul_distrib_left (dot bs p) (floor f.constant d) d in
    omega (arith, ints)

-- a multiple's quotient
pub floor-multiple : (d x : ℤ) → pos 0 <ℤ d → floor (d *ℤ x) d ≡ x
floor-multiple d x positive =
    let c = mul_comm_int x d in
    floor_unique (d *ℤ x) d (floor (d *ℤ x) d) x positive (floor_is (d *ℤ x) d positive)
    (record { below = omega (arith, ints); above = omega (arith, ints) })

pub padded-value : (k : ℕ) (f : Affine) (p : List ℤ) → value_of (padded k f) p ≡ value_of f p
padded-value k f p = ap (λ (z : ℤ). z +ℤ f.constant) (dot-padded f.coefficients k p)

pub value-last : (p : List ℤ) (q : ℤ) (m : ℕ) → length p ≡ m
    → value_of (form_of (zeros m ++ pos 1 ∷ []) (pos 0)) (p ++ q ∷ []) ≡ q
value-last p q m size =
    let a = dot-append (zeros m) (pos 1 ∷ []) p (q ∷ []) (length-zeros m ∙ sym size) in
    let b = dot-zeros m p in
    let c = mul_one_left q in
    omega (arith, ints)

-- the parts do not speak of parameters bound behind them
pub floors-within : (m n : ℕ) (rows : List Row) (p : List ℤ) (q : ℤ) → Sized m rows → m ≤ n + 1 + length p
    → floors n rows (p ++ q ∷ []) ≡ floors n rows p
floors-within m n [] p q sized h = refl
floors-within m n (row ∷ rows) p q sized h =
    let l = length-drop (n + 1) row.entries in
    let k = sized.1 in
    let e = dot-past (drop (n + 1) row.entries) p (q ∷ []) (omega arith) in
    ap₂ (λ (z : ℤ) (zs : List ℤ). z ∷ zs) (ap (λ (z : ℤ). floor (z +ℤ entry row n) row.denominator) e)
    (floors-within m n rows p q sized.2 h)

pub leaf_tree-value : (n m k size : ℕ) (rows : List Row) (forms : List Affine) (p : List ℤ) → length p ≡ m
    → Speaks m forms → Sized size rows
    → size + k ≡ n + 1 + m → n < size
    → verdict (leaf_tree n m k rows forms) p ≡ point (row_values forms p ++ floors n rows p)
leaf_tree-value n m k size [] forms p long speaks sized h more =
    ap (λ (xs : List ℤ). point xs) (sym (append-nil (row_values forms p)))
leaf_tree-value n m k size (row ∷ rows) forms p long speaks sized h more =
    by_division (all_divided row.denominator (entry row n ∷ drop (n + 1) row.entries)) refl
    (λ fs s. leaf_tree-value n m k size rows fs p long s sized.2 h more)
    (λ q fs s. leaf_tree-value n (suc m) (suc k) size rows fs (p ++ q ∷ []) (simp length-append (omega arith)) s
    sized.2 (omega arith) more)
  where
    d : ℤ
    d = row.denominator

    f : Affine
    f = part_of n row

    size_of : length f.coefficients + k ≡ m
    size_of = let l = length-drop (n + 1) row.entries in let e = sized.1 in omega arith

    by_division : (b : Bool) → all_divided d (f.constant ∷ f.coefficients) ≡ b
        → ((fs : List Affine) → Speaks m fs → verdict (leaf_tree n m k rows fs) p ≡ point
        (row_values fs p ++ floors n rows p))
        → ((q : ℤ) (fs : List Affine) → Speaks (suc m) fs
        → verdict (leaf_tree n (suc m) (suc k) rows fs) (p ++ q ∷ []) ≡ point
        (row_values fs (p ++ q ∷ []) ++ floors n rows (p ++ q ∷ [])))
        → verdict (if b then leaf_tree n m k rows (forms ++ padded k (divided d f) ∷ [])
        else bind (padded k f) d (leaf_tree n (suc m) (suc k) rows
        (map longer_form forms ++ form_of (zeros m ++ pos 1 ∷ []) (pos 0) ∷ []))) p
        ≡ point (row_values forms p ++ (floor (value_of f p) d ∷ floors n rows p))
    by_division true e whole bound =
        let g = padded k (divided d f) in
        let sg : length g.coefficients ≡ m = let a = size_of in let z = length-zeros k in simp length-append
        (simp length-map (omega arith)) in
        let v : value_of g p ≡ floor (value_of f p) d =
        padded-value k (divided d f) p ∙ sym
        (ap (λ (z : ℤ). floor z d) (divided-value d f p e) ∙ floor-multiple d (value_of (divided d f) p)
        sized.0) in
        whole (forms ++ g ∷ []) (speaks-append m forms (g ∷ []) speaks (sg, tt))
        ∙ ap (λ (xs : List ℤ). point xs)
        (ap (λ (xs : List ℤ). xs ++ floors n rows p) (row_values-append forms (g ∷ []) p)
        ∙ append_assoc (row_values forms p) (value_of g p ∷ []) (floors n rows p)
        ∙ ap (λ (z : ℤ). row_values forms p ++ (z ∷ floors n rows p)) v)
    by_division false e whole bound =
        let q = floor (value_of (padded k f) p) d in
        let u = form_of (zeros m ++ pos 1 ∷ []) (pos 0) in
        let su : length u.coefficients ≡ suc m = let z = length-zeros m in simp length-append (omega arith) in
        let longer : Speaks (suc m) (map longer_form forms) = subst (λ (i : ℕ). Speaks i (map longer_form forms))
        (omega arith) (speaks-longer m forms speaks) in
        let fs = map longer_form forms ++ u ∷ [] in
        let p' = p ++ q ∷ [] in
        let vu : value_of u p' ≡ floor (value_of f p) d = value-last p q m long ∙ ap (λ (z : ℤ). floor z d)
        (padded-value k f p) in
        let front : row_values fs p' ≡ row_values forms p ++ (floor (value_of f p) d ∷ []) =
        row_values-append (map longer_form forms) (u ∷ []) p'
        ∙ ap₂ (λ (xs : List ℤ) (z : ℤ). xs ++ (z ∷ []))
        (values-longer forms p q (subst (λ (i : ℕ). Speaks i forms) (sym long) speaks)) vu in
        let back = floors-within size n rows p q sized.2 (omega arith) in
        bound q fs (speaks-append (suc m) (map longer_form forms) (u ∷ []) longer (su, tt))
        ∙ ap (λ (xs : List ℤ). point xs) (ap₂ (λ (xs ys : List ℤ). xs ++ ys) front back
        ∙ append_assoc (row_values forms p) (floor (value_of f p) d ∷ []) (floors n rows p))
