-- The rows of what is passed hold just where the point goes so.
use Rattle.dataflow.proofs.Common.{◌≡◌, ℕ, zero, suc, ◌+◌, ◌-◌, ◌<◌, ◌≤◌, ℤ, pos, negsuc, List, [], ◌∷◌, ◌++◌, length}
use Rattle.dataflow.proofs.Common.{take, drop, ap, ap₂, subst, sym, ◌∙◌, refl, arith, get_or, length-append, ◌↔◌, ◌≤ℤ◌}
use Rattle.dataflow.proofs.Common.{◌<ℤ◌, ◌+ℤ◌, ◌-ℤ◌, ◌*ℤ◌, neg_ℤ, All, set, ints, length-take-le, get_or-append-add}
use Rattle.dataflow.proofs.Common.{get_or_append_left, All-nil, All-cons, All-head, All-tail, zeros, Affine, form_of}
use Rattle.dataflow.proofs.Common.{value_of, values_of, multiple_of_form, complement, length-zeros, value_of-multiple}
use Rattle.dataflow.proofs.Common.{length-drop, Turn, up, down, bound, binds_in, AreOver, Goes, width, bound_form}
use Rattle.dataflow.proofs.Common.{placed, bind_begins, bind_ends, path_rows, turn_equality, turn_equalities}
use Rattle.scop_syntax.proofs.Common.{dot, IsFloor, dot-nil, dot-zeros, dot-append, dot-unit, dot-split, mul_comm_int}
use Rattle.scop_syntax.proofs.Common.{mul_neg_left, value_of-sum, value_of-complement}
use Rattle.std.proofs.lemmas.List.{append_assoc, append-nil}
use Rattle.dataflow.specs.declared.leaf_rows.Layout.{Layout}

dot_front : (n : ℕ) (xs ys : List ℤ) → length ys ≤ n → dot (take n xs) ys ≡ dot xs ys
dot_front zero xs [] h = sym (dot-nil xs)
dot_front zero xs (y ∷ ys) h = absurd (omega arith)
dot_front (suc n) [] ys h = refl
dot_front (suc n) (x ∷ xs) [] h = refl
dot_front (suc n) (x ∷ xs) (y ∷ ys) h =
    ap (λ (z : ℤ). (x *ℤ y) +ℤ z) (dot_front n xs ys (omega arith))

-- a point of the layout
pub record IsPlace (l : Layout) (us ys vs ps : List ℤ) : Type 0 where
  pub before : length us ≡ l.before
  pub turns : length ys ≡ l.turns
  pub behind : length vs ≡ l.behind
  pub parameters : length ps ≡ l.parameters

-- the point with what is bound
abbrev pub at : List ℤ → List ℤ → List ℤ → List ℤ → List ℤ → List ℤ
at us ys vs qs ps = us ++ (ys ++ (vs ++ (qs ++ ps)))

value_placed : (l : Layout) (k : ℕ) (f : Affine) (us ys vs done rest ps : List ℤ) → IsPlace l us ys vs ps
    → length done ≡ k → k + length rest ≡ l.binds → length f.coefficients ≡ l.parameters + l.turns + k
    → value_of (placed l f) (at us ys vs (done ++ rest) ps) ≡ value_of f ((ps ++ ys) ++ done)
value_placed l k f us ys vs done rest ps is first all size =
    let cs = f.coefficients in
    let m = l.parameters in
    let e = l.turns in
    let back = drop (m + e) cs in
    let mid = take e (drop m cs) in
    let front = take m cs in
    let room : length back ≡ k = let s = length-drop (m + e) cs in omega arith in
    let gap = l.binds - length back in
    let gap_is : length (zeros gap) ≡ length rest = let z = length-zeros gap in omega arith in
    let first_zeros = length-zeros l.before in
    let last_zeros = length-zeros l.behind in
    let mid_size : length mid ≡ length ys =
    let d = length-drop m cs in length-take-le e (drop m cs) (omega arith) ∙ sym is.turns in
    let s1 = dot-append (zeros l.before) (mid ++ (zeros l.behind ++ (back ++ (zeros gap ++ front)))) us
    (ys ++ (vs ++ ((done ++ rest) ++ ps))) (first_zeros ∙ sym is.before) in
    let s2 = dot-append mid (zeros l.behind ++ (back ++ (zeros gap ++ front))) ys (vs ++ ((done ++ rest) ++ ps)) mid_size
    in
    let s3 = dot-append (zeros l.behind) (back ++ (zeros gap ++ front)) vs ((done ++ rest) ++ ps)
    (last_zeros ∙ sym is.behind) in
    let s4 = ap (dot (back ++ (zeros gap ++ front))) (append_assoc done rest ps)
    ∙ dot-append back (zeros gap ++ front) done (rest ++ ps) (room ∙ sym first) in
    let s5 = dot-append (zeros gap) front rest ps gap_is in
    let z1 = dot-zeros l.before us in
    let z3 = dot-zeros l.behind vs in
    let z5 = dot-zeros gap rest in
    let p = is.parameters in
    let t = is.turns in
    let f1 = dot_front m cs ps (omega arith) in
    let f2 = dot_front e (drop m cs) ys (omega arith) in
    let sizes : length (ps ++ ys) ≡ m + e = let a = length-append ps ys in omega arith in
    let w1 = dot-split cs (ps ++ ys) done in
    let w2 = ap (λ (n : ℕ). dot (drop n cs) done) sizes in
    let w3 = dot-split cs ps ys in
    let w4 = ap (λ (n : ℕ). dot (drop n cs) ys) p in
    omega (arith, ints)

-- the variable bound k-th
value_bound : (l : Layout) (k : ℕ) (us ys vs done rest ps : List ℤ) (q : ℤ) → IsPlace l us ys vs ps
    → length done ≡ k → suc (k + length rest) ≡ l.binds
    → value_of (bound_form l k) (at us ys vs (done ++ q ∷ rest) ps) ≡ q
value_bound l k us ys vs done rest ps q is first all =
    let n = l.before + (l.turns + (l.behind + k)) in
    let point = at us ys vs (done ++ q ∷ rest) ps in
    let inside : n < width l = omega arith in
    let unit = dot-unit (width l) n point inside in
    let b = is.before in
    let t = is.turns in
    let v = is.behind in
    let place : n ≡ length us + (length ys + (length vs + (length done + 0))) = omega arith in
    let behind = vs ++ ((done ++ q ∷ rest) ++ ps) in
    let e1 = get_or-append-add us (ys ++ behind) (length ys + (length vs + (length done + 0))) (pos 0) in
    let e2 = get_or-append-add ys behind (length vs + (length done + 0)) (pos 0) in
    let e3 = get_or-append-add vs ((done ++ q ∷ rest) ++ ps) (length done + 0) (pos 0) in
    let e4 = ap (λ (zs : List ℤ). get_or zs (length done + 0) (pos 0)) (append_assoc done (q ∷ rest) ps)
    ∙ get_or-append-add done ((q ∷ rest) ++ ps) 0 (pos 0) in
    let found : get_or point n (pos 0) ≡ q =
    ap (λ (i : ℕ). get_or point i (pos 0)) place ∙ (e1 ∙ (e2 ∙ (e3 ∙ e4))) in
    omega (arith, ints)

begins_value : (l : Layout) (k : ℕ) (f : Affine) (d : ℤ) (x : List ℤ) (v q : ℤ) → value_of (placed l f) x ≡ v
    → value_of (bound_form l k) x ≡ q → value_of (bind_begins l k f d) x ≡ v -ℤ (q *ℤ d)
begins_value l k f d x v q e h =
    let s = value_of-sum (placed l f) (multiple_of_form (neg_ℤ d) (bound_form l k)) x in
    let m = value_of-multiple (neg_ℤ d) (bound_form l k) x in
    let n = ap (λ (z : ℤ). neg_ℤ d *ℤ z) h in
    let c = mul_neg_left d q in
    let t = mul_comm_int d q in
    omega (arith, ints)

ends_value : (l : Layout) (k : ℕ) (f : Affine) (d : ℤ) (x : List ℤ) (v q : ℤ) → value_of (placed l f) x ≡ v
    → value_of (bound_form l k) x ≡ q → value_of (bind_ends l k f d) x ≡ (((q *ℤ d) +ℤ d) -ℤ pos 1) -ℤ v
ends_value l k f d x v q e h =
    let g = form_of (multiple_of_form d (bound_form l k)).coefficients (d -ℤ pos 1) in
    let s = value_of-sum g (multiple_of_form (negsuc 0) (placed l f)) x in
    let m = value_of-multiple (negsuc 0) (placed l f) x in
    let n = ap (λ (z : ℤ). negsuc 0 *ℤ z) e in
    let a = value_of-multiple d (bound_form l k) x in
    let b = ap (λ (z : ℤ). d *ℤ z) h in
    let t = mul_comm_int d q in
    omega (arith, ints)

rows_to : (l : Layout) (k : ℕ) (ts : List Turn) (us ys vs done rest ps : List ℤ) → IsPlace l us ys vs ps
    → length done ≡ k → k + length rest ≡ l.binds → AreOver (l.parameters + l.turns + k) ts
    → binds_in ts ≡ length rest
    → All (λ (f : Affine). pos 0 ≤ℤ value_of f (at us ys vs (done ++ rest) ps)) (path_rows l k ts)
    → Goes ts ((ps ++ ys) ++ done) rest
rows_to l k [] us ys vs done [] ps is first all over count rows = refl
rows_to l k [] us ys vs done (q ∷ rest) ps is first all over count rows = absurd (omega arith)
rows_to l k (up f ∷ ts) us ys vs done rest ps is first all over count rows =
    let v = value_placed l k f us ys vs done rest ps is first all over.0 in
    let P = λ (f : Affine). pos 0 ≤ℤ value_of f (at us ys vs (done ++ rest) ps) in
    let h = All-head P (placed l f) (path_rows l k ts) rows in (
      subst (λ (z : ℤ). pos 0 ≤ℤ z) v h,
      rows_to l k ts us ys vs done rest ps is first all over.1 count (All-tail P (placed l f) (path_rows l k ts) rows),
    )
rows_to l k (down f ∷ ts) us ys vs done rest ps is first all over count rows =
    let v = value_placed l k f us ys vs done rest ps is first all over.0 in
    let P = λ (f : Affine). pos 0 ≤ℤ value_of f (at us ys vs (done ++ rest) ps) in
    let h = All-head P (complement (placed l f)) (path_rows l k ts) rows in
    let c = value_of-complement (placed l f) (at us ys vs (done ++ rest) ps) in
    let below : value_of f ((ps ++ ys) ++ done) <ℤ pos 0 = omega (arith, ints) in (
      below,
      rows_to l k ts us ys vs done rest ps is first all over.1 count
          (All-tail P (complement (placed l f)) (path_rows l k ts) rows),
    )
rows_to l k (bound f d ∷ ts) us ys vs done [] ps is first all over count rows = absurd (omega arith)
rows_to l k (bound f d ∷ ts) us ys vs done (q ∷ rest) ps is first all over count rows =
    let x = at us ys vs (done ++ q ∷ rest) ps in
    let P = λ (f : Affine). pos 0 ≤ℤ value_of f x in
    let v = value_placed l k f us ys vs done (q ∷ rest) ps is first all over.0 in
    let b = value_bound l k us ys vs done rest ps q is first (omega arith) in
    let low = All-head P (bind_begins l k f d) (bind_ends l k f d ∷ path_rows l (suc k) ts) rows in
    let more = All-tail P (bind_begins l k f d) (bind_ends l k f d ∷ path_rows l (suc k) ts) rows in
    let high = All-head P (bind_ends l k f d) (path_rows l (suc k) ts) more in
    let z = value_of f ((ps ++ ys) ++ done) in
    let e1 = begins_value l k f d x z q v b in
    let e2 = ends_value l k f d x z q v b in
    let floor : IsFloor z d q = record { below = omega (arith, ints); above = omega (arith, ints) } in
    let longer : done ++ q ∷ rest ≡ (done ++ q ∷ []) ++ rest = sym (append_assoc done (q ∷ []) rest) in
    let grown : length (done ++ q ∷ []) ≡ suc k = let a = length-append done (q ∷ []) in omega arith in
    let wider : l.parameters + l.turns + suc k ≡ suc (l.parameters + l.turns + k) = omega arith in
    let next = rows_to l (suc k) ts us ys vs (done ++ q ∷ []) rest ps is grown (omega arith)
    (subst (λ (n : ℕ). AreOver n ts) (sym wider) over.2) (omega arith)
    (subst (λ (zs : List ℤ). All (λ (f : Affine). pos 0 ≤ℤ value_of f (at us ys vs zs ps)) (path_rows l (suc k) ts))
    longer (All-tail P (bind_ends l k f d) (path_rows l (suc k) ts) more)) in
    (floor, subst (λ (zs : List ℤ). Goes ts zs rest) (sym (append_assoc (ps ++ ys) done (q ∷ []))) next)

rows_of : (l : Layout) (k : ℕ) (ts : List Turn) (us ys vs done rest ps : List ℤ) → IsPlace l us ys vs ps
    → length done ≡ k → k + length rest ≡ l.binds → AreOver (l.parameters + l.turns + k) ts
    → binds_in ts ≡ length rest → Goes ts ((ps ++ ys) ++ done) rest
    → All (λ (f : Affine). pos 0 ≤ℤ value_of f (at us ys vs (done ++ rest) ps)) (path_rows l k ts)
rows_of l k [] us ys vs done rest ps is first all over count goes = All-nil _
rows_of l k (up f ∷ ts) us ys vs done rest ps is first all over count goes =
    let v = value_placed l k f us ys vs done rest ps is first all over.0 in
    let P = λ (f : Affine). pos 0 ≤ℤ value_of f (at us ys vs (done ++ rest) ps) in
    All-cons P (placed l f) (path_rows l k ts) (subst (λ (z : ℤ). pos 0 ≤ℤ z) (sym v) goes.0)
    (rows_of l k ts us ys vs done rest ps is first all over.1 count goes.1)
rows_of l k (down f ∷ ts) us ys vs done rest ps is first all over count goes =
    let v = value_placed l k f us ys vs done rest ps is first all over.0 in
    let P = λ (f : Affine). pos 0 ≤ℤ value_of f (at us ys vs (done ++ rest) ps) in
    let c = value_of-complement (placed l f) (at us ys vs (done ++ rest) ps) in
    let g = goes.0 in
    let own : pos 0 ≤ℤ value_of (complement (placed l f)) (at us ys vs (done ++ rest) ps) = omega (arith, ints) in
    All-cons P (complement (placed l f)) (path_rows l k ts) own
    (rows_of l k ts us ys vs done rest ps is first all over.1 count goes.1)
rows_of l k (bound f d ∷ ts) us ys vs done [] ps is first all over count goes = absurd (omega arith)
rows_of l k (bound f d ∷ ts) us ys vs done (q ∷ rest) ps is first all over count goes =
    let x = at us ys vs (done ++ q ∷ rest) ps in
    let P = λ (f : Affine). pos 0 ≤ℤ value_of f x in
    let v = value_placed l k f us ys vs done (q ∷ rest) ps is first all over.0 in
    let b = value_bound l k us ys vs done rest ps q is first (omega arith) in
    let z = value_of f ((ps ++ ys) ++ done) in
    let e1 = begins_value l k f d x z q v b in
    let e2 = ends_value l k f d x z q v b in
    let below = goes.0.below in
    let above = goes.0.above in
    let low : pos 0 ≤ℤ value_of (bind_begins l k f d) x = omega (arith, ints) in
    let high : pos 0 ≤ℤ value_of (bind_ends l k f d) x = omega (arith, ints) in
    let longer : done ++ q ∷ rest ≡ (done ++ q ∷ []) ++ rest = sym (append_assoc done (q ∷ []) rest) in
    let grown : length (done ++ q ∷ []) ≡ suc k = let a = length-append done (q ∷ []) in omega arith in
    let wider : l.parameters + l.turns + suc k ≡ suc (l.parameters + l.turns + k) = omega arith in
    let next = rows_of l (suc k) ts us ys vs (done ++ q ∷ []) rest ps is grown (omega arith)
    (subst (λ (n : ℕ). AreOver n ts) (sym wider) over.2) (omega arith)
    (subst (λ (zs : List ℤ). Goes ts zs rest) (append_assoc (ps ++ ys) done (q ∷ [])) goes.1) in
    All-cons P (bind_begins l k f d) (bind_ends l k f d ∷ path_rows l (suc k) ts) low
    (All-cons P (bind_ends l k f d) (path_rows l (suc k) ts) high
    (subst (λ (zs : List ℤ). All (λ (f : Affine). pos 0 ≤ℤ value_of f (at us ys vs zs ps)) (path_rows l (suc k) ts))
    (sym longer) next))

-- the value of an equality
turn_value : (l : Layout) (j : ℕ) (f : Affine) (xs front back x : List ℤ) (y : ℤ) → x ≡ front ++ (xs ++ back)
    → length front ≡ j → length x ≡ width l → 0 < length xs → get_or xs 0 (pos 0) ≡ y
    → value_of (turn_equality l j f) x ≡ y -ℤ value_of (placed l f) x
turn_value l j f xs front back x y is first size some own =
    let parts = length-append front (xs ++ back) in
    let more = length-append xs back in
    let whole = ap (λ (zs : List ℤ). length zs) is in
    let unit = dot-unit (width l) j x (omega arith) in
    let place : j ≡ length front + 0 = omega arith in
    let entry : get_or x j (pos 0) ≡ y =
    ap (λ (zs : List ℤ). get_or zs j (pos 0)) is
    ∙ (ap (λ (i : ℕ). get_or (front ++ (xs ++ back)) i (pos 0)) place
    ∙ (get_or-append-add front (xs ++ back) 0 (pos 0) ∙ (get_or_append_left xs back (pos 0) 0 some ∙ own))) in
    let s = value_of-sum (form_of (set (zeros (width l)) j (pos 1)) (pos 0)) (multiple_of_form (negsuc 0) (placed l f)) x
    in
    let m = value_of-multiple (negsuc 0) (placed l f) x in
    omega (arith, ints)

abbrev first_or : List ℤ → ℤ
first_or zs = get_or zs 0 (pos 0)

abbrev rest_of : List ℤ → List ℤ
rest_of zs = drop 1 zs

-- the writer's turns from a variable on have the values of the forms just where the equalities hold
turns_to : (l : Layout) (j : ℕ) (fs : List Affine) (xs front back x whole : List ℤ)
    → x ≡ front ++ (xs ++ back) → length front ≡ j → length x ≡ width l → length fs ≡ length xs
    → All (λ (f : Affine). value_of (placed l f) x ≡ value_of f whole) fs
    → All (λ (f : Affine). value_of f x ≡ pos 0) (turn_equalities l j fs) → xs ≡ values_of fs whole
turns_to l j [] [] front back x whole is first size count values held = refl
turns_to l j [] (y ∷ xs) front back x whole is first size count values held = absurd (omega arith)
turns_to l j (f ∷ fs) [] front back x whole is first size count values held = absurd (omega arith)
turns_to l j (f ∷ fs) (y ∷ xs) front back x whole is first size count values held =
    let V = λ (f : Affine). value_of (placed l f) x ≡ value_of f whole in
    let P = λ (f : Affine). value_of f x ≡ pos 0 in
    let e = turn_value l j f (y ∷ xs) front back x y is first size (omega arith) refl in
    let v = All-head V f fs values in
    let h = All-head P (turn_equality l j f) (turn_equalities l (suc j) fs) held in
    let own : y ≡ value_of f whole = omega (arith, ints) in
    let longer : x ≡ (front ++ y ∷ []) ++ (xs ++ back) = is ∙ sym (append_assoc front (y ∷ []) (xs ++ back)) in
    let grown : length (front ++ y ∷ []) ≡ suc j = let a = length-append front (y ∷ []) in omega arith in
    ap₂ (λ (z : ℤ) (zs : List ℤ). z ∷ zs) own
    (turns_to l (suc j) fs xs (front ++ y ∷ []) back x whole longer grown size (omega arith) (All-tail V f fs values)
    (All-tail P (turn_equality l j f) (turn_equalities l (suc j) fs) held))

turns_of : (l : Layout) (j : ℕ) (fs : List Affine) (xs front back x whole : List ℤ)
    → x ≡ front ++ (xs ++ back) → length front ≡ j → length x ≡ width l → length fs ≡ length xs
    → All (λ (f : Affine). value_of (placed l f) x ≡ value_of f whole) fs
    → xs ≡ values_of fs whole → All (λ (f : Affine). value_of f x ≡ pos 0) (turn_equalities l j fs)
turns_of l j [] xs front back x whole is first size count values held = All-nil _
turns_of l j (f ∷ fs) [] front back x whole is first size count values held = absurd (omega arith)
turns_of l j (f ∷ fs) (y ∷ xs) front back x whole is first size count values held =
    let V = λ (f : Affine). value_of (placed l f) x ≡ value_of f whole in
    let P = λ (f : Affine). value_of f x ≡ pos 0 in
    let e = turn_value l j f (y ∷ xs) front back x y is first size (omega arith) refl in
    let v = All-head V f fs values in
    let own : y ≡ value_of f whole = ap first_or held in
    let more : xs ≡ values_of fs whole = ap rest_of held in
    let zero : value_of (turn_equality l j f) x ≡ pos 0 = omega (arith, ints) in
    let longer : x ≡ (front ++ y ∷ []) ++ (xs ++ back) = is ∙ sym (append_assoc front (y ∷ []) (xs ++ back)) in
    let grown : length (front ++ y ∷ []) ≡ suc j = let a = length-append front (y ∷ []) in omega arith in
    All-cons P (turn_equality l j f) (turn_equalities l (suc j) fs) zero
    (turns_of l (suc j) fs xs (front ++ y ∷ []) back x whole longer grown size (omega arith) (All-tail V f fs values)
    more)

-- forms of a leaf at a point
values_placed : (l : Layout) (fs : List Affine) (us ys vs qs ps : List ℤ) → IsPlace l us ys vs ps
    → length qs ≡ l.binds → All (λ (f : Affine). length f.coefficients ≡ l.parameters + l.turns + l.binds) fs
    → All (λ (f : Affine). value_of (placed l f) (at us ys vs qs ps) ≡ value_of f ((ps ++ ys) ++ qs)) fs
values_placed l [] us ys vs qs ps is size sizes = All-nil _
values_placed l (f ∷ fs) us ys vs qs ps is size sizes =
    let S = λ (f : Affine). length f.coefficients ≡ l.parameters + l.turns + l.binds in
    let V = λ (f : Affine). value_of (placed l f) (at us ys vs qs ps) ≡ value_of f ((ps ++ ys) ++ qs) in
    let own = value_placed l l.binds f us ys vs qs [] ps is size (omega arith) (All-head S f fs sizes) in
    All-cons V f fs (subst (λ (zs : List ℤ). value_of (placed l f) (at us ys vs zs ps) ≡ value_of f ((ps ++ ys) ++ qs))
    (append-nil qs) own)
    (values_placed l fs us ys vs qs ps is size (All-tail S f fs sizes))

-- the rows of what is passed hold just where the point goes so
pub path_holds : (l : Layout) (ts : List Turn) (us ys vs qs ps : List ℤ) → IsPlace l us ys vs ps
    → length qs ≡ l.binds → binds_in ts ≡ l.binds → AreOver (l.parameters + l.turns) ts
    → All (λ f. pos 0 ≤ℤ value_of f (at us ys vs qs ps)) (path_rows l 0 ts) ↔ Goes ts (ps ++ ys) qs
path_holds l ts us ys vs qs ps is size binds over =
    let none : 0 + length qs ≡ l.binds = omega (arith, size) in
    let wide : l.parameters + l.turns ≡ l.parameters + l.turns + 0 = omega arith in
    let there = subst (λ (i : ℕ). AreOver i ts) wide over in
    let whole = append-nil (ps ++ ys) in
    let count = binds ∙ sym size in (
      λ rows. subst (λ (zs : List ℤ). Goes ts zs qs) whole
          (rows_to l 0 ts us ys vs [] qs ps is refl none there count rows),
      λ goes. rows_of l 0 ts us ys vs [] qs ps is refl none there count
          (subst (λ (zs : List ℤ). Goes ts zs qs) (sym whole) goes),
    )

-- and the equalities of the writer's turns, xs from the variable j on, just where these are the values of the forms
pub turns_hold : (l : Layout) (j : ℕ) (fs : List Affine) (xs front back us ys vs qs ps : List ℤ)
    → IsPlace l us ys vs ps → length qs ≡ l.binds
    → All (λ f. length f.coefficients ≡ l.parameters + l.turns + l.binds) fs
    → at us ys vs qs ps ≡ front ++ (xs ++ back) → length front ≡ j → length fs ≡ length xs
    → All (λ f. value_of f (at us ys vs qs ps) ≡ pos 0) (turn_equalities l j fs)
    ↔ (xs ≡ values_of fs ((ps ++ ys) ++ qs))
turns_hold l j fs xs front back us ys vs qs ps place size sizes is first count =
    let x = at us ys vs qs ps in
    let whole = (ps ++ ys) ++ qs in
    let values = values_placed l fs us ys vs qs ps place size sizes in
    let a = length-append us (ys ++ (vs ++ (qs ++ ps))) in
    let b = length-append ys (vs ++ (qs ++ ps)) in
    let c = length-append vs (qs ++ ps) in
    let d = length-append qs ps in
    let wide : length x ≡ width l =
    omega (arith, a, b, c, d, size, place.before, place.turns, place.behind, place.parameters) in (
      turns_to l j fs xs front back x whole is first wide count values,
      turns_of l j fs xs front back x whole is first wide count values,
    )
