-- What the answers of questions say at a point of the context.
use Rattle.whole_numbers.proofs.Common.{◌≡◌, ℕ, zero, suc, ◌+◌, ℤ, pos, neg_ℤ, ◌+ℤ◌, ◌-ℤ◌, ◌*ℤ◌, ◌≤ℤ◌, ◌<ℤ◌, Bool, true}
use Rattle.whole_numbers.proofs.Common.{false, List, [], ◌∷◌, ◌++◌, length, map, refl, subst, ap, sym, ◌∙◌, arith}
use Rattle.whole_numbers.proofs.Common.{length-append, Result, Ok, Err, if◌then◌else◌, ints, by_lt_z}
use Rattle.whole_numbers.proofs.Common.{not_negative-append, dot, zeros, NotNegative, length-zeros, Affine, value_of}
use Rattle.whole_numbers.proofs.Common.{form_of, floor, remainder, mul_zero_left, mul_comm_int, mul_neg_left, floor_is}
use Rattle.whole_numbers.proofs.Common.{floor_at_least}
use Rattle.std.proofs.lemmas.List.{append-nil}
use Rattle.integer_sets.specs.Wide.{Wide}
use Rattle.integer_sets.specs.Checked.{difference_of, ◌>>=◌}
use Rattle.integer_sets.proofs.CheckedSteps.{chain-ok, difference_of-ok}
use Rattle.tableau_rows.specs.Moves.{is_below, is_positive}
use Rattle.tableau_rows.specs.Problem.{row_values, Speaks}
use Rattle.tableau_rows.specs.Run.{point, none, Outcome, question}
use Rattle.tableau_rows.proofs.PivotColumns.{below_true, below_false, positive_false}
use Rattle.tableau_rows.proofs.Cuts.{remainder_in}
use Rattle.tableau_rows.proofs.Verdicts.{question-right}
use Rattle.lexmin_runs.specs.Nodes.{Node, Counted, chained, formed, longer_form, opposites_run, opposite_run, above_run}
use Rattle.lexmin_runs.specs.Nodes.{under_run, at_least_run, answered, ask, none_below, context_holds, all_zero}
use Rattle.lexmin_runs.specs.Nodes.{below_somewhere, above_somewhere, broken_somewhere}
use Rattle.lexmin_runs.proofs.AddedParameters.{dot-more, value-constant, values-longer, speaks-longer, speaks-append}
use Rattle.lexmin_runs.proofs.AddedParameters.{row_values-append}

-- steps of a counted run
pub chained-ok : {A B : Type 0} (r : Counted A) (f : A → ℕ → Counted B) (y : B) (l : ℕ) → chained r f ≡ Ok (y, l)
    → (x : A) × (k : ℕ) × (r ≡ Ok (x, k)) × (f x k ≡ Ok (y, l))
chained-ok (Ok x) f y l h = (x.0, x.1, refl, h)
chained-ok (Err stop) f y l h = cc

pub formed-ok : {A B : Type 0} (left : ℕ) (r : Result A Wide) (f : A → Counted B) (y : B) (l : ℕ)
    → formed left r f ≡ Ok (y, l)
    → (x : A) × (r ≡ Ok x) × (f x ≡ Ok (y, l))
formed-ok left (Ok x) f y l h = (x, refl, h)
formed-ok left (Err w) f y l h = cc

pub same_first : {A : Type 0} (x y : A) (k l : ℕ) → ◌≡◌ {A = Counted A} (Ok (x, k)) (Ok (y, l)) → x ≡ y
same_first {A} x y k l h = let e : (x, k) ≡ (y, l) = cc in ap (λ (z : A × ℕ). z.0) e

-- rows that are not negative at a whole point are not answered to be empty
pub ask-false : (left m : ℕ) (rows : List Affine) (l : ℕ) (p : List ℤ) → ask left m rows ≡ Ok (false, l)
    → Speaks m rows → length p ≡ m → NotNegative p
    → NotNegative (row_values rows p) → ⊥
ask-false left m rows l p h speaks size not inside =
    by_outcome (question left (record { unknowns = m; rows = rows })) refl h
  where
    by_outcome : (o : Outcome) → question left (record { unknowns = m; rows = rows }) ≡ o
        → answered o ≡ Ok (false, l) → ⊥
    by_outcome (Ok (point xs, k)) e h = let f = same_first true false k l h in cc
    by_outcome (Ok (none, k)) e h =
        let empty = question-right left m rows none k speaks e in
        empty p (record {
          size = size;
          not_negative = not;
          rows = subst
              (λ (q : List ℤ). NotNegative (row_values rows q)) (sym (append-nil p)) inside;
        })
    by_outcome (Err stop) e h = cc

-- what the rows of questions are worth
pub opposites-dot : (zs ys p : List ℤ) → opposites_run zs ≡ Ok ys
    → (dot ys p ≡ pos 0 -ℤ dot zs p) × (length ys ≡ length zs)
opposites-dot [] ys p h =
    let e : ys ≡ [] = cc in subst (λ (ws : List ℤ). (dot ws p ≡ pos 0 -ℤ pos 0) × (length ws ≡ 0)) (sym e)
    (omega (arith, ints), refl)
opposites-dot (z ∷ zs) ys p h =
    let c = chain-ok (difference_of (pos 0) z) (λ (y : ℤ). opposites_run zs >>= λ rest. Ok (y ∷ rest)) ys h in
    let d = chain-ok (opposites_run zs) (λ (rest : List ℤ). Ok (c.0 ∷ rest)) ys c.2 in
    let e : ys ≡ c.0 ∷ d.0 = cc (d.2) in
    let y = ((difference_of-ok (pos 0) z c.0).0 c.1).0 in
    subst (λ (ws : List ℤ). (dot ws p ≡ pos 0 -ℤ dot (z ∷ zs) p) × (length ws ≡ length (z ∷ zs))) (sym e)
    (at p c.0 d.0 y (λ q. (opposites-dot zs d.0 q d.1).0), let s = (opposites-dot zs d.0 p d.1).1 in omega arith)
  where
    at : (p : List ℤ) (y : ℤ) (ws : List ℤ) → y ≡ pos 0 -ℤ z → ((q : List ℤ) → dot ws q ≡ pos 0 -ℤ dot zs q)
        → dot (y ∷ ws) p ≡ pos 0 -ℤ dot (z ∷ zs) p
    at [] y ws e more = omega (arith, ints)
    at (x ∷ q) y ws e more =
        let f : y ≡ neg_ℤ z = omega (arith, ints) in
        let a = ap (λ (k : ℤ). k *ℤ x) f in
        let b = mul_neg_left z x in
        let c = more q in
        omega (arith, ints)

pub opposite-value : (f g : Affine) (p : List ℤ) → opposite_run f ≡ Ok g
    → (value_of g p ≡ (pos 0 -ℤ value_of f p) -ℤ pos 1) × (length g.coefficients ≡ length f.coefficients)
unfolding opposite_run
opposite-value f g p h =
    let c = chain-ok (opposites_run f.coefficients)
    (λ (bs : List ℤ). difference_of (pos 0) f.constant >>= λ c. difference_of c (pos 1) >>= λ z. Ok (form_of bs z))
    g h in
    let d = chain-ok (difference_of (pos 0) f.constant)
    (λ (k : ℤ). difference_of k (pos 1) >>= λ z. Ok (form_of c.0 z)) g c.2 in
    let e = chain-ok (difference_of d.0 (pos 1)) (λ (z : ℤ). Ok (form_of c.0 z)) g d.2 in
    let is : g ≡ form_of c.0 e.0 = cc (e.2) in
    let o = opposites-dot f.coefficients c.0 p c.1 in
    let k = o.0 in
    let x = ((difference_of-ok (pos 0) f.constant d.0).0 d.1).0 in
    let y = ((difference_of-ok d.0 (pos 1) e.0).0 e.1).0 in
    subst (λ (w : Affine). (value_of w p ≡ (pos 0 -ℤ value_of f p) -ℤ pos 1)
    × (length w.coefficients ≡ length f.coefficients)) (sym is)
    (omega (arith, ints), o.1)

pub above-value : (d : ℤ) (f g : Affine) (p : List ℤ) (q : ℤ) → length f.coefficients ≡ length p → above_run d f ≡ Ok g
    → (value_of g (p ++ q ∷ []) ≡ (value_of f p -ℤ (d *ℤ q)) -ℤ pos 1)
    × (length g.coefficients ≡ length f.coefficients + 1)
unfolding above_run
above-value d f g p q size h =
    let c = chain-ok (difference_of (pos 0) d)
    (λ (e : ℤ). difference_of f.constant (pos 1) >>= λ z. Ok (form_of (f.coefficients ++ e ∷ []) z)) g h in
    let e = chain-ok (difference_of f.constant (pos 1)) (λ (z : ℤ). Ok (form_of (f.coefficients ++ c.0 ∷ []) z)) g
    c.2 in
    let is : g ≡ form_of (f.coefficients ++ c.0 ∷ []) e.0 = cc (e.2) in
    let x = ((difference_of-ok (pos 0) d c.0).0 c.1).0 in
    let y = ((difference_of-ok f.constant (pos 1) e.0).0 e.1).0 in
    let m = dot-more f.coefficients p c.0 q size in
    let n : c.0 ≡ neg_ℤ d = omega (arith, ints) in
    let o = ap (λ (k : ℤ). k *ℤ q) n in
    let r = mul_neg_left d q in
    subst (λ (w : Affine). (value_of w (p ++ q ∷ []) ≡ (value_of f p -ℤ (d *ℤ q)) -ℤ pos 1)
    × (length w.coefficients ≡ length f.coefficients + 1)) (sym is)
    (omega (arith, ints), simp length-append refl)

pub under-value : (d : ℤ) (f g : Affine) (p : List ℤ) (q : ℤ) → length f.coefficients ≡ length p → under_run d f ≡ Ok g
    → (value_of g (p ++ q ∷ []) ≡ (((d *ℤ q) +ℤ d) -ℤ pos 1) -ℤ value_of f p)
    × (length g.coefficients ≡ length f.coefficients + 1)
unfolding under_run
under-value d f g p q size h =
    let c = chain-ok (opposites_run f.coefficients)
    (λ (bs : List ℤ). difference_of d (pos 1) >>= λ c. difference_of c f.constant >>= λ z. Ok
    (form_of (bs ++ d ∷ []) z)) g h in
    let e = chain-ok (difference_of d (pos 1))
    (λ (k : ℤ). difference_of k f.constant >>= λ z. Ok (form_of (c.0 ++ d ∷ []) z)) g c.2 in
    let i = chain-ok (difference_of e.0 f.constant) (λ (z : ℤ). Ok (form_of (c.0 ++ d ∷ []) z)) g e.2 in
    let is : g ≡ form_of (c.0 ++ d ∷ []) i.0 = cc (i.2) in
    let o = opposites-dot f.coefficients c.0 p c.1 in
    let k = o.0 in
    let s = o.1 in
    let x = ((difference_of-ok d (pos 1) e.0).0 e.1).0 in
    let y = ((difference_of-ok e.0 f.constant i.0).0 i.1).0 in
    let m = dot-more c.0 p d q (s ∙ size) in
    subst (λ (w : Affine). (value_of w (p ++ q ∷ []) ≡ (((d *ℤ q) +ℤ d) -ℤ pos 1) -ℤ value_of f p)
    × (length w.coefficients ≡ length f.coefficients + 1)) (sym is)
    (omega (arith, ints), simp length-append (omega arith))

pub at_least-value : (d : ℤ) (f g : Affine) (p : List ℤ) (q : ℤ) → length f.coefficients ≡ length p
    → at_least_run d f ≡ Ok g
    → (value_of g (p ++ q ∷ []) ≡ value_of f p -ℤ (d *ℤ q)) × (length g.coefficients ≡ length f.coefficients + 1)
unfolding at_least_run
at_least-value d f g p q size h =
    let c = chain-ok (difference_of (pos 0) d) (λ (e : ℤ). Ok (form_of (f.coefficients ++ e ∷ []) f.constant)) g h in
    let is : g ≡ form_of (f.coefficients ++ c.0 ∷ []) f.constant = cc (c.2) in
    let x = ((difference_of-ok (pos 0) d c.0).0 c.1).0 in
    let m = dot-more f.coefficients p c.0 q size in
    let n : c.0 ≡ neg_ℤ d = omega (arith, ints) in
    let o = ap (λ (k : ℤ). k *ℤ q) n in
    let r = mul_neg_left d q in
    subst (λ (w : Affine). (value_of w (p ++ q ∷ []) ≡ value_of f p -ℤ (d *ℤ q))
    × (length w.coefficients ≡ length f.coefficients + 1)) (sym is)
    (omega (arith, ints), simp length-append refl)

pub at_least-size : (d : ℤ) (f g : Affine) → at_least_run d f ≡ Ok g
    → length g.coefficients ≡ length f.coefficients + 1
at_least-size d f g h =
    let k = length f.coefficients in (at_least-value d f g (zeros k) (pos 0) (sym (length-zeros k)) h).1

pub under-size : (d : ℤ) (f g : Affine) → under_run d f ≡ Ok g → length g.coefficients ≡ length f.coefficients + 1
under-size d f g h =
    let k = length f.coefficients in (under-value d f g (zeros k) (pos 0) (sym (length-zeros k)) h).1

-- a point of a node's context
pub record IsHere (node : Node) (p : List ℤ) : Type 0 where
  pub size : length p ≡ node.parameters
  pub not_negative : NotNegative p
  pub speaks : Speaks node.parameters node.context
  pub context : NotNegative (row_values node.context p)

-- a context with a point is not answered to be empty
pub context-false : (left : ℕ) (node : Node) (l : ℕ) (p : List ℤ) → IsHere node p
    → context_holds left node.parameters node.context ≡ Ok (false, l) → ⊥
context-false left node l p here h = by_number node.parameters node.context here.size here.speaks here.context h
  where
    constants : (fs : List Affine) (p : List ℤ) → length p ≡ 0 → Speaks 0 fs → NotNegative (row_values fs p)
        → none_below fs ≡ true
    constants [] p size speaks not = refl
    constants (f ∷ fs) p size speaks not = by_sign (is_below f.constant) refl (constants fs p size speaks.1 not.1)
      where
        no_value : (bs p : List ℤ) → length p ≡ 0 → dot bs p ≡ pos 0
        no_value [] p e = refl
        no_value (b ∷ bs) [] e = refl
        no_value (b ∷ bs) (x ∷ p) e = absurd (omega arith)

        by_sign : (b : Bool) → is_below f.constant ≡ b → none_below fs ≡ true
            → (if b then false else none_below fs) ≡ true
        by_sign true e rest =
            let l = below_true f.constant e in let k = not.0 in let z = no_value f.coefficients p size in absurd
            (omega (arith, ints))
        by_sign false e rest = rest

    by_number : (m : ℕ) (fs : List Affine) → length p ≡ m → Speaks m fs → NotNegative (row_values fs p)
        → context_holds left m fs ≡ Ok (false, l) → ⊥
    by_number zero fs size speaks not h =
        let e = same_first (none_below fs) false left l h in
        let f = constants fs p size speaks not in cc
    by_number (suc m) fs size speaks not h = ask-false left (suc m) fs l p h speaks size here.not_negative not

-- one row behind the context
pub asked_more : (left : ℕ) (node : Node) (g : Affine) (l : ℕ) (p : List ℤ) → IsHere node p
    → length g.coefficients ≡ node.parameters
    → ask left node.parameters (node.context ++ g ∷ []) ≡ Ok (false, l) → value_of g p <ℤ pos 0
asked_more left node g l p here size h =
    by_lt_z (value_of g p) (pos 0)
    (λ (less : value_of g p <ℤ pos 0). less)
    (λ (more : pos 0 ≤ℤ value_of g p).
    absurd (ask-false left node.parameters (node.context ++ g ∷ []) l p h
    (speaks-append node.parameters node.context (g ∷ []) here.speaks (size, tt)) here.size here.not_negative
    (subst NotNegative (sym (row_values-append node.context (g ∷ []) p))
    (not_negative-append (row_values node.context p) (value_of g p ∷ []) here.context (more, tt)))))

pub not_below : (left : ℕ) (node : Node) (f : Affine) (l : ℕ) (p : List ℤ) → IsHere node p
    → length f.coefficients ≡ node.parameters
    → below_somewhere left node f ≡ Ok (false, l) → pos 0 ≤ℤ value_of f p
not_below left node f l p here size h = by_constant (all_zero f.coefficients) refl h
  where
    by_constant : (b : Bool) → all_zero f.coefficients ≡ b
        → (if b then Ok (is_below f.constant, left) else formed left (opposite_run f)
        (λ g. ask left node.parameters (node.context ++ g ∷ []))) ≡ Ok (false, l)
        → pos 0 ≤ℤ value_of f p
    by_constant true e h =
        let b = same_first (is_below f.constant) false left l h in
        let n = below_false f.constant b in
        let v = value-constant f p e in
        omega (arith, ints)
    by_constant false e h =
        let c = formed-ok left (opposite_run f) (λ (g : Affine). ask left node.parameters (node.context ++ g ∷ []))
        false l h in
        let o = opposite-value f c.0 p c.1 in
        let k = o.0 in
        let less = asked_more left node c.0 l p here (o.1 ∙ size) c.2 in
        omega (arith, ints)

pub not_above : (left : ℕ) (node : Node) (f : Affine) (l : ℕ) (p : List ℤ) → IsHere node p
    → length f.coefficients ≡ node.parameters
    → above_somewhere left node f ≡ Ok (false, l) → value_of f p <ℤ pos 0
not_above left node f l p here size h = by_constant (all_zero f.coefficients) refl h
  where
    by_constant : (b : Bool) → all_zero f.coefficients ≡ b
        → (if b then Ok ((if is_below f.constant then false else true), left) else ask left node.parameters
        (node.context ++ f ∷ [])) ≡ Ok (false, l)
        → value_of f p <ℤ pos 0
    by_constant true e h =
        let b = same_first (if is_below f.constant then false else true) false left l h in
        let v = value-constant f p e in
        let n = below_true f.constant (turned (is_below f.constant) b) in
        omega (arith, ints)
      where
        turned : (b : Bool) → (if b then false else true) ≡ false → b ≡ true
        turned true h = refl
        turned false h = cc
    by_constant false e h = asked_more left node f l p here size h

-- a part that is nowhere broken is a multiple, where it is not negative
pub not_broken : (left : ℕ) (node : Node) (d : ℤ) (f : Affine) (l : ℕ) (p : List ℤ) → IsHere node p
    → length f.coefficients ≡ node.parameters → pos 0 <ℤ d
    → pos 0 ≤ℤ value_of f p → broken_somewhere left node d f ≡ Ok (false, l)
    → value_of f p ≡ d *ℤ floor (value_of f p) d
not_broken left node d f l p here size positive more h = by_constant (all_zero f.coefficients) refl h
  where
    q : ℤ
    q = floor (value_of f p) d

    by_constant : (b : Bool) → all_zero f.coefficients ≡ b
        → (if b then Ok (is_positive (remainder f.constant d), left) else formed left (above_run d f)
        (λ g. formed left (under_run d f) (λ h.
        ask left (node.parameters + 1) (map longer_form node.context ++ g ∷ h ∷ [])))) ≡ Ok (false, l)
        → value_of f p ≡ d *ℤ floor (value_of f p) d
    by_constant true e h =
        let b = same_first (is_positive (remainder f.constant d)) false left l h in
        let n = positive_false (remainder f.constant d) b in
        let r = (remainder_in f.constant d positive).0 in
        let v = value-constant f p e in
        let w = ap (λ (z : ℤ). d *ℤ floor z d) v in
        omega (arith, ints)
    by_constant false e h =
        let c = formed-ok left (above_run d f)
        (λ (g : Affine). formed left (under_run d f)
        (λ h. ask left (node.parameters + 1) (map longer_form node.context ++ g ∷ h ∷ []))) false l h in
        let k = formed-ok left (under_run d f)
        (λ (h : Affine). ask left (node.parameters + 1) (map longer_form node.context ++ c.0 ∷ h ∷ [])) false l
        c.2 in
        let a = above-value d f c.0 p q (size ∙ sym here.size) c.1 in
        let u = under-value d f k.0 p q (size ∙ sym here.size) k.1 in
        let fl = floor_is (value_of f p) d positive in
        by_rest c.0 k.0 a.0 u.0 (a.1 ∙ ap (λ (n : ℕ). n + 1) size) (u.1 ∙ ap (λ (n : ℕ). n + 1) size) k.2
      where
        by_rest : (g h : Affine) → value_of g (p ++ q ∷ []) ≡ (value_of f p -ℤ (d *ℤ q)) -ℤ pos 1
            → value_of h (p ++ q ∷ []) ≡ (((d *ℤ q) +ℤ d) -ℤ pos 1) -ℤ value_of f p
            → length g.coefficients ≡ node.parameters + 1 → length h.coefficients ≡ node.parameters + 1
            → ask left (node.parameters + 1) (map longer_form node.context ++ g ∷ h ∷ []) ≡ Ok (false, l)
            → value_of f p ≡ d *ℤ floor (value_of f p) d
        by_rest g h vg vh sg sh asked =
            let fl = floor_is (value_of f p) d positive in
            let below = fl.below in
            let above = fl.above in
            let c = mul_comm_int q d in
            let zl = mul_zero_left d in
            let qn : pos 0 ≤ℤ q = (floor_at_least (value_of f p) d q (pos 0) positive fl).1 (omega (arith, ints)) in
            let m = node.parameters in
            by_lt_z (pos 0) (value_of f p -ℤ (d *ℤ q))
            (λ (broken : pos 0 <ℤ (value_of f p -ℤ (d *ℤ q))).
            absurd (ask-false left (m + 1) (map longer_form node.context ++ g ∷ h ∷ []) l (p ++ q ∷ []) asked
            (speaks-append (m + 1) (map longer_form node.context) (g ∷ h ∷ [])
            (speaks-longer m node.context here.speaks) (sg, (sh, tt)))
            (let e = here.size in simp length-append (omega arith))
            (not_negative-append p (q ∷ []) here.not_negative (qn, tt))
            (subst NotNegative (sym (row_values-append (map longer_form node.context) (g ∷ h ∷ []) (p ++ q ∷ [])))
            (not_negative-append (row_values (map longer_form node.context) (p ++ q ∷ []))
            (value_of g (p ++ q ∷ []) ∷ value_of h (p ++ q ∷ []) ∷ [])
            (subst NotNegative (sym (values-longer node.context p q
            (subst (λ (k : ℕ). Speaks k node.context) (sym here.size) here.speaks))) here.context)
            (omega (arith, ints), (omega (arith, ints), tt))))))
            (λ (whole : (value_of f p -ℤ (d *ℤ q)) ≤ℤ pos 0). omega (arith, ints))
