-- Order from emptiness, and a part put among others in their order.
use Rattle.scop_syntax.proofs.Common.{◌≡◌, ℕ, zero, suc, ◌+◌, ◌<◌, Bool, true, false, ℤ, pos, negsuc, List, [], ◌∷◌}
use Rattle.scop_syntax.proofs.Common.{◌++◌, length, take, drop, get_or, map, set, ◌⊎◌, inl, inr, refl, sym, ap, subst}
use Rattle.scop_syntax.proofs.Common.{◌∙◌, All, arith, length-append, ◌-◌, ◌≤ℤ◌, ◌<ℤ◌, ◌-ℤ◌, ◌*ℤ◌, ints}
use Rattle.scop_syntax.proofs.Common.{get_or-set_other, length-set, All-append, All-cons, All-head, All-nil, All-tail}
use Rattle.scop_syntax.proofs.Common.{false≢true, get_or-append_seam, NotNegative, zeros, Affine, value_of, widened}
use Rattle.scop_syntax.proofs.Common.{not_negative_all, dot-set_left, dot-zeros, get_or-zeros, length-zeros}
use Rattle.scop_syntax.proofs.Common.{mul_one_left, mul_neg_left, le_or_lt}
use Rattle.fm_projection.proofs.WholePoints.{one_more}
use Rattle.integer_sets.specs.Scanned.{Scanned}
use Rattle.affine_forms.specs.Parts.{variables_of}
use Rattle.plain_scan.specs.Sets.{Keys}
use Rattle.plain_scan.specs.steps.Serving.{AllAtLeast}
use Rattle.plain_scan.proofs.Pieces.{all_append}
use Rattle.plain_scan.proofs.Rows.{widened_hold}
use Rattle.split_scan.specs.steps.Questions.{AreNatural, HasNone, IsCut, IsIn}
use Rattle.split_scan.specs.steps.Parts.{HasMarks, InPart, IsPart, staying}
use Rattle.split_scan.specs.steps.Narrowing.{HoldAtKeys}
use Rattle.split_scan.specs.steps.Picking.{IsPicking}
use Rattle.split_scan.proofs.NodeParts.{in_part_append}
use Rattle.split_scan.specs.steps.Ordering.{AreBelow, AreEnoughParts, AreParts, IsBelowAll, Rise, difference, turned}
use Rattle.split_scan.specs.declared.part.Part.{Part}
use Rattle.split_scan.proofs.Values.{one_point, one_size, widened_sized}

-- x - y
entry_behind : (outer : List ℤ) (x y : ℤ) (rest : List ℤ)
    → get_or (outer ++ x ∷ y ∷ rest) (suc (length outer)) (pos 0) ≡ y
entry_behind [] x y rest = refl
entry_behind (z ∷ outer) x y rest = entry_behind outer x y rest

value_difference : (m n : ℕ) (outer : List ℤ) (x y : ℤ) (rest : List ℤ) → length outer ≡ m → m + 1 < n
    → value_of (difference n m) (outer ++ x ∷ y ∷ rest) ≡ x -ℤ y
value_difference m n outer x y rest size less =
    let point = outer ++ x ∷ y ∷ rest in
    let line = set (zeros n) m (pos 1) in
    let z = length-zeros n in
    let l = length-set (zeros n) m (pos 1) in
    let a = dot-set_left line point (m + 1) (negsuc 0) (omega (arith, less, z, l)) in
    let b = dot-set_left (zeros n) point m (pos 1) (omega (arith, less, z)) in
    let c = dot-zeros n point in
    let other : get_or line (m + 1) (pos 0) ≡ pos 0 =
    get_or-set_other (zeros n) m (m + 1) (pos 1) (pos 0) (λ e. omega (arith, e)) ∙ get_or-zeros n (m + 1) in
    let none = get_or-zeros n m in
    let first : get_or point m (pos 0) ≡ x = subst (λ k. get_or point k (pos 0) ≡ x) size (get_or-append_seam outer x
    (y ∷ rest) (pos 0)) in
    let second : get_or point (m + 1) (pos 0) ≡ y = subst (λ k. get_or point k (pos 0) ≡ y) (let e : suc
    (length outer) ≡ m + 1 = omega (arith, size) in e)
    (entry_behind outer x y rest) in
    let p = mul_one_left x in
    let q = mul_neg_left (pos 1) y in
    let o = mul_one_left y in
    let s : (pos 1 -ℤ get_or (zeros n) m (pos 0)) *ℤ get_or point m (pos 0) ≡ pos 1 *ℤ x =
    rw (none, first) refl in
    let t : (negsuc 0 -ℤ get_or line (m + 1) (pos 0)) *ℤ get_or point (m + 1) (pos 0) ≡ negsuc 0 *ℤ y =
    rw (other, second) refl in
    omega (arith, ints)

-- two values of one loop
natural_two : (outer : List ℤ) (x y : ℤ) → NotNegative (outer ++ x ∷ []) → NotNegative (outer ++ y ∷ [])
    → NotNegative (outer ++ x ∷ y ∷ [])
natural_two [] x y h k = (h.0, k)
natural_two (z ∷ outer) x y h k = (h.0, natural_two outer x y h.1 k.1)

append_two : (outer : List ℤ) (x y : ℤ) (rest : List ℤ) → (outer ++ x ∷ y ∷ []) ++ rest ≡ outer ++ x ∷ y ∷ rest
append_two [] x y rest = refl
append_two (z ∷ outer) x y rest = ap (λ (zs : List ℤ). z ∷ zs) (append_two outer x y rest)

-- rows of n variables, one of which they do not speak
pub turned_sized : (m n : ℕ) (inside ps qs : List Affine) → m + 1 < n → All (λ f. variables_of f + 1 ≡ n) inside
    → All (λ f. variables_of f + 1 ≡ n) ps → All (λ f. variables_of f + 1 ≡ n) qs
    → All (λ f. variables_of f ≡ n) (turned m n inside ps qs)
turned_sized m n inside ps qs less i p q =
    let P : Affine → Type 0 = λ f. variables_of f ≡ n in
    let lower = λ (k : ℕ) (d : Affine) (h : k < length (inside ++ ps)).
    let e = All-append (λ f. variables_of f + 1 ≡ n) inside ps i p k d h in less_one (variables_of (get_or
    (inside ++ ps) k d)) e in
    let upper = λ (k : ℕ) (d : Affine) (h : k < length (inside ++ qs)).
    let e = All-append (λ f. variables_of f + 1 ≡ n) inside qs i q k d h in less_one (variables_of (get_or
    (inside ++ qs) k d)) e in
    let first = up (map (widened (m + 1)) (inside ++ ps)) (widened_sized (m + 1) (n - 1) (inside ++ ps) lower) in
    let second = up (map (widened m) (inside ++ qs)) (widened_sized m (n - 1) (inside ++ qs) upper) in
    All-append P (map (widened (m + 1)) (inside ++ ps) ++ map (widened m) (inside ++ qs)) (difference n m ∷ [])
    (All-append P (map (widened (m + 1)) (inside ++ ps)) (map (widened m) (inside ++ qs)) first second)
    (All-cons P (difference n m) [] (length-set (set (zeros n) m (pos 1)) (m + 1) (negsuc 0)
    ∙ length-set (zeros n) m (pos 1) ∙ length-zeros n) (All-nil P))
  where
    less_one : (v : ℕ) → v + 1 ≡ n → v ≡ n - 1
    less_one v e = omega (arith, e)

    up : (fs : List Affine) → All (λ f. variables_of f ≡ (n - 1) + 1) fs → All (λ f. variables_of f ≡ n) fs
    up fs h k d inside = let e = h k d inside in omega (arith, e, less)

-- where no point has two values the other way round, each of the first part's is less
pub below_of : (m n : ℕ) (inside ps qs : List Affine) → m + 1 < n → AreNatural (m + 1) inside
    → HasNone (m + 2) (turned m n inside ps qs) → AreBelow m inside ps qs
below_of m n inside ps qs less natural none params outer x y at_x at_y p q = by_order (le_or_lt y x)
  where
    point : List ℤ
    point = outer ++ x ∷ y ∷ params

    positive : NotNegative (outer ++ x ∷ y ∷ [])
    positive =
        natural_two outer x y
        ((not_negative_all (outer ++ x ∷ [])).1 (natural params (outer ++ x ∷ []) at_x.parameters
        (one_size outer x m at_x.size) (one_point inside outer x params at_x.hold)))
        ((not_negative_all (outer ++ y ∷ [])).1 (natural params (outer ++ y ∷ []) at_y.parameters
        (one_size outer y m at_y.size) (one_point inside outer y params at_y.hold)))

    first : AllAtLeast (map (widened (m + 1)) (inside ++ ps)) point
    first =
        subst (AllAtLeast (map (widened (m + 1)) (inside ++ ps))) (one_more outer x (y ∷ params))
        (widened_hold (m + 1) (inside ++ ps) (outer ++ x ∷ []) y params (one_size outer x m at_x.size)
        (one_point (inside ++ ps) outer x params (all_append inside ps (outer ++ x ∷ params) at_x.hold p)))

    second : AllAtLeast (map (widened m) (inside ++ qs)) point
    second =
        widened_hold m (inside ++ qs) outer x (y ∷ params) at_x.size
        (all_append inside qs (outer ++ y ∷ params) at_y.hold q)

    by_order : (y ≤ℤ x) ⊎ (x <ℤ y) → x <ℤ y
    by_order (inr l) = l
    by_order (inl l) =
        let v = value_difference m n outer x y params at_x.size less in
        let last : pos 0 ≤ℤ value_of (difference n m) point = omega (arith, ints, v, l) in
        let two : length (outer ++ x ∷ y ∷ []) ≡ m + 2 =
        (let s = at_x.size in omega (arith, length-append outer (x ∷ y ∷ []), s)) in
        absurd (none params (outer ++ x ∷ y ∷ []) at_x.parameters two positive
        (subst (AllAtLeast (turned m n inside ps qs)) (sym (append_two outer x y params))
        (all_append (map (widened (m + 1)) (inside ++ ps) ++ map (widened m) (inside ++ qs)) (difference n m ∷ []) point
        (all_append (map (widened (m + 1)) (inside ++ ps)) (map (widened m) (inside ++ qs)) point first second)
        (last, tt))))

-- below others, one by one
pub below_more : (m : ℕ) (inside : List Affine) (p : Part) (ps : List Part) (q : Part) → IsBelowAll m inside p ps
    → AreBelow m inside p.cuts.items q.cuts.items → IsBelowAll m inside p (ps ++ q ∷ [])
below_more m inside p [] q h one = (one, tt)
below_more m inside p (r ∷ ps) q h one = (h.0, below_more m inside p ps q h.1 one)

below_put : (m : ℕ) (inside : List Affine) (q p : Part) (ps : List Part) (at : ℕ) → IsBelowAll m inside q ps
    → AreBelow m inside q.cuts.items p.cuts.items → IsBelowAll m inside q (take at ps ++ p ∷ drop at ps)
below_put m inside q p ps zero h one = (one, h)
below_put m inside q p [] (suc at) h one = (one, tt)
below_put m inside q p (r ∷ ps) (suc at) h one = (h.0, below_put m inside q p ps at h.1 one)

-- a part put behind those below it and in front of those that it is below
pub rise_put : (m : ℕ) (inside : List Affine) (ps : List Part) (at : ℕ) (p : Part)
    → ((k : ℕ) (d : Part) → k < at → k < length ps → AreBelow m inside (get_or ps k d).cuts.items p.cuts.items)
    → IsBelowAll m inside p (drop at ps) → Rise m inside ps → Rise m inside (take at ps ++ p ∷ drop at ps)
rise_put m inside ps zero p below above rise = (above, rise)
rise_put m inside [] (suc at) p below above rise = (tt, tt)
rise_put m inside (q ∷ ps) (suc at) p below above rise = (
  below_put m inside q p ps at rise.0 (below 0 q (omega arith) (omega arith)),
  rise_put m inside ps at p (λ k d l i. below (suc k) d (omega (arith, l)) (omega (arith, i))) above rise.1,
)

-- all but the last, and the last
pub All-last : (P : Part → Type 0) (ps : List Part) (p : Part) → All P (ps ++ p ∷ []) → All P ps × P p
All-last P [] p h = (All-nil P, All-head P p [] h)
All-last P (q ∷ ps) p h =
    let r = All-last P ps p (All-tail P q (ps ++ p ∷ []) h) in (
      All-cons P q ps (All-head P q
          (ps ++ p ∷ []) h) r.0,
      r.1,
    )

-- whether a set stays
some_stay : (bs : List Bool) (all : List Scanned) (k : ℕ) → k < length bs → length bs ≡ length all
    → ((d : Bool) → get_or bs k d ≡ true) → 0 < length (staying bs all)
some_stay [] all k inside size h = absurd (omega (arith, inside))
some_stay (b ∷ bs) [] k inside size h = absurd (omega (arith, size))
some_stay (true ∷ bs) (s ∷ all) k inside size h = omega arith
some_stay (false ∷ bs) (s ∷ all) zero inside size h = absurd (false≢true (h true))
some_stay (false ∷ bs) (s ∷ all) (suc k) inside size h =
    some_stay bs all k (omega (arith, inside)) (omega (arith, size)) h

none_stays : (bs : List Bool) (all : List Scanned) → length bs ≡ length all
    → ((k : ℕ) (d : Bool) → k < length bs → get_or bs k d ≡ false) → staying bs all ≡ []
none_stays [] [] size h = refl
none_stays [] (s ∷ all) size h = absurd (omega (arith, size))
none_stays (b ∷ bs) [] size h = refl
none_stays (true ∷ bs) (s ∷ all) size h = absurd (false≢true (sym (h 0 true (omega arith))))
none_stays (false ∷ bs) (s ∷ all) size h =
    none_stays bs all (omega (arith, size)) (λ k d inside. h (suc k) d (omega (arith, inside)))

-- all of a list with an element put in
all_put : (P : Part → Type 0) (ps : List Part) (at : ℕ) (p : Part) → All P ps → P p
    → All P (take at ps ++ p ∷ drop at ps)
all_put P ps zero p h one = All-cons P p ps one h
all_put P [] (suc at) p h one = All-cons P p [] one (All-nil P)
all_put P (q ∷ ps) (suc at) p h one =
    All-cons P q (take at ps ++ p ∷ drop at ps) (All-head P q ps h) (all_put P ps at p (All-tail P q ps h) one)

pub all_put_is : (P : Part → Type 0) (ps new : List Part) (at : ℕ) (p : Part)
    → new ≡ take at ps ++ p ∷ drop at ps → All P ps → P p → All P new
all_put_is P ps new at p is h one = subst (All P) (sym is) (all_put P ps at p h one)

in_put : (ps : List Part) (at : ℕ) (p : Part) (point : List ℤ) → AllAtLeast p.cuts.items point ⊎ InPart ps point
    → InPart (take at ps ++ p ∷ drop at ps) point
in_put ps zero p point h = h
in_put [] (suc at) p point h = h
in_put (q ∷ ps) (suc at) p point (inl h) = inr (in_put ps at p point (inl h))
in_put (q ∷ ps) (suc at) p point (inr (inl h)) = inl h
in_put (q ∷ ps) (suc at) p point (inr (inr h)) = inr (in_put ps at p point (inr h))

-- the last part that waits is put in order
pub picked_in : (m n : ℕ) (inside : List Affine) (all : List Scanned) (rest old new : List Part) (at k : ℕ) (p : Part)
    → new ≡ take at old ++ p ∷ drop at old → k < length p.stays.items
    → ((d : Bool) → get_or p.stays.items k d ≡ true) → IsPicking m n inside all (rest ++ p ∷ []) old
    → IsPicking m n inside all rest new
picked_in m n inside all rest old new at k p is within stays h =
    let waiting = All-last (IsPart m n inside all) rest p h.waiting in
    let marks = All-last (HasMarks (length all)) rest p h.marks in
    record {
      waiting = waiting.0;
      marks = marks.0;
      parts = all_put_is (IsPart m n inside all) old new at p is h.parts waiting.1;
      some = all_put_is (λ q. 0 < length (staying q.stays.items all)) old new at p is h.some
          (some_stay p.stays.items all k within marks.1 stays);
      enough = λ params outer x here r key. put (outer ++ x ∷ params) (h.enough params outer x here r key);
    }
  where
    put : (point : List ℤ) → InPart (rest ++ p ∷ []) point ⊎ InPart old point → InPart rest point ⊎ InPart new point
    put point (inr g) = inr (subst (λ ps. InPart ps point) (sym is) (in_put old at p point (inr g)))
    put point (inl g) = elim (in_part_append rest (p ∷ []) point g) [
      | inl f ↦ inl f
      | inr f ↦ inr (subst (λ ps. InPart ps point) (sym is) (in_put old at p point (inl (only f))))
    ]
      where
        only : InPart (p ∷ []) point → AllAtLeast p.cuts.items point
        only (inl a) = a
        only (inr a) = absurd a

-- or it goes, since no set stays in it
pub picked_out : (m n : ℕ) (inside : List Affine) (all : List Scanned) (rest old : List Part) (p : Part)
    → ((k : ℕ) (d : Bool) → k < length p.stays.items → get_or p.stays.items k d ≡ false)
    → IsPicking m n inside all (rest ++ p ∷ []) old → IsPicking m n inside all rest old
picked_out m n inside all rest old p none h =
    let waiting = All-last (IsPart m n inside all) rest p h.waiting in
    let marks = All-last (HasMarks (length all)) rest p h.marks in
    record {
      waiting = waiting.0;
      marks = marks.0;
      parts = h.parts;
      some = h.some;
      enough = λ params outer x here r key. left params outer x here r key waiting.1
          (none_stays p.stays.items all marks.1 none) (h.enough params outer x here r key);
    }
  where
    left : (params outer : List ℤ) (x : ℤ) → IsIn m inside params outer x → (r : List ℤ)
        → Keys all params (outer ++ x ∷ r) → IsPart m n inside all p → staying p.stays.items all ≡ []
        → InPart (rest ++ p ∷ []) (outer ++ x ∷ params) ⊎ InPart old (outer ++ x ∷ params)
        → InPart rest (outer ++ x ∷ params) ⊎ InPart old (outer ++ x ∷ params)
    left params outer x here r key part empty (inr g) = inr g
    left params outer x here r key part empty (inl g) =
        elim (in_part_append rest (p ∷ []) (outer ++ x ∷ params) g) [
          | inl f ↦ inl f
          | inr f ↦ never f
        ]
      where
        never : InPart (p ∷ []) (outer ++ x ∷ params)
            → InPart rest (outer ++ x ∷ params) ⊎ InPart old (outer ++ x ∷ params)
        never (inl a) =
            absurd (subst (λ ss. Keys ss params (outer ++ x ∷ r)) empty (part.keeps params outer x here a r key))
        never (inr a) = absurd a

-- all parts are in order
pub picked_all : (m n : ℕ) (inside : List Affine) (all : List Scanned) (ps out : List Part) → Rise m inside out
    → All (IsPart m n inside all) ps → All (HasMarks (length all)) ps → AreEnoughParts m inside all ps
    → (IsPicking m n inside all ps [] → IsPicking m n inside all [] out) → AreParts m n inside all out
picked_all m n inside all ps out rise parts marks enough picked =
    let P = IsPart m n inside all in
    let last = picked (record {
      waiting = parts;
      marks = marks;
      parts = All-nil P;
      some = All-nil (λ p. 0 < length (staying p.stays.items all));
      enough = λ params outer x here r key. inl (enough params outer x here r key);
    }) in
    record {
      parts = last.parts;
      some = last.some;
      rise = rise;
      enough = λ params outer x here r key. second (outer ++ x ∷ params) (last.enough params outer x here r key);
    }
  where
    second : (point : List ℤ) → InPart [] point ⊎ InPart out point → InPart out point
    second point (inl g) = absurd g
    second point (inr g) = g

-- the one part of a node that is not separated
pub one_part : (m n : ℕ) (inside : List Affine) (all : List Scanned) (ps : List Part) (p : Part) → 0 < length all
    → ps ≡ p ∷ [] → All (IsCut m n) p.cuts.items → HoldAtKeys m inside all p.cuts.items → p.stays.items ≡ []
    → AreParts m n inside all ps
one_part m n inside all ps p some is cuts hold stays =
    subst (AreParts m n inside all) (sym is) (record {
      parts = All-cons P p [] (record {
        cuts = cuts;
        keeps = λ params outer x here held r key.
            subst (λ bs. Keys (staying bs all) params (outer ++ x ∷ r)) (sym stays) key;
      }) (All-nil P);
      some = All-cons (λ q. 0 < length (staying q.stays.items all)) p []
          (subst (λ bs. 0 < length (staying bs all)) (sym stays) some)
          (All-nil (λ q. 0 < length (staying q.stays.items all)));
      rise = (tt, tt);
      enough = λ params outer x here r key. inl (hold params outer x here r key);
    })
  where
    P : Part → Type 0
    P = IsPart m n inside all

-- all of it
pub whole_parts : (m n : ℕ) (inside : List Affine) (all : List Scanned) (ps : List Part) (p : Part) → 0 < length all
    → ps ≡ p ∷ [] → p.cuts.items ≡ [] → p.stays.items ≡ [] → AreParts m n inside all ps
whole_parts m n inside all ps p some is cuts stays =
    one_part m n inside all ps p some is (subst (All (IsCut m n)) (sym cuts) (All-nil (IsCut m n)))
    (subst (HoldAtKeys m inside all) (sym cuts) (λ params outer x here r key. tt)) stays
