-- Nothing fails exactly where every cell is one of its array's.
use Rattle.whole_numbers.proofs.Common.{◌≡◌, ℕ, zero, suc, ◌+◌, Bool, true, false, ℤ, pos, List, [], ◌∷◌, ◌++◌, length}
use Rattle.whole_numbers.proofs.Common.{get_or, Some, None, inl, inr, ap, ap₂, subst, sym, ◌∙◌, refl, arith, ◌<◌, ◌+ℤ◌}
use Rattle.whole_numbers.proofs.Common.{slice_get, if◌then◌else◌, le_z, ints, length-map, value_of}
use Rattle.scop_syntax.specs.Tree.{Access}
use Rattle.scop_syntax.specs.Members.{In}
use Rattle.scop_syntax.specs.Walk.{Visit}
use Rattle.scop_syntax.specs.Cells.{accesses, values, cell_of}
use Rattle.scop_syntax.specs.Execution.{AreWithin, IsCell, AreInside}
use Rattle.scop_syntax.specs.Failures.{Failure, is_within, outside_dimensions, outside_accesses, failures}
use Rattle.scop_syntax.specs.Failures.{first_outside, LiesIn, IsFirstOutside, IsRanked, VisitsAreRanked}
use Rattle.scop_syntax.proofs.Members.{both, le_z_holds, holds_le_z}

nil_front : {A : Type 0} (xs ys : List A) → xs ++ ys ≡ [] → xs ≡ []
nil_front [] ys h = refl
nil_front (x ∷ xs) ys h = absurd cc

nil_back : {A : Type 0} (xs ys : List A) → xs ++ ys ≡ [] → ys ≡ []
nil_back [] ys h = h
nil_back (x ∷ xs) ys h = absurd cc

none_here : (b : Bool) (f : Failure) (fs : List Failure) → (if b then fs else f ∷ fs) ≡ [] → (b ≡ true) × (fs ≡ [])
none_here true f fs h = (refl, h)
none_here false f fs h = absurd cc

within_of : (v : Visit) (a d : ℕ) (ss : List ℤ) (es : List ℕ) → length ss ≡ length es
    → outside_dimensions v a d ss es ≡ [] → AreWithin ss es
within_of v a d [] [] l h = tt
within_of v a d [] (e ∷ es) l h = absurd (omega arith)
within_of v a d (s ∷ ss) [] l h = absurd (omega arith)
within_of v a d (s ∷ ss) (e ∷ es) l h =
    let n = none_here (is_within s e) (record { visit = v; access = a; dimension = d; value = s; extent = e })
    (outside_dimensions v a (d + 1) ss es) h in
    let b = both (le_z (pos 0) s) (le_z (s +ℤ pos 1) (pos e)) n.0 in
    let high = holds_le_z (s +ℤ pos 1) (pos e) b.1 in
    (holds_le_z (pos 0) s b.0, omega (arith, ints), within_of v a (d + 1) ss es (omega arith) n.1)

none_of : (v : Visit) (a d : ℕ) (ss : List ℤ) (es : List ℕ) → AreWithin ss es → outside_dimensions v a d ss es ≡ []
none_of v a d [] es h = refl
none_of v a d (s ∷ ss) [] h = refl
none_of v a d (s ∷ ss) (e ∷ es) h =
    let low = h.0 in
    let high = h.1 in
    rw (le_z_holds (pos 0) s low, le_z_holds (s +ℤ pos 1) (pos e) (omega (arith, ints))) (none_of v a (d + 1) ss es h.2)

cells_of : (extents : List (List ℕ)) (v : Visit) (a : ℕ) (fs : List Access)
    → ((f : Access) → In f fs → IsRanked extents f) → outside_accesses extents v a fs ≡ []
    → (f : Access) → In f fs → IsCell extents (cell_of f v.point)
cells_of extents v a [] ranked none f h = absurd h
cells_of extents v a (g ∷ gs) ranked none f (inl e) =
    let front = outside_dimensions v a 0 (values g.subscripts v.point) (get_or extents g.array []) in
    let r = ranked g (inl refl) in
    let l = length-map g.subscripts (λ form. value_of form v.point) in
    subst (λ (z : Access). IsCell extents (cell_of z v.point)) (sym e)
    (record {
      array = r.array;
      subscripts = within_of v a 0 (values g.subscripts v.point) (get_or extents g.array [])
          (l ∙ r.rank) (nil_front front (outside_accesses extents v (a + 1) gs) none);
    })
cells_of extents v a (g ∷ gs) ranked none f (inr h) =
    let front = outside_dimensions v a 0 (values g.subscripts v.point) (get_or extents g.array []) in
    cells_of extents v (a + 1) gs (λ z k. ranked z (inr k))
    (nil_back front (outside_accesses extents v (a + 1) gs) none) f h

none_outside : (extents : List (List ℕ)) (v : Visit) (a : ℕ) (fs : List Access)
    → ((f : Access) → In f fs → IsCell extents (cell_of f v.point)) → outside_accesses extents v a fs ≡ []
none_outside extents v a [] inside = refl
none_outside extents v a (g ∷ gs) inside =
    rw (none_of v a 0 (values g.subscripts v.point) (get_or extents g.array []) (inside g (inl refl)).subscripts)
    (none_outside extents v (a + 1) gs (λ z k. inside z (inr k)))

inside_from : (extents : List (List ℕ)) (visits : List Visit) → VisitsAreRanked extents visits
    → failures extents visits ≡ [] → AreInside extents visits
inside_from extents [] ranked none v h f g = absurd h
inside_from extents (w ∷ ws) ranked none v (inl e) f g =
    let here = nil_front (outside_accesses extents w 0 (accesses w.body)) (failures extents ws) none in
    subst (λ (z : Visit). In f (accesses z.body) → IsCell extents (cell_of f z.point)) (sym e)
    (λ k. cells_of extents w 0 (accesses w.body) (ranked w (inl refl)) here f k) g
inside_from extents (w ∷ ws) ranked none v (inr h) f g =
    inside_from extents ws (λ z k. ranked z (inr k))
    (nil_back (outside_accesses extents w 0 (accesses w.body)) (failures extents ws) none) v h f g

none_fails : (extents : List (List ℕ)) (visits : List Visit) → AreInside extents visits → failures extents visits ≡ []
none_fails extents [] inside = refl
none_fails extents (w ∷ ws) inside =
    rw (none_outside extents w 0 (accesses w.body) (inside w (inl refl)))
    (none_fails extents ws (λ v h. inside v (inr h)))

-- the first failure of an access: its dimension is the least
record FirstDimension (v : Visit) (a d : ℕ) (ss : List ℤ) (es : List ℕ) (f : Failure) : Type 0 where
  k : ℕ
  is_visit : f.visit ≡ v
  is_access : f.access ≡ a
  is_dimension : f.dimension ≡ d + k
  is_value : slice_get ss k ≡ Some f.value
  is_extent : slice_get es k ≡ Some f.extent
  outside : LiesIn f.value f.extent → ⊥
  before : (i e : ℕ) (s : ℤ) → i < k → slice_get ss i ≡ Some s → slice_get es i ≡ Some e → LiesIn s e

lies_in : (s : ℤ) (e : ℕ) → is_within s e ≡ true → LiesIn s e
lies_in s e h =
    let b = both (le_z (pos 0) s) (le_z (s +ℤ pos 1) (pos e)) h in
    let high = holds_le_z (s +ℤ pos 1) (pos e) b.1 in
    (holds_le_z (pos 0) s b.0, omega (arith, ints))

lies_out : (s : ℤ) (e : ℕ) → is_within s e ≡ false → LiesIn s e → ⊥
lies_out s e h l =
    let low = l.0 in
    let high = l.1 in
    let t : is_within s e ≡ true = rw
    (le_z_holds (pos 0) s low, le_z_holds (s +ℤ pos 1) (pos e) (omega (arith, ints))) refl in
    absurd cc

dimension_step : (v : Visit) (a d : ℕ) (s : ℤ) (ss : List ℤ) (e : ℕ) (es : List ℕ) (f : Failure) (b : Bool)
    → is_within s e ≡ b
    → slice_get (if b then outside_dimensions v a
    (d + 1) ss es else record { visit = v; access = a; dimension = d; value = s; extent = e }
    ∷ outside_dimensions v a (d + 1) ss es) 0 ≡ Some f
    → (slice_get (outside_dimensions v a (d + 1) ss es) 0 ≡ Some f → FirstDimension v a (d + 1) ss es f)
    → FirstDimension v a d (s ∷ ss) (e ∷ es) f
dimension_step v a d s ss e es f true w h ih =
    let r = ih h in
    record {
      k = suc r.k;
      is_visit = r.is_visit;
      is_access = r.is_access;
      is_dimension = r.is_dimension ∙ omega arith;
      is_value = r.is_value;
      is_extent = r.is_extent;
      outside = r.outside;
      before = λ i x y less p q. before_all s ss e es r.k (lies_in s e w) r.before i x y less p q;
    }
  where
    before_all : (s : ℤ) (ss : List ℤ) (e : ℕ) (es : List ℕ) (k : ℕ) → LiesIn s e
        → ((i x : ℕ) (y : ℤ) → i < k → slice_get ss i ≡ Some y → slice_get es i ≡ Some x → LiesIn y x)
        → (i x : ℕ) (y : ℤ) → i < suc k → slice_get (s ∷ ss) i ≡ Some y → slice_get (e ∷ es) i ≡ Some x → LiesIn y x
    before_all s ss e es k here rest zero x y less p q =
        let same : s ≡ y = cc in
        let also : e ≡ x = cc in
        subst (λ z. LiesIn z x) same (subst (λ n. LiesIn s n) also here)
    before_all s ss e es k here rest (suc i) x y less p q = rest i x y (omega arith) p q
dimension_step v a d s ss e es f false w h ih =
    let g : Failure = record { visit = v; access = a; dimension = d; value = s; extent = e } in
    let same : g ≡ f = cc in
    subst (λ z. FirstDimension v a d (s ∷ ss) (e ∷ es) z) same
    (record {
      k = 0;
      is_visit = refl;
      is_access = refl;
      is_dimension = omega arith;
      is_value = refl;
      is_extent = refl;
      outside = lies_out s e w;
      before = λ i x y less. absurd (omega arith);
    })

first_dimension : (v : Visit) (a d : ℕ) (ss : List ℤ) (es : List ℕ) (f : Failure)
    → slice_get (outside_dimensions v a d ss es) 0 ≡ Some f → FirstDimension v a d ss es f
first_dimension v a d [] es f h = absurd cc
first_dimension v a d (s ∷ ss) [] f h = absurd cc
first_dimension v a d (s ∷ ss) (e ∷ es) f h =
    dimension_step v a d s ss e es f (is_within s e) refl h (first_dimension v a (d + 1) ss es f)

-- the first of two lists after one another
head_cases : {A B : Type 0} (xs ys : List A) (x : A) → slice_get (xs ++ ys) 0 ≡ Some x
    → (xs ≡ [] → slice_get ys 0 ≡ Some x → B) → (slice_get xs 0 ≡ Some x → B) → B
head_cases [] ys x h f g = f refl h
head_cases (y ∷ xs) ys x h f g = g h

-- of a visit: its access is the least
record FirstAccess (extents : List (List ℕ)) (v : Visit) (a : ℕ) (gs : List Access) (f : Failure) : Type 0 where
  k : ℕ
  touched : Access
  is_access : slice_get gs k ≡ Some touched
  dimension : FirstDimension v (a + k) 0 (values touched.subscripts v.point) (get_or extents touched.array []) f
  before : (i : ℕ) (g : Access) → i < k → slice_get gs i ≡ Some g → IsCell extents (cell_of g v.point)

first_access : (extents : List (List ℕ)) (v : Visit) (a : ℕ) (gs : List Access) (f : Failure)
    → ((g : Access) → In g gs → IsRanked extents g)
    → slice_get (outside_accesses extents v a gs) 0 ≡ Some f → FirstAccess extents v a gs f
first_access extents v a [] f ranked h = absurd cc
first_access extents v a (g ∷ gs) f ranked h =
    let here = outside_dimensions v a 0 (values g.subscripts v.point) (get_or extents g.array []) in
    let none : here ≡ [] → IsCell extents (cell_of g v.point) = λ e.
    let r = ranked g (inl refl) in
    record {
      array = r.array;
      subscripts = within_of v a 0 (values g.subscripts v.point) (get_or extents g.array [])
          (length-map g.subscripts (λ form. value_of form v.point) ∙ r.rank) e;
    } in
    head_cases here (outside_accesses extents v (a + 1) gs) f h
    (λ e rest. access_later extents v a g gs f (none e)
    (first_access extents v (a + 1) gs f (λ z k. ranked z (inr k)) rest))
    (λ e. let zero_more : a ≡ a + 0 = omega arith in
    record {
      k = 0;
      touched = g;
      is_access = refl;
      dimension =
          subst (λ n. FirstDimension v n 0 (values g.subscripts v.point) (get_or extents g.array []) f) zero_more
          (first_dimension v a 0 (values g.subscripts v.point) (get_or extents g.array []) f e);
      before = λ i z less. absurd (omega arith);
    })
  where
    access_later : (extents : List (List ℕ)) (v : Visit) (a : ℕ) (g : Access) (gs : List Access) (f : Failure)
        → IsCell extents (cell_of g v.point) → FirstAccess extents v (a + 1) gs f → FirstAccess extents v a (g ∷ gs) f
    access_later extents v a g gs f is r =
        let more : a + 1 + r.k ≡ a + suc r.k = omega arith in
        record {
          k = suc r.k;
          touched = r.touched;
          is_access = r.is_access;
          dimension =
              subst (λ n. FirstDimension v n 0 (values r.touched.subscripts v.point)
              (get_or extents r.touched.array []) f) more r.dimension;
          before = λ i z less p. accesses_before extents v g gs r.k is r.before i z less p;
        }
      where
        accesses_before : (extents : List (List ℕ)) (v : Visit) (g : Access) (gs : List Access) (k : ℕ)
            → IsCell extents (cell_of g v.point)
            → ((i : ℕ) (z : Access) → i < k → slice_get gs i ≡ Some z → IsCell extents (cell_of z v.point))
            → (i : ℕ) (z : Access) → i < suc k → slice_get (g ∷ gs) i ≡ Some z → IsCell extents (cell_of z v.point)
        accesses_before extents v g gs k is rest zero z less p =
            let same : g ≡ z = cc in subst (λ y. IsCell extents (cell_of y v.point)) same is
        accesses_before extents v g gs k is rest (suc i) z less p = rest i z (omega arith) p

one_inside : (extents : List (List ℕ)) (v : Visit)
    → ((a : Access) → In a (accesses v.body) → IsCell extents (cell_of a v.point)) → AreInside extents (v ∷ [])
one_inside extents v cells w (inl e) a h =
    subst (λ (z : Visit). In a (accesses z.body) → IsCell extents (cell_of a z.point)) (sym e) (cells a) h
one_inside extents v cells w (inr g) a h = absurd g

pub first_visit : (extents : List (List ℕ)) (visits : List Visit) (f : Failure) → VisitsAreRanked extents visits
    → first_outside extents visits ≡ Some f → IsFirstOutside extents visits f
first_visit extents [] f ranked h = absurd cc
first_visit extents (v ∷ vs) f ranked h =
    head_cases (outside_accesses extents v 0 (accesses v.body)) (failures extents vs) f h
    (λ e rest. visit_later extents v vs f
    (one_inside extents v (cells_of extents v 0 (accesses v.body) (ranked v (inl refl)) e))
    (first_visit extents vs f (λ z k. ranked z (inr k)) rest))
    (λ e. let r = first_access extents v 0 (accesses v.body) f (ranked v (inl refl)) e in
    let d = r.dimension in
    let number : f.access ≡ r.k = d.is_access ∙ omega arith in
    let at : f.dimension ≡ d.k = d.is_dimension ∙ omega arith in
    first_here extents v vs f r d.is_visit number at)
  where
    first_here : (extents : List (List ℕ)) (v : Visit) (vs : List Visit) (f : Failure)
        (r : FirstAccess extents v 0 (accesses v.body) f) → f.visit ≡ v → f.access ≡ r.k → f.dimension ≡ r.dimension.k
        → IsFirstOutside extents (v ∷ vs) f
    first_here extents v vs f r is number at =
        let d = r.dimension in
        record {
          place = 0;
          touched = r.touched;
          is_visit = ap Some (sym is);
          is_access = ap₂ (λ (u : Visit) (n : ℕ). slice_get (accesses u.body) n) is number ∙ r.is_access;
          is_value = ap₂ (λ (u : Visit) (n : ℕ). slice_get (values r.touched.subscripts u.point) n) is at ∙ d.is_value;
          is_extent = ap (λ n. slice_get (get_or extents r.touched.array []) n) at ∙ d.is_extent;
          outside = d.outside;
          earlier_visits = λ i u less. absurd (omega arith);
          lesser_accesses = λ a g less p.
              let q : slice_get (accesses v.body) a ≡ Some g = ap (λ (u : Visit). slice_get (accesses u.body) a)
              (sym is) ∙ p in
              subst (λ (u : Visit). IsCell extents (cell_of g u.point)) (sym is) (r.before a g (omega arith) q);
          lesser_dimensions = λ i e s less p q.
              let here : slice_get (values r.touched.subscripts v.point) i ≡ Some s = ap
              (λ (u : Visit). slice_get (values r.touched.subscripts u.point) i) (sym is) ∙ p in
              d.before i e s (omega arith) here q;
        }

    visit_later : (extents : List (List ℕ)) (v : Visit) (vs : List Visit) (f : Failure) → AreInside extents (v ∷ [])
        → IsFirstOutside extents vs f → IsFirstOutside extents (v ∷ vs) f
    visit_later extents v vs f inside r =
        record {
          place = suc r.place;
          touched = r.touched;
          is_visit = r.is_visit;
          is_access = r.is_access;
          is_value = r.is_value;
          is_extent = r.is_extent;
          outside = r.outside;
          earlier_visits = λ i u less p. visits_before extents v vs r.place inside r.earlier_visits i u less p;
          lesser_accesses = r.lesser_accesses;
          lesser_dimensions = r.lesser_dimensions;
        }
      where
        visits_before : (extents : List (List ℕ)) (v : Visit) (vs : List Visit) (k : ℕ) → AreInside extents (v ∷ [])
            → ((i : ℕ) (u : Visit) → i < k → slice_get vs i ≡ Some u → AreInside extents (u ∷ []))
            → (i : ℕ) (u : Visit) → i < suc k → slice_get (v ∷ vs) i ≡ Some u → AreInside extents (u ∷ [])
        visits_before extents v vs k here rest zero u less p =
            let same : v ≡ u = cc in subst (λ z. AreInside extents (z ∷ [])) same here
        visits_before extents v vs k here rest (suc i) u less p = rest i u (omega arith) p

-- a list without a first element is empty
no_head : {A : Type 0} (xs : List A) → slice_get xs 0 ≡ None → xs ≡ []
no_head [] h = refl
no_head (x ∷ xs) h = absurd cc

pub none_inside : (extents : List (List ℕ)) (visits : List Visit) → VisitsAreRanked extents visits
    → first_outside extents visits ≡ None → AreInside extents visits
none_inside extents visits ranked h = inside_from extents visits ranked (no_head (failures extents visits) h)

pub inside_none : (extents : List (List ℕ)) (visits : List Visit) → AreInside extents visits
    → first_outside extents visits ≡ None
inside_none extents visits inside = ap (λ fs. slice_get fs 0) (none_fails extents visits inside)

pub ruleset failure_laws = (none_inside, inside_none, first_visit)
