-- Old and new nodes, kind by kind, where loops that run once go.
use Rattle.tree_simplification.proofs.Common.{◌≡◌, ℕ, zero, suc, ◌+◌, ◌^◌, ◌≤◌, Bool, true, false, ℤ, pos, List, []}
use Rattle.tree_simplification.proofs.Common.{◌∷◌, ◌++◌, length, map, ap, ap₂, subst, sym, ◌∙◌, refl, arith}
use Rattle.tree_simplification.proofs.Common.{length-append, le_z, All, ◌+ℤ◌, ◌-ℤ◌, ◌≤ℤ◌, if◌then◌else◌, neg_ℤ}
use Rattle.tree_simplification.proofs.Common.{unsigned_abs, ints, map-append, length-map, All-head, All-tail, Affine}
use Rattle.tree_simplification.proofs.Common.{value_of, values_of, composed, abs_at_most, AreAtMost, In, Program}
use Rattle.tree_simplification.proofs.Common.{most_turns, Instance, both, holds_le_z, append-nil, AreInRange, FitsAll}
use Rattle.tree_simplification.proofs.Common.{AreBounds, AreTests, FlatAll, AreFree, Conflict, Within, BoundsAreUpTo}
use Rattle.tree_simplification.proofs.Common.{IsUpTo, NestAllTo, TreesAreOver, Bounds, Tree, loop, guard, instance}
use Rattle.tree_simplification.proofs.Common.{Trees, none, more, Visit, all_hold, along, lower, upper, through, walk}
use Rattle.tree_simplification.proofs.Common.{walk_all, shown, StayWithin, AreNear, AreTestsFor, Inlines, IsInlined}
use Rattle.tree_simplification.proofs.Common.{IsPlace, bounds_over, IsOnce, inside, side_tests, parts, joined, CanGoAt}
use Rattle.tree_simplification.proofs.Common.{InlinesAt, lies, masked}
use Rattle.scop_syntax.proofs.Common.{in_map, in_map_from, IsInRange, parameter_size}
use Rattle.loop_tree.specs.Marks.{Flat}
use Rattle.loop_tree.specs.Shape.{NestsTo}
use Rattle.loop_tree.specs.Tree.{Test}
use Rattle.loop_tree.specs.Walk.{between, given}
use Rattle.tree_simplification.proofs.ComposedForms.{all_hold_over, bounds_fit_near, bounds_flat, bounds_sized}
use Rattle.tree_simplification.proofs.ComposedForms.{forms_fit_near, forms_sized, lower_over, near_more, near_size}
use Rattle.tree_simplification.proofs.ComposedForms.{place_sized, place_values, tests_fit_near, upper_over, values_over}
use Rattle.tree_simplification.proofs.Blocks.{map_along, masked_once}
use Rattle.tree_simplification.proofs.Walks.{between_same}
use Rattle.tree_simplification.proofs.Heads.{tests_flat}
use Rattle.tree_simplification.proofs.InnerForms.{inside_values}
use Rattle.tree_simplification.proofs.Once.{is_between, sides_flat, tests_lie}
use Rattle.tree_simplification.proofs.JoinedTrees.{fits_joined, flat_joined, free_joined, nested_joined, of_joined}
use Rattle.tree_simplification.proofs.JoinedTrees.{over_joined, serial_joined, small_joined, walk_joined}

-- what is shown of a visit of a loop, from what is shown of the body's
abbrev shown_through : Bool → ℤ → Visit → Visit
shown_through flag x v =
    record { values = []; parallel = if flag then x ∷ v.parallel else v.parallel; number = v.number; turns = v.turns }

shown_of_through : (flag : Bool) (x : ℤ) (vs : List Visit)
    → map shown (map (through flag x) vs) ≡ map (shown_through flag x) (map shown vs)
shown_of_through flag x [] = refl
shown_of_through flag x (v ∷ vs) =
    ap (λ (ws : List Visit). shown (through flag x v) ∷ ws) (shown_of_through flag x vs)

through_alike : (flag : Bool) (x : ℤ) (vs ws : List Visit) → map shown vs ≡ map shown ws
    → map shown (map (through flag x) vs) ≡ map shown (map (through flag x) ws)
through_alike flag x vs ws same =
    shown_of_through flag x vs
    ∙ (ap (λ (us : List Visit). map (shown_through flag x) us) same ∙ sym (shown_of_through flag x ws))

-- nothing is shown of a loop that is not parallel
through_serial : (x : ℤ) (vs : List Visit) → map shown (map (through false x) vs) ≡ map shown vs
through_serial x [] = refl
through_serial x (v ∷ vs) = ap (λ (ws : List Visit). shown v ∷ ws) (through_serial x vs)

along_alike : (f g : ℤ → List Visit) (n : ℕ) (first : ℤ) → ((x : ℤ) → map shown (f x) ≡ map shown (g x))
    → map shown (along f first n) ≡ map shown (along g first n)
along_alike f g zero first same = refl
along_alike f g (suc n) first same =
    map-append shown (f first) (along f (first +ℤ pos 1) n)
    ∙ (ap₂ (λ (us vs : List Visit). us ++ vs) (same first) (along_alike f g n (first +ℤ pos 1) same)
    ∙ sym (map-append shown (g first) (along g (first +ℤ pos 1) n)))

choice_alike : (b c : Bool) (vs ws : List Visit) → b ≡ c → map shown vs ≡ map shown ws
    → map shown (if b then vs else []) ≡ map shown (if c then ws else [])
choice_alike true true vs ws e same = same
choice_alike true false vs ws e same = absurd cc
choice_alike false true vs ws e same = absurd cc
choice_alike false false vs ws e same = refl

alone : (vs ws : List Visit) → map shown vs ≡ map shown ws → map shown (vs ++ []) ≡ map shown (ws ++ [])
alone vs ws same =
    ap (λ (us : List Visit). map shown us) (append-nil vs)
    ∙ (same ∙ sym (ap (λ (us : List Visit). map shown us) (append-nil ws)))

-- a visit has one of the old trees that gives its instance
old_visit : (vs ws : List Visit) → map shown vs ≡ map shown ws → (v : Visit) → In v vs
    → (w : Visit) × In w ws × (given v ≡ given w)
old_visit vs ws same v h =
    let m = subst (λ (us : List Visit). In (shown v) us) same (in_map shown v vs h) in
    let r = in_map_from shown (shown v) ws m in
    (r.0, r.1, ap given r.2)

within_over : (n : ℕ) (forms : List Affine) (point old : List ℤ) → values_of forms point ≡ old → (lo up : Bounds)
    → (x : ℤ)
    → Within (bounds_over true n forms lo) (bounds_over false n forms up) point x → Within lo up old x
within_over n forms point old at lo up x w = (
  subst (λ (z : ℤ). z ≤ℤ x) (lower_over n forms point old at lo) w.0,
  subst (λ (z : ℤ). x ≤ℤ z) (upper_over n forms point old at up) w.1,
)

pub nests_guard : (n : ℕ) (tests : List Test) (body : Trees) → NestsTo n (guard tests body) → NestAllTo n body
nests_guard zero tests body h = h
nests_guard (suc n) tests body h = h

guard_nests : (n : ℕ) (tests : List Test) (body : Trees) → NestAllTo n body → NestsTo n (guard tests body)
guard_nests zero tests body h = h
guard_nests (suc n) tests body h = h

instance_nests : (n k : ℕ) (forms : List Affine) → NestsTo n (instance k forms)
instance_nests zero k forms = tt
instance_nests (suc n) k forms = tt

-- the tests and the body of a guard of a text
pub guard_tests : (tests : List Test) (body : Trees) → Flat (guard tests body) → AreTests tests × FlatAll body
guard_tests [] body h = absurd h
guard_tests (test ∷ tests) body h = h

-- nothing
pub nothing_stays : (m k : ℕ) (loops : List Affine) → Inlines m k loops none none
nothing_stays m k loops =
    record {
      alike = λ params outer p o. refl;
      free = λ program params outer p o h. tt;
      fits = λ d params outer p o nests near stay. tt;
      serial = λ h. tt;
      flat = λ h. tt;
      statements = λ program h. tt;
      over = tt;
      small = tt;
      nested = λ n i l h. tt;
    }

-- a node, and then others
pub then_others : (m k : ℕ) (loops : List Affine) (t : Tree) (ts a b : Trees) → Inlines m k loops (more t none) a
    → Inlines m k loops ts b → Inlines m k loops (more t ts) (joined a b)
then_others m k loops t ts a b one rest =
    record {
      alike = λ params outer p o.
          let old = values_of loops (outer ++ params) in
          ap (λ (vs : List Visit). map shown vs) (walk_joined a b params outer)
          ∙ (map-append shown (walk_all a params outer) (walk_all b params outer)
          ∙ (ap₂ (λ (us vs : List Visit). us ++ vs)
          (one.alike params outer p o ∙ ap (λ (vs : List Visit). map shown vs) (append-nil (walk t params old)))
          (rest.alike params outer p o)
          ∙ sym (map-append shown (walk t params old) (walk_all ts params old))));
      free = λ program params outer p o h.
          free_joined (Conflict program params) a b params outer (one.free program params outer p o (h.0, tt))
          (rest.free program params outer p o h.1);
      fits = λ d params outer p o nests near stay.
          fits_joined a b params outer (one.fits d params outer p o (nests.0, tt) near (stay.0, tt))
          (rest.fits d params outer p o nests.1 near stay.1);
      serial = λ h. serial_joined a b (one.serial (h.0, tt)) (rest.serial h.1);
      flat = λ h. flat_joined a b (one.flat (h.0, tt)) (rest.flat h.1);
      statements = λ program h. of_joined program a b (one.statements program (h.0, tt)) (rest.statements program h.1);
      over = over_joined (k + m) a b one.over rest.over;
      small = small_joined (2 ^ 45) a b one.small rest.small;
      nested = λ n i l h. nested_joined i a b (one.nested n i l (h.0, tt)) (rest.nested n i l h.1);
    }

-- a loop that stays, at a point: it runs over the same values
record AtLoop (m k : ℕ) (loops forms : List Affine) (lo up : Bounds) (params outer : List ℤ) : Type 0 where
  first : lower (bounds_over true (k + m) forms lo) (outer ++ params)
      ≡ lower lo (values_of loops (outer ++ params) ++ params)
  last : upper (bounds_over false (k + m) forms up) (outer ++ params)
      ≡ upper up (values_of loops (outer ++ params) ++ params)

at_loop : (m k : ℕ) (loops forms : List Affine) (lo up : Bounds) (params outer : List ℤ) → IsPlace m k loops forms
    → length params ≡ m → length outer ≡ k → AtLoop m k loops forms lo up params outer
at_loop m k loops forms lo up params outer place p o =
    let point = outer ++ params in
    let old = values_of loops point ++ params in
    let at = place_values m k loops forms params outer place p o in
    record { first = lower_over (k + m) forms point old at lo; last = upper_over (k + m) forms point old at up }

-- its body at a value
kept_alike : (m k : ℕ) (loops : List Affine) (body new : Trees) → Inlines m (k + 1) (inside m k loops) body new
    → (params outer : List ℤ) → length params ≡ m → length outer ≡ k → (x : ℤ)
    → map shown (walk_all new params (outer ++ x ∷ []))
    ≡ map shown (walk_all body params (values_of loops (outer ++ params) ++ x ∷ []))
kept_alike m k loops body new within params outer p o x =
    let l = length-append outer (x ∷ []) in
    within.alike params (outer ++ x ∷ []) p (omega arith)
    ∙ ap (λ (ys : List ℤ). map shown (walk_all body params ys)) (inside_values m k loops outer params x o)

kept_free : (m k : ℕ) (loops forms : List Affine) (flag : Bool) (lo up : Bounds) (body new : Trees)
    → IsPlace m k loops forms → Inlines m (k + 1) (inside m k loops) body new → (program : Program)
    → (params outer : List ℤ) → length params ≡ m → length outer ≡ k
    → AreFree (Conflict program params) (more (loop flag lo up body) none) params (values_of loops (outer ++ params))
    → AreFree (Conflict program params)
    (more (loop flag (bounds_over true (k + m) forms lo) (bounds_over false (k + m) forms up) new) none) params outer
kept_free m k loops forms flag lo up body new place within program params outer p o h =
    let point = outer ++ params in
    let old = values_of loops point in
    let at = place_values m k loops forms params outer place p o in
    let C = Conflict program params in
    let run = kept_alike m k loops body new within params outer p o in
    let is_within = within_over (k + m) forms point (old ++ params) at lo up in (
      (
        (λ marked x y a b less v w in_x in_y conflict.
            let first = old_visit (walk_all new params (outer ++ x ∷ [])) (walk_all body params (old ++ x ∷ []))
            (run x) v in_x in
            let second = old_visit (walk_all new params (outer ++ y ∷ [])) (walk_all body params (old ++ y ∷ []))
            (run y) w in_y in
            h.0.0 marked x y (is_within x a) (is_within y b) less first.0 second.0 first.1 second.1
            (subst (λ (i : Instance). C i (given second.0)) first.2
            (subst (λ (i : Instance). C (given v) i) second.2 conflict))),
        (λ x a.
            let l = length-append outer (x ∷ []) in
            within.free program params (outer ++ x ∷ []) p (omega arith)
            (subst (λ (ys : List ℤ). AreFree C body params ys) (sym (inside_values m k loops outer params x o))
            (h.0.1 x (is_within x a)))),
      ),
      tt,
    )

-- values between small numbers
small_within : (first last x : ℤ) → neg_ℤ (pos (2 ^ 40)) ≤ℤ first → last ≤ℤ pos (2 ^ 40)
    → (first ≤ℤ x) × (x ≤ℤ last) → unsigned_abs x ≤ 2 ^ 40
small_within first last x low high w =
    let a = w.0 in let b = w.1 in abs_at_most x (2 ^ 40) (omega (arith, ints)) (omega (arith, ints))

kept_fits : (m k : ℕ) (loops forms : List Affine) (flag : Bool) (lo up : Bounds) (body new : Trees)
    → IsPlace m k loops forms → Inlines m (k + 1) (inside m k loops) body new
    → BoundsAreUpTo (2 ^ 45) (bounds_over true (k + m) forms lo)
    → BoundsAreUpTo (2 ^ 45) (bounds_over false (k + m) forms up)
    → (d : ℕ) (params outer : List ℤ) → length params ≡ m → length outer ≡ k
    → NestAllTo d (more (loop flag lo up body) none) → AreNear d params outer
    → StayWithin (2 ^ 40) (more (loop flag lo up body) none) params (values_of loops (outer ++ params))
    → FitsAll (more (loop flag (bounds_over true (k + m) forms lo) (bounds_over false (k + m) forms up) new) none)
    params outer
kept_fits m k loops forms flag lo up body new place within low high zero params outer p o nests near stay =
    absurd nests.0
kept_fits m k loops forms flag lo up body new place within low high (suc d) params outer p o nests near stay =
    let point = outer ++ params in
    let old = values_of loops point in
    let at = place_values m k loops forms params outer place p o in
    let s = near_size (suc d) params outer near in (
      (
        bounds_fit_near (bounds_over true (k + m) forms lo) point s low,
        bounds_fit_near (bounds_over false (k + m) forms up) point s high,
        (λ x w.
            let inside = within_over (k + m) forms point (old ++ params) at lo up x w in
            let room = small_within (lower lo (old ++ params)) (upper up (old ++ params)) x stay.0.0 stay.0.1 inside in
            let l = length-append outer (x ∷ []) in
            let inner = near_more d params outer x near room in
            let fits = within.fits d params (outer ++ x ∷ []) p (omega arith) nests.0 inner
            (subst (λ (ys : List ℤ). StayWithin (2 ^ 40) body params ys)
            (sym (inside_values m k loops outer params x o))
            (stay.0.2 x inside)) in
            (omega (arith, room), fits)),
      ),
      tt,
    )

kept_nested : (m k : ℕ) (loops : List Affine) (flag : Bool) (lo up low high : Bounds) (body new : Trees)
    → Inlines m (k + 1) (inside m k loops) body new → (n i : ℕ) → n ≤ i → NestAllTo n (more (loop flag lo up body) none)
    → NestAllTo i (more (loop flag low high new) none)
kept_nested m k loops flag lo up low high body new within zero i l h = absurd h.0
kept_nested m k loops flag lo up low high body new within (suc n) zero l h = absurd (omega arith)
kept_nested m k loops flag lo up low high body new within (suc n) (suc i) l h =
    (within.nested n i (omega arith) h.0, tt)

-- a loop that stays
pub kept_loop : (m k : ℕ) (loops forms : List Affine) (flag : Bool) (lo up : Bounds) (body new : Trees)
    → IsPlace m k loops forms → Inlines m (k + 1) (inside m k loops) body new
    → BoundsAreUpTo (2 ^ 45) (bounds_over true (k + m) forms lo)
    → BoundsAreUpTo (2 ^ 45) (bounds_over false (k + m) forms up)
    → Inlines m k loops (more (loop flag lo up body) none)
    (more (loop flag (bounds_over true (k + m) forms lo) (bounds_over false (k + m) forms up) new) none)
kept_loop m k loops forms flag lo up body new place within low high =
    let n = k + m in
    let sized = place_sized m k loops forms place in
    let e : k + 1 + m ≡ suc n = omega arith in
    record {
      alike = λ params outer p o.
          let old = values_of loops (outer ++ params) in
          let at = at_loop m k loops forms lo up params outer place p o in
          let f : ℤ → List Visit = λ x. map (through flag x) (walk_all new params (outer ++ x ∷ [])) in
          let g : ℤ → List Visit = λ x. map (through flag x) (walk_all body params (old ++ x ∷ [])) in
          let a = lower lo (old ++ params) in
          let b = upper up (old ++ params) in
          ap₂ (λ (y z : ℤ). map shown (between f y z ++ [])) at.first at.last
          ∙ alone (between f a b) (between g a b)
          (along_alike f g (most_turns (b -ℤ a)) a (λ x.
          through_alike flag x (walk_all new params (outer ++ x ∷ [])) (walk_all body params (old ++ x ∷ []))
          (kept_alike m k loops body new within params outer p o x)));
      free = kept_free m k loops forms flag lo up body new place within;
      fits = kept_fits m k loops forms flag lo up body new place within low high;
      serial = λ h. ((h.0.0, within.serial h.0.1), tt);
      flat = λ h. ((bounds_flat true n forms lo h.0.0, bounds_flat false n forms up h.0.1, within.flat h.0.2), tt);
      statements = λ program h. (within.statements program h.0, tt);
      over = (
        (
          bounds_sized true n forms sized lo,
          bounds_sized false n forms sized up,
          subst (λ i. TreesAreOver i new) e within.over,
        ),
        tt,
      );
      small = ((low, high, within.small), tt);
      nested =
          kept_nested m k loops flag lo up (bounds_over true n forms lo) (bounds_over false n forms up) body new within;
    }

-- a loop's body at one value, at a point
record AtValue (loops : List Affine) (lo up : Bounds) (f : Affine) (tests : List Test) (params outer : List ℤ)
    : Type 0 where
  holds : all_hold tests (outer ++ params)
      ≡ lies (lower lo (values_of loops (outer ++ params) ++ params))
      (upper up (values_of loops (outer ++ params) ++ params)) (value_of f (outer ++ params))
  values : values_of (loops ++ f ∷ []) (outer ++ params)
      ≡ values_of loops (outer ++ params) ++ value_of f (outer ++ params) ∷ []

at_value : (m k : ℕ) (loops forms : List Affine) (lo up : Bounds) (f : Affine) (tests : List Test) (body : Trees)
    → CanGoAt m k loops forms lo up f tests body → (params outer : List ℤ) → length params ≡ m → length outer ≡ k
    → AtValue loops lo up f tests params outer
at_value m k loops forms lo up f tests body can params outer p o =
    let point = outer ++ params in
    let n = k + m in
    let at = at_loop m k loops forms lo up params outer can.place p o in
    record {
      holds = tests_lie n f (bounds_over true n forms lo) (bounds_over false n forms up) tests point can.between
          (bounds_flat true n forms lo can.flat_low) (bounds_flat false n forms up can.flat_high)
          ∙ ap₂ (λ (y z : ℤ). lies y z (value_of f point)) at.first at.last;
      values = map-append (λ g. value_of g point) loops (f ∷ []);
    }

lies_within : (lo up : Bounds) (point : List ℤ) (x : ℤ) → lies (lower lo point) (upper up point) x ≡ true
    → Within lo up point x
lies_within lo up point x h =
    let q = both (le_z (lower lo point) x) (le_z x (upper up point)) h in
    (holds_le_z (lower lo point) x q.0, holds_le_z x (upper up point) q.1)

choose_alike : (b c : Bool) (vs ws : List Visit) → b ≡ c → map shown vs ≡ ws
    → map shown (if b then vs else []) ≡ (if c then ws else [])
choose_alike true c vs ws e same = subst (λ (d : Bool). map shown vs ≡ (if d then ws else [])) e same
choose_alike false c vs ws e same = ap (λ (d : Bool). if d then ws else []) e

at_alike : (m k : ℕ) (loops forms : List Affine) (lo up : Bounds) (f : Affine) (tests : List Test) (body new : Trees)
    → CanGoAt m k loops forms lo up f tests body → Inlines m k (loops ++ f ∷ []) body new
    → (params outer : List ℤ) → length params ≡ m → length outer ≡ k
    → map shown (if all_hold tests (outer ++ params) then walk_all new params outer else [])
    ≡ masked (lower lo (values_of loops (outer ++ params) ++ params))
    (upper up (values_of loops (outer ++ params) ++ params))
    (λ x. map shown (walk_all body params (values_of loops (outer ++ params) ++ x ∷ []))) (value_of f (outer ++ params))
at_alike m k loops forms lo up f tests body new can within params outer p o =
    let point = outer ++ params in
    let old = values_of loops point in
    let v = value_of f point in
    let at = at_value m k loops forms lo up f tests body can params outer p o in
    choose_alike (all_hold tests point) (lies (lower lo (old ++ params)) (upper up (old ++ params)) v)
    (walk_all new params outer) (map shown (walk_all body params (old ++ v ∷ []))) at.holds
    (within.alike params outer p o ∙ ap (λ (ys : List ℤ). map shown (walk_all body params ys)) at.values)

at_free : (m k : ℕ) (loops forms : List Affine) (lo up : Bounds) (f : Affine) (tests : List Test) (body new : Trees)
    → CanGoAt m k loops forms lo up f tests body → Inlines m k (loops ++ f ∷ []) body new
    → (program : Program) (params outer : List ℤ) → length params ≡ m → length outer ≡ k
    → (Within lo up (values_of loops (outer ++ params) ++ params) (value_of f (outer ++ params))
    → AreFree (Conflict program params) body params
    (values_of loops (outer ++ params) ++ value_of f (outer ++ params) ∷ []))
    → all_hold tests (outer ++ params) ≡ true → AreFree (Conflict program params) new params outer
at_free m k loops forms lo up f tests body new can within program params outer p o h holds =
    let point = outer ++ params in
    let at = at_value m k loops forms lo up f tests body can params outer p o in
    within.free program params outer p o
    (subst (λ (ys : List ℤ). AreFree (Conflict program params) body params ys) (sym at.values)
    (h (lies_within lo up (values_of loops point ++ params) (value_of f point) (sym at.holds ∙ holds))))

at_fits : (m k : ℕ) (loops forms : List Affine) (lo up : Bounds) (f : Affine) (tests : List Test) (body new : Trees)
    → CanGoAt m k loops forms lo up f tests body → Inlines m k (loops ++ f ∷ []) body new
    → (d : ℕ) (params outer : List ℤ) → length params ≡ m → length outer ≡ k → NestAllTo d body
    → AreNear d params outer
    → (Within lo up (values_of loops (outer ++ params) ++ params) (value_of f (outer ++ params))
    → StayWithin (2 ^ 40) body params (values_of loops (outer ++ params) ++ value_of f (outer ++ params) ∷ []))
    → all_hold tests (outer ++ params) ≡ true → FitsAll new params outer
at_fits m k loops forms lo up f tests body new can within d params outer p o nests near stay holds =
    let point = outer ++ params in
    let at = at_value m k loops forms lo up f tests body can params outer p o in
    within.fits d params outer p o nests near
    (subst (λ (ys : List ℤ). StayWithin (2 ^ 40) body params ys) (sym at.values)
    (stay (lies_within lo up (values_of loops point ++ params) (value_of f point) (sym at.holds ∙ holds))))

-- a body at a value that it always has
pub plain_at : (m k : ℕ) (loops forms : List Affine) (lo up : Bounds) (f : Affine) (body new : Trees)
    → CanGoAt m k loops forms lo up f [] body → Inlines m k (loops ++ f ∷ []) body new
    → InlinesAt m k loops lo up f body new
plain_at m k loops forms lo up f body new can within =
    record {
      alike = at_alike m k loops forms lo up f [] body new can within;
      free = λ program params outer p o h.
          at_free m k loops forms lo up f [] body new can within program params outer p o h refl;
      fits = λ d params outer p o nests near stay.
          at_fits m k loops forms lo up f [] body new can within d params outer p o nests near stay refl;
      serial = within.serial;
      flat = within.flat;
      statements = within.statements;
      over = within.over;
      small = within.small;
      nested = within.nested;
    }

-- and under a guard
pub guarded_at : (m k : ℕ) (loops forms : List Affine) (lo up : Bounds) (f : Affine) (test : Test)
    → (others : List Test) (body new : Trees) → CanGoAt m k loops forms lo up f (test ∷ others) body
    → Inlines m k (loops ++ f ∷ []) body new
    → InlinesAt m k loops lo up f body (more (guard (test ∷ others) new) none)
guarded_at m k loops forms lo up f test others body new can within =
    let here = test ∷ others in
    let are = can.between in
    let n = k + m in
    record {
      alike = λ params outer p o.
          ap (λ (vs : List Visit). map shown vs)
          (append-nil (if all_hold here (outer ++ params) then walk_all new params outer else []))
          ∙ at_alike m k loops forms lo up f here body new can within params outer p o;
      free = λ program params outer p o h.
          (at_free m k loops forms lo up f here body new can within program params outer p o h, tt);
      fits = λ d params outer p o nests near stay. (
        (
          tests_fit_near here (outer ++ params) (near_size d params outer near) are.small,
          at_fits m k loops forms lo up f here body new can within d params outer p o nests near stay,
        ),
        tt,
      );
      serial = λ h. (within.serial h, tt);
      flat = λ h. (
        (
          are.flat (sides_flat true f (parts (bounds_over true n forms lo))
              (side_tests false f (parts (bounds_over false n forms up)))
              (subst AreTests (append-nil (side_tests false f (parts (bounds_over false n forms up))))
              (sides_flat false f (parts (bounds_over false n forms up)) [] tt))),
          within.flat h,
        ),
        tt,
      );
      statements = λ program h. (within.statements program h, tt);
      over = ((are.over, within.over), tt);
      small = ((are.small, within.small), tt);
      nested = λ i j l h. (guard_nests j here new (within.nested i j l h), tt);
    }

-- what a serial loop shows
pub shown_loop : (ts : Trees) (params old : List ℤ) (first last : ℤ)
    → map shown (between (λ x. map (through false x) (walk_all ts params (old ++ x ∷ []))) first last ++ [])
    ≡ between (λ x. map shown (walk_all ts params (old ++ x ∷ []))) first last
shown_loop ts params old first last =
    let body : ℤ → List Visit = λ x. map (through false x) (walk_all ts params (old ++ x ∷ [])) in
    ap (λ (vs : List Visit). map shown vs) (append-nil (between body first last))
    ∙ (map_along shown body (most_turns (last -ℤ first)) first
    ∙ between_same (λ x. map shown (body x)) (λ x. map shown (walk_all ts params (old ++ x ∷ []))) first last
    (λ x a b. through_serial x (walk_all ts params (old ++ x ∷ []))))

once_nested : (lo up : Bounds) (body new : Trees) → ((n m : ℕ) → n ≤ m → NestAllTo n body → NestAllTo m new)
    → (n i : ℕ) → n ≤ i → NestAllTo n (more (loop false lo up body) none) → NestAllTo i new
once_nested lo up body new nested zero i l h = absurd h.0
once_nested lo up body new nested (suc n) i l h = nested n i (omega arith) h.0

once_fits : (m k : ℕ) (loops : List Affine) (lo up : Bounds) (f : Affine) (body new : Trees)
    → InlinesAt m k loops lo up f body new → (d : ℕ) (params outer : List ℤ) → length params ≡ m → length outer ≡ k
    → NestAllTo d (more (loop false lo up body) none) → AreNear d params outer
    → StayWithin (2 ^ 40) (more (loop false lo up body) none) params (values_of loops (outer ++ params))
    → FitsAll new params outer
once_fits m k loops lo up f body new at zero params outer p o nests near stay = absurd nests.0
once_fits m k loops lo up f body new at (suc d) params outer p o nests near stay =
    let few = near.few_loops in
    at.fits d params outer p o nests.0
    (record {
      few_parameters = near.few_parameters;
      few_loops = omega (arith, few);
      small_parameters = near.small_parameters;
      small_values = near.small_values;
    })
    (λ w. stay.0.2 (value_of f (outer ++ params)) w)

-- a loop that runs at most once gives way to its body at the form's value
pub once_loop : (m k : ℕ) (loops forms : List Affine) (lo up : Bounds) (f : Affine) (tests : List Test)
    → (body new : Trees) → IsPlace m k loops forms → AreBounds lo → AreBounds up
    → IsOnce (k + m) f (bounds_over true (k + m) forms lo) (bounds_over false (k + m) forms up) tests
    → InlinesAt m k loops lo up f body new → Inlines m k loops (more (loop false lo up body) none) new
once_loop m k loops forms lo up f tests body new place flat_low flat_high once at =
    let n = k + m in
    let low = bounds_over true n forms lo in
    let high = bounds_over false n forms up in
    record {
      alike = λ params outer p o.
          let point = outer ++ params in
          let old = values_of loops point in
          let first = lower lo (old ++ params) in
          let last = upper up (old ++ params) in
          let range = at_loop m k loops forms lo up params outer place p o in
          let are = is_between f low high point once.low once.high (bounds_flat true n forms lo flat_low)
          (bounds_flat false n forms up flat_high) in
          let above = are.above in
          let below = are.below in
          let a = range.first in
          let b = range.last in
          at.alike params outer p o
          ∙ (masked_once (λ x. map shown (walk_all body params (old ++ x ∷ []))) first last (value_of f point)
          (omega (arith, ints, a, above)) (omega (arith, ints, b, below))
          ∙ sym (shown_loop body params old first last));
      free = λ program params outer p o h.
          at.free program params outer p o (λ w. h.0.1 (value_of f (outer ++ params)) w);
      fits = once_fits m k loops lo up f body new at;
      serial = λ h. at.serial h.0.1;
      flat = λ h. at.flat h.0.2;
      statements = λ program h. at.statements program h.0;
      over = at.over;
      small = at.small;
      nested = once_nested lo up body new at.nested;
    }

-- tests over the new loops hold where the old ones do
tests_agree : (m k : ℕ) (loops forms : List Affine) (tests new : List Test) → IsPlace m k loops forms
    → AreTestsFor (k + m) forms tests new → (params outer : List ℤ) → length params ≡ m → length outer ≡ k
    → all_hold new (outer ++ params) ≡ all_hold tests (values_of loops (outer ++ params) ++ params)
tests_agree m k loops forms tests new place are params outer p o =
    let point = outer ++ params in
    are.same point
    ∙ all_hold_over (k + m) forms point (values_of loops point ++ params)
    (place_values m k loops forms params outer place p o) tests

-- a guard that stays
pub kept_guard : (m k : ℕ) (loops forms : List Affine) (tests : List Test) (test : Test) (others : List Test)
    → (body new : Trees) → IsPlace m k loops forms → AreTestsFor (k + m) forms tests (test ∷ others)
    → Inlines m k loops body new
    → Inlines m k loops (more (guard tests body) none) (more (guard (test ∷ others) new) none)
kept_guard m k loops forms tests test others body new place are within =
    let here = test ∷ others in
    let agree = tests_agree m k loops forms tests here place are in
    record {
      alike = λ params outer p o.
          let point = outer ++ params in
          let old = values_of loops point in
          let ws = if all_hold here point then walk_all new params outer else [] in
          let vs = if all_hold tests (old ++ params) then walk_all body params old else [] in
          alone ws vs
          (choice_alike (all_hold here point) (all_hold tests (old ++ params)) (walk_all new params outer)
          (walk_all body params old) (agree params outer p o) (within.alike params outer p o));
      free = λ program params outer p o h. (
        (λ holds. within.free program params outer p o (h.0 (sym (agree params outer p o) ∙ holds))),
        tt,
      );
      fits = λ d params outer p o nests near stay. (
        (
          tests_fit_near here (outer ++ params) (near_size d params outer near) are.small,
          (λ holds.
              within.fits d params outer p o (nests_guard d tests body nests.0) near
              (stay.0 (sym (agree params outer p o) ∙ holds))),
        ),
        tt,
      );
      serial = λ h. (within.serial h.0, tt);
      flat = λ h.
          let g = guard_tests tests body h.0 in
          ((are.flat (tests_flat (k + m) forms tests g.0), within.flat g.1), tt);
      statements = λ program h. (within.statements program h.0, tt);
      over = ((are.over, within.over), tt);
      small = ((are.small, within.small), tt);
      nested = λ n i l h. (guard_nests i here new (within.nested n i l (nests_guard n tests body h.0)), tt);
    }

-- a guard whose tests always hold gives way to its body
pub gone_guard : (m k : ℕ) (loops forms : List Affine) (tests : List Test) (body new : Trees)
    → IsPlace m k loops forms → AreTestsFor (k + m) forms tests [] → Inlines m k loops body new
    → Inlines m k loops (more (guard tests body) none) new
gone_guard m k loops forms tests body new place are within =
    let agree = tests_agree m k loops forms tests [] place are in
    record {
      alike = λ params outer p o.
          let old = values_of loops (outer ++ params) in
          within.alike params outer p o
          ∙ sym (ap (λ (vs : List Visit). map shown vs)
          (append-nil (if all_hold tests (old ++ params) then walk_all body params old else []))
          ∙ ap (λ (b : Bool). map shown (if b then walk_all body params old else [])) (sym (agree params outer p o)));
      free = λ program params outer p o h. within.free program params outer p o (h.0 (sym (agree params outer p o)));
      fits = λ d params outer p o nests near stay.
          within.fits d params outer p o (nests_guard d tests body nests.0) near
          (stay.0 (sym (agree params outer p o)));
      serial = λ h. within.serial h.0;
      flat = λ h. within.flat (guard_tests tests body h.0).1;
      statements = λ program h. within.statements program h.0;
      over = within.over;
      small = within.small;
      nested = λ n i l h. within.nested n i l (nests_guard n tests body h.0);
    }

-- an instance
pub leaf_stays : (m k : ℕ) (loops forms : List Affine) (number : ℕ) (turns : List Affine) → IsPlace m k loops forms
    → All (IsUpTo (2 ^ 45)) (map (λ f. composed f forms (k + m)) turns)
    → Inlines m k loops (more (instance number turns) none)
    (more (instance number (map (λ f. composed f forms (k + m)) turns)) none)
leaf_stays m k loops forms number turns place small =
    let n = k + m in
    let new = map (λ f. composed f forms n) turns in
    record {
      alike = λ params outer p o.
          let point = outer ++ params in
          ap (λ (ts : List ℤ). record { values = []; parallel = []; number = number; turns = ts } ∷ [])
          (values_over n forms point (values_of loops point ++ params)
          (place_values m k loops forms params outer place p o) turns);
      free = λ program params outer p o h. (tt, tt);
      fits = λ d params outer p o nests near stay.
          (forms_fit_near new (outer ++ params) (near_size d params outer near) small, tt);
      serial = λ h. (tt, tt);
      flat = λ h. (tt, tt);
      statements = λ program h. (
        record {
          statement = h.0.statement;
          stands = h.0.stands;
          turned = length-map turns (λ f. composed f forms n) ∙ h.0.turned;
        },
        tt,
      );
      over = (forms_sized n forms (place_sized m k loops forms place) turns, tt);
      small = (small, tt);
      nested = λ i j l h. (instance_nests j number new, tt);
    }

range_small : (params : List ℤ) → AreInRange params → AreAtMost (2 ^ 16) params
range_small [] h = tt
range_small (x ∷ params) h =
    (parameter_size x (All-head IsInRange x params h), range_small params (All-tail IsInRange x params h))

-- within no loop
pub inlined_whole : (m d : ℕ) (old new : Trees) → m ≤ 2 ^ 32 → d ≤ 2 ^ 32 → NestAllTo d old → Inlines m 0 [] old new
    → IsInlined m old new
inlined_whole m d old new few deep nests within =
    let e : 0 + m ≡ m = omega arith in
    record {
      alike = λ params p. within.alike params [] p refl;
      free = λ program params p h. within.free program params [] p refl h;
      fits = λ params p range stay.
          within.fits d params [] p refl nests
          (record {
            few_parameters = omega arith;
            few_loops = omega arith;
            small_parameters = range_small params range;
            small_values = tt;
          })
          stay;
      serial = within.serial;
      flat = within.flat;
      statements = within.statements;
      over = subst (λ i. TreesAreOver i new) e within.over;
      small = within.small;
      nested = λ n h. within.nested n n (omega arith) h;
    }
