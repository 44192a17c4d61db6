-- Runs of a plan's trees end with the arrays of the source's own execution: their instances are an order of the walk
-- that keeps conflicts.
use Rattle.scop_syntax.proofs.Common.{◌≡◌, ℕ, ℤ, List, [], ◌∷◌, map, Some, inl, inr, ap, ap₂, subst, sym, ◌∙◌, refl}
use Rattle.scop_syntax.proofs.Common.{arith, ◌≢◌, ◌↔◌, slice_get, LexLess-irrefl, PlacesConflict, In, Sorted, Program}
use Rattle.scop_syntax.proofs.Common.{Instance, instance, Visit, walk_of, in_from_place, in_map, in_map_from, place_of}
use Rattle.scop_syntax.proofs.Common.{sorted_map, sorted_places, AreDistinct, StandOnce, walked_distinct}
use Rattle.scop_syntax.specs.ConflictOrders.{IsOrderOf, KeepsConflicts}
use Rattle.scop_syntax.proofs.SortedLists.{distinct_places, sorted_by_places, sorted_stands, sorted_unmapped}
use Rattle.scop_syntax.proofs.SortedLists.{sorted_weaker}
use Rattle.scop_syntax.proofs.Precedence.{one_stands_before}
use Rattle.loop_tree.specs.Plans.{AreInOrder, CarryOut, Conflict, Precedes, walked}
use Rattle.loop_tree.specs.Runs.{MayRunAll}
use Rattle.loop_tree.specs.Tiling.{Tiling, kept, tiled, order_of}
use Rattle.loop_tree.specs.Tree.{Trees}
use Rattle.loop_tree.specs.Walk.{Visit as Visited, given, walk_all, visits}
use Rattle.loop_tree.proofs.Visits.{listed_same}
use Rattle.planned_trees.specs.Executions.{AreVisitsOf}
use Rattle.planned_trees.specs.Trees.{AreEven}
use Rattle.planned_trees.proofs.Orders.{conflicts_in_order}
use Rattle.planned_trees.proofs.TreeRuns.{members_all, sorted_all}

-- x comes behind y in the walk and conflicts with it
abbrev IsLate : Program → List ℤ → Instance → Instance → Type 0
IsLate program params x y =
    (i : ℕ) × (j : ℕ) × (c : PlacesConflict (walk_of program params) i j) × (instance c.earlier ≡ y)
    × (instance c.later ≡ x)

-- x may stand before y: they are not the same, and x is not late
abbrev MayPrecede : Program → List ℤ → Instance → Instance → Type 0
MayPrecede program params x y = (x ≢ y) × (IsLate program params x y → ⊥)

-- two that do not conflict may be turned round
may_turn : (program : Program) (params : List ℤ) (x y : Instance) → MayPrecede program params x y
    → (Conflict program params x y → ⊥) → MayPrecede program params y x
may_turn program params x y may apart = (
  λ e. may.0 (sym e),
  λ late. apart (record { earlier = late.0; later = late.1; places = late.2; are = inl (late.3, late.4) }),
)

-- visits of the walk with one instance are one
one_visit : (program : Program) (params : List ℤ) → StandOnce program params → (v w : Visit)
    → In v (walk_of program params) → In w (walk_of program params) → instance v ≡ instance w → v ≡ w
one_visit program params once v w i j e =
    let xs = walk_of program params in
    let a = place_of xs v i in
    let b = place_of xs w j in
    one a.0 b.0
    (once a.0 b.0 v w a.1 b.1 (ap (λ (x : Instance). x.number) e) (ap (λ (x : Instance). x.turns) e)) a.1 b.1
  where
    one : (a b : ℕ) → a ≡ b → slice_get (walk_of program params) a ≡ Some v
        → slice_get (walk_of program params) b ≡ Some w → v ≡ w
    one a b e g h = cc

-- instances in a plan's order are distinct, and those of the walk
listed_distinct : (program : Program) (params : List ℤ) (plan : Tiling) (xs : List Instance)
    → StandOnce program params → AreInOrder program params plan xs → AreDistinct xs
listed_distinct program params kept xs once same =
    subst (λ (ys : List Instance). AreDistinct ys) (sym same) (walked_distinct program params once)
listed_distinct program params (tiled size statements) xs once (sorted, all) =
    sorted_weaker (Precedes size statements) (λ (x y : Instance). x ≢ y) xs
    (λ x y less e. LexLess-irrefl (order_of size statements y)
    (subst (λ z. Precedes size statements z y) e less)) sorted

-- of the trees' own visits none stands where it may not
visits_may : (program : Program) (params : List ℤ) (plan : Tiling) (ts : Trees) → StandOnce program params
    → AreEven program plan → CarryOut program params [] plan ts
    → Sorted (MayPrecede program params) (visits ts params)
visits_may program params plan ts once even carry =
    let xs = visits ts params in
    let distinct = listed_distinct program params plan xs once carry.exact in
    sorted_by_places (MayPrecede program params) xs (λ a b x y less at_x at_y. (
      sorted_places (λ (u w : Instance). u ≢ w) xs distinct a b x y at_x at_y less,
      λ late.
          let s = conflicts_in_order program params [] plan ts even carry late.0 late.1 late.2 refl in
          let first = distinct_places xs distinct s.0 b y (s.3 ∙ ap Some late.3) at_y in
          let second = distinct_places xs distinct s.1 a x (s.4 ∙ ap Some late.4) at_x in
          let before = s.2 in
          absurd (omega arith),
    ))

-- nor what a run of them visits
run_may : (program : Program) (params : List ℤ) (plan : Tiling) (ts : Trees) (xs : List Visited)
    → StandOnce program params → AreEven program plan → CarryOut program params [] plan ts → MayRunAll ts params [] xs
    → Sorted (λ (v w : Visited). MayPrecede program params (given v) (given w)) xs
run_may program params plan ts xs once even carry run =
    sorted_all (Conflict program params) (MayPrecede program params) (may_turn program params) ts params [] xs
    (carry.free refl) run
    (sorted_unmapped (MayPrecede program params) given (walk_all ts params [])
    (visits_may program params plan ts once even carry))

-- the instances of a run are those of the walk
run_same : (program : Program) (params : List ℤ) (plan : Tiling) (ts : Trees) (xs : List Visited)
    → CarryOut program params [] plan ts → MayRunAll ts params [] xs → (x : Instance)
    → In x (map given xs) ↔ In x (walked program params)
run_same program params plan ts xs carry run x =
    let ws = walk_all ts params [] in
    let same = listed_same program params plan (visits ts params) carry.exact in (
      λ i. let m = in_map_from given x xs i in
          (same x).0 (subst (λ y. In y (map given ws)) (sym m.2)
          (in_map given m.0 ws ((members_all ts params [] xs run m.0).0 m.1))),
      λ i. let m = in_map_from given x ws ((same x).1 i) in
          subst (λ y. In y (map given xs)) (sym m.2)
          (in_map given m.0 xs ((members_all ts params [] xs run m.0).1 m.1)),
    )

-- so each walked instance is visited once
pub run_visits_once : (program : Program) (params : List ℤ) (plan : Tiling) (ts : Trees) (xs : List Visited)
    → StandOnce program params → AreEven program plan → CarryOut program params [] plan ts → MayRunAll ts params [] xs
    → IsOrderOf (map given xs) (walked program params)
run_visits_once program params plan ts xs once even carry run =
    record {
      once = sorted_map (λ (v w : Visited). MayPrecede program params (given v) (given w))
          (λ (x y : Instance). x ≢ y) given xs (λ v w m. m.0) (run_may program params plan ts xs once even carry run);
      same = run_same program params plan ts xs carry run;
    }

-- visits of the walk for a run's instances stand as they do
run_visits_may : (program : Program) (params : List ℤ) (plan : Tiling) (ts : Trees) (xs : List Visited)
    (us : List Visit) → StandOnce program params → AreEven program plan → CarryOut program params [] plan ts
    → MayRunAll ts params [] xs → AreVisitsOf program params (map given xs) us
    → Sorted (λ (v w : Visit). MayPrecede program params (instance v) (instance w)) us
run_visits_may program params plan ts xs us once even carry run are =
    let May = MayPrecede program params in
    sorted_unmapped May instance us
    (subst (Sorted May) (sym are.instances)
    (sorted_map (λ (v w : Visited). May (given v) (given w)) May given xs (λ v w m. m)
    (run_may program params plan ts xs once even carry run)))

-- visits of the walk for instances of it
pub visits_for : (vs : List Visit) (xs : List Instance) → ((x : Instance) → In x xs → In x (map instance vs))
    → (us : List Visit) × (map instance us ≡ xs) × ((v : Visit) → In v us → In v vs)
visits_for vs [] among = ([], refl, λ v i. absurd i)
visits_for vs (x ∷ xs) among =
    let m = in_map_from instance x vs (among x (inl refl)) in
    let r = visits_for vs xs (λ y i. among y (inr i)) in (
      m.0 ∷ r.0,
      ap₂ (λ (y : Instance) (ys : List Instance). y ∷ ys) (sym m.2) r.1,
      λ v i. elim i [
        | inl e ↦ subst (λ u. In u vs) (sym e) m.1
        | inr j ↦ r.2 v j
      ],
    )

pub run_has_visits : (program : Program) (params : List ℤ) (plan : Tiling) (ts : Trees) (xs : List Visited)
    → CarryOut program params [] plan ts → MayRunAll ts params [] xs
    → (us : List Visit) × AreVisitsOf program params (map given xs) us
run_has_visits program params plan ts xs carry run =
    let r = visits_for (walk_of program params) (map given xs)
    (λ x i. (run_same program params plan ts xs carry run x).0 i) in
    (r.0, record { instances = r.1; walked = r.2 })

-- the visits of a run are those of the walk, each once
pub run_is_order : (program : Program) (params : List ℤ) (plan : Tiling) (ts : Trees) (xs : List Visited)
    (us : List Visit) → StandOnce program params → AreEven program plan → CarryOut program params [] plan ts
    → MayRunAll ts params [] xs → AreVisitsOf program params (map given xs) us
    → IsOrderOf us (walk_of program params)
run_is_order program params plan ts xs us once even carry run are =
    let may = run_visits_may program params plan ts xs us once even carry run are in
    record {
      once = sorted_weaker (λ (v w : Visit). MayPrecede program params (instance v) (instance w))
          (λ (v w : Visit). v ≢ w) us (λ v w m e. m.0 (ap instance e)) may;
      same = λ v. (
        λ i. are.walked v i,
        λ i.
            let there = (run_same program params plan ts xs carry run (instance v)).1
            (in_map instance v (walk_of program params) i) in
            let m = in_map_from instance (instance v) us
            (subst (In (instance v)) (sym are.instances) there) in
            subst (λ w. In w us) (sym (one_visit program params once v m.0 i (are.walked m.0 m.1) m.2)) m.1,
      );
    }

-- and in the order of all that conflict
pub run_keeps : (program : Program) (params : List ℤ) (plan : Tiling) (ts : Trees) (xs : List Visited)
    (us : List Visit) → StandOnce program params → AreEven program plan → CarryOut program params [] plan ts
    → MayRunAll ts params [] xs → AreVisitsOf program params (map given xs) us
    → KeepsConflicts (walk_of program params) us
run_keeps program params plan ts xs us once even carry run are i j c =
    let v = c.earlier in
    let w = c.later in
    let order = run_is_order program params plan ts xs us once even carry run are in
    let May : Visit → Visit → Type 0 = λ x y. MayPrecede program params (instance x) (instance y) in
    elim (one_stands_before us v w ((order.same v).1 (in_from_place (walk_of program params) i v c.is_earlier))
    ((order.same w).1 (in_from_place (walk_of program params) j w c.is_later)) (λ e.
    let same = once i j v w c.is_earlier c.is_later (ap (λ (u : Visit). u.number) e) (ap (λ (u : Visit). u.turns) e) in
    let less = c.order in absurd (omega arith))) [
      | inl h ↦ h
      | inr h ↦
          let may = run_visits_may program params plan ts xs us once even carry run are in
          absurd ((sorted_stands May us w v may h).1 (i, j, c, refl, refl))
    ]
