-- Runs of a tree: they visit what its walk visits, and stand in every order in which the walk stands, if iterations of
-- its parallel loops do not mind it (`sorted_all`).
use Rattle.scop_syntax.proofs.Common.{◌≡◌, Bool, true, false, ℤ, List, [], ◌∷◌, ◌++◌, map, subst, sym, refl, arith, ◌↔◌}
use Rattle.scop_syntax.proofs.Common.{◌-ℤ◌, if◌then◌else◌, ints, In, Sorted, Instance, most_turns, in_map, in_map_from}
use Rattle.scop_syntax.proofs.Common.{sorted_append, sorted_map}
use Rattle.scop_syntax.proofs.SortedLists.{sorted_front, sorted_back, sorted_across, sorted_unmapped}
use Rattle.loop_tree.specs.Plans.{IsFree, AreFree}
use Rattle.loop_tree.specs.Runs.{MayRun, MayRunAll}
use Rattle.loop_tree.specs.Tree.{Tree, loop, guard, instance, Trees, none, more}
use Rattle.loop_tree.specs.Walk.{Visit, lower, upper, all_hold, given, through, walk, walk_all}
use Rattle.loop_tree.proofs.Lists.{turns_reach}
use Rattle.planned_trees.proofs.Shuffles.{along_members, along_runs, along_sorted, run_members}

-- where a guard holds or not, a run is one of its body or empty
abbrev GuardRuns : Bool → (List Visit → Type 0) → List Visit → Type 0
GuardRuns on Run zs = (on ≡ true → Run zs) × (on ≡ false → zs ≡ [])

guard_members : (on : Bool) (Run : List Visit → Type 0) (body zs : List Visit) → GuardRuns on Run zs
    → (Run zs → (v : Visit) → In v zs ↔ In v body) → (v : Visit) → In v zs ↔ In v (if on then body else [])
guard_members true Run body zs h same v = same (h.0 refl) v
guard_members false Run body zs h same v = (λ i. subst (In v) (h.1 refl) i, λ i. absurd i)

guard_sorted : (R : Visit → Visit → Type 0) (on : Bool) (Run : List Visit → Type 0) (body zs : List Visit)
    → GuardRuns on Run zs → (on ≡ true → Run zs → Sorted R body → Sorted R zs) → Sorted R (if on then body else [])
    → Sorted R zs
guard_sorted R true Run body zs h each s = each refl (h.0 refl) s
guard_sorted R false Run body zs h each s = subst (Sorted R) (sym (h.1 refl)) tt

guard_runs : (on : Bool) (Run : List Visit → Type 0) (body : List Visit) → Run body
    → GuardRuns on Run (if on then body else [])
guard_runs true Run body r = (λ on. r, λ off. absurd cc)
guard_runs false Run body r = (λ on. absurd cc, λ off. refl)

-- visits of a body as visits of the loop
through_members : (flag : Bool) (x : ℤ) (ys us xs : List Visit) → xs ≡ map (through flag x) ys
    → ((v : Visit) → In v ys ↔ In v us) → (v : Visit) → In v xs ↔ In v (map (through flag x) us)
through_members flag x ys us xs e same v = (
  λ i. let m = in_map_from (through flag x) v ys (subst (In v) e i) in
      subst (λ w. In w (map (through flag x) us)) (sym m.2) (in_map (through flag x) m.0 us ((same m.0).0 m.1)),
  λ i. let m = in_map_from (through flag x) v us i in
      subst (In v) (sym e)
      (subst (λ w. In w (map (through flag x) ys)) (sym m.2) (in_map (through flag x) m.0 ys ((same m.0).1 m.1))),
)

mutual
  members : (t : Tree) (params outer : List ℤ) (zs : List Visit) → MayRun t params outer zs → (v : Visit)
      → In v zs ↔ In v (walk t params outer)
  members (loop flag lo up body) params outer zs h v =
      let first = lower lo (outer ++ params) in
      let last = upper up (outer ++ params) in
      along_members flag
      (λ x xs. (ys : List Visit) × MayRunAll body params (outer ++ x ∷ []) ys × (xs ≡ map (through flag x) ys))
      (λ x. map (through flag x) (walk_all body params (outer ++ x ∷ [])))
      (λ x xs r. through_members flag x r.0 (walk_all body params (outer ++ x ∷ [])) xs r.2
      (members_all body params (outer ++ x ∷ []) r.0 r.1)) (most_turns (last -ℤ first)) first zs h v
  members (guard tests body) params outer zs h v =
      guard_members (all_hold tests (outer ++ params)) (MayRunAll body params outer) (walk_all body params outer) zs h
      (members_all body params outer zs) v
  members (instance n forms) params outer zs h v = (λ i. subst (In v) h i, λ i. subst (In v) (sym h) i)

  -- a run visits what the walk visits
  pub members_all : (ts : Trees) (params outer : List ℤ) (zs : List Visit) → MayRunAll ts params outer zs → (v : Visit)
      → In v zs ↔ In v (walk_all ts params outer)
  members_all none params outer zs h v = (λ i. subst (In v) h i, λ i. absurd i)
  members_all (more t ts) params outer zs (xs, ys, a, b, e) v =
      run_members v xs ys (walk t params outer) (walk_all ts params outer) zs e (members t params outer xs a v)
      (members_all ts params outer ys b v)

-- instances that do not conflict may be turned round
abbrev Turns : (Instance → Instance → Type 0) → (Instance → Instance → Type 0) → Type 0
Turns C R = (x y : Instance) → R x y → (C x y → ⊥) → R y x

mutual
  sorted : (C R : Instance → Instance → Type 0) → Turns C R → (t : Tree) (params outer : List ℤ) (zs : List Visit)
      → IsFree C t params outer → MayRun t params outer zs
      → Sorted (λ (v w : Visit). R (given v) (given w)) (walk t params outer)
      → Sorted (λ (v w : Visit). R (given v) (given w)) zs
  sorted C R turned (loop flag lo up body) params outer zs free h s =
      let On : Visit → Visit → Type 0 = λ v w. R (given v) (given w) in
      let first = lower lo (outer ++ params) in
      let last = upper up (outer ++ params) in
      let Body : ℤ → List Visit = λ x. walk_all body params (outer ++ x ∷ []) in
      along_sorted On flag
      (λ x xs. (ys : List Visit) × MayRunAll body params (outer ++ x ∷ []) ys × (xs ≡ map (through flag x) ys))
      (λ x. map (through flag x) (Body x))
      (λ x xs r. through_members flag x r.0 (Body x) xs r.2 (members_all body params (outer ++ x ∷ []) r.0 r.1))
      (most_turns (last -ℤ first)) first
      (λ x xs a b r ordered. subst (Sorted On) (sym r.2) (sorted_map On On (through flag x) r.0 (λ v w o. o)
      (sorted_all C R turned body params (outer ++ x ∷ []) r.0
      (free.1 x (a, turns_reach (last -ℤ first) x first last refl a b)) r.1
      (sorted_unmapped On (through flag x) (Body x) ordered))))
      (λ on x y a less b v w i j ordered.
      let m = in_map_from (through flag x) v (Body x) i in
      let n = in_map_from (through flag y) w (Body y) j in
      let ix = turns_reach (last -ℤ first) x first last refl a (omega (arith, ints)) in
      let iy = turns_reach (last -ℤ first) y first last refl (omega (arith, ints)) b in
      turned (given v) (given w) ordered
      (λ c. free.0 on x y (a, ix) (omega (arith, ints), iy) less m.0 n.0 m.1 n.1
      (subst (λ u. C (given u) (given (through flag y n.0))) m.2 (subst (λ u. C (given v) (given u)) n.2 c)))) zs h s
  sorted C R turned (guard tests body) params outer zs free h s =
      guard_sorted (λ (v w : Visit). R (given v) (given w)) (all_hold tests (outer ++ params))
      (MayRunAll body params outer) (walk_all body params outer) zs h
      (λ on r ordered. sorted_all C R turned body params outer zs (free on) r ordered) s
  sorted C R turned (instance n forms) params outer zs free h s =
      subst (Sorted (λ (v w : Visit). R (given v) (given w))) (sym h) s

  -- a run is sorted as the walk is
  pub sorted_all : (C R : Instance → Instance → Type 0) → Turns C R → (ts : Trees) (params outer : List ℤ)
      (zs : List Visit) → AreFree C ts params outer → MayRunAll ts params outer zs
      → Sorted (λ (v w : Visit). R (given v) (given w)) (walk_all ts params outer)
      → Sorted (λ (v w : Visit). R (given v) (given w)) zs
  sorted_all C R turned none params outer zs free h s = subst (Sorted (λ (v w : Visit). R (given v) (given w))) (sym h) s
  sorted_all C R turned (more t ts) params outer zs free (xs, ys, a, b, e) s =
      let On : Visit → Visit → Type 0 = λ v w. R (given v) (given w) in
      let us = walk t params outer in
      let ws = walk_all ts params outer in
      subst (Sorted On) (sym e)
      (sorted_append On xs ys (sorted C R turned t params outer xs free.0 a (sorted_front On us ws s))
      (sorted_all C R turned ts params outer ys free.1 b (sorted_back On us ws s))
      (λ v w i j. sorted_across On us ws s v w ((members t params outer xs a v).0 i)
      ((members_all ts params outer ys b w).0 j)))

mutual
  runs : (t : Tree) (params outer : List ℤ) → MayRun t params outer (walk t params outer)
  runs (loop flag lo up body) params outer =
      let first = lower lo (outer ++ params) in
      let last = upper up (outer ++ params) in
      along_runs flag
      (λ x xs. (ys : List Visit) × MayRunAll body params (outer ++ x ∷ []) ys × (xs ≡ map (through flag x) ys))
      (λ x. map (through flag x) (walk_all body params (outer ++ x ∷ [])))
      (λ x. (walk_all body params (outer ++ x ∷ []), runs_all body params (outer ++ x ∷ []), refl))
      (most_turns (last -ℤ first)) first
  runs (guard tests body) params outer =
      guard_runs (all_hold tests (outer ++ params)) (MayRunAll body params outer) (walk_all body params outer)
      (runs_all body params outer)
  runs (instance n forms) params outer = refl

  -- the walk is a run
  pub runs_all : (ts : Trees) (params outer : List ℤ) → MayRunAll ts params outer (walk_all ts params outer)
  runs_all none params outer = refl
  runs_all (more t ts) params outer =
      (walk t params outer, walk_all ts params outer, runs t params outer, runs_all ts params outer, refl)
