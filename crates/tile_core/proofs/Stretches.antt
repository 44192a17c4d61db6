-- Instances that a worker has ahead, and the place behind those that it passes by.
use Rattle.scop_syntax.proofs.Common.{◌≡◌, ◌∙◌, ◌+◌, ◌-◌, ◌≤◌, ◌<◌, ℕ, zero, suc, ℤ, List, [], ◌++◌, Some, ap, ap₂, sym}
use Rattle.scop_syntax.proofs.Common.{refl, arith, drop, inl, inr, take, ◌⊎◌, slice_get, drop-drop, drop_at, sums}
use Rattle.scop_syntax.proofs.Common.{instance_of, Instance, in_from_place}
use Rattle.scop_syntax.specs.declared.instance.Instance.{Instance as CodeInstance}
use Rattle.loop_tree.specs.Braids.{left_of_braid}
use Rattle.loop_tree.specs.Spot.{rest_of}
use Rattle.loop_tree.specs.SpotView.{marks_in}
use Rattle.loop_tree.specs.Stretches.{following, left_of}
use Rattle.loop_tree.specs.View.{trees_in}
use Rattle.loop_tree.specs.declared.spot.Spot.{Spot}
use Rattle.loop_tree.specs.declared.stretch.Stretch.{Stretch}
use Rattle.loop_tree.proofs.Visits.{listed_same}
use Rattle.tile_list.proofs.Stretches.{length-left}
use Rattle.tile_core.specs.Plans.{IsPlan, deal_of, places_in, program_in, scan_in, walk_shape}
use Rattle.tile_core.specs.Ranks.{rank_in}
use Rattle.tile_list.specs.Stretches.{turns_on}
use Rattle.tile_core.specs.Stretches.{CanPass, IsAhead, IsAlong, IsPart, moved}
use Rattle.tile_core.specs.Workers.{IsNext}
use Rattle.tile_core.specs.declared.plan.Plan.{Plan}
use Rattle.tile_core.specs.declared.worker.Stage.{Stage}
use Rattle.tile_core.specs.declared.worker.Stage.TheVariants.{Working}
use Rattle.tile_core.proofs.Workers.{at_stage, head_is}

-- a step more, in front or behind
pub step_first : (turns steps : List ℤ) (j : ℕ) → turns_on (sums turns steps) steps j ≡ turns_on turns steps (suc j)
step_first turns steps zero = refl
step_first turns steps (suc j) = ap (λ (ts : List ℤ). sums ts steps) (step_first turns steps j)

-- a list that goes on by what follows an instance has the instance so many steps on
following_at : (xs : List Instance) (m n : ℕ) (turns steps : List ℤ) (k : ℕ) (rest : List Instance) (j : ℕ)
    → drop m xs ≡ following n turns steps k ++ rest → j < k
    → slice_get xs (m + j) ≡ Some (record { number = n; turns = turns_on turns steps (suc j) })
following_at xs m n turns steps zero rest j e l = absurd (omega (arith, l))
following_at xs m n turns steps (suc k) rest zero e l =
    let h = head_is xs m (record { number = n; turns = sums turns steps })
    (following n (sums turns steps) steps k ++ rest) e in
    ap (slice_get xs) (let q : m + 0 ≡ m = omega arith in q) ∙ h.0
following_at xs m n turns steps (suc k) rest (suc j) e l =
    let h = head_is xs m (record { number = n; turns = sums turns steps })
    (following n (sums turns steps) steps k ++ rest) e in
    ap (slice_get xs) (let q : m + suc j ≡ suc m + j = omega arith in q)
    ∙ (following_at xs (suc m) n (sums turns steps) steps k rest j h.1 (omega (arith, l))
    ∙ ap (λ (ts : List ℤ). Some (record { number = n; turns = sums ts steps })) (step_first turns steps j))

-- what a worker has ahead stands in the scan from its place on
ahead_at : (plan : Plan) (r : ℕ) (i : CodeInstance) (spot : Spot) (count j : ℕ) → IsNext plan r (Some i) spot
    → (1 < count → IsAlong spot.stretch i count) → j < count
    → Some (moved (instance_of i) (take i.loops spot.stretch.steps) j) ≡ slice_get (scan_in plan) (r + j)
ahead_at plan r i spot count zero n along l =
    n.instance ∙ ap (slice_get (scan_in plan)) (let q : r ≡ r + 0 = omega arith in q)
ahead_at plan r i spot count (suc j) n along l =
    let s = spot.stretch in
    let a = along (omega (arith, l)) in
    let within = a.within in
    let rest = left_of_braid spot.braid ++ rest_of (trees_in plan.tree.now) (marks_in spot) plan.params.now [] in
    let at = following_at (scan_in plan) (suc r) s.before.statement (instance_of s.before).turns
    (take s.before.loops s.steps) s.left rest j (sym n.behind) (omega (arith, l, within)) in
    ap₂ (λ (x : Instance) (k : ℕ). Some (moved x (take k s.steps) (suc j))) a.front a.loops
    ∙ (sym at ∙ ap (slice_get (scan_in plan)) (let q : suc r + j ≡ r + suc j = omega arith in q))

-- what may be passed by, told of the tile of a worker at work
can_pass : (plan : Plan) (stage : Stage) (t k : ℕ) (stretch : Stretch) (count : ℕ) → stage ≡ Working t k
    → k < (walk_shape plan).size t → IsPart ((walk_shape plan).size t - k) stretch.left count
    → CanPass plan stage stretch count
can_pass plan stage t k stretch count works left part u m =
    at_stage (λ v n. (n < (walk_shape plan).size v) × IsPart ((walk_shape plan).size v - n) stretch.left count) stage t k u m
    works (left, part)

-- so they are those of the tile, in turn
pub ahead_is : (plan : Plan) (stage : Stage) (t k : ℕ) (i : CodeInstance) (spot : Spot) (count : ℕ) → IsPlan plan
    → stage ≡ Working t k → k < (walk_shape plan).size t → IsNext plan ((deal_of plan).start t + k) (Some i) spot
    → 1 ≤ count
    → IsPart ((walk_shape plan).size t - k) spot.stretch.left count
    → (1 < count → IsAlong spot.stretch i count) → IsAhead plan stage (Some i) spot.stretch count
ahead_is plan stage t k i spot count is works left n some part along =
    let xs = scan_in plan in
    let start = (deal_of plan).start t in
    let tiling = is.tiling in
    let x : ℕ → Instance = λ j. moved (instance_of i) (take i.loops spot.stretch.steps) j in
    let at : (j : ℕ) → j < count → Some (x j) ≡ slice_get xs ((start + k) + j) =
    λ j l. ahead_at plan (start + k) i spot count j n along l in record {
      tile = t;
      done = k;
      works = works;
      instance = i;
      first = refl;
      some = some;
      walked = λ j l. (listed_same (program_in plan) plan.params.now tiling xs is.order (x j)).0
          (in_from_place xs ((start + k) + j) (x j) (sym (at j l)));
      place = λ j l. ap (rank_in (places_in plan))
          (at j l ∙ ap (slice_get xs) (let q : (start + k) + j ≡ start + (k + j) = omega arith in q));
      passes = can_pass plan stage t k spot.stretch count works left part;
    }

-- a worker in whose tile more is left behind those that it passes by passes one by, or the next and the stretch's
pub passes_stretch : (k count left size : ℕ) → IsPart (size - k) left count → k + count < size
    → (count ≡ 1) ⊎ (count ≡ suc left)
passes_stretch k count left size part more =
    elim part.way [
      | inl e ↦ inl e
      | inr other ↦ elim other [
        | inl e ↦ inr e
        | inr e ↦ absurd (omega (arith, e, more))
      ]
    ]

-- what is to come behind a stretch of which nothing is left
pub behind_left : (s : Stretch) (rest : List Instance) (count : ℕ) → count ≡ suc s.left
    → rest ≡ drop (count - 1) (left_of s ++ rest)
behind_left s rest count e =
    let many = length-left s in
    sym (drop_at (left_of s) rest (count - 1) (omega (arith, e, many)))

-- the place behind those that were passed by
pub behind_passed : (xs from to : List Instance) (n k count left : ℕ) → (count ≡ 1) ⊎ (count ≡ suc left)
    → from ≡ drop (suc (n + k)) xs → to ≡ drop (count - 1) from → to ≡ drop (n + (k + count)) xs
behind_passed xs from to n k count left way at e =
    let some : 1 ≤ count = elim way [
      | inl one ↦ omega (arith, one)
      | inr all ↦ omega (arith, all)
    ] in
    e ∙ (ap (drop (count - 1)) at
    ∙ (drop-drop (count - 1) (suc (n + k)) xs
    ∙ ap (λ (m : ℕ). drop m xs) (let q : suc (n + k) + (count - 1) ≡ n + (k + count) = omega (arith, some) in q)))
