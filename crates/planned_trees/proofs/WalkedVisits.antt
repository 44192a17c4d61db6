-- The visits of a plan's trees are instances of the walk, which code can hold.
use Rattle.scop_syntax.proofs.Common.{◌≡◌, ◌∙◌, ◌^◌, ◌<◌, ◌≤◌, ℤ, pos, List, [], length, ap, subst, sym, arith, ◌≤ℤ◌}
use Rattle.scop_syntax.proofs.Common.{◌<ℤ◌, All, In, Program, Scope, Placed, Runs, loops_in, statements_of, visit_of}
use Rattle.scop_syntax.proofs.Common.{Instance, Visit, instance, walk_of, in_map, in_map_from}
use Rattle.scop_syntax.proofs.Sizes.{turns_fit}
use Rattle.loop_tree.specs.Conditions.{CanWalk}
use Rattle.loop_tree.specs.Fits.{FitsAll}
use Rattle.loop_tree.specs.Marks.{FlatAll}
use Rattle.loop_tree.specs.Plans.{AreInOrder}
use Rattle.loop_tree.specs.Tiling.{Tiling}
use Rattle.loop_tree.specs.Tree.{Trees}
use Rattle.loop_tree.specs.Walk.{given, visits, walk_all}
use Rattle.loop_tree.proofs.Visits.{listed_same}
use Rattle.planned_trees.proofs.Orders.{walked_number}

-- what the laws of the walk say of a program at its parameters
pub record WalkLaws (program : Program) (params : List ℤ) : Type 0 where
  pub found : (v : Visit) → In v (walk_of program params)
      → (p : Placed) × (xs : List ℤ) × In p (statements_of program) × Runs p.scopes params xs
      × (v ≡ visit_of p params xs)
  pub turns : (scopes : List Scope) (point xs : List ℤ) → Runs scopes point xs → length xs ≡ loops_in scopes
  pub few : (p : Placed) → In p (statements_of program) → loops_in p.scopes ≤ 5
  pub small : (xs : List ℤ) (p : Placed) → In p (statements_of program) → Runs p.scopes params xs
      → All (λ x. (pos 0 ≤ℤ x) × (x <ℤ pos (2 ^ 46))) xs

-- an instance that is visited has a statement's number, and few small turns
pub record IsWalked (program : Program) (x : Instance) : Type 0 where
  pub number : x.number < length (statements_of program)
  pub few : length x.turns ≤ 5
  pub small : All (λ t. (pos 0 ≤ℤ t) × (t <ℤ pos (2 ^ 46))) x.turns

-- a visit stands in the walk
pub visited_walked : (program : Program) (params : List ℤ) (plan : Tiling) (xs : List Instance)
    → AreInOrder program params plan xs → (x : Instance) → In x xs
    → (v : Visit) × In v (walk_of program params) × (x ≡ instance v)
visited_walked program params plan xs exact x i =
    in_map_from instance x (walk_of program params) ((listed_same program params plan xs exact x).0 i)

pub are_walked : (program : Program) (params : List ℤ) (plan : Tiling) (xs : List Instance)
    → WalkLaws program params → AreInOrder program params plan xs → (x : Instance) → In x xs → IsWalked program x
are_walked program params plan xs laws exact x i =
    let w = visited_walked program params plan xs exact x i in
    let f = laws.found w.0 w.1 in
    let l = laws.turns f.0.scopes params f.1 f.3 in
    let most = laws.few f.0 f.2 in
    let number = walked_number program params w.0 w.1 in
    let turns : f.1 ≡ x.turns = sym (ap (λ (y : Instance). y.turns) w.2 ∙ ap (λ (v : Visit). v.turns) f.4) in
    let same : x.number ≡ w.0.number = ap (λ (y : Instance). y.number) w.2 in
    record {
      number = omega (arith, number, same);
      few = subst (λ (xs : List ℤ). length xs ≤ 5) turns (omega (arith, l, most));
      small = subst (All (λ t. (pos 0 ≤ℤ t) × (t <ℤ pos (2 ^ 46)))) turns (laws.small f.1 f.0 f.2 f.3);
    }

pub walkable : (program : Program) (params : List ℤ) (plan : Tiling) (ts : Trees) → WalkLaws program params
    → FlatAll ts → FitsAll ts params [] → AreInOrder program params plan (visits ts params) → CanWalk ts params []
walkable program params plan ts laws flat fits exact =
    record {
      flat = flat;
      fits = fits;
      held = λ v h.
          let i = in_map given v (walk_all ts params []) h in
          let w = are_walked program params plan (visits ts params) laws exact (given v) i in
          record { few = w.few; turns = turns_fit v.turns w.small };
    }
