-- What an instance of a plan touches and stores, by its place in the walk.
use Rattle.scop_syntax.proofs.Common.{◌≡◌, Bool, true, false, drop, ℕ, zero, suc, ◌≤◌, ◌<◌, ℤ, List, [], ◌∷◌, length}
use Rattle.scop_syntax.proofs.Common.{map, get_or, Some, ap, sym, refl, ◌∙◌, arith, slice_get, if◌then◌else◌}
use Rattle.scop_syntax.proofs.Common.{option_map, length-drop, length-map, slice_get-map, slice_get_within, cell_of}
use Rattle.scop_syntax.proofs.Common.{reads, cell_number, IsKernel, IsPlaced, ranks_of, In, is_marked, loads, Placed}
use Rattle.scop_syntax.proofs.Common.{Runs, statements_of, visit_of, Access, Program, Instance, Visit, instance}
use Rattle.scop_syntax.proofs.Common.{walk_of, in_from_place, place_of, there_is, StandOnce}
use Rattle.tile_table.specs.Instances.{IsVisitOf}
use Rattle.tile_table.specs.Tables.{touched}
use Rattle.tile_events.specs.Flat.{read_by, written_by}
use Rattle.tile_core.specs.Plans.{IsPlan, extents_in, places_in, program_in, walk_in}
use Rattle.tile_core.specs.Ranks.{place_in}
use Rattle.tile_core.specs.declared.plan.Plan.{Plan}
use Rattle.tile_core.proofs.Ranks.{placed}

-- the visit at an instance's place has its numbers
pub record IsThere (plan : Plan) (x : Instance) (v : Visit) : Type 0 where
  pub at : slice_get (walk_in plan) (place_in (places_in plan) x) ≡ Some v
  pub is : IsVisitOf (program_in plan) plan.params.now x v

pub there : (plan : Plan) (x : Instance) → In x (places_in plan) → (v : Visit) × IsThere plan x v
there plan x walked =
    let walk = walk_in plan in
    let place = place_in (places_in plan) x in
    let found = placed (places_in plan) x walked in
    let within = slice_get_within (places_in plan) place x found in
    let many = length-map walk instance in
    let v = there_is walk place (omega (arith, within, many)) in
    let e : Some (instance v.0) ≡ Some x =
    sym (slice_get-map instance walk place ∙ ap (option_map instance) v.1) ∙ found in
    let same : instance v.0 ≡ x = cc in
    (v.0, record { at = v.1; is = record { walked = in_from_place walk place v.0 v.1; same = same } })

-- it is the only one
pub one : (plan : Plan) (x : Instance) (v w : Visit) → StandOnce (program_in plan) plan.params.now
    → IsVisitOf (program_in plan) plan.params.now x v
    → IsVisitOf (program_in plan) plan.params.now x w → v ≡ w
one plan x v w once a b =
    let walk = walk_in plan in
    let p = place_of walk v a.walked in
    let q = place_of walk w b.walked in
    let e = a.same ∙ sym b.same in
    same p.0 q.0 (once p.0 q.0 v w p.1 q.1 (ap (λ (x : Instance). x.number) e)
    (ap (λ (x : Instance). x.turns) e)) p.1 q.1
  where
    same : (m n : ℕ) → m ≡ n → slice_get (walk_in plan) m ≡ Some v → slice_get (walk_in plan) n ≡ Some w → v ≡ w
    same m n e g h = cc

-- a visit loads no more than it reads
many_loaded : (marked : List ℕ) (v : Visit) (extents : List (List ℕ))
    → length (read_by extents marked (Some v)) ≡ length (loads marked v.body)
many_loaded marked v extents =
    length-map (map (λ access. cell_of access v.point) (loads marked v.body)) (cell_number extents)
    ∙ length-map (loads marked v.body) (λ access. cell_of access v.point)

few_loaded : (b : Bool) (xs : List Access) → length (if b then drop 1 xs else xs) ≤ length xs
few_loaded true xs = let many = length-drop 1 xs in omega (arith, many)
few_loaded false xs = omega arith

-- how many reads are loaded
pub reads_there : (plan : Plan) (x : Instance) (v : Visit) (extents : List (List ℕ)) → IsThere plan x v
    → length (read_by extents plan.marked.now (slice_get (walk_in plan) (place_in (places_in plan) x)))
    ≡ length (loads plan.marked.now v.body)
reads_there plan x v extents is =
    ap (λ o. length (read_by extents plan.marked.now o)) is.at ∙ many_loaded plan.marked.now v extents

many_reads : (plan : Plan) (x : Instance) (extents : List (List ℕ))
    → StandOnce (program_in plan) plan.params.now
    → In x (places_in plan) → (v : Visit) → IsVisitOf (program_in plan) plan.params.now x v
    → length (loads plan.marked.now v.body)
    ≡ length (read_by extents plan.marked.now (slice_get (walk_in plan) (place_in (places_in plan) x)))
many_reads plan x extents once walked v is =
    let t = there plan x walked in
    ap (λ (w : Visit). length (loads plan.marked.now w.body)) (one plan x v t.0 once is t.1.is) ∙ sym
    (reads_there plan x t.0 extents t.1)

-- an instance's place is one of the walk
pub place_within : (plan : Plan) (x : Instance) → In x (places_in plan)
    → place_in (places_in plan) x < length (walk_in plan)
place_within plan x walked =
    let t = there plan x walked in slice_get_within (walk_in plan) (place_in (places_in plan) x) t.0 t.1.at

-- the laws of instances and statements
abbrev pub AreFound : Type 0
AreFound = (program : Program) (params : List ℤ) (v : Visit) → In v (walk_of program params)
    → (p : Placed) × (xs : List ℤ) × In p (statements_of program) × Runs p.scopes params xs × (v ≡ visit_of p params xs)

abbrev pub ArePlaced : Type 0
ArePlaced = (program : Program) (p : Placed) → IsKernel program → In p (statements_of program)
    → IsPlaced (ranks_of program) (length program.parameters) p

-- there are few at any place of the walk
pub few_at : (plan : Plan) (j : ℕ) (extents : List (List ℕ)) → AreFound → ArePlaced → IsPlan plan
    → j < length (walk_in plan)
    → length (read_by extents plan.marked.now (slice_get (walk_in plan) j)) ≤ 16
few_at plan j extents found placed_law is less =
    let walk = walk_in plan in
    let v = there_is walk j less in
    let s = found (program_in plan) plan.params.now v.0 (in_from_place walk j v.0 v.1) in
    let few = (placed_law (program_in plan) s.0 is.limits.kernel s.2).body.few_reads in
    let same = ap (λ (w : Visit). length (reads w.body)) s.4 in
    let n = ap (λ o. length (read_by extents plan.marked.now o)) v.1 ∙ many_loaded plan.marked.now v.0 extents in
    let m = few_loaded (is_marked plan.marked.now v.0.body.place.array) (reads v.0.body) in
    omega (arith, few, same, n, m)

-- and so for an instance
pub few_reads : (plan : Plan) (x : Instance) (extents : List (List ℕ)) → AreFound → ArePlaced → IsPlan plan
    → In x (places_in plan)
    → length (read_by extents plan.marked.now (slice_get (walk_in plan) (place_in (places_in plan) x))) ≤ 16
few_reads plan x extents found placed_law is walked =
    few_at plan (place_in (places_in plan) x) extents found placed_law is (place_within plan x walked)

-- a call that tells the cell of an access tells that of the plan
abbrev pub TellsCell : Plan → Instance → ℕ → ℕ → Type 0
TellsCell plan x access result =
    (v : Visit) (a : Access) → IsVisitOf (program_in plan) plan.params.now x v
    → slice_get (touched (is_marked plan.marked.now v.body.place.array) v.body) access ≡ Some a
    → result ≡ cell_number (extents_in plan) (cell_of a v.point)

pub written_is : (plan : Plan) (x : Instance) (result : ℕ) → IsPlan plan → In x (places_in plan)
    → TellsCell plan x 0 result
    → result ≡ written_by (extents_in plan) (slice_get (walk_in plan) (place_in (places_in plan) x))
written_is plan x result is walked tells =
    let t = there plan x walked in
    let v = t.0 in
    tells v v.body.place t.1.is refl ∙ sym (ap (written_by (extents_in plan)) t.1.at)

mapped : {A B : Type 0} (f : B → ℕ) (g : A → B) (xs : List A) (i : ℕ) (x : A) → slice_get xs i ≡ Some x
    → get_or (map f (map g xs)) i 0 ≡ f (g x)
mapped f g [] i x e = absurd cc
mapped f g (y ∷ ys) zero x e = ap (λ z. f (g z)) (let q : y ≡ x = cc in q)
mapped f g (y ∷ ys) (suc i) x e = mapped f g ys i x e

pub read_is : (plan : Plan) (x : Instance) (read result : ℕ) → StandOnce (program_in plan) plan.params.now
    → IsPlan plan → In x (places_in plan)
    → read < length (read_by (extents_in plan) plan.marked.now
    (slice_get (walk_in plan) (place_in (places_in plan) x))) → TellsCell plan x (suc read) result
    → result ≡ get_or (read_by (extents_in plan) plan.marked.now
    (slice_get (walk_in plan) (place_in (places_in plan) x))) read 0
read_is plan x read result once is walked less tells =
    let extents = extents_in plan in
    let t = there plan x walked in
    let v = t.0 in
    let own = loads plan.marked.now v.body in
    let n = many_reads plan x extents once walked v t.1.is in
    let found = there_is own read (omega (arith, less, n)) in
    tells v found.0 t.1.is found.1
    ∙ (sym (mapped (cell_number extents) (λ access. cell_of access v.point) own read found.0 found.1)
    ∙ sym (ap (λ o. get_or (read_by extents plan.marked.now o) read 0) t.1.at))
