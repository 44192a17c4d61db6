-- A braid of whole rounds: what it has left, strand after strand and round after round (`woven_is`), and the place behind
-- it.
use Rattle.scop_syntax.proofs.Common.{◌≡◌, ◌∙◌, ℕ, zero, suc, ◌+◌, ◌*◌, ◌-◌, ◌<◌, ◌≤◌, ℤ, List, [], ◌∷◌, ◌++◌, length}
use Rattle.scop_syntax.proofs.Common.{map, drop, take, Some, set, inl, refl, ap, ap₂, sym, subst, arith, append-nil}
use Rattle.scop_syntax.proofs.Common.{All, slice_get, drop-drop, drop_at, length-map, length-take-le, take_all}
use Rattle.scop_syntax.proofs.Common.{All-head, All-nil, All-tail, get_map, instance_of, Instance, in_from_place}
use Rattle.std.proofs.lemmas.List.{append_assoc, length-append}
use Rattle.scop_syntax.specs.declared.instance.Instance.{Instance as CodeInstance}
use Rattle.loop_tree.specs.Braids.{left_of_braid, taking, together, woven}
use Rattle.loop_tree.specs.Conditions.{IsHeld}
use Rattle.loop_tree.specs.Spot.{rest_of}
use Rattle.loop_tree.specs.SpotView.{IsSpotOf, marks_in, to_come}
use Rattle.loop_tree.specs.Stretches.{following, left_of}
use Rattle.loop_tree.specs.Tree.{Trees}
use Rattle.loop_tree.specs.View.{trees_in}
use Rattle.loop_tree.specs.declared.braid.Braid.{Braid}
use Rattle.loop_tree.specs.declared.spot.Spot.{Spot}
use Rattle.loop_tree.specs.declared.stretch.Stretch.{Stretch}
use Rattle.loop_tree.proofs.Braids.{woven_none}
use Rattle.loop_tree.proofs.Stretches.{nothing_left}
use Rattle.loop_tree.proofs.Visits.{listed_same}
use Rattle.tile_list.proofs.Stretches.{length-following}
use Rattle.tile_core.specs.Plans.{IsPlan, deal_of, places_in, program_in, scan_in, walk_shape}
use Rattle.tile_core.specs.Ranks.{place_in, rank_in}
use Rattle.tile_list.specs.Stretches.{HasRounds, turns_on}
use Rattle.tile_core.specs.Stretches.{IsPart, IsWoven, in_round}
use Rattle.tile_core.specs.Workers.{IsNext}
use Rattle.tile_core.specs.declared.plan.Plan.{Plan}
use Rattle.tile_core.specs.declared.worker.Stage.{Stage}
use Rattle.tile_core.specs.declared.worker.Stage.TheVariants.{Working}
use Rattle.tile_core.proofs.Stretches.{ahead_is}
use Rattle.tile_core.proofs.Workers.{at_stage, head_is}

-- what a strand has left, where it has k left, so many rounds on
abbrev left_behind : ℕ → ℕ → Stretch → List Instance
left_behind round k s =
    following s.before.statement (turns_on (instance_of s.before).turns (take s.before.loops s.steps) round)
    (take s.before.loops s.steps) k

-- what strands give in a round
abbrev given_in : ℕ → List Stretch → List Instance
given_in round ss = map (λ s. in_round s round) ss

-- in k rounds
abbrev given_from : ℕ → ℕ → List Stretch → List Instance
given_from round zero ss = []
given_from round (suc k) ss = given_in round ss ++ given_from (suc round) k ss

one_round : (ss : List Stretch) (round k m n : ℕ) (done : List (List Instance)) → m ≡ length ss + n
    → taking m (map (left_behind round (suc k)) ss ++ done)
    ≡ given_in round ss ++ taking n (done ++ map (left_behind (suc round) k) ss)
one_round [] round k m n done many =
    ap₂ (λ (i : ℕ) (ls : List (List Instance)). taking i ls) (let e : m ≡ n = omega (arith, many) in e)
    (sym (append-nil done))
one_round (s ∷ ss) round k zero n done many = absurd (omega (arith, many))
one_round (s ∷ ss) round k (suc m) n done many =
    let is = left_behind (suc round) k s in
    let now = map (left_behind round (suc k)) ss in
    let then = map (left_behind (suc round) k) ss in
    ap (λ (js : List Instance). in_round s round ∷ js)
    (ap (λ (ls : List (List Instance)). taking m ls) (append_assoc now done (is ∷ []))
    ∙ (one_round ss round k m n (done ++ is ∷ []) (omega (arith, many))
    ∙ ap (λ (ls : List (List Instance)). given_in round ss ++ taking n ls) (append_assoc done (is ∷ []) then)))

together_round : (ss : List Stretch) (round k : ℕ)
    → together (map (left_behind round (suc k)) ss) ≡ length ss + together (map (left_behind (suc round) k) ss)
together_round [] round k = refl
together_round (s ∷ ss) round k =
    let rest = together_round ss round k in
    let steps = take s.before.loops s.steps in
    let many = length-following s.before.statement (turns_on (instance_of s.before).turns steps (suc round)) steps k in
    omega (arith, rest, many)

together_none : (ss : List Stretch) (round : ℕ) → together (map (left_behind round 0) ss) ≡ 0
together_none [] round = refl
together_none (s ∷ ss) round = let rest = together_none ss round in omega (arith, rest)

woven_rounds : (ss : List Stretch) (round k : ℕ) → woven (map (left_behind round k) ss) ≡ given_from round k ss
woven_rounds ss round zero =
    ap (λ (n : ℕ). taking n (map (left_behind round 0) ss)) (together_none ss round)
woven_rounds ss round (suc k) =
    let now = map (left_behind round (suc k)) ss in
    ap (λ (ls : List (List Instance)). taking (together now) ls) (sym (append-nil now))
    ∙ (one_round ss round k (together now) (together (map (left_behind (suc round) k) ss)) [] (together_round ss round k)
    ∙ ap (λ (js : List Instance). given_in round ss ++ js) (woven_rounds ss (suc round) k))

-- strands that have as many left
left_same : (ss : List Stretch) (k : ℕ) → All (λ s. s.left ≡ k) ss → map left_of ss ≡ map (left_behind 0 k) ss
left_same [] k all = refl
left_same (s ∷ ss) k all =
    ap₂ (λ (is : List Instance) (ls : List (List Instance)). is ∷ ls)
    (ap (λ (n : ℕ). left_behind 0 n s) (All-head (λ (t : Stretch). t.left ≡ k) s ss all))
    (left_same ss k (All-tail (λ (t : Stretch). t.left ≡ k) s ss all))

-- all that is left of the braid
pub rounds_given : (b : Braid) (rounds : ℕ) → HasRounds b rounds
    → left_of_braid b ≡ given_from 0 rounds (take b.count b.strands)
rounds_given b rounds has =
    let ss = take b.count b.strands in
    ap (λ (i : ℕ). woven (map left_of (drop i ss ++ take i b.strands))) has.turn
    ∙ (ap (λ (ts : List Stretch). woven (map left_of ts)) (append-nil ss)
    ∙ (ap (λ (ls : List (List Instance)). woven ls) (left_same ss rounds has.lefts) ∙ woven_rounds ss 0 rounds))

length-given : (ss : List Stretch) (round k : ℕ) → length (given_from round k ss) ≡ k * length ss
length-given ss round zero = omega arith
length-given ss round (suc k) =
    let here = length-append (given_in round ss) (given_from (suc round) k ss) in
    let one = length-map ss (λ (s : Stretch). in_round s round) in
    let rest = length-given ss (suc round) k in
    omega (arith, here, one, rest)

-- a list that goes on by some has them from there on
front_at : (xs : List Instance) (r : ℕ) (ys more : List Instance) (at : ℕ) (x : Instance) → drop r xs ≡ ys ++ more
    → slice_get ys at ≡ Some x → slice_get xs (r + at) ≡ Some x
front_at xs r [] more at x e there = absurd cc
front_at xs r (y ∷ ys) more zero x e there =
    ap (slice_get xs) (let q : r + 0 ≡ r = omega arith in q) ∙ ((head_is xs r y (ys ++ more) e).0 ∙ there)
front_at xs r (y ∷ ys) more (suc at) x e there =
    ap (slice_get xs) (let q : r + suc at ≡ suc r + at = omega arith in q)
    ∙ front_at xs (suc r) ys more at x (head_is xs r y (ys ++ more) e).1 there

-- one that goes on by rounds has what each strand gives in each round
given_at : (xs : List Instance) (r : ℕ) (ss : List Stretch) (round k : ℕ) (more : List Instance) (j at : ℕ) (s : Stretch)
    → drop r xs ≡ given_from round k ss ++ more → j < k → slice_get ss at ≡ Some s
    → slice_get xs (r + (j * length ss + at)) ≡ Some (in_round s (round + j))
given_at xs r ss round zero more j at s e less there = absurd (omega (arith, less))
given_at xs r ss round (suc k) more zero at s e less there =
    ap (slice_get xs) (let q : r + (0 * length ss + at) ≡ r + at = omega arith in q)
    ∙ (front_at xs r (given_in round ss) (given_from (suc round) k ss ++ more) at (in_round s round)
    (e ∙ append_assoc (given_in round ss) (given_from (suc round) k ss) more)
    (get_map (λ (t : Stretch). in_round t round) ss at s there)
    ∙ ap (λ (n : ℕ). Some (in_round s n)) (let q : round ≡ round + 0 = omega arith in q))
given_at xs r ss round (suc k) more (suc j) at s e less there =
    let here = given_in round ss in
    let rest = given_from (suc round) k ss ++ more in
    let one = length-map ss (λ (t : Stretch). in_round t round) in
    let behind : drop (r + length ss) xs ≡ rest =
    sym (drop-drop (length ss) r xs)
    ∙ (ap (drop (length ss)) (e ∙ append_assoc here (given_from (suc round) k ss) more)
    ∙ drop_at here rest (length ss) one) in
    ap (slice_get xs) (let q : r + (suc j * length ss + at) ≡ (r + length ss) + (j * length ss + at) = omega arith in q)
    ∙ (given_at xs (r + length ss) ss (suc round) k more j at s behind (omega (arith, less)) there
    ∙ ap (λ (n : ℕ). Some (in_round s n)) (let q : suc round + j ≡ round + suc j = omega arith in q))

taken_at : (xs : List Stretch) (n at : ℕ) → at < n → slice_get (take n xs) at ≡ slice_get xs at
taken_at [] n at less = ap (λ (ys : List Stretch). slice_get ys at) (take_all n [] (omega arith))
taken_at (x ∷ xs) zero at less = absurd (omega (arith, less))
taken_at (x ∷ xs) (suc n) zero less = refl
taken_at (x ∷ xs) (suc n) (suc at) less = taken_at xs n at (omega (arith, less))

-- behind a worker's next instance
module _ (plan : Plan) (stage : Stage) (t k : ℕ) (i : CodeInstance) (spot : Spot) (rounds : ℕ) (is : IsPlan plan)
    (works : stage ≡ Working t k) (left : k < (walk_shape plan).size t)
    (next : IsNext plan ((deal_of plan).start t + k) (Some i) spot) (alone : spot.stretch.left ≡ 0)
    (all : length spot.braid.strands ≡ 4) (few : spot.braid.count ≤ 4) (has : HasRounds spot.braid rounds) where
  abbrev count : ℕ
  count = spot.braid.count

  abbrev from : ℕ
  from = (deal_of plan).start t + k

  scanned : (round at : ℕ) (s : Stretch) → round < rounds → at < count → slice_get spot.braid.strands at ≡ Some s
      → slice_get (scan_in plan) (suc from + (round * count + at)) ≡ Some (in_round s round)
  scanned round at s less within there =
      let b = spot.braid in
      let ss = take count b.strands in
      let rest = rest_of (trees_in plan.tree.now) (marks_in spot) plan.params.now [] in
      let many : length ss ≡ count = length-take-le count b.strands (omega (arith, few, all)) in
      let behind : drop (suc from) (scan_in plan) ≡ given_from 0 rounds ss ++ rest =
      sym next.behind
      ∙ ap₂ (λ (ys zs : List Instance). ys ++ (zs ++ rest)) (nothing_left spot.stretch alone) (rounds_given b rounds has) in
      ap (λ (n : ℕ). slice_get (scan_in plan) (suc from + (round * n + at))) (sym many)
      ∙ (given_at (scan_in plan) (suc from) ss 0 rounds rest round at s behind less
      (taken_at b.strands count at within ∙ there)
      ∙ ap (λ (n : ℕ). Some (in_round s n)) (let q : 0 + round ≡ round = omega arith in q))

  pub woven_is : 0 < rounds → rounds * count < (walk_shape plan).size t - k
      → IsWoven plan stage (Some i) spot rounds
  woven_is some fits =
      let xs = scan_in plan in
      let part : IsPart ((walk_shape plan).size t - k) spot.stretch.left 1 =
      record { within = omega (arith, left); way = inl refl } in record {
        first = ahead_is plan stage t k i spot 1 is works left next (omega arith) part
            (λ (more : 1 < 1). absurd (omega (arith, more)));
        alone = alone;
        some = some;
        few = few;
        has = has;
        within = λ u m. at_stage (λ v n. n + suc (rounds * count) ≤ (walk_shape plan).size v) stage t k u m works
            (omega (arith, fits, left));
        walked = λ round at s less within there.
            (listed_same (program_in plan) plan.params.now is.tiling xs is.order (in_round s round)).0
            (in_from_place xs (suc from + (round * count + at)) (in_round s round)
            (scanned round at s less within there));
        place = λ u m round at s e less within there.
            at_stage (λ v n. place_in (places_in plan) (in_round s round)
            ≡ (walk_shape plan).place v (n + suc (round * count + at))) stage t k u m works
            (ap (rank_in (places_in plan)) (sym (scanned round at s less within there)
            ∙ ap (slice_get xs) (let q : suc from + (round * count + at)
            ≡ (deal_of plan).start t + (k + suc (round * count + at)) = omega arith in q))) e;
      }

-- a braid of which the strand that is next has nothing left
emptied : (xs : List Stretch) (n i : ℕ) (s : Stretch) → 1 ≤ length xs → s.left ≡ 0 → i ≡ 0 → i < n
    → left_of_braid (record { strands = set xs 0 s; count = n; at = i }) ≡ []
emptied [] n i s some none turn less = absurd (omega (arith, some))
emptied (x ∷ xs) zero i s some none turn less = absurd (omega (arith, less))
emptied (x ∷ xs) (suc n) (suc i) s some none turn less = absurd (omega (arith, turn))
emptied (x ∷ xs) (suc n) zero s some none turn less =
    let others = map left_of (take n xs ++ []) in
    ap (λ (is : List Instance). woven (is ∷ others)) (nothing_left s none) ∙ woven_none others

-- the place behind its rounds
module _ (spot : Spot) (s : Stretch) (rounds : ℕ) (alone : spot.stretch.left ≡ 0) (few : spot.braid.count ≤ 4)
    (all : length spot.braid.strands ≡ 4) (has : HasRounds spot.braid rounds) (none : s.left ≡ 0) where
  abbrev passed : Spot
  passed = record spot { braid = record spot.braid { strands = set spot.braid.strands 0 s } }

  nothing : spot.braid.at < spot.braid.count → left_of_braid passed.braid ≡ []
  nothing turn =
      emptied spot.braid.strands spot.braid.count spot.braid.at s (omega (arith, all)) none has.turn turn

  pub spot_passed : (ts : Trees) (params : List ℤ) → IsSpotOf ts params spot → IsSpotOf ts params passed
  spot_passed ts params is = record {
    room = is.room;
    stands = is.stands;
    held = is.held;
    braid = record {
      few = few;
      turn = is.braid.turn;
      held = subst (λ (xs : List Instance). All IsHeld xs) (sym (nothing is.braid.turn)) (All-nil IsHeld);
    };
  }

  pub behind_rounds : (ts : Trees) (params : List ℤ) → IsSpotOf ts params spot
      → to_come ts params passed ≡ drop (rounds * spot.braid.count) (to_come ts params spot)
  behind_rounds ts params is =
      let b = spot.braid in
      let ss = take b.count b.strands in
      let rest = rest_of ts (marks_in spot) params [] in
      let gone = nothing_left spot.stretch alone in
      let many = length-take-le b.count b.strands (omega (arith, few, all)) in
      let given = given_from 0 rounds ss in
      let long : length given ≡ rounds * b.count = length-given ss 0 rounds ∙ ap (λ (n : ℕ). rounds * n) many in
      ap₂ (λ (ys zs : List Instance). ys ++ (zs ++ rest)) gone (nothing is.braid.turn)
      ∙ sym (ap₂ (λ (ys zs : List Instance). drop (rounds * b.count) (ys ++ (zs ++ rest))) gone
      (rounds_given b rounds has)
      ∙ drop_at given rest (rounds * b.count) long)
