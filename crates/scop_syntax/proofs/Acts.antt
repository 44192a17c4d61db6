-- The walk without its numbers.
use Rattle.whole_numbers.proofs.Common.{◌≡◌, ℕ, zero, suc, ◌+◌, Bool, true, false, ℤ, pos, List, [], ◌∷◌, ◌++◌, map, ap}
use Rattle.whole_numbers.proofs.Common.{ap₂, ◌∙◌, refl, if◌then◌else◌, le_z, map-append}
use Rattle.scop_syntax.specs.Tree.{Tree, loop, guard, statement, Trees, none, more}
use Rattle.scop_syntax.specs.Walk.{all_hold, turn_point, condition_at, most_turns, turns, statements_in, Visit, within}
use Rattle.scop_syntax.specs.Walk.{walk, walk_all}
use Rattle.scop_syntax.specs.Acts.{Act, act_of, acts, acts_all}

act-within : (l : ℕ) (x : ℤ) (vs : List Visit) → map act_of (map (within l x) vs) ≡ map act_of vs
act-within l x [] = refl
act-within l x (v ∷ vs) = ap (λ (bs : List Act). act_of v ∷ bs) (act-within l x vs)

act-if : (b : Bool) (vs : List Visit) (bs : List Act) → map act_of vs ≡ bs
    → map act_of (if b then vs else []) ≡ (if b then bs else [])
act-if true vs bs e = e
act-if false vs bs e = refl

act-turns : (c : ℕ → ℤ) (vs : ℕ → List Visit) (bs : ℕ → List Act) → ((k : ℕ) → map act_of (vs k) ≡ bs k) → (n k : ℕ)
    → map act_of (turns c vs n k) ≡ turns c bs n k
act-turns c vs bs same zero k = refl
act-turns c vs bs same (suc n) k =
    act-if (le_z (pos 0) (c k)) (vs k ++ turns c vs n (k + 1)) (bs k ++ turns c bs n (k + 1))
    (map-append act_of (vs k) (turns c vs n (k + 1))
    ∙ ap₂ (λ (u w : List Act). u ++ w) (same k) (act-turns c vs bs same n (k + 1)))

mutual
  walk_acts : (t : Tree) (n : ℕ) (point : List ℤ) → map act_of (walk t n point) ≡ acts t point
  walk_acts (loop head body) n point =
      let c : ℕ → ℤ = λ k. condition_at head point (pos k) in
      act-turns c (λ k. map (within n (pos k)) (walk_all body n (turn_point head point (pos k))))
      (λ k. acts_all body (turn_point head point (pos k)))
      (λ k. act-within n (pos k) (walk_all body n (turn_point head point (pos k)))
      ∙ walk_acts_all body n (turn_point head point (pos k))) (most_turns (c 0)) 0
  walk_acts (guard tests body) n point =
      act-if (all_hold tests point) (walk_all body n point) (acts_all body point) (walk_acts_all body n point)
  walk_acts (statement s) n point = refl

  pub walk_acts_all : (ts : Trees) (n : ℕ) (point : List ℤ) → map act_of (walk_all ts n point) ≡ acts_all ts point
  walk_acts_all none n point = refl
  walk_acts_all (more t ts) n point =
      map-append act_of (walk t n point) (walk_all ts (n + statements_in t) point)
      ∙ ap₂ (λ (u w : List Act). u ++ w) (walk_acts t n point) (walk_acts_all ts (n + statements_in t) point)

pub whole_walk_acts : (ts : Trees) (n : ℕ) (point : List ℤ) → map act_of (walk_all ts n point) ≡ acts_all ts point
whole_walk_acts ts n point = walk_acts_all ts n point

pub ruleset act_laws = (whole_walk_acts)
