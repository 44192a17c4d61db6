-- Going over the items of a tree and over the turns of a loop.
use Rattle.scop_syntax.proofs.Common.{◌≡◌, ℕ, ◌-◌, ◌<◌, ◌≤◌, ◌^◌, List, [], ◌∷◌, length, subst, sym, arith}
use Rattle.scop_syntax.proofs.Common.{length-append, ℤ, pos, ◌+ℤ◌, ◌*ℤ◌, value_of, Head, Tree, loop, Trees, none, more}
use Rattle.scop_syntax.proofs.Common.{condition_at, turn_point, RunsFor, IsHead, AreTrees}
use Rattle.scop_syntax.specs.Fits.{TurnFits}
use Rattle.scop_meaning.specs.Conditions.{CanTurn}
use Rattle.scop_meaning.specs.steps.Conditions.{CanWalk}

pub walk_first : (room : ℕ) (ranks : List ℕ) (t : Tree) (ts : Trees) (point : List ℤ)
    → CanWalk room ranks (more t ts) point
    → CanWalk room ranks (more t none) point
walk_first room ranks t ts point c =
    record {
      loops = c.loops;
      comparisons = c.comparisons;
      formed = (c.formed.0, tt);
      space = c.space;
      numbers =
          (c.numbers.0, tt);
    }

pub walk_rest : (room : ℕ) (ranks : List ℕ) (t : Tree) (ts : Trees) (point : List ℤ)
    → CanWalk room ranks (more t ts) point
    → CanWalk room ranks ts point
walk_rest room ranks t ts point c =
    record { loops = c.loops; comparisons = c.comparisons; formed = c.formed.1; space = c.space; numbers = c.numbers.1 }

pub loop_head : (room : ℕ) (ranks : List ℕ) (head : Head) (body : Trees) (point : List ℤ)
    → CanWalk room ranks (more (loop head body) none) point → IsHead (length point) head
loop_head room ranks head body point c = c.formed.0.1

pub loop_space : (room : ℕ) (ranks : List ℕ) (head : Head) (body : Trees) (point : List ℤ)
    → CanWalk room ranks (more (loop head body) none) point → length point < room
loop_space room ranks head body point c = let some = c.formed.0.0 in let s = c.space in omega arith

pub turn_fits : (room : ℕ) (ranks : List ℕ) (head : Head) (body : Trees) (point : List ℤ) (m k : ℕ)
    → CanWalk room ranks (more (loop head body) none) point → RunsFor (λ j. condition_at head point (pos j)) m
    → k ≤ m → TurnFits head point k
turn_fits room ranks head body point m k c runs h = (c.numbers.0 k (λ j g. runs.holds j (omega arith))).0

pub first_turn_fits : (room : ℕ) (ranks : List ℕ) (head : Head) (body : Trees) (point : List ℤ)
    → CanWalk room ranks (more (loop head body) none) point → TurnFits head point 0
first_turn_fits room ranks head body point c = (c.numbers.0 0 (λ j g. absurd (omega arith))).0

-- turn k of a loop can be entered
pub can_turn : (room : ℕ) (ranks : List ℕ) (head : Head) (body : Trees) (point : List ℤ) (m k : ℕ) (first : ℤ)
    → CanWalk room ranks (more (loop head body) none) point → RunsFor (λ j. condition_at head point (pos j)) m
    → m ≤ 2 ^ 63 → k < m
    → first ≡ value_of head.first point → CanTurn room head first k point
can_turn room ranks head body point m k first c runs few h is = record {
  space = loop_space room ranks head body point c;
  is_first = is;
  turn = omega arith;
  fits = (turn_fits room ranks head body point m k c runs (omega arith)).iterator;
}

-- and its body goes on from there
pub walk_turn : (room : ℕ) (ranks : List ℕ) (head : Head) (body : Trees) (point : List ℤ) (m k : ℕ)
    → CanWalk room ranks (more (loop head body) none) point → RunsFor (λ j. condition_at head point (pos j)) m → k < m
    → CanWalk room ranks body (turn_point head point (pos k))
walk_turn room ranks head body point m k c runs h =
    let longer = length-append point ((value_of head.first point +ℤ (head.stride *ℤ pos k)) ∷ []) in
    let some = c.formed.0.0 in
    let s = c.space in
    record {
      loops = c.loops - 1;
      comparisons = c.comparisons;
      formed = subst (λ n. AreTrees ranks n (c.loops - 1) c.comparisons body) (sym longer) c.formed.0.3;
      space = omega arith;
      numbers = (c.numbers.0 k (λ j g. runs.holds j (omega arith))).1 (runs.holds k h);
    }
