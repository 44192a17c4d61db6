-- Where the variables of a leaf stand, by the way in which its writer is looked for.
use Rattle.dataflow.proofs.Common.{◌≡◌, ℕ, ◌+◌, ◌-◌, ◌≤◌, pos, List, [], ◌∷◌, ◌++◌, length, take, drop, get_or, ap}
use Rattle.dataflow.proofs.Common.{subst, sym, ◌∙◌, refl, arith, length-take-le, get_or-append-add, get_or_append_left}
use Rattle.dataflow.proofs.Common.{zeros, length-zeros, get_or-zeros, length-drop, Turn, up, down, bound, LeafPath}
use Rattle.dataflow.proofs.Common.{binds_in, Side, loops_of, placed_numbers, leaf_layout, AreFree, CanWrite, CanLay}
use Rattle.quast_joins.specs.declared.way.Way.TheVariants.{Later, Earlier}
use Rattle.dataflow.specs.declared.leaf_rows.Layout.{Layout}

-- no more binds than turns are passed
pub few_binds : (ts : List Turn) → binds_in ts ≤ length ts
few_binds [] = omega arith
few_binds (up f ∷ ts) = let r = few_binds ts in omega arith
few_binds (down f ∷ ts) = let r = few_binds ts in omega arith
few_binds (bound f d ∷ ts) = let r = few_binds ts in omega arith

-- the variables before the reader's turns are none of the quast's
free_before : (l : Layout) → AreFree l 0 l.before
free_before l cs i size less =
    let z = length-zeros l.before in
    let rest = take l.turns (drop l.parameters cs)
    ++ (zeros l.behind
    ++ (drop (l.parameters + l.turns) cs
    ++ (zeros (l.binds - length (drop (l.parameters + l.turns) cs)) ++ take l.parameters cs))) in
    let place : 0 + i ≡ i = omega arith in
    ap (λ (j : ℕ). get_or (placed_numbers l cs) j (pos 0)) place
    ∙ (get_or_append_left (zeros l.before) rest (pos 0) i (omega arith) ∙ get_or-zeros l.before i)

-- nor are those behind them
free_behind : (l : Layout) → l.before ≡ 0 → AreFree l l.turns l.behind
free_behind l none cs i size less =
    let z = length-zeros l.before in
    let y = length-zeros l.behind in
    let mid = take l.turns (drop l.parameters cs) in
    let d = length-drop l.parameters cs in
    let mid_size : length mid ≡ l.turns = length-take-le l.turns (drop l.parameters cs) (omega arith) in
    let tail = drop (l.parameters + l.turns) cs
    ++ (zeros (l.binds - length (drop (l.parameters + l.turns) cs)) ++ take l.parameters cs) in
    let place : l.turns + i ≡ length (zeros l.before) + (length mid + i) = omega arith in
    ap (λ (j : ℕ). get_or (placed_numbers l cs) j (pos 0)) place
    ∙ (get_or-append-add (zeros l.before) (mid ++ (zeros l.behind ++ tail)) (length mid + i) (pos 0)
    ∙ (get_or-append-add mid (zeros l.behind ++ tail) i (pos 0)
    ∙ (get_or_append_left (zeros l.behind) tail (pos 0) i (omega arith) ∙ get_or-zeros l.behind i)))

-- a last writer's leaf
pub later_lay : (m : ℕ) (reader writer : Side) (p : LeafPath) → CanWrite m reader writer p
    → CanLay (leaf_layout Later m (binds_in p.turns) reader writer) 0 writer reader p
later_lay m reader writer p can =
    let l = leaf_layout Later m (binds_in p.turns) reader writer in
    let short = can.leaf.short in
    let few = few_binds p.turns in
    let count : length p.leaf.forms ≡ loops_of writer = can.leaf.count ∙ can.writer_side.loops in
    record {
      source = can.writer_side;
      target = can.reader_side;
      small = record {
        before = can.writer_side.few_loops;
        turns = can.reader_side.few_loops;
        behind = omega arith;
        binds = omega arith;
        parameters = can.leaf.few;
      };
      all = omega arith;
      one = λ same. sym (can.leaf.one (sym same));
      over = can.leaf.over;
      binds = refl;
      turns = can.leaf.turns;
      forms = can.leaf.forms;
      inside = omega arith;
      free = subst (AreFree l 0) (sym count) (free_before l);
      held = can.leaf.held;
    }

-- a next writer's
pub earlier_lay : (m : ℕ) (reader writer : Side) (p : LeafPath) → CanWrite m reader writer p
    → CanLay (leaf_layout Earlier m (binds_in p.turns) reader writer) (loops_of reader) reader writer p
earlier_lay m reader writer p can =
    let l = leaf_layout Earlier m (binds_in p.turns) reader writer in
    let short = can.leaf.short in
    let few = few_binds p.turns in
    let count : length p.leaf.forms ≡ loops_of writer = can.leaf.count ∙ can.writer_side.loops in
    record {
      source = can.reader_side;
      target = can.writer_side;
      small = record {
        before = omega arith;
        turns = can.reader_side.few_loops;
        behind = can.writer_side.few_loops;
        binds = omega arith;
        parameters = can.leaf.few;
      };
      all = omega arith;
      one = can.leaf.one;
      over = can.leaf.over;
      binds = refl;
      turns = can.leaf.turns;
      forms = can.leaf.forms;
      inside = omega arith;
      free = subst (AreFree l (loops_of reader)) (sym count) (free_behind l refl);
      held = can.leaf.held;
    }
