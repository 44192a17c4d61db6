use Rattle.scop_syntax.proofs.Common.{subst, arith, refl, get_or, length-map, take_all, in_at}
use Rattle.tile_edges.specs.steps.Gains.{Gains}
use Rattle.tile_edges.specs.steps.Rows.{rows_in}
use Rattle.tile_edges.proofs.Taken.{number_at}
use Rattle.tile_edges.proofs.PutPairs.{gains_more, none_gains}
use Rattle.tile_edges.proofs.pairing.Pairs.add_all.Goals as goal

pub loop-first-init : goal.loop-first-init
loop-first-init c = record {
  gains = none_gains c.args.second (rows_in c.args.self.now);
  kept = c.requires.kept;
  long = refl;
}

pub add-requires-clause-first : goal.add-requires-clause-first
add-requires-clause-first c =
    let long = c.loop-first.invariant.long in
    let firsts = c.args.firsts.now in
    let k = c.loop-first.first-index in
    let less = c.requires.firsts (get_or firsts k 0) (in_at firsts k 0 (omega arith)) in
    omega (arith, long, less)

pub loop-first-preserved : goal.loop-first-preserved
loop-first-preserved c =
    let gains = c.in_ok-add.ensures.gains in
    let long = c.loop-first.invariant.long in
    let same = gains.long in
    let seen = length-map c.loop-first.self.rows.items (λ s. s.keys) in
    let seen_then = length-map c.add.new.self.rows.items (λ s. s.keys) in
    record {
      gains = gains_more c.args.firsts.now c.loop-first.first-index (get_or c.args.firsts.now c.loop-first.first-index 0) c.args.second
          (rows_in c.args.self.now) (rows_in c.loop-first.self) (rows_in c.add.new.self) (omega arith) (number_at c.args.firsts.now c.loop-first.first-index (omega arith))
          c.loop-first.invariant.gains gains;
      kept = c.in_ok-add.ensures.kept;
      long = omega (arith, long, same, seen, seen_then);
    }

pub returns-clause-gains : goal.returns-clause-gains
returns-clause-gains c =
    subst (λ ts. Gains ts c.args.second (rows_in c.args.self.now) (rows_in c.loop-first.self))
    (take_all c.loop-first.first-index c.args.firsts.now (omega arith)) c.loop-first.invariant.gains
