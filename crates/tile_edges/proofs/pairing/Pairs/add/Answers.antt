use Rattle.scop_syntax.proofs.Common.{arith, refl}
use Rattle.tile_edges.specs.steps.Rows.{rows_in}
use Rattle.tile_edges.proofs.PutPairs.{seen_gains, seen_total, told_after, told_before, told_gains}
use Rattle.tile_edges.proofs.pairing.Pairs.add.Goals as goal

pub index-requires : goal.index-requires
index-requires c =
    let long = c.requires.kept.long in
    let inside = c.requires.first in
    omega (arith, long, inside)

pub returns-then-index-second-clause-gains : goal.returns-then-index-second-clause-gains
returns-then-index-second-clause-gains c =
    told_gains c.args.first c.args.second (rows_in c.args.self.now)
    (told_before c.args.self.now c.args.first c.args.second c.index.result.now c.requires.kept c.requires.first
    c.index.ensures c.if-index-second.true c.if-first-second.false)

pub returns-clause-gains : goal.returns-clause-gains
returns-clause-gains c =
    seen_gains (λ s. s.keys) c.args.self.now.rows.items c.index_mut.result.now c.put.new.set c.args.first c.args.second
    c.requires.first c.index_mut.ensures.value c.in_ok-more.ensures.keys c.if-first-second.false

pub returns-clause-kept : goal.returns-clause-kept
returns-clause-kept c =
    let total = seen_total (λ s. s.keys) c.args.self.now.rows.items c.index_mut.result.now c.put.new.set c.args.first
    c.in_ok-more.more c.requires.first c.index_mut.ensures.value c.in_ok-more.ensures.count in
    let count = c.requires.kept.count in
    let more = c.in_ok-self.ensures in
    told_after c.args.self.now _ c.args.first c.args.second c.requires.kept c.requires.first c.if-first-second.false
    (seen_gains (λ s. s.keys) c.args.self.now.rows.items c.index_mut.result.now c.put.new.set c.args.first
    c.args.second c.requires.first c.index_mut.ensures.value c.in_ok-more.ensures.keys c.if-first-second.false) refl
    (omega (arith, total, count, more))
