use Rattle.scop_syntax.proofs.Common.{arith, ◌≤◌, ◌∷◌, [], length, length-append, ap, ◌∙◌, sym, refl, ℕ}
use Rattle.tile_events.specs.Sound.{total}
use Rattle.tile_core.specs.declared.words.Pass.{Pass}
use Rattle.array_words.specs.Closing.{IsResting, one_if_ended, stage_in, stage_after}
use Rattle.tile_core.specs.Passes.{IsPass}
use Rattle.array_words.proofs.Joins.{total_last}
use Rattle.array_words.proofs.Members.{last_of, front_of}
use Rattle.array_words.proofs.gathering.gather.Goals as goal

abbrev one : Pass → ℕ
one p = one_if_ended (stage_in p)

pub first-seat-requires-clause-pass : goal.first-seat-requires-clause-pass
first-seat-requires-clause-pass c = last_of (IsPass c.args.words.now) c.pop.new.self.items c.args.passes.items
    c.in-Some.pass c.requires.passes c.in-Some.ensures.items

pub first-seat-requires-clause-rest : goal.first-seat-requires-clause-rest
first-seat-requires-clause-rest c = last_of IsResting c.pop.new.self.items c.args.passes.items c.in-Some.pass
    c.requires.rest c.in-Some.ensures.items

pub loop-pass-init : goal.loop-pass-init
loop-pass-init c =
    let items = c.in-Some.ensures.items in
    let s = c.first-seat.ensures.seat in
    let n = c.first-seat.ensures.ended in
    let p = s.parts in
    let l = ap length items in
    let m = length-append c.pop.new.self.items (c.in-Some.pass ∷ []) in
    let t = ap (total one) items in
    let u = total_last one c.pop.new.self.items c.in-Some.pass in record {
      seat = (let e = c.first-seat.ensures.ended in
          let f : c.first-seat.result.1 ≤ c.first-seat.result.0.me.0.parts
          = (let h = s.few in omega (arith, h, e, p)) in
          record {
            of = s.of;
            table = s.table;
            slots = s.slots;
            parts = refl;
            stage = s.stage ∙ ap stage_after (sym e);
            few = f;
          });
      passes = front_of (IsPass c.args.words.now) c.pop.new.self.items c.args.passes.items c.in-Some.pass
          c.requires.passes items;
      rest = front_of IsResting c.pop.new.self.items c.args.passes.items c.in-Some.pass c.requires.rest items;
      count = omega (arith, p, l, m);
      sum = omega (arith, n, t, u);
    }

pub take_in-ended-requires-clause-pass : goal.take_in-ended-requires-clause-pass
take_in-ended-requires-clause-pass c =
    last_of (IsPass c.args.words.now) c.pop-in-loop-pass.new.self.items c.loop-pass.passes.items c.in-Some-pop.pass
    c.loop-pass.invariant.passes c.in-Some-pop.ensures.items

pub take_in-ended-requires-clause-rest : goal.take_in-ended-requires-clause-rest
take_in-ended-requires-clause-rest c =
    last_of IsResting c.pop-in-loop-pass.new.self.items c.loop-pass.passes.items c.in-Some-pop.pass
    c.loop-pass.invariant.rest c.in-Some-pop.ensures.items

pub loop-pass-preserved : goal.loop-pass-preserved
loop-pass-preserved c =
    let i = c.loop-pass.invariant in
    let items = c.in-Some-pop.ensures.items in
    let s = c.take_in-ended.ensures.seat in
    let n = c.take_in-ended.ensures.ended in
    let p = s.parts in
    let count = i.count in
    let sum = i.sum in
    let l = ap length items in
    let m = length-append c.pop-in-loop-pass.new.self.items (c.in-Some-pop.pass ∷ []) in
    let t = ap (total one) items in
    let u = total_last one c.pop-in-loop-pass.new.self.items c.in-Some-pop.pass in record {
      seat = (let f : c.take_in-ended.result ≤ c.take_in-ended.new.seat.me.0.parts
          = (let h = s.few in omega (arith, h, n, p)) in
          record {
            of = s.of;
            table = s.table;
            slots = s.slots;
            parts = refl;
            stage = s.stage ∙ ap stage_after (sym n);
            few = f;
          });
      passes = front_of (IsPass c.args.words.now) c.pop-in-loop-pass.new.self.items c.loop-pass.passes.items
          c.in-Some-pop.pass i.passes items;
      rest = front_of IsResting c.pop-in-loop-pass.new.self.items c.loop-pass.passes.items c.in-Some-pop.pass i.rest
          items;
      count = omega (arith, p, count, l, m);
      sum = omega (arith, n, sum, t, u);
    }
