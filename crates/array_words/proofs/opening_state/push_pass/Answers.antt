use Rattle.scop_syntax.proofs.Common.{◌∙◌, ap, subst, sym}
use Rattle.atomic_table.specs.declared.shared.Seat.{Seat}
use Rattle.tile_core.specs.Passes.{IsPass}
use Rattle.tile_core.specs.Workers.{IsWorker}
use Rattle.tile_core.specs.declared.view.View.{View}
use Rattle.tile_core.specs.declared.worker.Worker.{Worker}
use Rattle.array_words.specs.Seats.{IsIdlePass, IsUnmoved}
use Rattle.array_words.proofs.Members.{all_and}
use Rattle.array_words.proofs.opening_state.push_pass.Goals as goal

pub returns-clause-unused : goal.returns-clause-unused
returns-clause-unused c old =
    let w = c.args.words.now in
    let xs = c.args.passes.now.items in
    let ys = c.push.new.self.items in
    let rest = c.requires in
    let seat = c.of.ensures.seat in
    let worker = c.of.ensures.worker in
    let items = c.in_ok-push.ensures.items in
    let stage = ap (λ (v : Worker). v.stage) worker ∙ c.in_ok-worker.ensures.stage in
    let is : IsPass w c.of.result = record {
      of = rest.of;
      table = ap (λ (s : Seat (Unit {0}) View). s.table_id) seat ∙ rest.table;
      key = ap (λ (s : Seat (Unit {0}) View). s.me.0.key) seat ∙ rest.key;
      slots = ap (λ (s : Seat (Unit {0}) View). s.me.1) seat ∙ rest.slots;
      parts = ap (λ (s : Seat (Unit {0}) View). s.me.0.parts) seat ∙ rest.parts;
      stage = ap (λ (s : Seat (Unit {0}) View). s.me.0.stage) seat ∙ (rest.stage ∙ sym stage);
      reads = ap (λ (s : Seat (Unit {0}) View). s.me.0.reads) seat ∙ (rest.reads
          ∙ sym (ap (λ (v : Worker). v.reads.items) worker ∙ c.in_ok-worker.ensures.reads));
      worker = subst (IsWorker w.plan) (sym worker) c.in_ok-worker.ensures.worker;
    } in
    record {
      are = all_and (IsPass w) xs ys c.of.result old.are is items;
      idle = all_and IsIdlePass xs ys c.of.result old.idle stage items;
      unmoved = all_and IsUnmoved xs ys c.of.result old.unmoved
          (ap (λ (s : Seat (Unit {0}) View). s.me.0.clock.steps) seat ∙ rest.unmoved) items;
    }
