-- The write changes nothing but the bytes taken and the number of calls.
use Rattle.std.proofs.Common.{rules, ◌∙◌, ap, refl, ◌⊎◌, Contains}
use Rattle.io_ports.specs.Faults.{next_count}
use Rattle.io_ports.specs.Memory.{SinkState, IsFull}
use Rattle.io_ports.proofs.CalmCalls.{sink_took, sink_failed}
use Rattle.io_ports.proofs.sink_in_memory.MemSinkSink.write.Goals as goal

pub returns-clause-taken : goal.returns-clause-taken
returns-clause-taken c =
    let sink = c.self.inside in
    let calls = c.next_fails.new.self in
    let next = c.next_fails.ensures.calls in
    sink_took _ _
    (record {
      taken = c.extend_from_slice.new.self.items;
      capacity = sink.capacity;
      step = sink.step;
      fails = calls.fails.items;
      calls = calls.made;
      faults = calls.faults;
    })
    _ c.self.view_is c.in-Ok.ensures.items refl (ap (λ k. k.fails.items) next) (ap (λ k. k.made) next)
    (ap (λ k. k.faults) next)

pub returns-then-next_fails-clause-failed : goal.returns-then-next_fails-clause-failed
returns-then-next_fails-clause-failed c =
    let calls = c.self.inside.calls in
    let view : SinkState = record {
      taken = c.self.inside.bytes.items;
      capacity = c.self.inside.capacity;
      step = c.self.inside.step;
      fails = calls.fails.items;
      calls = calls.made;
      faults = calls.faults;
    } in
    let cause : Contains calls.fails.items (next_count calls.made) ⊎ IsFull view c.args.piece.now = search rules in
    sink_failed view _ _ c.args.piece.now c.self.view_is refl
    (ap (λ k. k.faults) c.add_fault.ensures ∙ ap (λ k. next_count k.faults) c.next_fails.ensures.calls)
    (search rules) cause
