-- The flush changes nothing but the number of calls.
use Rattle.std.proofs.Common.{rules, ◌∙◌, sym, inl, ap, refl, append-nil, []}
use Rattle.io_ports.specs.Faults.{next_count}
use Rattle.io_ports.proofs.CalmCalls.{sink_took, sink_failed}
use Rattle.io_ports.proofs.sink_in_memory.MemSinkSink.flush.Goals as goal

pub returns-clause-done : goal.returns-clause-done
returns-clause-done c =
    let sink = c.self.inside in
    let calls = c.next_fails.new.self in
    let next = c.next_fails.ensures.calls in
    sink_took _ _
    (record {
      taken = sink.bytes.items;
      capacity = sink.capacity;
      step = sink.step;
      fails = calls.fails.items;
      calls = calls.made;
      faults = calls.faults;
    })
    _ c.self.view_is (sym (append-nil _)) refl (ap (λ k. k.fails.items) next) (ap (λ k. k.made) next)
    (ap (λ k. k.faults) next)

pub returns-then-next_fails-clause-failed : goal.returns-then-next_fails-clause-failed
returns-then-next_fails-clause-failed c =
    sink_failed _ _ _ [] c.self.view_is refl
    (ap (λ k. k.faults) c.add_fault.ensures ∙ ap (λ k. next_count k.faults) c.next_fails.ensures.calls)
    (search rules) (inl (c.next_fails.ensures.fails.0 c.if-next_fails.true))
