-- The bytes given are the first of those left.
use Rattle.std.proofs.Common.{rules, refl, ◌≡◌, ◌∙◌, ◌-◌, ◌+◌, ap, length, take, drop, arith, length-drop, take_all}
use Rattle.io_ports.specs.Faults.{next_count}
use Rattle.io_ports.proofs.MemoryReads.{gives_front}
use Rattle.io_ports.proofs.CalmCalls.{source_gave, source_failed}
use Rattle.io_ports.proofs.source_in_memory.MemSourceSource.read.Goals as goal

pub returns-clause-given : goal.returns-clause-given
returns-clause-given c =
    let source = c.self.inside in
    let bytes = source.bytes.items in
    let text = c.deref.result.now in
    let rest = take (length text - source.place) (drop source.place text) in
    let same : rest ≡ drop source.place bytes =
    take_all (length text - source.place) (drop source.place text) (omega (arith, length-drop source.place text))
    ∙ ap (drop source.place) c.deref.ensures.value in
    let calls = c.next_fails.new.self in
    let next = c.next_fails.ensures.calls in
    source_gave _ _
    (record {
      left = drop (source.place + c.min-count.result) bytes;
      step = source.step;
      fails = calls.fails.items;
      calls = calls.made;
      faults = calls.faults;
    })
    _ c.self.view_is (gives_front bytes rest c.put_front.new.buf source.place c.min-count.result same (omega arith)
    c.put_front.ensures)
    (ap (λ k. k.fails.items) next) (ap (λ k. k.made) next) (ap (λ k. k.faults) next)

pub returns-then-next_fails-clause-failed : goal.returns-then-next_fails-clause-failed
returns-then-next_fails-clause-failed c =
    source_failed _ _ _ c.self.view_is refl
    (ap (λ k. k.faults) c.add_fault.ensures ∙ ap (λ k. next_count k.faults) c.next_fails.ensures.calls)
    (search rules) (c.next_fails.ensures.fails.0 c.if-next_fails.true)
