-- The digits end the buffer, and the space before them is left of its first filling.
use Rattle.scop_syntax.proofs.Common.{rules, ◌≡◌, ◌∙◌, ◌-◌, ◌≤◌, ap, length, append-nil, drop, decimal, subst, arith}
use Rattle.scop_syntax.proofs.Common.{replicate, get_or-replicate}
use Rattle.std.proofs.Common.{length-drop, take_all}
use Rattle.std.proofs.lemmas.Fmt.{length-decimal-le}
use Rattle.io_ports.specs.Writes.{Puts}
use Rattle.data_text.proofs.ArrayTextLemmas.{space_and_digits}
use Rattle.data_text.proofs.array_text.put_cell.Goals as goal

pub write_digits-start-requires : goal.write_digits-start-requires
write_digits-start-requires g c = search (rules, length-decimal-le 20)

pub overflow_sub-start : goal.overflow_sub-start
overflow_sub-start g c = let short : length (decimal c.args.cell) ≤ 20 = search (rules, length-decimal-le 20) in
    omega (arith, short, c.write_digits-start.ensures.start)

pub returns : goal.returns
returns g c =
    let start = c.write_digits-start.result in
    let buffer = c.write_digits-start.new.buf in
    let wrote = c.write_digits-start.ensures in
    let short : length (decimal c.args.cell) ≤ 20 = search (rules, length-decimal-le 20) in
    let long : length buffer ≡ 21 =
    omega (
      arith,
      short,
      wrote.start,
      length-drop start buffer,
      ap length
          (wrote.written ∙ append-nil (decimal c.args.cell)),
    ) in
    let cell = space_and_digits buffer (replicate 21 32) (decimal c.args.cell) start
    (omega (arith, short, wrote.start)) (omega (arith, short, wrote.start)) long wrote.written wrote.before
    (get_or-replicate 21 (start - 1) 32 0 (omega (arith, short, wrote.start))) in
    subst (λ text. Puts (g.K.Sink.shows c.args.sink.now) c.args.pieces.now
    (g.K.Sink.shows c.put.new.sink) c.put.new.self text c.put.result)
    (take_all (21 - (start - 1)) (drop (start - 1) buffer)
    (omega (arith, length-drop (start - 1) buffer, long)) ∙ cell) c.put.ensures
