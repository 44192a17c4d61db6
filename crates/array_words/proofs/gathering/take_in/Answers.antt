use Rattle.scop_syntax.proofs.Common.{rules, sym, subst}
use Rattle.array_words.specs.Closing.{Rests}
use Rattle.array_words.proofs.Joins.{gathered, join_allowed, rests_after}
use Rattle.array_words.proofs.gathering.take_in.Goals as goal

pub join_seat-requires : goal.join_seat-requires
join_seat-requires c = (
  c.requires.seat.table,
  c.requires.pass.table,
  c.requires.pass.slots,
  search rules,
  join_allowed c.seats_are_allowed.ensures.join c.args.words.now.table.shared.key c.args.seat.now.id
      c.args.seat.now.me.0 c.args.pass.seat.id c.args.pass.seat.me.0
      (subst Rests (sym c.requires.seat.stage) (rests_after c.args.ended))
      (subst Rests (sym c.requires.pass.stage) c.requires.rest),
)

pub returns-clause-seat : goal.returns-clause-seat
returns-clause-seat c =
    gathered c.args.words.now c.args.seat.now c.args.pass.seat c.join_seat.new.seat c.args.ended c.args.pass.worker.stage
    c.requires.seat c.requires.pass.stage c.requires.pass.parts c.requires.rest c.join_seat.ensures.0
    c.join_seat.ensures.2
