use Rattle.scop_syntax.proofs.Common.{rules}
use Rattle.array_words.proofs.OpeningState.{split_allowed}
use Rattle.array_words.proofs.opening_state.split.Goals as goal

pub split_seat-requires : goal.split_seat-requires
split_seat-requires c =
    let rest = c.requires.rest in (
      rest.table,
      search rules,
      split_allowed c.seats_are_allowed.ensures.split c.args.words.now.table.shared.key c.args.rest.now.id
          c.args.rest.now.me.0
          rest.stage rest.reads (search rules),
    )
