use Rattle.std.proofs.Common.{◌∙◌, sym}
use Rattle.wave_barrier.proofs.Counters.{left_has}
use Rattle.wave_barrier.proofs.Releases.{releasing_word}
use Rattle.wave_barrier.proofs.releasing.release.Goals as goal

pub counter_word-requires-clause-edges : goal.counter_word-requires-clause-edges
counter_word-requires-clause-edges c =
    let r = c.in-Some.ensures in left_has c.args.words.now.plan r.tile r.count r.done r.left

pub counter_word-requires-clause-tile : goal.counter_word-requires-clause-tile
counter_word-requires-clause-tile c = c.in-Some.ensures.next

pub add_to-requires-clause-word : goal.add_to-requires-clause-word
add_to-requires-clause-word c =
    releasing_word c.args.words.now c.args.pass.now.worker.stage c.in-Some.next c.in-Some.ensures
    ∙ sym c.counter_word.ensures.word
