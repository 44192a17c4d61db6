-- Both passes are of the words, and idle.
use Rattle.array_words.proofs.Members.{front_of, last_of}
use Rattle.array_words.specs.Seats.{IsIdlePass}
use Rattle.tile_core.specs.Passes.{IsPass}
use Rattle.test_calls.proofs.steps.steps_on_the_words.Goals as goal

pub step_by_passes-requires : goal.step_by_passes-requires
step_by_passes-requires c =
    let words = c.in_ok-words.words in
    let items = c.in_ok-words.passes.items in
    let rest = c.pop.new.self.items in
    let left = c.pop-2.new.self.items in
    let passes = c.in_ok-words.ensures.passes in
    let idle = c.in_ok-words.ensures.idle in
    let last = c.in-Some.ensures.items in
    let next = c.in-Some-pop.ensures.items in record {
      first = last_of (IsPass words) left rest c.in-Some-pop.first
          (front_of (IsPass words) rest items c.in-Some.second passes last) next;
      second = last_of (IsPass words) rest items c.in-Some.second passes last;
      idle = last_of IsIdlePass left rest c.in-Some-pop.first
          (front_of IsIdlePass rest items c.in-Some.second idle last) next;
      rests = last_of IsIdlePass rest items c.in-Some.second idle last;
    }
