use Rattle.wave_barrier.proofs.Releases.{left_there, releases, stage_after}
use Rattle.wave_barrier.proofs.releasing.add_to.Goals as goal

pub fetch_add-requires : goal.fetch_add-requires
fetch_add-requires c = (
  c.requires.pass.table,
  c.requires.inside,
  releases c.args.words.now c.args.pass.now c.requires.pass c.requires.left c.events_are_allowed.ensures.add c.args.word
      c.requires.word,
)

pub pass_release-requires-clause-left : goal.pass_release-requires-clause-left
pass_release-requires-clause-left c =
    left_there c.args.words.now.plan c.args.pass.now.worker.stage c.requires.left

pub returns-clause-stage : goal.returns-clause-stage
returns-clause-stage c =
    stage_after c.args.words.now.plan c.args.pass.now.worker.stage c.pass_release.new.self.stage c.requires.left
    c.pass_release.ensures.stage
