use Rattle.scop_syntax.proofs.Common.{rules, ◌≡◌, refl, subst, sym, option_copied, MatchOption}
use Rattle.tile_events.specs.Sound.{Holds}
use Rattle.tile_core.specs.Passes.{HasNoneNext, IsNextIn}
use Rattle.tile_core.specs.Workers.{staged}
use Rattle.tile_core.proofs.Passes.{first_next, next_due}
use Rattle.tile_core.proofs.words.Pass.instance.Goals as goal

pub tile-requires : goal.tile-requires
tile-requires c =
    let w = c.args.self.now.worker in
    c.requires.pass.worker.tile c.in-Holding.tile
    (subst (λ s. Holds (staged s w.reads.items) c.in-Holding.tile) (sym c.in-Holding.is) refl)

pub returns-in-Holding : goal.returns-in-Holding
returns-in-Holding c =
    first_next c.tiles_stand_one_behind_another.ensures.at c.args.words.now.plan c.args.self.now.worker.stage
    c.in-Holding.tile c.tile.result.now c.requires.pass.of.planned c.tile.ensures c.in-Holding.is

pub returns-in-Working : goal.returns-in-Working
returns-in-Working c =
    let plan = c.args.words.now.plan in
    let stage = c.args.self.now.worker.stage in
    let same : option_copied c.due.result ≡ c.copied.result = search rules in
    subst (λ o. MatchOption o (HasNoneNext plan stage) (IsNextIn plan stage)) same
    (next_due plan stage c.in-Working.field-0 c.in-Working.field-1 c.due.result c.in-Working.is c.due.ensures.due)
