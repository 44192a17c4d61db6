use Rattle.scop_syntax.proofs.Common.{◌≡◌, ◌∙◌, ◌<◌, Some, [], List, ℕ, length, subst, sym, slice_get}
use Rattle.tile_core.proofs.Successors.{needs_alone}
use Rattle.tile_core.proofs.Tiles.{offset_is, offset_there}
use Rattle.tile_core.proofs.plan.Plan.needs.Goals as goal

pub number_at-requires : goal.number_at-requires
number_at-requires c =
    subst (λ (xs : List ℕ). c.tile.result.now.wave < length xs) (sym c.deref.ensures.value)
    (offset_there c.args.self.now c.args.tile c.tile.result.now c.requires.plan c.tile.ensures)

pub returns-in-None : goal.returns-in-None
returns-in-None c =
    offset_is c.args.self.now [] c.args.tile c.number_at.result c.tile.result.now c.requires.plan
    (c.walks_are_dealt.ensures.dealt c.args.self.now [] c.requires.plan) c.tile.ensures
    (subst (λ (xs : List ℕ). slice_get xs c.tile.result.now.wave ≡ Some c.number_at.result) c.deref.ensures.value
    c.number_at.ensures)
    ∙ needs_alone c.args.self.now c.in-None.is c.args.tile
