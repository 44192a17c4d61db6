use Rattle.std.proofs.Common.{rules}
use Rattle.tile_claims.proofs.Passes.{claims}
use Rattle.tile_claims.proofs.claims.claim.Goals as goal

pub fetch_add-fetched-requires : goal.fetch_add-fetched-requires
fetch_add-fetched-requires c = (
  c.requires.pass.table,
  search rules,
  claims c.events_are_allowed.ensures.claim c.args.words.now c.args.pass.now c.requires.pass c.requires.idle,
)
