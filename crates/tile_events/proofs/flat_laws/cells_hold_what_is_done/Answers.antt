use Rattle.tile_events.proofs.DonePlaces.{holds_at_first, holds_the_last}
use Rattle.tile_events.proofs.flat_laws.cells_hold_what_is_done.Goals as goal

pub returns-clause-last : goal.returns-clause-last
returns-clause-last c extents contents marked visits p done walk marks shape inside d i v is plain last =
    holds_the_last extents contents marked visits p done (c.cells_have_numbers_of_their_own.ensures.apart extents)
    walk inside d is marks shape plain i v last

pub returns-clause-first : goal.returns-clause-first
returns-clause-first c extents contents marked visits p done walk inside d is none =
    holds_at_first extents contents marked visits p done (c.cells_have_numbers_of_their_own.ensures.apart extents)
    walk inside d is none
