use Rattle.scop_syntax.proofs.Common.{◌≡◌, arith, length, rules}
use Rattle.std.specs.Vec.{vec_len}
use Rattle.expansions.proofs.ListedEntries.{index_within, place_in}
use Rattle.expansions.proofs.listing.Listed.find.Goals as goal

pub index-requires : goal.index-requires
index-requires c =
    let entries = c.args.self.now.entries in
    let long : vec_len entries ≡ length entries.items = search rules in
    let inside = index_within entries.items c.args.turns.now c.in-Some.index c.in-Some.ensures in
    omega (arith, inside, long)

pub returns-in-Some-clause-found : goal.returns-in-Some-clause-found
returns-in-Some-clause-found c =
    place_in c.args.self.now.entries.items c.args.turns.now c.in-Some.index c.index.result.now c.in-Some.ensures
    c.index.ensures
