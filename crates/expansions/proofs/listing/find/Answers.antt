use Rattle.scop_syntax.proofs.Common.{◌≡◌, ◌<◌, arith, length, rules, subst, sym, IfSome, instance_of}
use Rattle.expansions.specs.steps.Listing.{IsPlaceIn, entries_in}
use Rattle.expansions.proofs.ListedEntries.{entries_own, entries_same}
use Rattle.expansions.proofs.listing.find.Goals as goal

pub returns-clause-found : goal.returns-clause-found
returns-clause-found c =
    let x = instance_of c.args.instance.now in
    let lists = c.args.lists.now.items in
    let inside : x.number < length lists = omega arith in
    let own : c.turns.result.now ≡ x.turns = search rules in
    subst (λ ts. IfSome c.find.result (IsPlaceIn (entries_in lists x.number) ts)) own
    (subst (λ es. IfSome c.find.result (IsPlaceIn es c.turns.result.now))
    (sym (entries_own lists x.number c.index_mut.result.now inside c.index_mut.ensures.value)) c.find.ensures.found)

pub returns-clause-same : goal.returns-clause-same
returns-clause-same c s =
    entries_same c.args.lists.now.items c.args.instance.now.statement c.index_mut.result.now c.find.new.self (omega arith)
    c.index_mut.ensures.value c.find.ensures.same s
