use Rattle.scop_syntax.proofs.Common.{◌≡◌, subst, refl, rules, ap, ◌∙◌, length, slice_get, instance_of}
use Rattle.expansions.specs.steps.Listing.{AreTurns}
use Rattle.expansions.proofs.ListedEntries.{listed_more, listed_same}
use Rattle.expansions.proofs.listing.list.Goals as goal

pub returns-in_ok-put-in-Some-clause-listed : goal.returns-in_ok-put-in-Some-clause-listed
returns-in_ok-put-in-Some-clause-listed c walk at are =
    let x = instance_of c.args.instance.now in
    let own : c.turns.result.now ≡ x.turns = search rules in
    listed_more walk x c.reach.new.lists.items c.index_mut.result.now c.put.new.listed c.in-Some.entry
    c.args.instance.now.statement refl c.in_ok-reach-in-Some.ensures.room c.index_mut.ensures.value c.in_ok-put-in-Some.ensures
    (ap (λ k. slice_get walk k) c.in-Some.ensures.place ∙ at)
    (subst (λ ts. AreTurns (length ts) ts c.in-Some.entry.turns) own c.in-Some.ensures.turns)
    (listed_same walk c.args.lists.now.items c.reach.new.lists.items c.in_ok-reach-in-Some.ensures.same are)
