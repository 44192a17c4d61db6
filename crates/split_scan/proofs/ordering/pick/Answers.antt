use Rattle.scop_syntax.proofs.Common.{◌≡◌, ◌+◌, false, rules, All, IsTrue}
use Rattle.affine_forms.specs.Parts.{variables_of}
use Rattle.split_scan.proofs.PartOrder.{all_put_is, picked_in, picked_out}
use Rattle.split_scan.proofs.ordering.pick.Goals as goal

pub returns-clause-sized : goal.returns-clause-sized
returns-clause-sized c =
    let level = c.args.level.now in
    let put = c.in_ok-insert.ensures.at in
    all_put_is (λ p. All (λ f. variables_of f ≡ level.place + 1 + level.parameters) p.cuts.items)
    c.args.parts.now.items c.insert.new.parts.items put.0 c.args.part put.1 c.requires.parts c.requires.part

pub returns-clause-picked : goal.returns-clause-picked
returns-clause-picked c all rest h =
    let level = c.args.level.now in
    let put = c.in_ok-insert.ensures.at in
    let t : IsTrue c.has_set.result = search rules in
    let some = rw c.deref.ensures.value at c.has_set.ensures.some t in
    picked_in level.place (level.place + 1 + level.parameters) level.inside.items all rest c.args.parts.now.items
    c.insert.new.parts.items put.0 some.0 c.args.part put.1 some.1 some.2 h

pub returns-then-not-has_set-clause-picked : goal.returns-then-not-has_set-clause-picked
returns-then-not-has_set-clause-picked c all rest h =
    let level = c.args.level.now in
    let f : c.has_set.result ≡ false = search rules in
    picked_out level.place (level.place + 1 + level.parameters) level.inside.items all rest c.args.parts.now.items
    c.args.part (rw c.deref.ensures.value at c.has_set.ensures.none f) h
