use Rattle.scop_syntax.proofs.Common.{rules, ◌≡◌, ◌∙◌, ◌+◌, ◌<◌, ◌++◌, ◌∷◌, [], pos, subst, sym, arith}
use Rattle.plain_scan.specs.Between.{HasSmallNumbers}
use Rattle.plain_scan.proofs.CodeBounds.{turns_next}
use Rattle.plain_scan.proofs.Smallness.{place_has_small}
use Rattle.plain_scan.proofs.bounds.turns.Goals as goal

pub aff_of-requires : goal.aff_of-requires
aff_of-requires c =
    subst HasSmallNumbers (sym c.in_ok-form.ensures)
    (place_has_small (c.dimensions.result + c.parameters.result) (c.first-first.result + c.loop-turn.turn) (pos 1)
    (pos 0) (omega arith) (omega arith))

pub loop-turn-preserved : goal.loop-turn-preserved
loop-turn-preserved c =
    let n = c.dimensions.result + c.parameters.result in
    let out = c.loop-turn.out.items in
    let aff = c.in_ok-aff.aff in
    let pushed : c.push.new.self.items ≡ out ++ aff ∷ [] = search rules in
    let less = subst (λ k. c.loop-turn.turn < k) c.iterators-turn-end.ensures.iterators c.loop-turn-test.true in
    turns_next n c.first-first.result c.args.set.now.iterators c.loop-turn.turn out c.push.new.self.items _ aff less
    c.loop-turn.invariant pushed (c.in_ok-aff.ensures ∙ c.in_ok-form.ensures)
