use Rattle.scop_syntax.proofs.Common.{◌<◌, ◌∷◌, ◌∙◌, [], ℕ, ap, arith, get_or, get_or_same, length, map, map-append}
use Rattle.scop_syntax.proofs.Common.{map_more}
use Rattle.null_space.specs.Narrowing.{kernel_vectors}
use Rattle.pluto_search.proofs.GoodStates.{shown}
use Rattle.pluto_search.proofs.begin.first_vectors.Goals as goal

pub loop-at-preserved : goal.loop-at-preserved
loop-at-preserved c =
    let loops = c.args.search.now.loops.now in
    let i = c.loop-at.at in
    let own = c.in_ok-units.units in
    let old = c.loop-at.vectors.items in
    let inside : i < length loops = omega arith in
    map_more (λ (l : ℕ). kernel_vectors l []) loops i (get_or loops i 0) (shown own) (map shown old)
    (map shown c.push.new.self.items) _ inside (get_or_same loops i 0 (get_or loops i 0) inside)
    c.in_ok-units.ensures.narrowed
    (ap (map shown) c.in_ok-push.ensures.items ∙ map-append shown old (own ∷ [])) c.loop-at.invariant
