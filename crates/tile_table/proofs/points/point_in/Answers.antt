use Rattle.scop_syntax.proofs.Common.{◌≡◌, ap, refl, subst, sym, ◌+◌, ◌<◌, List, [], ◌∷◌, ◌++◌, length, map, drop}
use Rattle.scop_syntax.proofs.Common.{get_or, rules, ◌∙◌, arith, length-append, ℤ, pos, ◌+ℤ◌, ◌*ℤ◌, FitsSigned, w64}
use Rattle.scop_syntax.proofs.Common.{to_z-of_z, drop_more, get_or-map, length-map, value_of, Head}
use Rattle.std.specs.Int.{int_wrap}
use Rattle.tile_table.specs.Points.{point_in}
use Rattle.tile_table.specs.steps.Same.{AreSame}
use Rattle.tile_table.proofs.LoopPoints.{point_more}
use Rattle.tile_table.proofs.Congruences.{lists_same}
use Rattle.tile_table.proofs.points.point_in.Goals as goal

pub loop-at-init : goal.loop-at-init
loop-at-init c =
    let heads : List Head = map (λ h. h.now) c.args.heads.now in
    let turns = c.args.turns.now in
    let params = c.args.params.now in
    let is = c.point_at-point.ensures in
    let same = ap (λ (p : List ℤ). length p) is in
    record {
      long = omega (arith, same);
      same = subst (λ (p : List ℤ). AreSame (point_in heads p turns) (point_in heads params turns)) (sym is)
          (lists_same (point_in heads params turns));
    }

pub loop-at-preserved : goal.loop-at-preserved
loop-at-preserved c =
    let heads : List Head = map (λ h. h.now) c.args.heads.now in
    let turns = c.args.turns.now in
    let at = c.loop-at.at in
    let point = c.loop-at.point.items in
    let head = c.index-heads-at.result.now in
    let turn = get_or turns at (pos 0) in
    let next = int_wrap w64 (value_of head.first point +ℤ (head.stride *ℤ turn)) in
    let few = c.requires.turns in
    let less : at < length c.args.heads.now = omega (arith, c.loop-at-test.true) in
    let many = length-map c.args.heads.now (λ h. h.now) in
    let within : at < length heads = omega (arith, less, many) in
    let fit : FitsSigned w64 turn = search rules in
    let entered : c.enter_at.new.point.items ≡ point ++ next ∷ [] = simp to_z-of_z at c.enter_at.ensures.wrapped in
    let long = ap (λ (p : List ℤ). length p) entered in
    let grown = length-append point (next ∷ []) in
    let before = c.loop-at.invariant.long in
    let found : head ≡ get_or heads at head =
    sym (get_or-map (λ h. h.now) c.args.heads.now at c.index-heads-at.result head less
    ∙ ap (λ h. h.now) (sym c.index-heads-at.is)) in
    record {
      long = omega (arith, long, grown, before);
      same = subst (λ (p : List ℤ). AreSame (point_in (drop (at + 1) heads) p (drop (at + 1) turns))
          (point_in heads c.args.params.now turns)) (sym entered)
          (point_more heads turns point (point_in heads c.args.params.now turns) at head turn next
          (drop_more heads at head within ∙ ap (λ (h : Head). h ∷ drop (at + 1) heads) (sym found))
          (drop_more turns at (pos 0) (omega (arith, less, few))) refl c.loop-at.invariant.same);
    }
