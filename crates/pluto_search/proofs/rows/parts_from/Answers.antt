use Rattle.scop_syntax.proofs.Common.{◌<◌, ◌+◌, ◌++◌, ◌∙◌, ℕ, List, ap, append-nil, arith, drop_all, get_or, length}
use Rattle.scop_syntax.proofs.Common.{length-drop, sym}
use Rattle.pluto_systems.specs.Placing.{parts_from}
use Rattle.pluto_search.specs.steps.StepParts.{parts_of}
use Rattle.pluto_search.proofs.ReadParts.{columns_ahead, part_more}
use Rattle.pluto_search.proofs.rows.parts_from.Goals as goal

pub part_from-requires : goal.part_from-requires
part_from-requires c =
    let inside : c.loop-s.s < length c.args.loops.now = omega arith in
    let ahead = columns_ahead c.args.loops.now c.loop-s.s inside in
    let left = c.loop-s.invariant.left in
    omega (arith, ahead, left)

pub split_at-requires : goal.split_at-requires
split_at-requires c =
    let inside : c.loop-s.s < length c.args.loops.now = omega arith in
    let ahead = columns_ahead c.args.loops.now c.loop-s.s inside in
    let left = c.loop-s.invariant.left in
    omega (arith, ahead, left)

pub loop-s-preserved : goal.loop-s-preserved
loop-s-preserved c =
    let loops = c.args.loops.now in
    let s = c.loop-s.s in
    let rest = c.loop-s.rest.now in
    let inside : s < length loops = omega arith in
    let ahead = columns_ahead loops s inside in
    let left = c.loop-s.invariant.left in
    let back = c.split_at.ensures.back in
    let long = ap length back ∙ length-drop (get_or loops s 0 + 1) rest in
    record {
      parts = part_more loops s inside c.loop-s.parts.items c.push.new.self.items c.in_ok-part.part rest _ _
          c.in_ok-push.ensures.items c.in_ok-part.ensures.coefficients c.in_ok-part.ensures.shift
          back c.loop-s.invariant.parts;
      left = omega (arith, ahead, left, long);
    }

pub returns : goal.returns
returns c =
    let parts = parts_of c.loop-s.parts.items in
    let none = drop_all c.loop-s.s c.args.loops.now (omega arith) in
    sym (append-nil parts) ∙ (ap (λ (ls : List ℕ). parts ++ parts_from ls c.loop-s.rest.now) (sym none)
    ∙ c.loop-s.invariant.parts)
