use Rattle.scop_syntax.proofs.Common.{rules, ◌≡◌, ◌∙◌, ap, sym, pos, to_z, of_z, FitsSigned, w128, to_z-of_z}
use Rattle.tile_list.specs.steps.Keys.{carried}
use Rattle.tile_list.proofs.TellingKeys.{carried_is}
use Rattle.tile_list.proofs.keys.Key.is_at.Goals as goal

pub returns-then-self-carried_sum-clause-other : goal.returns-then-self-carried_sum-clause-other
returns-then-self-carried_sum-clause-other c false is =
    let rows = c.args.band.now in
    let sums = c.carried_sum.ensures
    ∙ (ap (carried rows) (c.deref-3.ensures.value ∙ is.tile) ∙ carried_is (pos c.args.size) rows c.args.turns.now) in
    c.if-self-carried_sum.true (ap (of_z w128) (is.sum ∙ sym sums))

pub returns-clause-same : goal.returns-clause-same
returns-clause-same c true =
    let rows = c.args.band.now in
    let sum = c.args.self.now.sum in
    let found = c.carried_sum.result in
    let fits : FitsSigned w128 sum = search rules in
    let fit : FitsSigned w128 found = search rules in
    let same : sum ≡ found = sym (to_z-of_z w128 sum fits)
    ∙ (ap (to_z w128) c.if-self-carried_sum.false ∙ to_z-of_z w128 found fit) in
    let tile = sym c.deref-2.ensures.value ∙ c.are_within.ensures.within c.if-not-are_within.false in
    record {
      leading = sym c.deref.ensures.value ∙ c.are_same.ensures.0 c.if-not-are_same.false;
      sum = same
          ∙ (c.carried_sum.ensures
          ∙ (ap (carried rows) (c.deref-3.ensures.value ∙ tile) ∙ carried_is (pos c.args.size) rows c.args.turns.now));
      tile = tile;
    }
