use Rattle.scop_syntax.proofs.Common.{◌≡◌, ◌∙◌, sym, subst, arith, refl, length, Some, slice_get, slice_get_read}
use Rattle.scop_syntax.proofs.Common.{slice_get_within, Affine}
use Rattle.tile_table.specs.Lanes.{IsLane}
use Rattle.tile_table.proofs.Lanes.{lane_more}
use Rattle.tile_table.proofs.lane.lay_all.Goals as goal

pub loop-at-preserved : goal.loop-at-preserved
loop-at-preserved c =
    let forms = c.args.forms.now in
    let steps = c.args.steps.now in
    let turns = c.args.turns.now in
    let at = c.loop-at.at in
    let form = c.index-forms-at.result in
    let here : slice_get forms at ≡ Some form =
    slice_get_read forms (length forms) at form refl c.loop-at-test.true c.index-forms-at.is in
    lane_more forms steps turns c.loop-at.lanes at c.of.result
    (λ other told.
    let both : Some form ≡ Some other = sym here ∙ told in
    let same : form ≡ other = cc in
    subst (λ (f : Affine). IsLane f steps turns c.of.result) same c.of.ensures) c.loop-at.invariant

pub returns : goal.returns
returns c =
    let ended = c.loop-at-test.false in
    record {
      each = λ a form lane told at.
          let within = slice_get_within c.args.forms.now a form told in
          c.loop-at.invariant a form lane (omega (arith, ended, within)) told at;
    }
