use Rattle.scop_syntax.proofs.Common.{◌≡◌, ◌∙◌, ap, subst, sym, List, [], ◌∷◌, ◌++◌, length, map, arith, slice_get}
use Rattle.scop_syntax.proofs.Common.{length_push, Affine, standing_of}
use Rattle.tile_table.specs.Tables.{Tells, touched}
use Rattle.tile_table.proofs.Accesses.{touched_access}
use Rattle.tile_table.proofs.Pairs.{ArePaired, paired_more}
use Rattle.tile_table.proofs.table.forms_of.Goals as goal

pub form_of-requires-clause-array : goal.form_of-requires-clause-array
form_of-requires-clause-array c =
    let access = c.touched_at-access.result.now in
    let own = touched_access c.args.adds (standing_of c.args.statement.now).body c.loop-at.at access
    c.touched_at-access.ensures in
    c.requires.arrays own.0 access own.1

pub loop-at-preserved : goal.loop-at-preserved
loop-at-preserved c =
    let s = standing_of c.args.statement.now in
    let own = touched c.args.adds s.body in
    let forms : List Affine = c.loop-at.forms.items in
    let access = c.touched_at-access.result.now in
    let form = c.in_ok-form_of.field-0 in
    let pushed : c.push.new.self.items ≡ forms ++ form ∷ [] = c.in_ok-push.ensures.items in
    let long = ap (λ (l : List Affine). length l) pushed in
    let grown = length_push forms form in
    let count = c.loop-at.invariant.count in
    let there = ap (slice_get own) count ∙ c.touched_at-access.ensures in
    let told : Tells c.args.extents.now c.args.params.now s.heads access form =
    subst (λ hs. Tells c.args.extents.now c.args.params.now (map (λ h. h.now) hs) access form) c.deref.ensures.value
    c.in_ok-form_of.ensures in
    record {
      count = omega (arith, long, grown, count);
      each = subst (ArePaired (Tells c.args.extents.now c.args.params.now s.heads) own) (sym pushed)
          (paired_more (Tells c.args.extents.now c.args.params.now s.heads) own forms access form
          c.loop-at.invariant.each there told);
    }
