use Rattle.scop_syntax.proofs.Common.{rules, ◌≡◌, ◌∙◌, suc, ◌+◌, get_or, ap, subst, sym, All, arith}
use Rattle.affine_forms.specs.Parts.{variables_of}
use Rattle.plain_scan.specs.declared.outline.Shadow.{Shadow}
use Rattle.plain_scan.specs.declared.set_outline.Outline.{Outline}
use Rattle.plain_scan.specs.Outlines.{IsRowBefore}
use Rattle.plain_scan.specs.Hulls.{HoldsAt, IsAlike}
use Rattle.plain_scan.specs.steps.Weaker.{IsAboveSome}
use Rattle.plain_scan.proofs.HullRows.{next_at}
use Rattle.plain_scan.proofs.WeakerRows.{weaker_holds, following_holds}
use Rattle.plain_scan.proofs.widest.widest.Goals as goal

pub loop-outline-preserved : goal.loop-outline-preserved
loop-outline-preserved c =
    let depth = c.args.depth in
    let place = c.args.place in
    let os = c.args.outlines.now in
    let o = c.outline-item.result in
    let i = c.loop-outline.outline-index in
    let wide = c.loop-outline.wide in
    let f = c.in-Some.form in
    let inv = c.loop-outline.invariant in
    let rows = c.as_slice.result.now in
    let there = c.loop-outline-test.true in
    let up : IsAboveSome (suc place) wide rows f = search rules in
    let alike : IsAlike depth (variables_of c.args.row.now) o =
    subst (IsAlike depth (variables_of c.args.row.now)) (sym c.outline-item.is) (c.requires.alike i o there) in
    let dims = subst (λ (q : Outline). q.set.now.system.dimensions ≡ place + suc depth) (sym c.outline-item.is)
    (c.requires.place i o there) in
    let own = subst (All (IsRowBefore depth o.set.now))
    (sym (c.as_slice.ensures.value ∙ ap (λ (h : Shadow). h.rows.items) c.index.ensures))
    (o.are.each depth _ alike.inside).rows in
    record {
      sized = up.sized ∙ inv.sized;
      small = up.small;
      holds = next_at (HoldsAt depth f) os i o c.outline-item.is there
          (λ k d l. weaker_holds depth place (get_or os k d) wide f
          (c.requires.place k d (omega (arith, l, there))) up.first (inv.holds k d l))
          (following_holds depth place o rows f dims own up.second);
    }

pub returns : goal.returns
returns c =
    let past = c.loop-outline-test.false in
    let inv = c.loop-outline.invariant in
    record {
      sized = inv.sized;
      small = inv.small;
      holds = λ k d inside. inv.holds k d (omega (arith, inside, past));
    }
