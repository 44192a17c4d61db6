use Rattle.scop_syntax.proofs.Common.{◌∙◌, refl, ap, ap₂, subst, sym, pos}
use Rattle.integer_sets.specs.Constraints.{Constraints}
use Rattle.integer_sets.specs.Scanned.{scanned}
use Rattle.loop_tree.specs.TilingView.{items_of}
use Rattle.tile_skew.specs.ScanSets.{layout_of, points_of}
use Rattle.tile_skew.specs.declared.layout.Layout.{Layout}
use Rattle.tile_skew.specs.steps.Sizes.{FitItems}
use Rattle.tile_skew.proofs.statement_sets.scan_set.Goals as goal

pub invariant_of-scattering : goal.invariant_of-scattering
invariant_of-scattering c =
    let is = c.in-Some.ensures.layout c.in-Some.layout refl in
    let same = ap (λ (l : Layout). l.turns) is in
    record {
      tiles = c.requires.size;
      front = ap (λ (l : Layout). l.front) is;
      turns = same;
      parameters = ap (λ (l : Layout). l.parameters) is;
      fits = c.in-Some.ensures.fits c.in-Some.layout refl;
      small = subst (λ n. FitItems n (items_of c.args.items.now)) (sym same) c.requires.fit;
    }

pub returns : goal.returns
returns c =
    let s = c.args.statement.now in
    let items = items_of c.args.items.now in
    let place = c.parallel_place-parallel.result in
    let there = layout_of c.args.most s items in
    let layout = c.in-Some.layout in
    let points : Layout → Constraints = λ l. points_of l (pos c.args.size) s items in
    c.of.ensures
    ∙ (ap (λ z. scanned c.number.result place layout.front layout.turns z) c.in_ok-points.ensures
    ∙ (ap (λ (l : Layout). scanned c.number.result place l.front l.turns (points l))
    (c.in-Some.ensures.layout layout refl)
    ∙ ap₂ (λ n p. scanned n p there.front there.turns (points there)) c.number.ensures
    c.parallel_place-parallel.ensures))
