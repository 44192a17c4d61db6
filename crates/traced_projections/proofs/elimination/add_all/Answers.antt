use Rattle.whole_numbers.proofs.Common.{rules, [], refl, subst, sym, map, Ok, Err, Option, Some, None, Affine}
use Rattle.traced_projections.specs.declared.rows.Sign.TheVariants.{Zero}
use Rattle.traced_projections.specs.Tracing.{signed}
use Rattle.traced_projections.specs.Eliminating.{Adds, single, sources_by, sources_with}
use Rattle.traced_projections.proofs.Additions.{adds_more, adds_stop}
use Rattle.traced_projections.proofs.elimination.add_all.Goals as goal

pub returns-in-Err-add_singles : goal.returns-in-Err-add_singles
returns-in-Err-add_singles c =
    let t = c.args.traced.now in
    let i = c.args.dimension in
    let e = c.args.equality.now in
    let zero = map (single t []) (signed Zero i t.rows) in
    let old = c.args.out.now.items in
    let stop = c.in-Err-add_singles.stop in
    let first : Adds i zero old old (Err stop) = search rules in
    adds_stop i zero (sources_by e i t) (sources_with e i t) old old old stop refl first

pub returns-in-Some : goal.returns-in-Some
returns-in-Some c =
    let t = c.args.traced.now in
    let i = c.args.dimension in
    let e = Some c.in-Some.equality in
    let zero = map (single t []) (signed Zero i t.rows) in
    let old = c.args.out.now.items in
    let mid = c.add_singles.new.out.items in
    let new = c.add_reduced.new.out.items in
    let first : Adds i zero old mid (Ok tt) = search rules in
    subst (λ (o : Option Affine). Adds i (sources_with o i t) old new c.add_reduced.result) (sym c.in-Some.is)
    (adds_more i zero (sources_by e i t) (sources_with e i t) old mid new c.add_reduced.result refl first
    c.add_reduced.ensures)

pub returns-in-None : goal.returns-in-None
returns-in-None c =
    let t = c.args.traced.now in
    let i = c.args.dimension in
    let zero = map (single t []) (signed Zero i t.rows) in
    let old = c.args.out.now.items in
    let mid = c.add_singles.new.out.items in
    let new = c.add_paired.new.out.items in
    let first : Adds i zero old mid (Ok tt) = search rules in
    subst (λ (o : Option Affine). Adds i (sources_with o i t) old new c.add_paired.result) (sym c.in-None.is)
    (adds_more i zero (sources_by None i t) (sources_with None i t) old mid new c.add_paired.result refl first
    c.add_paired.ensures)
