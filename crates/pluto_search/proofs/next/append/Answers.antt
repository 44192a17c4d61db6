use Rattle.scop_syntax.proofs.Common.{◌∙◌, [], ◌∷◌, List, ap, ap₂, map, map-append, subst, sym}
use Rattle.schedule_rows.specs.declared.item.Marked as code
use Rattle.schedule_rows.specs.Schedule.{marked_of}
use Rattle.pluto_search.specs.steps.Sizes.{CanNarrowEach, narrowed_each}
use Rattle.pluto_search.specs.steps.Steps.{state_of, vectors_in}
use Rattle.pluto_search.proofs.GoodStates.{Vectors, shown}
use Rattle.pluto_search.proofs.NextStates.{append_good, can_narrow, coefficients_are}
use Rattle.pluto_search.proofs.next.append.Goals as goal

pub narrow_all-requires : goal.narrow_all-requires
narrow_all-requires c =
    subst (λ (vs : List Vectors). CanNarrowEach (map (λ p. p.coefficients.items) c.args.row.parts.items) (map shown vs))
    (sym c.deref.ensures.value) (can_narrow c.args.progress c.args.row c.requires)

pub invariant_of-progress : goal.invariant_of-progress
invariant_of-progress c =
    let p = c.args.progress in
    let g = p.search.now in
    let last : code.Marked = record { row = c.args.row; parallel = c.args.parallel } in
    rw (c.in_ok-push.ensures.pushed, map-append marked_of p.rows.items (last ∷ []))
    (record {
      good = append_good g.parameters g.loops.now (state_of p) (vectors_in p) (map shown c.replace.new.dest.items)
          (marked_of last) p.good c.requires
          (ap (λ (vs : List Vectors). map shown vs) (ap (λ v. v.items) c.replace.ensures.after)
          ∙ (c.in_ok-vectors.ensures ∙ ap₂ narrowed_each (coefficients_are c.args.row.parts.items)
          (ap (map shown) c.deref.ensures.value)));
    })
