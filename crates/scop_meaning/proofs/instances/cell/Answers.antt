use Rattle.scop_syntax.proofs.Common.{◌≡◌, ◌<◌, ℕ, List, Some, length, ap, subst, sym, ◌∙◌, ℤ, slice_get, Act, accesses}
use Rattle.scop_syntax.proofs.Common.{cell_of, IsCell, cell_number, layout, Access, instance_of, program_of, instance}
use Rattle.scop_syntax.proofs.Common.{walk_of, in_from_place, in_map_from}
use Rattle.scop_meaning.specs.Instances.{AreLayout, IsVisitOf}
use Rattle.scop_meaning.proofs.instances.cell.Goals as goal

pub access_at-touched-requires-clause-there : goal.access_at-touched-requires-clause-there
access_at-touched-requires-clause-there c =
    let p = program_of c.args.kernel.now in
    let params = c.args.params.now in
    let i = instance_of c.args.instance.now in
    let u = in_map_from instance i (walk_of p params) c.requires.walked in
    let is : IsVisitOf p params i u.0 = record { walked = u.1; same = sym u.2 } in
    subst (λ (a : Act). c.args.access < length (accesses a.body)) (sym (c.find-statement.ensures.found u.0 is))
    (c.requires.access u.0 is)

pub number_of-requires-clause-layout : goal.number_of-requires-clause-layout
number_of-requires-clause-layout c =
    let p = program_of c.args.kernel.now in
    let params = c.args.params.now in
    subst AreLayout (sym c.requires.extents)
    (record {
      sizes = c.cells_lie_within_22_bits.ensures.extents p params c.requires.limits;
      total = c.requires.limits.cells;
    })

pub number_of-requires-clause-cell : goal.number_of-requires-clause-cell
number_of-requires-clause-cell c =
    let p = program_of c.args.kernel.now in
    let params = c.args.params.now in
    let i = instance_of c.args.instance.now in
    let touched = c.access_at-touched.result.now in
    let u = in_map_from instance i (walk_of p params) c.requires.walked in
    let is : IsVisitOf p params i u.0 = record { walked = u.1; same = sym u.2 } in
    let act = c.find-statement.ensures.found u.0 is in
    let there : slice_get (accesses u.0.body) c.args.access ≡ Some touched =
    sym (ap (λ (a : Act). slice_get (accesses a.body) c.args.access) act) ∙ c.access_at-touched.ensures in
    let cell = c.requires.inside u.0 u.1 touched (in_from_place (accesses u.0.body) c.args.access touched there) in
    let at = c.as_slice.ensures.value ∙ ap (λ (a : Act). a.point) act in
    subst (λ (es : List (List ℕ)). IsCell es (cell_of touched c.as_slice.result.now)) (sym c.requires.extents)
    (subst (λ (x : List ℤ). IsCell (layout p params) (cell_of touched x)) (sym at) cell)

pub returns : goal.returns
returns c = λ v touched is named.
    let found = c.access_at-touched.result.now in
    let act = c.find-statement.ensures.found v is in
    let there : slice_get (accesses v.body) c.args.access ≡ Some found =
    sym (ap (λ (a : Act). slice_get (accesses a.body) c.args.access) act) ∙ c.access_at-touched.ensures in
    let same : found ≡ touched = cc in
    let at = c.as_slice.ensures.value ∙ ap (λ (a : Act). a.point) act in
    c.number_of.ensures
    ∙ (ap (λ (x : List ℤ). cell_number c.args.extents.now (cell_of found x)) at
    ∙ ap (λ (a : Access). cell_number c.args.extents.now (cell_of a v.point)) same)
