use Rattle.scop_syntax.proofs.Common.{◌≤◌, List, length, ap, subst, sym, refl, ℤ, Act, instance_of, items_of}
use Rattle.scop_syntax.proofs.Common.{program_of, Instance, Visit, instance, walk_of, has_parameters, in_map_from}
use Rattle.scop_syntax.specs.Cells.{reads as reads_by}
use Rattle.scop_syntax.specs.declared.tree.Item.{Item}
use Rattle.scop_meaning.specs.steps.Conditions.{CanFind}
use Rattle.scop_meaning.proofs.StatementSearch.{can_find, found_visit}
use Rattle.scop_meaning.proofs.instances.find.Goals as goal

pub find_among-requires : goal.find_among-requires
find_among-requires c =
    let p = program_of c.args.kernel.now in
    let params = c.args.params.now in
    let i = instance_of c.args.instance.now in
    let u = in_map_from instance i (walk_of p params) c.requires.walked in
    let s = c.instances_are_those_of_statements.ensures.found p params u.0 u.1 in
    let can = can_find p params u.0 s c.requires.limits
    (c.statements_are_numbered.ensures.placed p s.0 c.requires.limits.kernel s.2)
    (c.values_lie_within_45_bits.ensures.points p params s.1 s.0 (has_parameters c.requires.limits) s.2 s.3) in
    subst (λ (l : List ℤ). CanFind 9 (items_of c.deref.result.now) i.number c.args.point.now.items l)
    (sym c.turns.ensures)
    (subst (λ (x : List ℤ). CanFind 9 (items_of c.deref.result.now) i.number x i.turns) (sym c.requires.point)
    (subst (λ (l : List Item). CanFind 9 (items_of l) i.number params i.turns) (sym c.deref.ensures.value)
    (subst (λ (j : Instance). CanFind 9 p.body j.number params j.turns) (sym u.2) can)))

pub returns-clause-found : goal.returns-clause-found
returns-clause-found c = λ v is.
    let p = program_of c.args.kernel.now in
    let params = c.args.params.now in
    let i = instance_of c.args.instance.now in
    found_visit p params i v _ _ _ _ _
    (c.instances_are_those_of_statements.ensures.found p params v is.walked)
    is.same (ap items_of c.deref.ensures.value) refl c.requires.point c.turns.ensures
    c.find_among.ensures

pub returns-clause-few : goal.returns-clause-few
returns-clause-few c =
    let p = program_of c.args.kernel.now in
    let params = c.args.params.now in
    let i = instance_of c.args.instance.now in
    let u = in_map_from instance i (walk_of p params) c.requires.walked in
    let s = c.instances_are_those_of_statements.ensures.found p params u.0 u.1 in
    let act = found_visit p params i u.0 _ _ _ _ _ s (sym u.2) (ap items_of c.deref.ensures.value) refl
    c.requires.point c.turns.ensures c.find_among.ensures in
    subst (λ (a : Act). length (reads_by a.body) ≤ 16) (sym act)
    (subst (λ (v : Visit). length (reads_by v.body) ≤ 16) (sym s.4)
    (c.statements_are_numbered.ensures.placed p s.0 c.requires.limits.kernel s.2).body.few_reads)
