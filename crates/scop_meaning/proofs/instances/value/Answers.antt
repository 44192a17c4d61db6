use Rattle.scop_syntax.proofs.Common.{List, length, ap, sym, ◌∙◌, ℤ, Act, stored_by, instance_of, program_of}
use Rattle.scop_syntax.proofs.Common.{statement_of, instance, walk_of, in_map_from}
use Rattle.scop_syntax.specs.Cells.{reads as reads_by}
use Rattle.scop_meaning.specs.Instances.{IsVisitOf}
use Rattle.scop_meaning.proofs.Numbering.{reads_wanted}
use Rattle.scop_meaning.proofs.instances.value.Goals as goal

pub stored_on-requires : goal.stored_on-requires
stored_on-requires c =
    let p = program_of c.args.kernel.now in
    let params = c.args.params.now in
    let i = instance_of c.args.instance.now in
    let s = statement_of c.find-statement.result.now in
    let u = in_map_from instance i (walk_of p params) c.requires.walked in
    let is : IsVisitOf p params i u.0 = record { walked = u.1; same = sym u.2 } in
    c.requires.reads u.0 is
    ∙ (ap (λ (a : Act). length (reads_by a.body)) (sym (c.find-statement.ensures.found u.0 is))
    ∙ reads_wanted s.place s.right)

pub returns : goal.returns
returns c = λ v is.
    c.stored_on.ensures
    ∙ (ap (λ (x : List ℤ). stored_by (statement_of c.find-statement.result.now).right x c.args.reads.now)
    c.as_slice.ensures.value
    ∙ ap (λ (a : Act). stored_by a.body.right a.point c.args.reads.now) (c.find-statement.ensures.found v is))
