use Rattle.scop_syntax.proofs.Common.{sym, subst, length, ◌-◌, eqb-true, In, in_from_place}
use Rattle.tile_edges.proofs.touching.ends_with.Goals as goal

pub returns-in-Some : goal.returns-in-Some
returns-in-Some c e =
    subst (λ v. In v c.args.list.now) (eqb-true c.in-Some.last.now c.args.tile e)
    (in_from_place c.args.list.now (length c.args.list.now - 1) c.in-Some.last.now (sym c.in-Some.ensures.value))
