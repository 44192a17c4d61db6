use Rattle.scop_syntax.proofs.Common.{subst, sym, map, inr, err_from_is_err_and}
use Rattle.scop_grammar.specs.Kernel.{mark_at}
use Rattle.scop_roles.specs.Formula.{formula_of}
use Rattle.scop_pass.specs.Machine.{State, expects, idle_step}
use Rattle.scop_pass.specs.Machine as machine
use Rattle.scop_pass.specs.Passing.{Comes, state_of}
use Rattle.scop_units.specs.View.{words_in}
use Rattle.scop_pass.proofs.CompletedHeads.{steps_of}
use Rattle.scop_pass.proofs.pass.Pass.behind_array.Goals as goal

pub returns-in_err-ranked : goal.returns-in_err-ranked
returns-in_err-ranked c =
    let told = err_from_is_err_and c.from_residual.result c.from_residual.ensures.1 in
    rw (told.1, told.2) (inr (tt, c.in_err-ranked.ensures))

pub returns : goal.returns
returns c =
    let words = words_in c.args.words.now in
    let fs = map formula_of c.args.extents.now in
    let old = expects (state_of c.args.self.now) (machine.extents c.args.width c.args.name_at fs) in
    let new = state_of c.idle_step.new.self in
    let p = mark_at c.args.mark c.args.at in
    steps_of c.idle_step.result words old new p
    (subst (λ (s : State). Comes c.idle_step.result new (idle_step words s c.args.mark c.args.at))
    (sym c.in_ok-ranked.ensures) c.idle_step.ensures)
