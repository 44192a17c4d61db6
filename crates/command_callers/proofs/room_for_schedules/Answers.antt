-- What else may be asked is of the same program, and so the same text.
use Rattle.scop_syntax.proofs.Common.{subst, sym}
use Rattle.io_ports.specs.Writes.{HasRoom}
use Rattle.iteration_domains.specs.Model.{model_of}
use Rattle.scop_parser.specs.Spelling.{SpellsProgram}
use Rattle.polypar.specs.Cut.{kernel_part}
use Rattle.polypar.specs.Deserves.{AsksFor}
use Rattle.polypar.specs.Planning.{IsPlanOf}
use Rattle.command_callers.proofs.room_for_schedules.Goals as goal

pub returns : goal.returns
returns c = λ words budget input kernel text out err is plan room none other told all asks.
    let asked = subst (λ command. AsksFor command other told) is.1 asks.1 in
    let program = c.texts_spell_one_program.ensures (kernel_part other) kernel.program asked.0.program
    (subst (λ bytes. SpellsProgram (kernel_part bytes) kernel.program) all kernel.spelled) asked.0.spelled in
    let same = c.models_have_one_plan_text.ensures budget (model_of asked.0.program) text told.text
    (subst (λ p. IsPlanOf budget (model_of p) text) program plan) asked.1.0 in
    (subst (HasRoom out) same room, subst (HasRoom err) (sym asked.1.1) none)
