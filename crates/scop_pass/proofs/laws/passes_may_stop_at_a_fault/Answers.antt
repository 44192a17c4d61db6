use Rattle.scop_syntax.proofs.Common.{◌∙◌, sym, ap}
use Rattle.scop_grammar.specs.Kernel.{kernel_elements}
use Rattle.scop_roles.specs.Faults.{first}
use Rattle.scop_pass.proofs.Kernels.{run-faults}
use Rattle.scop_pass.proofs.FaultOrder.{first-stays}
use Rattle.scop_pass.proofs.UnitPlaces.{RoleLaws}
use Rattle.scop_pass.proofs.laws.passes_may_stop_at_a_fault.Goals as goal

pub returns : goal.returns
returns c words kernel front rest fault fits same is =
    let laws : RoleLaws =
    record {
      append = c.first_faults_join.ensures.append;
      told_faults = c.faults_stand_within.ensures.faults;
      told_places = c.faults_stand_within.ensures.place_faults;
      place = λ see at t.
          (c.faults_stand_within.ensures.from see at t, c.faults_stand_within.ensures.below see at t);
    } in
    ap first (sym (run-faults 64 256 words kernel fits))
    ∙ first-stays laws words (kernel_elements kernel) front rest fault same is
