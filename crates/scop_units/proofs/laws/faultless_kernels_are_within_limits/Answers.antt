use Rattle.scop_units.proofs.FaultlessKernels.{kernel_stands}
use Rattle.scop_units.proofs.Names.{names_stand}
use Rattle.scop_units.proofs.laws.faultless_kernels_are_within_limits.Goals as goal

pub returns : goal.returns
returns c =
    let limits = c.faultless_formulas_are_within_limits.ensures in
    record {
      kernel = kernel_stands
          (record {
            in_scope = c.formulas_are_in_scope.ensures;
            affine = limits.affine;
            value = limits.value;
            widths = c.faultless_values_have_types.ensures.widths;
            types = c.faultless_values_have_types.ensures.types;
            cell = limits.place;
            condition = λ n f e. (limits.some n f e, limits.condition n f e);
            reads = limits.reads;
          });
      names = names_stand;
    }
