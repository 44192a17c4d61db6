use Rattle.scop_syntax.proofs.Common.{refl}
use Rattle.scop_roles.specs.declared.kinds.Kind.TheVariants as kind
use Rattle.scop_roles.specs.declared.formula.Role.TheVariants as role
use Rattle.scop_roles.specs.Faults.{faults}
use Rattle.scop_roles.proofs.NodeForms.{refused}
use Rattle.scop_roles.proofs.nodes.under_cast.Goals as goal

pub returns : goal.returns
returns c n f h =
    record {
      place = refl;
      signed = refl;
      narrow = c.is_narrow_width.ensures;
      long = refl;
      named = h.named;
      narrow_cells = refl;
      constant = refl;
      count = refl;
      narrow_count = refl;
      lacking = refl;
      place_fault = refl;
      affine = c.cast_fault.ensures n c.args.width f h;
      summand = c.cast_fault-2.ensures n c.args.width f h;
      value = c.cast_fault-3.ensures n c.args.width f h;
      condition = c.cast_fault-4.ensures n c.args.width f h;
      loose = c.cast_fault-5.ensures n c.args.width f h;
      free = c.cast_fault-6.ensures n c.args.width f h;
      form = refused (faults n role.Free f) c.args.at kind.NotAffine;
      limits = tt;
    }
