use Rattle.scop_syntax.proofs.Common.{◌++◌, refl}
use Rattle.scop_roles.specs.declared.kinds.Kind.TheVariants as kind
use Rattle.scop_roles.specs.declared.formula.Role.TheVariants as role
use Rattle.scop_roles.specs.Faults.{faults, called, told}
use Rattle.scop_roles.proofs.NodeFaults.{bare_first, call_first}
use Rattle.scop_roles.proofs.NodeForms.{refused}
use Rattle.scop_roles.proofs.nodes.called_with.Goals as goal

pub returns-clause-bare : goal.returns-clause-bare
returns-clause-bare c n m e =
    record {
      place = refl;
      signed = refl;
      narrow = refl;
      long = refl;
      named = refl;
      narrow_cells = refl;
      constant = refl;
      count = refl;
      narrow_count = refl;
      lacking = refl;
      place_fault = refl;
      affine = rw (c.part_or_own.ensures, c.own_call.ensures.bare n c.args.at m, e)
          (bare_first n role.Affine m c.args.at);
      summand = rw (c.part_or_own-2.ensures, c.own_call-2.ensures.bare n c.args.at m, e)
          (bare_first n role.Signed m c.args.at);
      value = rw (c.part_or_own-3.ensures, c.own_call-3.ensures.bare n c.args.at m, e)
          (bare_first n role.Value m c.args.at);
      condition = rw (c.part_or_own-4.ensures, c.own_call-4.ensures.bare n c.args.at m, e)
          (bare_first n role.Condition m c.args.at);
      loose = rw (c.part_or_own-5.ensures, c.own_call-5.ensures.bare n c.args.at m, e)
          (bare_first n role.Loose m c.args.at);
      free = rw (c.part_or_own-6.ensures, c.own_call-6.ensures.bare n c.args.at m, e)
          (bare_first n role.Free m c.args.at);
      form = refused (told c.args.at (called m)) c.args.at kind.NotAffine;
      limits = tt;
    }

pub returns-clause-call : goal.returns-clause-call
returns-clause-call c n m f e =
    record {
      place = refl;
      signed = refl;
      narrow = refl;
      long = refl;
      named = refl;
      narrow_cells = refl;
      constant = refl;
      count = refl;
      narrow_count = refl;
      lacking = refl;
      place_fault = refl;
      affine = rw (c.part_or_own.ensures, c.own_call.ensures.call n c.args.at m f, e)
          (call_first n role.Affine m f c.args.at);
      summand = rw (c.part_or_own-2.ensures, c.own_call-2.ensures.call n c.args.at m f, e)
          (call_first n role.Signed m f c.args.at);
      value = rw (c.part_or_own-3.ensures, c.own_call-3.ensures.call n c.args.at m f, e)
          (call_first n role.Value m f c.args.at);
      condition = rw (c.part_or_own-4.ensures, c.own_call-4.ensures.call n c.args.at m f, e)
          (call_first n role.Condition m f c.args.at);
      loose = rw (c.part_or_own-5.ensures, c.own_call-5.ensures.call n c.args.at m f, e)
          (call_first n role.Loose m f c.args.at);
      free = rw (c.part_or_own-6.ensures, c.own_call-6.ensures.call n c.args.at m f, e)
          (call_first n role.Free m f c.args.at);
      form = refused (told c.args.at (called m) ++ faults n role.Free f) c.args.at kind.NotAffine;
      limits = tt;
    }
