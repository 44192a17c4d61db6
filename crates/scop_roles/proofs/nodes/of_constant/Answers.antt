use Rattle.scop_syntax.proofs.Common.{rules, refl}
use Rattle.scop_roles.proofs.nodes.of_constant.Goals as goal

pub returns : goal.returns
returns c =
    record {
      place = refl;
      signed = search rules;
      narrow = refl;
      long = c.is_long_constant.ensures c.args.at;
      named = refl;
      narrow_cells = refl;
      constant = search rules;
      count = search rules;
      narrow_count = search rules;
      lacking = refl;
      place_fault = refl;
      affine = c.constant_fault.ensures c.args.entries;
      summand = c.constant_fault-2.ensures c.args.entries;
      value = c.constant_fault-3.ensures c.args.entries;
      condition = c.constant_fault-4.ensures c.args.entries;
      loose = c.constant_fault-5.ensures c.args.entries;
      free = c.constant_fault-6.ensures c.args.entries;
      form = c.in_ok-form.ensures.form c.args.at;
      limits = c.in_ok-form.ensures.limits;
    }
