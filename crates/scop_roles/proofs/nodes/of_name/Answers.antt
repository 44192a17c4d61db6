use Rattle.scop_syntax.proofs.Common.{rules, ◌∙◌, refl}
use Rattle.scop_roles.proofs.NodeForms.{long_name}
use Rattle.scop_roles.proofs.nodes.of_name.Goals as goal

pub returns : goal.returns
returns c =
    record {
      place = refl;
      signed = search rules;
      narrow = refl;
      long = c.is_number-2.ensures ∙ long_name c.args.meaning c.args.at;
      named = refl;
      narrow_cells = search rules;
      constant = refl;
      count = refl;
      narrow_count = refl;
      lacking = search rules;
      place_fault = search rules;
      affine = c.name_fault.ensures c.args.entries;
      summand = c.name_fault-2.ensures c.args.entries;
      value = c.name_fault-3.ensures c.args.entries;
      condition = c.name_fault-4.ensures c.args.entries;
      loose = c.name_fault-5.ensures c.args.entries;
      free = c.name_fault-6.ensures c.args.entries;
      form = c.in_ok-form.ensures.form c.args.at;
      limits = c.in_ok-form.ensures.limits;
    }
