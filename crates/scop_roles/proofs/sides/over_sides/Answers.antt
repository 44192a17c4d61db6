use Rattle.scop_syntax.proofs.Common.{refl}
use Rattle.scop_roles.proofs.NodeForms.{long_sides}
use Rattle.scop_roles.proofs.sides.over_sides.Goals as goal

pub returns-clause-judged : goal.returns-clause-judged
returns-clause-judged c f g h i =
    let joined = c.in_ok-joined.ensures.joined f g c.args.at h i in
    record {
      place = refl;
      signed = rw (c.joins_signed.ensures, h.signed, i.signed) refl;
      narrow = rw (c.joins_narrow.ensures, h.narrow, i.narrow, h.signed, i.signed) refl;
      long = rw (c.joins_long.ensures, h.signed, i.signed, h.named, i.named) (long_sides c.args.op f g c.args.at);
      named = rw (c.is_either_named.ensures, h.named, i.named) refl;
      narrow_cells = refl;
      constant = refl;
      count = refl;
      narrow_count = refl;
      lacking = refl;
      place_fault = refl;
      affine = c.binary_fault.ensures c.args.entries f g h i joined.own;
      summand = c.binary_fault-2.ensures c.args.entries f g h i joined.own;
      value = c.binary_fault-3.ensures c.args.entries f g h i joined.own;
      condition = c.binary_fault-4.ensures c.args.entries f g h i joined.own;
      loose = c.binary_fault-5.ensures c.args.entries f g h i joined.own;
      free = c.binary_fault-6.ensures c.args.entries f g h i joined.own;
      form = joined.form;
      limits = c.in_ok-joined.ensures.limits;
    }
