use Rattle.scop_syntax.proofs.Common.{refl}
use Rattle.scop_roles.proofs.nodes.under_sign.Goals as goal

pub returns : goal.returns
returns c f h =
    record {
      place = refl;
      signed = c.is_signed_under.ensures f c.args.at h.signed;
      narrow = rw (c.is_narrow_under.ensures, h.narrow) refl;
      long = c.is_long_under.ensures f c.args.at h.signed h.named;
      named = h.named;
      narrow_cells = refl;
      constant = refl;
      count = refl;
      narrow_count = refl;
      lacking = refl;
      place_fault = refl;
      affine = c.unary_fault.ensures c.args.entries f h;
      summand = c.unary_fault-2.ensures c.args.entries f h;
      value = c.unary_fault-3.ensures c.args.entries f h;
      condition = c.unary_fault-4.ensures c.args.entries f h;
      loose = c.unary_fault-5.ensures c.args.entries f h;
      free = c.unary_fault-6.ensures c.args.entries f h;
      form = c.in_ok-form.ensures.form f c.args.at h.form;
      limits = c.in_ok-form.ensures.limits;
    }
