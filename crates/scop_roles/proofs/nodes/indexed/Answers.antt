use Rattle.scop_syntax.proofs.Common.{◌++◌, ap, sym, ◌∙◌, refl}
use Rattle.scop_roles.specs.declared.kinds.Kind.TheVariants as kind
use Rattle.scop_roles.specs.declared.formula.Role.TheVariants as role
use Rattle.scop_roles.specs.Formula.{place}
use Rattle.scop_roles.specs.Faults.{faults, place_faults}
use Rattle.scop_roles.specs.steps.Judgement.{one_less}
use Rattle.scop_roles.proofs.Firsts.{first-append}
use Rattle.scop_roles.proofs.NodeForms.{refused}
use Rattle.scop_roles.proofs.nodes.indexed.Goals as goal

pub returns : goal.returns
returns c n p i h g =
    record {
      place = h.place;
      signed = refl;
      narrow = h.narrow_cells;
      long = refl;
      named = refl;
      narrow_cells = h.narrow_cells;
      constant = refl;
      count = refl;
      narrow_count = refl;
      lacking = c.one_less.ensures ∙ ap one_less h.lacking;
      place_fault = rw (c.first_of.ensures, h.place_fault, g.affine)
          (sym (first-append (place_faults n p) (faults n role.Affine i)));
      affine = c.index_fault.ensures n p i h g;
      summand = c.index_fault-2.ensures n p i h g;
      value = c.index_fault-3.ensures n p i h g;
      condition = c.index_fault-4.ensures n p i h g;
      loose = c.index_fault-5.ensures n p i h g;
      free = c.index_fault-6.ensures n p i h g;
      form = refused (place_faults n p ++ faults n role.Affine i) (place p) kind.NotAffine;
      limits = tt;
    }
