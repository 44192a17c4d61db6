use Rattle.scop_syntax.proofs.Common.{◌≡◌, List, All, subst, Affine, on_ok_weaker}
use Rattle.affine_forms.specs.Parts.{variables_of}
use Rattle.integer_sets.specs.Constraints.{Constraints, variables_in}
use Rattle.pluto_systems.specs.Posing.{HaveSizes, ruled_dep}
use Rattle.pluto_systems.proofs.posing.push_forms.Goals as goal

pub returns-clause-sized : goal.returns-clause-sized
returns-clause-sized c =
    let legal = c.args.legal.now in
    let bounded = c.args.bounded.now in
    let P : Constraints → List Affine → Type 0 = λ s fs. All (λ f. variables_of f ≡ variables_in s) fs in
    let sizes : HaveSizes (ruled_dep c.args.dep.now legal bounded) = record {
      legal = record {
        equalities_sized = subst (P legal) c.equalities.ensures.forms c.equalities.ensures.sized;
        rows_sized = subst (P legal) c.rows.ensures.forms c.rows.ensures.sized;
      };
      bounded = record {
        equalities_sized = subst (P bounded) c.equalities-2.ensures.forms c.equalities-2.ensures.sized;
        rows_sized = subst (P bounded) c.rows-2.ensures.forms c.rows-2.ensures.sized;
      };
    } in
    on_ok_weaker c.place_all-4.result (λ put. sizes) c.place_all-4.ensures
