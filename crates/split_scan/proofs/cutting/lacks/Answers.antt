use Rattle.scop_syntax.proofs.Common.{◌≡◌, ◌+◌, ◌++◌, ◌∙◌, ap, subst, sym, List, All, All-append, Affine}
use Rattle.affine_forms.specs.Parts.{variables_of}
use Rattle.split_scan.proofs.cutting.lacks.Goals as goal
use Rattle.split_scan.proofs.cutting.lacks.Goals.{After-deref-2}

-- the rows of the cell and of the set
within_there : (c : After-deref-2) → c.deref-2.result.now ≡ c.args.cell.now.cuts.items ++ c.args.rows.now
within_there c =
    c.deref-2.ensures.value ∙ c.in_ok-within.ensures
    ∙ ap (λ (fs : List Affine). fs ++ c.args.rows.now) c.deref.ensures.value

pub is_void-requires : goal.is_void-requires
is_void-requires c =
    let level = c.args.level.now in
    let P : Affine → Type 0 = λ f. variables_of f ≡ level.place + 1 + level.parameters in
    subst (All P) (sym (within_there (goal.at.is_void-requires c).After-deref-2))
    (All-append P c.args.cell.now.cuts.items c.args.rows.now c.requires.sized c.requires.rows)

pub returns : goal.returns
returns c = rw (within_there (goal.at.returns c).After-deref-2) at c.is_void.ensures
