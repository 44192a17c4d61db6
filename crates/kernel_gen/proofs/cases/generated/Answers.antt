-- The case is that of its kind, which lies within the limits and inside.
use Rattle.scop_syntax.proofs.Common.{ap, length, length-map, sym, subst, ◌∙◌, List, Program, IsInside, WithinLimits}
use Rattle.data_text.specs.Sheets.{Given, given_of}
use Rattle.kernel_gen.specs.Cases.{program}
use Rattle.kernel_gen.proofs.Sizes.{as_many, contents_are, inside, lists_none, within}
use Rattle.kernel_gen.proofs.cases.generated.Goals as goal

pub case_given-requires-clause-limits : goal.case_given-requires-clause-limits
case_given-requires-clause-limits c =
    subst (λ (p : Program). WithinLimits p c.in_ok-params.params.items) (sym c.in_ok-kernel.ensures)
    (subst (WithinLimits (program c.args.kind c.args.seed)) (sym c.in_ok-params.ensures)
    (within c.args.kind c.args.seed c.args.size c.requires.low c.requires.high))

pub returns-clause-limits : goal.returns-clause-limits
returns-clause-limits c =
    subst (λ (p : Program). WithinLimits p c.in_ok-case.case.params.items) (sym c.in_ok-kernel.ensures)
    (subst (WithinLimits (program c.args.kind c.args.seed)) (sym (c.in_ok-case.ensures.params ∙ c.in_ok-params.ensures))
    (within c.args.kind c.args.seed c.args.size c.requires.low c.requires.high))

pub returns-clause-inside : goal.returns-clause-inside
returns-clause-inside c =
    subst (λ (p : Program). IsInside p c.in_ok-case.case.params.items) (sym c.in_ok-kernel.ensures)
    (subst (IsInside (program c.args.kind c.args.seed)) (sym (c.in_ok-case.ensures.params ∙ c.in_ok-params.ensures))
    (inside c.args.kind c.args.seed c.args.size))

pub case_given-requires-clause-rows : goal.case_given-requires-clause-rows
case_given-requires-clause-rows c =
    sym (length-map c.in_ok-rows.rows.items given_of)
    ∙ (ap (λ (gs : List Given). length gs) c.in_ok-rows.ensures
    ∙ (as_many c.args.kind c.args.seed ∙ ap (λ (p : Program). length p.arrays) (sym c.in_ok-kernel.ensures)))

pub case_given-requires-clause-lists : goal.case_given-requires-clause-lists
case_given-requires-clause-lists c =
    lists_none c.args.kind c.args.seed c.args.size _ _ _ c.in_ok-kernel.ensures c.in_ok-params.ensures
    c.in_ok-rows.ensures

pub returns-clause-contents : goal.returns-clause-contents
returns-clause-contents c =
    c.in_ok-case.ensures.arrays
    ∙ contents_are c.args.kind c.args.seed c.args.size _ _ _ c.in_ok-kernel.ensures c.in_ok-params.ensures
    c.in_ok-rows.ensures
