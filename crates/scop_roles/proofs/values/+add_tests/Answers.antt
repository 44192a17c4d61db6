use Rattle.scop_syntax.proofs.Common.{◌≡◌, ◌++◌, None, map, fold, ap, sym, subst, ◌∙◌, test_of}
use Rattle.scop_roles.specs.declared.kinds.Kind.TheVariants as kind
use Rattle.scop_roles.specs.declared.formula.Role.TheVariants as role
use Rattle.scop_roles.specs.Formula.{argument_of, formula_of, binary, with_argument}
use Rattle.scop_roles.specs.Faults.{first, faults}
use Rattle.scop_roles.specs.Values.{tests}
use Rattle.scop_roles.proofs.Views.{formula_binary, formula_commas}
use Rattle.scop_roles.proofs.NodeForms.{refused}
use Rattle.scop_roles.proofs.FormulaValues.{on_ok, joined_tests}
use Rattle.scop_roles.proofs.values.+add_tests.Goals as goal

pub returns-then-not-is_and : goal.returns-then-not-is_and
returns-then-not-is_and t c =
    let n = c.args.entries in
    let o = c.in-Binary.op in
    let at = c.in-Binary.field-3 in
    let old = map test_of c.args.pushed.now.items in
    let e = ap formula_of c.in-Binary.is ∙ formula_binary o c.in-Binary.left c.in-Binary.right at
    ∙ ap (λ v. binary o (formula_of v) (formula_of c.in-Binary.right.value) at) (sym c.deref.ensures)
    ∙ ap (λ v. binary o (formula_of c.deref.result.now) (formula_of v) at) (sym c.deref-then-not-is_and.ensures) in
    on_ok c.add_comparison.result
    (λ here h. here at (sym c.is_and.ensures ∙ c.if-not-is_and.true)
    (subst (λ f. first (faults n role.Condition f) ≡ None) e h) ∙ ap (λ f. old ++ tests n f) (sym e))
    c.add_comparison.ensures

pub returns-in_ok-add_tests-in-Binary : goal.returns-in_ok-add_tests-in-Binary
returns-in_ok-add_tests-in-Binary t c =
    let n = c.args.entries in
    let old = map test_of c.args.pushed.now.items in
    let mid = map test_of c.add_tests.new.pushed.items in
    let new = map test_of c.add_tests-in-Binary.new.pushed.items in
    let e = ap formula_of c.in-Binary.is ∙ formula_binary c.in-Binary.op c.in-Binary.left c.in-Binary.right
    c.in-Binary.field-3 in
    let before = subst (λ v. first (faults n role.Condition (formula_of v)) ≡ None
    → mid ≡ old ++ tests n (formula_of v)) c.deref-in-Binary.ensures c.in_ok-add_tests-in-Binary.ensures in
    on_ok c.add_tests-in-Binary.result
    (λ here. joined_tests n (formula_of c.args.formula.now) c.in-Binary.op (formula_of c.in-Binary.left.value)
    (formula_of c.in-Binary.right.value) c.in-Binary.field-3 old mid new e
    (sym c.is_and.ensures ∙ c.if-not-is_and.false) before
    (subst (λ v. first (faults n role.Condition (formula_of v)) ≡ None → new ≡ mid ++ tests n (formula_of v))
    c.deref-in-Binary-2.ensures here))
    c.add_tests-in-Binary.ensures

pub returns-in-Commas : goal.returns-in-Commas
returns-in-Commas t c h =
    let n = c.args.entries in
    let f = fold with_argument (formula_of c.in-Commas.field-0.value) (map argument_of c.in-Commas.field-1.items) in
    let e = ap formula_of c.in-Commas.is
    ∙ formula_commas c.in-Commas.field-0 c.in-Commas.field-1 c.in-Commas.field-2 c.in-Commas.field-3 in
    absurd (refused (faults n role.Free f ++ faults n role.Free (formula_of c.in-Commas.field-2.value))
    c.in-Commas.field-3 kind.Condition (subst (λ f. first (faults n role.Condition f) ≡ None) e h))
