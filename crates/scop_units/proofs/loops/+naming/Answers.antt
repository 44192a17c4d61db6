use Rattle.scop_syntax.proofs.Common.{map, ap, ◌∙◌, list_any}
use Rattle.scop_roles.specs.Formula.{argument_of, formula_of}
use Rattle.scop_roles.proofs.Views.{formula_index, formula_commas}
use Rattle.scop_units.specs.Loops.{names_entry}
use Rattle.scop_units.proofs.NamedEntries.{index_names, commas_name}
use Rattle.scop_units.proofs.loops.+naming.Goals as goal

pub names_entry-returns-in-Index : goal.names_entry-returns-in-Index
names_entry-returns-in-Index t c =
    let k = c.args.entry in
    let e = ap formula_of c.in-Index.is ∙ formula_index c.in-Index.place c.in-Index.earlier c.in-Index.last in
    index_names k (formula_of c.args.formula.now) (formula_of c.in-Index.place.value) (formula_of c.in-Index.last.value)
    (map formula_of c.in-Index.earlier.items) c.names_entry.result c.names_in_any.result c.names_entry-in-Index.result
    c.one_of.result e
    (c.names_entry.ensures ∙ ap (λ v. names_entry k (formula_of v)) c.deref.ensures)
    (c.names_in_any.ensures ∙ ap (λ xs. list_any (names_entry k) (map formula_of xs)) c.deref-in-Index.ensures.value)
    (c.names_entry-in-Index.ensures ∙ ap (λ v. names_entry k (formula_of v)) c.deref-in-Index-2.ensures)
    c.one_of.ensures

pub names_entry-returns-in-Commas : goal.names_entry-returns-in-Commas
names_entry-returns-in-Commas t c =
    let k = c.args.entry in
    let e = ap formula_of c.in-Commas.is
    ∙ formula_commas c.in-Commas.first c.in-Commas.between c.in-Commas.last c.in-Commas.field-3 in
    commas_name k (formula_of c.args.formula.now) (formula_of c.in-Commas.first.value)
    (formula_of c.in-Commas.last.value) (map argument_of c.in-Commas.between.items) c.in-Commas.field-3
    c.names_entry-in-Commas.result c.names_in_arguments.result c.names_entry-in-Commas-2.result
    c.one_of-in-Commas.result e
    (c.names_entry-in-Commas.ensures ∙ ap (λ v. names_entry k (formula_of v)) c.deref-in-Commas.ensures)
    (c.names_in_arguments.ensures
    ∙ ap (λ xs. list_any (λ a. names_entry k a.0) (map argument_of xs)) c.deref-in-Commas-2.ensures.value)
    (c.names_entry-in-Commas-2.ensures ∙ ap (λ v. names_entry k (formula_of v)) c.deref-in-Commas-3.ensures)
    c.one_of-in-Commas.ensures
