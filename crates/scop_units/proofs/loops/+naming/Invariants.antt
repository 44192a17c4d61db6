use Rattle.scop_syntax.proofs.Common.{◌≡◌, map, drop, list_any}
use Rattle.scop_roles.specs.Formula.{argument_of, formula_of}
use Rattle.scop_units.specs.Loops.{names_entry}
use Rattle.scop_units.proofs.loops.+naming.Given as goal

abbrev pub invariant-names_in_any-loop-formula : goal.invariant-names_in_any-loop-formula
invariant-names_in_any-loop-formula l =
    list_any (names_entry l.entry) (map formula_of (drop l.formula-index l.formulas))
    ≡ list_any (names_entry l.entry) (map formula_of l.formulas)

abbrev pub invariant-names_in_arguments-loop-argument : goal.invariant-names_in_arguments-loop-argument
invariant-names_in_arguments-loop-argument l =
    list_any (λ a. names_entry l.entry a.0) (map argument_of (drop l.argument-index l.arguments))
    ≡ list_any (λ a. names_entry l.entry a.0) (map argument_of l.arguments)
