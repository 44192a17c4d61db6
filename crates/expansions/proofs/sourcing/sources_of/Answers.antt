use Rattle.scop_syntax.proofs.Common.{◌≡◌, ◌∙◌, List, [], refl, rules, subst, program_of}
use Rattle.tile_table.specs.declared.table.Row.{Row}
use Rattle.tile_table.proofs.Visits.{WalkLaws}
use Rattle.expansions.specs.steps.Passing.{ReadFew}
use Rattle.expansions.proofs.PassedPlaces.{all_passed, none_passed}
use Rattle.expansions.proofs.sourcing.sources_of.Goals as goal

pub pass_rest-requires-clause-spot : goal.pass_rest-requires-clause-spot
pass_rest-requires-clause-spot c = c.in_ok-spot.ensures.spot c.args.params.now

pub pass_rest-requires-clause-way : goal.pass_rest-requires-clause-way
pass_rest-requires-clause-way c =
    let marks : c.new-marks.result.items ≡ [] = search rules in
    let numbers : c.new-numbers.result.items ≡ [] = search rules in
    none_passed (program_of c.args.kernel.now) c.args.params.now c.most_reads-most.result _ _
    (c.in_ok-spot.ensures.rest c.args.params.now ∙ c.requires.visits) refl marks numbers

pub returns : goal.returns
returns c =
    let laws : WalkLaws = record {
      found = c.instances_are_those_of_statements.ensures.found;
      turns = c.instances_are_those_of_statements.ensures.turns;
      number = c.statements_are_numbered.ensures.number;
    } in
    let lent : c.as_slice.result.now ≡ c.args.table.now.rows.items = search rules in
    all_passed (program_of c.args.kernel.now) c.args.params.now c.args.table.now c.most_reads-most.result c.requires.can laws
    c.pass_rest.new.pass _ (subst (λ (rows : List Row). ReadFew rows c.most_reads-most.result) lent c.most_reads-most.ensures)
    c.in_ok-pass_rest.ensures refl refl
