use Rattle.scop_syntax.proofs.Common.{rules, ◌≡◌, ◌∙◌, ◌<◌, ◌∷◌, [], ap, map, Some, None, codes, map-append}
use Rattle.loop_tree.specs.View.{test_of}
use Rattle.form_text.specs.Reading.{strip}
use Rattle.c_printer.specs.Reading.{read_more_tests, read_test, with_test}
use Rattle.c_printer.specs.steps.View.{test_part}
use Rattle.c_printer.proofs.ReadSteps.{tests_more, tests_stop, tests_end}
use Rattle.c_printer.proofs.read_tests.with_more.Goals as goal

pub returns-in_default : goal.returns-in_default
returns-in_default c =
    let l = c.loop-at in
    let a = c.args in
    let names = map (λ n. n.items) a.names.now in
    let h : l.at < a.steps = search rules in
    let none : None ≡ strip (codes " && ") l.rest.now = search rules in
    tests_end a.steps l.at a.parameters names (map test_of l.tests.items) l.rest.now
    (with_test (read_more_tests a.steps a.parameters names) (Some (test_part a.first))) h none l.invariant

pub returns-in-Ok-None : goal.returns-in-Ok-None
returns-in-Ok-None c =
    let l = c.loop-at in
    let a = c.args in
    let names = map (λ n. n.items) a.names.now in
    let behind = c.in-Some.behind.now in
    let h : l.at < a.steps = search rules in
    let some : Some behind ≡ strip (codes " && ") l.rest.now = search rules in
    let none : None ≡ read_test a.parameters names behind = search rules in
    tests_stop a.steps l.at a.parameters names (map test_of l.tests.items) l.rest.now behind
    (with_test (read_more_tests a.steps a.parameters names) (Some (test_part a.first))) h some none l.invariant

pub loop-at-preserved : goal.loop-at-preserved
loop-at-preserved c =
    let l = c.loop-at in
    let a = c.args in
    let names = map (λ n. n.items) a.names.now in
    let behind = c.in-Some.behind.now in
    let test = c.in-Ok-Some.test in
    let h : l.at < a.steps = search rules in
    let some : Some behind ≡ strip (codes " && ") l.rest.now = search rules in
    let is : Some (test_of test.part, test.rest.now) ≡ read_test a.parameters names behind = search rules in
    let pushed = ap (map test_of) c.in-Ok.ensures.pushed ∙ map-append test_of l.tests.items (test.part ∷ []) in
    tests_more a.steps l.at a.parameters names (map test_of l.tests.items) (map test_of c.push.new.list.items)
    (test_of test.part) l.rest.now behind test.rest.now
    (with_test (read_more_tests a.steps a.parameters names) (Some (test_part a.first))) h some pushed is l.invariant
