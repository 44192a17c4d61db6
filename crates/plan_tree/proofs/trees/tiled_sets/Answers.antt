use Rattle.scop_syntax.proofs.Common.{◌∙◌, ◌<◌, ◌^◌, List, sym, subst}
use Rattle.integer_sets.specs.Scanned.{Scanned}
use Rattle.plain_scan.specs.Scanning.{AreScanned, dimensions_of}
use Rattle.plain_scan.specs.Sets.{NumbersRise}
use Rattle.plan_tree.proofs.Schedules.{tiled_blocks, tiled_sets_of}
use Rattle.plan_tree.proofs.trees.tiled_sets.Goals as goal

pub returns-clause-scanned : goal.returns-clause-scanned
returns-clause-scanned c =
    let s = c.args.schedule.now in
    let r = c.requires.scheduled in
    let program = c.requires.schedule.0 in
    let marked = c.requires.schedule.1 in
    let is = c.requires.schedule.2 in
    let size = c.args.size in
    subst AreScanned (sym (c.in_ok-found.ensures.sets r ∙ tiled_sets_of program marked size s r is))
    (c.sets_can_be_scanned.ensures.scanned program marked size r.blocks
    (tiled_blocks program marked size s r c.requires.size.0 c.requires.size.1 is))

pub returns-clause-rise : goal.returns-clause-rise
returns-clause-rise c =
    let s = c.args.schedule.now in
    let r = c.requires.scheduled in
    let program = c.requires.schedule.0 in
    let marked = c.requires.schedule.1 in
    let is = c.requires.schedule.2 in
    let size = c.args.size in
    subst NumbersRise (sym (c.in_ok-found.ensures.sets r ∙ tiled_sets_of program marked size s r is))
    (c.sets_can_be_scanned.ensures.rise program marked size r.blocks
    (tiled_blocks program marked size s r c.requires.size.0 c.requires.size.1 is))

pub returns-clause-few : goal.returns-clause-few
returns-clause-few c =
    let s = c.args.schedule.now in
    let r = c.requires.scheduled in
    let program = c.requires.schedule.0 in
    let marked = c.requires.schedule.1 in
    let is = c.requires.schedule.2 in
    let size = c.args.size in
    subst (λ (ss : List Scanned). dimensions_of ss < 2 ^ 32)
    (sym (c.in_ok-found.ensures.sets r ∙ tiled_sets_of program marked size s r is))
    (c.sets_can_be_scanned.ensures.few program marked size r.blocks
    (tiled_blocks program marked size s r c.requires.size.0 c.requires.size.1 is))
