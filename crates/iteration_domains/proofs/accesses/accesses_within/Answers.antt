use Rattle.scop_syntax.proofs.Common.{◌<◌, ◌≤◌, accesses, all_in, arith, get_or_from_slice_get, in_from_place, length}
use Rattle.scop_syntax.proofs.Common.{map_end, map_more, refl, statement_of, sym}
use Rattle.iteration_domains.specs.Model.{composed_access}
use Rattle.iteration_domains.specs.Path.{CanAccess}
use Rattle.iteration_domains.proofs.accesses.accesses_within.Goals as goal

pub push_access-requires : goal.push_access-requires
push_access-requires c =
    let touched = accesses (statement_of c.args.statement.now) in
    let access = c.access_at-access.result.now in
    all_in (CanAccess c.args.variables c.args.forms.now) touched access c.requires.can
    (in_from_place touched c.loop-number.number access c.access_at-access.ensures)

pub loop-number-preserved : goal.loop-number-preserved
loop-number-preserved c =
    let touched = accesses (statement_of c.args.statement.now) in
    let n = c.loop-number.number in
    let access = c.access_at-access.result.now in
    let inside : n < length touched = omega (arith, c.loop-number-test.true, c.read_count-number-end.ensures) in
    map_more (composed_access c.args.variables c.args.forms.now) touched n access
    (composed_access c.args.variables c.args.forms.now access) c.loop-number.found.items
    c.push_access.new.accesses.items _ inside
    (sym (get_or_from_slice_get touched n access access c.access_at-access.ensures)) refl
    c.in_ok-push_access.ensures c.loop-number.invariant

pub returns : goal.returns
returns c =
    let touched = accesses (statement_of c.args.statement.now) in
    let past : length touched ≤ c.loop-number.number =
    omega (arith, c.loop-number-test.false, c.read_count-number-end.ensures) in
    map_end (composed_access c.args.variables c.args.forms.now) touched c.loop-number.number c.loop-number.found.items _
    past c.loop-number.invariant
