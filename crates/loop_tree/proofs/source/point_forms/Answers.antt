use Rattle.scop_syntax.proofs.Common.{◌≡◌, ℕ, List, length, ap, subst, sym, rules, Scope, none}
use Rattle.iteration_domains.specs.Path.{gathered_of, path_of, scopes_of}
use Rattle.iteration_domains.specs.Standing.{CanEnter, starting}
use Rattle.iteration_domains.proofs.TreeStatements.{can_start, gathered_there}
use Rattle.loop_tree.proofs.source.point_forms.Goals as goal

pub rows_within-requires-clause-path : goal.rows_within-requires-clause-path
rows_within-requires-clause-path c =
    let p = path_of c.args.path.now in
    let m = p.parameters in
    let named : c.len.result ≡ length p.loops = search rules in
    subst (λ (d : ℕ). CanEnter (starting m d) (scopes_of c.as_slice.result.now)) (sym named)
    (subst (λ (ss : List Scope). CanEnter (starting m (length p.loops)) ss)
    (sym (ap scopes_of c.as_slice.ensures.value))
    (can_start p none c.requires))

pub returns : goal.returns
returns c =
    let p = path_of c.args.path.now in
    let named : c.len.result ≡ length p.loops = search rules in
    let g = gathered_there p c.len.result (scopes_of c.as_slice.result.now) (gathered_of c.in_ok-rows.rows)
    named (ap scopes_of c.as_slice.ensures.value) c.in_ok-rows.ensures in
    g.forms
