use Rattle.scop_syntax.proofs.Common.{◌≡◌, ℕ, ◌+◌, List, length, ap, subst, sym, ◌∙◌, rules, Affine, All, accesses}
use Rattle.scop_syntax.proofs.Common.{statement_of}
use Rattle.integer_sets.specs.Constraints.{IsSized}
use Rattle.iteration_domains.specs.declared.rows.Scope.{Scope}
use Rattle.iteration_domains.specs.Constraints.{equalities_in}
use Rattle.iteration_domains.specs.Sizes.{IsModelled}
use Rattle.iteration_domains.specs.Standing.{CanEnter, starting}
use Rattle.iteration_domains.specs.Path.{CanAccess, gathered_of, path_of, scopes_of}
use Rattle.iteration_domains.proofs.TreeStatements.{can_accesses, can_start, gathered_there, made_there, model_is}
use Rattle.iteration_domains.proofs.TreeStatements.{modelled_there, rows_at, rows_sized, stands_there}
use Rattle.iteration_domains.proofs.items.model_assignment.Goals as goal

pub rows_within-requires-clause-path : goal.rows_within-requires-clause-path
rows_within-requires-clause-path c =
    let p = path_of c.args.path.now in
    let m = p.parameters in
    let named : c.len-dimensions.result ≡ length p.loops = search rules in
    subst (λ (d : ℕ). CanEnter (starting m d) (scopes_of c.as_slice.result.now)) (sym named)
    (subst (λ (ss : List Scope). CanEnter (starting m (length p.loops)) (scopes_of ss)) (sym c.as_slice.ensures.value)
    (can_start p _ c.requires))

pub accesses_within-requires-clause-few : goal.accesses_within-requires-clause-few
accesses_within-requires-clause-few c =
    (stands_there (path_of c.args.path.now) (statement_of c.args.statement.now) c.requires).body.few_reads

pub accesses_within-requires-clause-can : goal.accesses_within-requires-clause-can
accesses_within-requires-clause-can c =
    let p = path_of c.args.path.now in
    let touched = accesses (statement_of c.args.statement.now) in
    let named : c.len-dimensions.result ≡ length p.loops = search rules in
    let g = gathered_there p c.len-dimensions.result (scopes_of c.as_slice.result.now) (gathered_of c.in_ok-rows.rows)
    named (ap scopes_of c.as_slice.ensures.value) c.in_ok-rows.ensures in
    subst (λ (d : ℕ). All (CanAccess (d + p.parameters) c.as_slice-2.result.now) touched) (sym named)
    (subst (λ (fs : List Affine). All (CanAccess (length p.loops + p.parameters) fs) touched)
    (sym (c.as_slice-2.ensures.value ∙ g.forms)) (can_accesses p (statement_of c.args.statement.now) c.requires))

pub from_parts-domain-requires : goal.from_parts-domain-requires
from_parts-domain-requires c =
    let p = path_of c.args.path.now in
    let named : c.len-dimensions.result ≡ length p.loops = search rules in
    let g = gathered_there p c.len-dimensions.result (scopes_of c.as_slice.result.now) (gathered_of c.in_ok-rows.rows)
    named (ap scopes_of c.as_slice.ensures.value) c.in_ok-rows.ensures in
    let n = length p.loops + p.parameters in
    record {
      sized = subst (λ (d : ℕ). IsSized (d + p.parameters) c.in_ok-rows.rows.equalities.items
          c.in_ok-rows.rows.rows.items)
          (sym named)
          (subst (λ (es : List Affine). IsSized n es c.in_ok-rows.rows.rows.items) (sym g.equalities)
          (subst (λ (rs : List Affine). IsSized n (equalities_in (rows_at p)) rs) (sym g.rows)
          (rows_sized p _ c.requires)));
    }

pub from_parts-requires : goal.from_parts-requires
from_parts-requires c =
    let p = path_of c.args.path.now in
    let s = statement_of c.args.statement.now in
    let named : c.len-dimensions.result ≡ length p.loops = search rules in
    let g = gathered_there p c.len-dimensions.result (scopes_of c.as_slice.result.now) (gathered_of c.in_ok-rows.rows)
    named (ap scopes_of c.as_slice.ensures.value) c.in_ok-rows.ensures in
    let loops = c.in_ok-loops.ensures.items_if_clones_equal (search rules) in
    let is = made_there p c.args.number s c.len-dimensions.result c.in_ok-loops.loops.items c.from_parts-domain.result
    (gathered_of c.in_ok-rows.rows) c.as_slice-2.result.now c.in_ok-accesses.accesses.items named
    (loops ∙ c.as_slice-3.ensures.value) g c.from_parts-domain.ensures c.as_slice-2.ensures.value
    c.in_ok-accesses.ensures in
    subst IsModelled (sym is) (model_is p c.args.number s (rows_at p) c.requires)

pub returns : goal.returns
returns c =
    let p = path_of c.args.path.now in
    let s = statement_of c.args.statement.now in
    let named : c.len-dimensions.result ≡ length p.loops = search rules in
    let g = gathered_there p c.len-dimensions.result (scopes_of c.as_slice.result.now) (gathered_of c.in_ok-rows.rows)
    named (ap scopes_of c.as_slice.ensures.value) c.in_ok-rows.ensures in
    let loops = c.in_ok-loops.ensures.items_if_clones_equal (search rules) in
    let is = made_there p c.args.number s c.len-dimensions.result c.in_ok-loops.loops.items c.from_parts-domain.result
    (gathered_of c.in_ok-rows.rows) c.as_slice-2.result.now c.in_ok-accesses.accesses.items named
    (loops ∙ c.as_slice-3.ensures.value) g c.from_parts-domain.ensures c.as_slice-2.ensures.value
    c.in_ok-accesses.ensures in
    c.from_parts.ensures ∙ (is ∙ modelled_there p c.args.number s c.requires.loops)
