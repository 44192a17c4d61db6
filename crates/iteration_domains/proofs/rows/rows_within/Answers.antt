use Rattle.scop_syntax.proofs.Common.{◌≡◌, ◌∙◌, List, ap, ap₂, sym, append-nil, subst, drop_of_length-le, Affine}
use Rattle.iteration_domains.specs.Path.{shown, scopes_of}
use Rattle.iteration_domains.specs.declared.rows.Scope.{Scope as CodeScope}
use Rattle.iteration_domains.specs.Standing.{Standing, Gathered, CanEnter, finished, starting}
use Rattle.iteration_domains.proofs.Surroundings.{scope_can, scope_step}
use Rattle.iteration_domains.proofs.rows.rows_within.Goals as goal

pub enter-requires : goal.enter-requires
enter-requires c =
    let l = c.loop-scope in
    scope_can (shown l.rows) (starting c.args.parameters c.args.loops) c.args.path.now l.scope-index c.scope-item.result
    c.scope-item.is c.loop-scope-test.true l.invariant

pub loop-scope-preserved : goal.loop-scope-preserved
loop-scope-preserved c =
    let l = c.loop-scope in
    scope_step (shown l.rows) (shown c.enter.new.self) (starting c.args.parameters c.args.loops) c.args.path.now
    l.scope-index c.scope-item.result c.scope-item.is c.loop-scope-test.true l.invariant c.in_ok-enter.ensures

pub loop-scope-init : goal.loop-scope-init
loop-scope-init c =
    let scopes = scopes_of c.args.path.now in
    record {
      rows = ap (λ (s : Standing). finished s scopes) c.in_ok-rows.ensures;
      can = subst (λ (s : Standing). CanEnter s scopes) (sym c.in_ok-rows.ensures) c.requires.path;
    }

pub returns : goal.returns
returns c =
    let l = c.loop-scope in
    let gathered : List Affine → List Affine → Gathered = λ equalities rows. record {
      forms = l.rows.forms.items;
      equalities = equalities;
      rows = rows;
    } in
    ap₂ gathered (sym (append-nil l.rows.equalities.items)) (sym (append-nil l.rows.rows.items))
    ∙ subst (λ (scopes : List CodeScope). finished (shown l.rows) (scopes_of scopes)
    ≡ finished (starting c.args.parameters c.args.loops) (scopes_of c.args.path.now))
    (drop_of_length-le c.args.path.now c.loop-scope-test.false) l.invariant.rows
