use Rattle.scop_syntax.proofs.Common.{rules, ◌≡◌, ◌<◌, ◌+◌, ◌++◌, ◌∷◌, ◌∙◌, [], List, ap, append_assoc, arith, drop, length, sym}
use Rattle.iteration_domains.specs.Dependence.{Dependence}
use Rattle.pluto_search.proofs.RestrictedDependences.{next_of}
use Rattle.pluto_search.proofs.ends.remaining.Goals as goal

pub loop-at-preserved : goal.loop-at-preserved
loop-at-preserved c =
    let bare = c.args.progress.now.bare.items in
    let i = c.loop-at.at in
    let old = c.loop-at.deps.items in
    let own = c.in_ok-copy.field-0 in
    let d = c.index.result.now in
    let rest = drop (i + 1) bare in
    let inside : i < length bare = omega (arith, c.loop-at-test.true) in
    let same : own ≡ d = search rules in
    ap (λ (ds : List Dependence). ds ++ rest) c.in_ok-push.ensures.pushed
    ∙ (append_assoc old (own ∷ []) rest
    ∙ (ap (λ (e : Dependence). old ++ e ∷ rest) same
    ∙ (ap (λ (ds : List Dependence). old ++ ds) (sym (next_of bare i d d inside c.index.ensures)) ∙ c.loop-at.invariant)))
