use Rattle.whole_numbers.proofs.Common.{rules, ◌≡◌, ◌+◌, ◌-◌, ap, refl, subst, sym, arith}
use Rattle.traced_projections.specs.Tracing.{IsTraced, Tracing, constraints_of}
use Rattle.traced_projections.specs.Projections.{LastFollows, all_traced, alone_traced, ranged_traced}
use Rattle.traced_projections.proofs.Runs.{alone_follows, traced_dimensions}
use Rattle.traced_projections.proofs.alone.alone.Goals as goal

pub all_gone-requires-in-Ok-all_gone : goal.all_gone-requires-in-Ok-all_gone
all_gone-requires-in-Ok-all_gone c =
    let t = c.args.traced.now in
    let is : c.in-Ok-all_gone.last ≡ all_traced 0 (t.dimensions - 1) (ranged_traced t) = search rules in
    let d = ap (λ (u : Tracing). u.dimensions) is in
    let g = traced_dimensions 0 (t.dimensions - 1) (ranged_traced t) in
    let all : (ranged_traced t).dimensions ≡ t.dimensions + t.parameters = refl in
    let own : t.parameters ≡ c.traced.inside.parameters = search rules in
    let some = c.requires in
    omega (arith, d, g, all, own, some)

pub returns-clause-points : goal.returns-clause-points
returns-clause-points c =
    let t = c.args.traced.now in
    let own : IsTraced t = search rules in
    let is : c.in-Ok-system.system ≡ constraints_of (alone_traced t) = search rules in
    subst (LastFollows (constraints_of t)) (sym is) (alone_follows t own)
