use Rattle.scop_syntax.proofs.Common.{rules, ◌≡◌, ℕ, ◌<◌, pos, List, arith, length, map, All, sym, subst, ◌≤ℤ◌}
use Rattle.scop_syntax.proofs.Common.{slice_index_or, get_or-map, length-map, drop_all, All-nil, All-map, All-get_or}
use Rattle.pluto_systems.specs.Unknowns as unknowns
use Rattle.schedule_rows.specs.declared.item.Part as code_part
use Rattle.pluto_search.proofs.RestrictedDependences.{all_next}
use Rattle.pluto_search.proofs.NextStates.{plain_part}
use Rattle.pluto_search.proofs.rows.is_within.Goals as goal

abbrev IsSmall : code_part.Part → Type 0
IsSmall p = All (λ c. c ≤ℤ pos 4096) p.coefficients.items × (p.shift ≤ℤ pos 4096)

abbrev IsPlainSmall : unknowns.Part → Type 0
IsPlainSmall p = All (λ c. c ≤ℤ pos 4096) p.coefficients × (p.shift ≤ℤ pos 4096)

-- one of the parts
small_at : (ps : List code_part.Part) (i : ℕ) (p : code_part.Part) → i < length ps → p ≡ slice_index_or ps i p
    → All IsPlainSmall (map plain_part ps) → IsSmall p
small_at ps i p l e h =
    let n = length-map ps plain_part in
    subst IsSmall (sym e)
    (subst IsPlainSmall (get_or-map plain_part ps i p (plain_part p) l)
    (All-get_or IsPlainSmall (map plain_part ps) i (plain_part p) (omega arith) h))

pub returns-then-not-is_small-clause-great : goal.returns-then-not-is_small-clause-great
returns-then-not-is_small-clause-great c h within =
    c.is_small.ensures.great c.if-not-is_small.true
    (small_at c.args.row.now.parts.items c.loop-at.at c.index.result.now (omega (arith, c.loop-at-test.true))
    c.index.ensures within)

pub loop-at-preserved : goal.loop-at-preserved
loop-at-preserved c h =
    let ps = c.args.row.now.parts.items in
    let i = c.loop-at.at in
    let own = c.is_small.ensures.small c.if-not-is_small.false in
    c.loop-at.invariant (all_next IsSmall ps i c.index.result.now (omega (arith, c.loop-at-test.true))
    (subst IsSmall c.index.ensures own) h)

pub returns-clause-within : goal.returns-clause-within
returns-clause-within c h =
    All-map IsPlainSmall plain_part c.args.row.now.parts.items (c.loop-at.invariant
    (let ps = c.args.row.now.parts.items in
    let n : c.len-at-end.result ≡ length ps = search rules in
    subst (All IsSmall) (sym (drop_all c.loop-at.at ps (omega (arith, c.loop-at-test.false)))) (All-nil IsSmall)))
