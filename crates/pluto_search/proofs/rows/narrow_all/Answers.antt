use Rattle.scop_syntax.proofs.Common.{rules, ◌≡◌, ◌∙◌, ◌+◌, ℤ, List, [], ◌∷◌, ◌++◌, arith, length, map, drop, sym, ap}
use Rattle.scop_syntax.proofs.Common.{ap₂, subst, append_assoc, length-map, map-append, drop_all}
use Rattle.std.specs.Vec.{vec_len}
use Rattle.std.proofs.lemmas.List.{append-nil}
use Rattle.schedule_rows.specs.declared.item.Part as code_part
use Rattle.pluto_search.specs.steps.Sizes.{CanNarrow, CanNarrowEach, narrowed_each}
use Rattle.pluto_search.proofs.Counts.{narrow_lengths}
use Rattle.pluto_search.proofs.GoodStates.{Vectors, shown}
use Rattle.pluto_search.proofs.RestrictedDependences.{mapped_next}
use Rattle.pluto_search.proofs.rows.narrow_all.Goals as goal
use Rattle.pluto_search.proofs.rows.narrow_all.Goals.{After-index-vectors-at}

abbrev numbers : code_part.Part → List ℤ
numbers p = p.coefficients.items

-- a part for each statement
as_many : (ps : List code_part.Part) (vs : List Vectors) → CanNarrowEach (map numbers ps) (map shown vs) → length ps
    ≡ length vs
as_many ps vs h =
    let e = narrow_lengths (map numbers ps) (map shown vs) h in
    let a = length-map ps numbers in
    let b = length-map vs shown in
    omega arith

pub index-requires : goal.index-requires
index-requires c =
    let e = as_many c.args.row.now.parts.items c.args.vectors.now c.requires in
    let n : vec_len c.args.row.now.parts ≡ length c.args.row.now.parts.items = search rules in
    let l = c.loop-at-test.true in
    omega arith

part_next : (c : After-index-vectors-at) → drop c.loop-at.at (map numbers c.args.row.now.parts.items)
    ≡ c.index.result.now.coefficients.items ∷ drop (c.loop-at.at + 1) (map numbers c.args.row.now.parts.items)
part_next c =
    let e = as_many c.args.row.now.parts.items c.args.vectors.now c.requires in
    mapped_next numbers c.args.row.now.parts.items c.loop-at.at c.index.result.now
    (let l = c.loop-at-test.true in omega arith) c.index.ensures

vectors_next : (c : After-index-vectors-at) → drop c.loop-at.at (map shown c.args.vectors.now)
    ≡ shown c.index-vectors-at.result ∷ drop (c.loop-at.at + 1) (map shown c.args.vectors.now)
vectors_next c =
    mapped_next shown c.args.vectors.now c.loop-at.at c.index-vectors-at.result
    (let l = c.loop-at-test.true in omega arith) c.index-vectors-at.is

can_next : (c : After-index-vectors-at) → CanNarrow c.index.result.now.coefficients.items
    (shown c.index-vectors-at.result)
    × CanNarrowEach (drop (c.loop-at.at + 1) (map numbers c.args.row.now.parts.items))
    (drop (c.loop-at.at + 1) (map shown c.args.vectors.now))
can_next c =
    subst (λ (z : List (List (List ℤ))). CanNarrowEach (c.index.result.now.coefficients.items ∷ drop (c.loop-at.at + 1)
    (map numbers c.args.row.now.parts.items)) z)
    (vectors_next c)
    (subst (λ (z : List (List ℤ)). CanNarrowEach z (drop c.loop-at.at (map shown c.args.vectors.now))) (part_next c)
    c.loop-at.invariant.1)

pub narrow-requires : goal.narrow-requires
narrow-requires c = (can_next c).0

pub loop-at-preserved : goal.loop-at-preserved
loop-at-preserved c =
    let at = (goal.at.loop-at-preserved c).After-index-vectors-at in
    let all = c.loop-at.all.items in
    let i = c.loop-at.at in
    let rest = narrowed_each (drop (i + 1) (map numbers c.args.row.now.parts.items))
    (drop (i + 1) (map shown c.args.vectors.now)) in
    let next = c.in_ok-next.next in (
      ap (λ (z : List Vectors). map shown z ++ rest) c.in_ok-push.ensures.items
          ∙ (ap (λ (z : List (List (List ℤ))). z ++ rest) (map-append shown all (next ∷ []))
          ∙ (append_assoc (map shown all) (shown next ∷ []) rest
          ∙ (ap (λ (z : List (List ℤ)). map shown all ++ (z ∷ rest)) c.in_ok-next.ensures
          ∙ (ap (λ (z : List (List (List ℤ))). map shown all ++ z) (sym
          (ap₂ narrowed_each (part_next at) (vectors_next at))) ∙ c.loop-at.invariant.0)))),
      (can_next at).1,
    )

pub returns : goal.returns
returns c =
    let e = as_many c.args.row.now.parts.items c.args.vectors.now c.requires in
    let f = c.loop-at-test.false in
    let i = c.loop-at.at in
    let cs = map numbers c.args.row.now.parts.items in
    let vs = map shown c.args.vectors.now in
    let all = map shown c.loop-at.all.items in
    let k = length-map c.args.row.now.parts.items numbers in
    let l = length-map c.args.vectors.now shown in
    let a = drop_all i cs (omega arith) in
    let b = drop_all i vs (omega arith) in
    sym (append-nil all) ∙ (ap (λ (z : List (List (List ℤ))). all ++ z) (sym (ap₂ narrowed_each a b)) ∙
    c.loop-at.invariant.0)
