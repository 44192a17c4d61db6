use Rattle.scop_syntax.proofs.Common.{◌+◌, ◌++◌, ℤ, List, map, Vec, Global, drop, arith, length-map}
use Rattle.pluto_systems.specs.Posing.{growth_rows, growth_from}
use Rattle.pluto_systems.proofs.SmallVectors.{AreSmall, small_at}
use Rattle.pluto_systems.proofs.Steps.{more, growth_step}
use Rattle.pluto_systems.proofs.posing.push_all_growth.Goals as goal
use Rattle.pluto_systems.proofs.posing.push_all_growth.Goals.{After-vectors_at}

-- the vectors as plain lists
abbrev views : List (Vec (Vec ℤ Global) Global) → List (List (List ℤ))
views vectors = map (λ (vs : Vec (Vec ℤ Global) Global). map (λ (v : Vec ℤ Global). v.items) vs.items) vectors

small : (c : After-vectors_at) → AreSmall (map (λ (v : Vec ℤ Global). v.items) c.vectors_at.result.now)
small c =
    let n = length-map c.args.vectors.now (λ (vs : Vec (Vec ℤ Global) Global). map (λ
    (v : Vec ℤ Global). v.items) vs.items) in
    let t = c.loop-s-test.true in
    small_at c.args.columns.now.loops.now (views c.args.vectors.now) c.loop-s.s
    (map (λ (v : Vec ℤ Global). v.items) c.vectors_at.result.now) c.requires.vectors (omega arith) c.vectors_at.ensures

pub push_growth-requires-clause-few : goal.push_growth-requires-clause-few
push_growth-requires-clause-few c =
    let n = length-map c.vectors_at.result.now (λ (v : Vec ℤ Global). v.items) in
    let few = (small (goal.at.push_growth-requires-clause-few c).After-vectors_at).few in
    omega arith

pub push_growth-requires-clause-lengths : goal.push_growth-requires-clause-lengths
push_growth-requires-clause-lengths c = (small (goal.at.push_growth-requires-clause-lengths c).After-vectors_at).long

pub push_growth-requires-clause-sizes : goal.push_growth-requires-clause-sizes
push_growth-requires-clause-sizes c = (small (goal.at.push_growth-requires-clause-sizes c).After-vectors_at).small

pub loop-s-preserved : goal.loop-s-preserved
loop-s-preserved c =
    let m = c.args.columns.now.parameters in
    let loops = c.args.columns.now.loops.now in
    let vs = views c.args.vectors.now in
    let own = map (λ (v : Vec ℤ Global). v.items) c.vectors_at.result.now in
    let i = c.loop-s.s in
    let n = length-map c.args.vectors.now (λ (w : Vec (Vec ℤ Global) Global). map (λ
    (v : Vec ℤ Global). v.items) w.items) in
    let t = c.loop-s-test.true in
    more c.loop-s.out.items (growth_rows m loops i own) c.push_growth.new.out.items (growth_from m loops i (drop i vs))
    (growth_from m loops (i + 1) (drop (i + 1) vs)) (c.args.out.now.items ++ growth_from m loops 0 vs)
    c.in_ok-push_growth.ensures (growth_step m loops vs i own (omega arith) c.vectors_at.ensures) c.loop-s.invariant
