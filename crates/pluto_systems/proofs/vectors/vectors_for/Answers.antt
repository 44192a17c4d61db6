use Rattle.scop_syntax.proofs.Common.{◌≡◌, ◌<◌, ◌+◌, ◌++◌, ◌∷◌, ◌∙◌, [], ℤ, List, Vec, Global, All, ap, arith, drop, get_or, length}
use Rattle.scop_syntax.proofs.Common.{ℕ, append-nil, drop_all, map, map-append, subst, sym}
use Rattle.null_space.specs.Narrowing.{kernel_vectors}
use Rattle.null_space.specs.Sizes.{AreCoefficients, AreLong}
use Rattle.pluto_systems.specs.Posing.{vectors_for}
use Rattle.pluto_systems.proofs.Steps.{more, vectors_step}
use Rattle.pluto_systems.proofs.vectors.vectors_for.Goals as goal

abbrev shown : Vec (Vec ℤ Global) Global → List (List ℤ)
shown vs = map (λ (v : Vec ℤ Global). v.items) vs.items

pub kernel_vectors-requires-clause-columns : goal.kernel_vectors-requires-clause-columns
kernel_vectors-requires-clause-columns c =
    let inside : c.loop-s.s < length c.args.columns.now.loops.now = omega arith in
    c.args.columns.now.small c.loop-s.s 0 inside

pub kernel_vectors-requires-clause-lengths : goal.kernel_vectors-requires-clause-lengths
kernel_vectors-requires-clause-lengths c =
    let inside : c.loop-s.s < length c.args.columns.now.loops.now = omega arith in
    subst (AreLong (get_or c.args.columns.now.loops.now c.loop-s.s 0)) (sym c.vectors_at.ensures)
    (c.requires.long c.loop-s.s inside)

pub kernel_vectors-requires-clause-coefficients : goal.kernel_vectors-requires-clause-coefficients
kernel_vectors-requires-clause-coefficients c =
    let inside : c.loop-s.s < length c.args.columns.now.loops.now = omega arith in
    subst (All AreCoefficients) (sym c.vectors_at.ensures) (c.requires.small c.loop-s.s inside)

pub loop-s-preserved : goal.loop-s-preserved
loop-s-preserved c =
    let loops = c.args.columns.now.loops.now in
    let rows = map shown c.args.rows.now in
    let s = c.loop-s.s in
    let old = c.loop-s.vectors.items in
    let own = c.in_ok-own.own in
    let next = kernel_vectors (get_or loops s 0) (get_or rows s []) in
    let inside : s < length loops = omega arith in
    let made : shown own ≡ next =
    c.in_ok-own.ensures.narrowed ∙ ap (kernel_vectors (get_or loops s 0)) c.vectors_at.ensures in
    let gained : map shown c.push.new.self.items ≡ map shown old ++ next ∷ [] =
    ap (map shown) c.in_ok-push.ensures.items
    ∙ (map-append shown old (own ∷ []) ∙ ap (λ (v : List (List ℤ)). map shown old ++ v ∷ []) made) in
    more (map shown old) (next ∷ []) (map shown c.push.new.self.items) (vectors_for (drop s loops) (drop s rows))
    (vectors_for (drop (s + 1) loops) (drop (s + 1) rows)) _ gained
    (vectors_step loops rows s inside c.requires.size) c.loop-s.invariant

pub returns : goal.returns
returns c =
    let old = map shown c.loop-s.vectors.items in
    let rest = drop c.loop-s.s (map shown c.args.rows.now) in
    let none = drop_all c.loop-s.s c.args.columns.now.loops.now (omega arith) in
    sym (append-nil old) ∙ (ap (λ (ls : List ℕ). old ++ vectors_for ls rest) (sym none) ∙ c.loop-s.invariant)
