use Rattle.whole_numbers.proofs.Common.{◌≡◌, ◌+◌, ◌++◌, [], ℤ, List, Result, Ok, Err, map, drop, get_or, ◌∙◌, ap, arith}
use Rattle.whole_numbers.proofs.Common.{pos, IfOk, of_z, w128, dot}
use Rattle.null_space.specs.Narrowing.{against, narrowed_by}
use Rattle.null_space.proofs.ListLoops.{views, views_length, goes}
use Rattle.null_space.proofs.vectors.narrowed_by.Goals as goal

weaker : {T E : Type 0} (A B : T → Type 0) (r : Result T E) → IfOk r A → ((x : T) → A x → B x) → IfOk r B
weaker A B (Ok x) h f = f x h
weaker A B (Err e) h f = h

pub returns-then-a-ne0 : goal.returns-then-a-ne0
returns-then-a-ne0 c =
    let row = c.args.row.now in
    let vs = c.args.vectors.now in
    let i = c.loop-at.at in
    let e = views_length vs in
    let p : c.dot-a.result ≡ dot (get_or (views vs) i []) row =
    c.dot-a.ensures ∙ ap (λ (v : List ℤ). dot v row) c.vector_at-vector.ensures in
    let some : dot (get_or (views vs) i []) row ≡ pos 0 → ⊥ = λ z. c.if-a-ne0.true (ap (of_z w128) (p ∙ z)) in
    let g = goes row (views vs) i (omega arith) some in
    weaker (λ w. views w.items ≡ views c.loop-at.narrowed.items ++ map (against row (get_or (views vs) i []))
    (drop (i + 1) (views vs)))
    (λ w. views w.items ≡ narrowed_by row (views vs)) c.push_orthogonal.result c.push_orthogonal.ensures
    (λ w h. h ∙ (ap (λ (l : List (List ℤ)). views c.loop-at.narrowed.items ++ l) g ∙ c.loop-at.invariant))
