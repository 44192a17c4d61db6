-- The values of a chain of loops, at each kind.
use Rattle.scop_syntax.proofs.Common.{◌≡◌, ◌+◌, ◌<◌, ℕ, suc, ℤ, List, [], ◌∷◌, ◌++◌, length, length-append, Bor, ap}
use Rattle.scop_syntax.proofs.Common.{ap₂, sym, ◌∙◌, arith, drop, set}
use Rattle.std.proofs.lemmas.List.{append_assoc, drop-set}
use Rattle.loop_tree.specs.declared.outer.Outer.{Outer}
use Rattle.loop_tree.specs.declared.outer.Outer.TheVariants.{Row, Within, rolls-Row, rolls-Within}
use Rattle.loop_tree.specs.declared.outer.Outer.TheFolds.{fold-roll-Outer}
use Rattle.loop_tree.specs.declared.outer.Outer.TheOpen.{Outer-F}
use Rattle.loop_tree.specs.steps.Chain.{chain_step, values_in}

pub values_row : (values : Bor (List ℤ)) → values_in (Row values) ≡ values.now
values_row values = ap values_in (sym (rolls-Row values)) ∙ fold-roll-Outer (List ℤ) chain_step (Outer-F.Row values)

pub values_within : (inner : Bor Outer) (x : ℤ) → values_in (Within inner x) ≡ values_in inner.now ++ x ∷ []
values_within inner x =
    ap values_in (sym (rolls-Within inner x)) ∙ fold-roll-Outer (List ℤ) chain_step (Outer-F.Within inner x)

pub values_at : (inner : Bor Outer) (x y : ℤ) → y ≡ x → values_in (Within inner y) ≡ values_in inner.now ++ x ∷ []
values_at inner x y e =
    values_within inner y ∙ ap (λ (z : ℤ). values_in inner.now ++ z ∷ []) e

-- a loop more
pub length_within : (at : Outer) (inner : Bor Outer) (x : ℤ) → at ≡ Within inner x
    → length (values_in at) ≡ suc (length (values_in inner.now))
length_within at inner x is =
    let l = ap (λ (o : Outer). length (values_in o)) is in
    let m = ap (λ (xs : List ℤ). length xs) (values_within inner x) in
    let n = length-append (values_in inner.now) (x ∷ []) in
    omega (arith, l, m, n)

-- the innermost loop's value in front of a row
pub laid_one : (at : Outer) (inner : Bor Outer) (x y : ℤ) (row : List ℤ) (k n : ℕ) → at ≡ Within inner x → y ≡ x
    → n ≡ suc k → k < length row → values_in inner.now ++ drop k (set row k y) ≡ values_in at ++ drop n row
laid_one at inner x y row k n is same next inside =
    let whole = ap values_in is ∙ values_within inner x in
    let later : k + 1 ≡ n = omega (arith, next) in
    ap (λ (ys : List ℤ). values_in inner.now ++ ys) (drop-set row k y inside)
    ∙ (ap₂ (λ (z : ℤ) (i : ℕ). values_in inner.now ++ z ∷ drop i row) same later
    ∙ (sym (append_assoc (values_in inner.now) (x ∷ []) (drop n row))
    ∙ ap (λ (ys : List ℤ). ys ++ drop n row) (sym whole)))
