-- Other forms at a tree's leaves, or sources, leave its tests and binds as they are.
use Rattle.whole_numbers.proofs.Common.{◌≡◌, ℤ, List, [], ◌∷◌, ◌++◌, subst, Ok, Result, Affine, value_of, floor}
use Rattle.wide_math.specs.declared.Wide.{Wide}
use Rattle.wide_math.specs.Checked.{◌>>=◌}
use Rattle.wide_math.proofs.Steps.{chain-ok}
use Rattle.quast_trees.specs.Source.{Source}
use Rattle.quast_trees.specs.Mapped.{map_run, leaf_run}
use Rattle.quast_trees.specs.Tree.{Tree, initial, leaf, branch, bind, named}
use Rattle.quast_trees.specs.Turns.{BindsUp, CanTell}

pub named_up : (s : Source) (t : Tree) (point : List ℤ) → BindsUp t point → BindsUp (named s t) point
named_up s initial point ups = tt
named_up s (leaf l) point ups = tt
named_up s (branch f x y) point ups = (λ p. named_up s x point (ups.0 p), λ p. named_up s y point (ups.1 p))
named_up s (bind f d x) point ups = (ups.0, named_up s x (point ++ floor (value_of f point) d ∷ []) ups.1)

pub named_tells : (s : Source) (t : Tree) → CanTell t → CanTell (named s t)
named_tells s initial tells = tt
named_tells s (leaf l) tells = tt
named_tells s (branch f x y) tells = (tells.0, named_tells s x tells.1, named_tells s y tells.2)
named_tells s (bind f d x) tells = (tells.0, tells.1, named_tells s x tells.2)

abbrev run_of : Tree → Result Tree Wide
run_of t = Ok t

ok_same : (x y : Tree) → run_of x ≡ run_of y → x ≡ y
ok_same x y h = cc

-- what a mapped tree keeps
pub record Keeps (t u : Tree) : Type 0 where
  pub ups : (point : List ℤ) → BindsUp t point → BindsUp u point
  pub tells : CanTell t → CanTell u

pub mapped_keeps : (forms : List Affine) (t u : Tree) → map_run forms t ≡ Ok u → Keeps t u
mapped_keeps forms initial u h =
    subst (Keeps initial) (ok_same initial u h) (record { ups = λ point ups. ups; tells = λ tells. tells })
mapped_keeps forms (leaf l) u h =
    let r = chain-ok (leaf_run forms l) (λ m. Ok (leaf m)) u h in
    subst (Keeps (leaf l)) (ok_same (leaf r.0) u r.2) (record { ups = λ point ups. tt; tells = λ tells. tt })
mapped_keeps forms (branch f x y) u h =
    let a = chain-ok (map_run forms x) (λ a. map_run forms y >>= λ b. Ok (branch f a b)) u h in
    let b = chain-ok (map_run forms y) (λ b. Ok (branch f a.0 b)) u a.2 in
    let first = mapped_keeps forms x a.0 a.1 in
    let second = mapped_keeps forms y b.0 b.1 in
    subst (Keeps (branch f x y)) (ok_same (branch f a.0 b.0) u b.2) (record {
      ups = λ point ups. (λ p. first.ups point (ups.0 p), λ p. second.ups point (ups.1 p));
      tells = λ tells. (tells.0, first.tells tells.1, second.tells tells.2);
    })
mapped_keeps forms (bind f d x) u h =
    let a = chain-ok (map_run forms x) (λ b. Ok (bind f d b)) u h in
    let body = mapped_keeps forms x a.0 a.1 in
    subst (Keeps (bind f d x)) (ok_same (bind f d a.0) u a.2) (record {
      ups = λ point ups. (ups.0, body.ups (point ++ floor (value_of f point) d ∷ []) ups.1);
      tells = λ tells. (tells.0, tells.1, body.tells tells.2);
    })
