use Rattle.whole_numbers.proofs.Common.{ℕ, ◌≡◌, ◌<◌, ◌+◌, ◌-◌, arith, List, ◌++◌, take, drop, get_or, length, add-one}
use Rattle.whole_numbers.proofs.Common.{refl, All, All-take, All-drop, Some, take_all, length-drop, Affine}
use Rattle.affine_forms.specs.Parts.{variables_of}
use Rattle.integer_sets.specs.Constraints.{variables_in}
use Rattle.fractions.specs.Elimination.{first_with}
use Rattle.fm_projection.specs.Runs.{eliminated_run, place_of}
use Rattle.fm_projection.proofs.JoinedLists.{chain-stop, first_with_place}
use Rattle.fm_projection.proofs.elimination.by_equality.Goals as goal

-- the equality at the place, and the others, as they are cut
found_of : (i : ℕ) (es all : List Affine) (p : ℕ) (e : Affine) → all ≡ es → p ≡ place_of i es → p < length es
    → e ≡ get_or all p e
    → first_with i es ≡ Some (e, take p all ++ take (length all - (p + 1)) (drop (p + 1) all))
found_of i es all p e same place inside is =
    let tail = take_all (length es - (p + 1)) (drop (p + 1) es) (omega (arith, length-drop (p + 1) es)) in
    let own = rw same at is in
    let f = first_with_place i es e (omega (arith, place, inside)) in
    rw (same, tail) (rw (← place, ← own, ← (add-one p)) at f)

-- all are sized as the equality at the place
sized_as : (v p : ℕ) (es : List Affine) (e : Affine) → All (λ f. variables_of f ≡ v) es → p < length es
    → e ≡ get_or es p e → variables_of e ≡ v
sized_as v p es e all inside is = rw (← is) at (all p e inside)

pub reduce_all-requires : goal.reduce_all-requires
reduce_all-requires c =
    let es = c.equalities-all.result.now in
    let v = variables_in c.args.system.now in
    let p = c.args.place in
    let all = c.equalities-all.ensures.sized in
    let inside = rw (← c.equalities-all.ensures.forms) at c.requires.inside in
    let own = sized_as v p es c.index-all-place.result all inside c.index-all-place.is in
    let Sized : Affine → Type 0 = λ f. variables_of f ≡ v in
    rw own (record {
      variable = c.requires.variable;
      before = All-take Sized p es all;
      after = All-take Sized (length es - (p + 1)) (drop (p + 1) es) (All-drop Sized (p + 1) es all);
    })

pub reduce_all-requires-in-Ok : goal.reduce_all-requires-in-Ok
reduce_all-requires-in-Ok c =
    let v = variables_in c.args.system.now in
    let inside = rw (← c.equalities-all.ensures.forms) at c.requires.inside in
    let own = sized_as v c.args.place c.equalities-all.result.now c.index-all-place.result
    c.equalities-all.ensures.sized inside c.index-all-place.is in
    rw own (record {
      variable = c.requires.variable;
      before = λ k d none. absurd (omega (arith, none));
      after = c.rows.ensures.sized;
    })

pub returns-in-Err : goal.returns-in-Err
unfolding eliminated_run
returns-in-Err c =
    let found = found_of c.args.variable c.args.system.now.equalities c.equalities-all.result.now c.args.place
    c.index-all-place.result c.equalities-all.ensures.forms c.requires.place c.requires.inside c.index-all-place.is in
    rw found (chain-stop c.in-Err.stop _ _ c.in-Err.ensures)

pub returns-in-Err-reduce_all : goal.returns-in-Err-reduce_all
unfolding eliminated_run
returns-in-Err-reduce_all c =
    let found = found_of c.args.variable c.args.system.now.equalities c.equalities-all.result.now c.args.place
    c.index-all-place.result c.equalities-all.ensures.forms c.requires.place c.requires.inside c.index-all-place.is in
    let first = c.in-Ok.ensures in
    let second = rw c.rows.ensures.forms at c.in-Err-reduce_all.ensures in
    rw (found, first) (chain-stop c.in-Err-reduce_all.stop _ _ second)

pub returns-in-Ok-reduce_all : goal.returns-in-Ok-reduce_all
unfolding eliminated_run
returns-in-Ok-reduce_all c =
    let found = found_of c.args.variable c.args.system.now.equalities c.equalities-all.result.now c.args.place
    c.index-all-place.result c.equalities-all.ensures.forms c.requires.place c.requires.inside c.index-all-place.is in
    let first = c.in-Ok.ensures in
    let second = rw c.rows.ensures.forms at c.in-Ok-reduce_all.ensures in
    rw (found, first, second) refl
