-- What a visitor sees of a loop's values at once: so many instances, or whatever is shown.
use Rattle.scop_syntax.proofs.Common.{◌≡◌, ◌∙◌, ℕ, zero, suc, ℤ, pos, negsuc, List, [], ◌∷◌, ◌++◌, ap, sym, arith}
use Rattle.scop_syntax.proofs.Common.{length, map, ◌+ℤ◌, ◌-ℤ◌, ◌≤ℤ◌, ints, map-append, Instance}
use Rattle.std.proofs.lemmas.List.{append_assoc}
use Rattle.loop_tree.specs.Tree.{Trees}
use Rattle.loop_tree.specs.Walk.{Visit, along, given, walk_all}
use Rattle.loop_tree.specs.steps.Passing.{shown_along}
use Rattle.loop_tree.proofs.WalkSteps.{SoFar, shown_turn, turns_shown}

-- what a loop shows at its values in front of the last, and at that
turns_before : (body : Trees) (params outer : List ℤ) (way : ℕ) (first last : ℤ) → first +ℤ pos way ≡ last
    → turns_shown body params outer first last
    ≡ shown_along body params outer first way ++ turns_shown body params outer last last
turns_before body params outer zero first last e =
    let same : first ≡ last = omega (arith, ints) in
    ap (λ (x : ℤ). turns_shown body params outer x last) same
turns_before body params outer (suc way) first last e =
    let vs = walk_all body params (outer ++ first ∷ []) in
    let us : List Visit = along (λ y. walk_all body params (outer ++ y ∷ [])) (first +ℤ pos 1) way in
    let rest = turns_shown body params outer last last in
    shown_turn body params outer first last (omega (arith, ints))
    ∙ (ap (λ (is : List Instance). map given vs ++ is)
    (turns_before body params outer way (first +ℤ pos 1) last (omega (arith, ints)))
    ∙ (sym (append_assoc (map given vs) (map given us) rest)
    ∙ ap (λ (is : List Instance). is ++ rest) (sym (map-append given vs us))))

-- a visitor that took a part of the whole
part_taken : (T : List Instance → Type 0) (l part rest whole : List Instance) → whole ≡ part ++ rest → T (l ++ part)
    → (done : List Instance) × (done ++ rest ≡ l ++ whole) × T done
part_taken T l part rest whole is t =
    (l ++ part, append_assoc l part rest ∙ ap (λ (xs : List Instance). l ++ xs) (sym is), t)

-- it takes whatever comes, up to the last value
pub passed_by : (S T : List Instance → Type 0) (body : Trees) (params outer : List ℤ) (first last : ℤ)
    → first ≤ℤ last → ((l part : List Instance) → S l → T (l ++ part))
    → SoFar S T (turns_shown body params outer last last) (turns_shown body params outer first last)
passed_by S T body params outer first last up takes =
    by_way (last -ℤ first) (omega (arith, ints)) (omega (arith, ints))
  where
    by_way : (z : ℤ) → first +ℤ z ≡ last → pos 0 ≤ℤ z
        → SoFar S T (turns_shown body params outer last last) (turns_shown body params outer first last)
    by_way (negsuc n) e some = absurd (omega (arith, ints))
    by_way (pos way) e some = λ l s.
        let part = shown_along body params outer first way in
        part_taken T l part (turns_shown body params outer last last) (turns_shown body params outer first last)
        (turns_before body params outer way first last e) (takes l part s)

-- and so many instances
pub skipped : (S T : List Instance → Type 0) (body : Trees) (params outer : List ℤ) (first last : ℤ) (way count : ℕ)
    → first +ℤ pos way ≡ last → length (shown_along body params outer first way) ≡ count
    → ((l part : List Instance) → S l → length part ≡ count → T (l ++ part))
    → SoFar S T (turns_shown body params outer last last) (turns_shown body params outer first last)
skipped S T body params outer first last way count e size sees = λ l s.
    let part = shown_along body params outer first way in
    part_taken T l part (turns_shown body params outer last last) (turns_shown body params outer first last)
    (turns_before body params outer way first last e) (sees l part s size)
