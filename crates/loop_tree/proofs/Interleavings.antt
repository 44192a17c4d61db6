-- Runs of a loop are the interleavings of runs of its iterations; where it is not parallel, those in turn.
use Rattle.scop_syntax.proofs.Common.{◌≡◌, ℕ, zero, suc, Bool, true, false, ℤ, pos, List, [], ◌∷◌, ◌++◌, inl, inr}
use Rattle.scop_syntax.proofs.Common.{ap, subst, sym, refl, arith, ◌∙◌, ◌+ℤ◌, ◌-ℤ◌, ◌≤ℤ◌, ◌<ℤ◌, ints, cond, filter}
use Rattle.scop_syntax.proofs.Common.{In, Sorted, in_append, in_map_from, most_turns, sorted_append, le_or_lt}
use Rattle.scop_syntax.proofs.Common.{Decides-int_eq, false_from_ne_true, not, not-true}
use Rattle.loop_tree.specs.Interleavings.{InTurn, Interleaves, MayRunAt, stands_at, starts_with}
use Rattle.loop_tree.specs.Runs.{Joins, MayRun, RunsAlong}
use Rattle.loop_tree.specs.Tree.{Bounds, Trees, loop}
use Rattle.loop_tree.specs.Walk.{Visit, lower, through, upper}
use Rattle.loop_tree.proofs.Filters.{filter_all, filter_none, filter_sorted, filter_within, in_filter}
use Rattle.loop_tree.proofs.Lists.{turns_reach, turns_within}
use Rattle.loop_tree.proofs.Shuffles.{joins_filter, joins_left, joins_members, joins_right, parts_shuffle}

-- a visit stands in one iteration
one_start : (x y : ℤ) (zs : List ℤ) → starts_with x zs ≡ true → starts_with y zs ≡ true → x ≡ y
one_start x y [] h k = absurd cc
one_start x y (z ∷ zs) h k = (Decides-int_eq x z).0 h ∙ sym ((Decides-int_eq y z).0 k)

stands_else : (x y : ℤ) (v : Visit) → stands_at y v ≡ true → (x ≡ y → ⊥) → stands_at x v ≡ false
stands_else x y v at apart = false_from_ne_true (stands_at x v) (λ h. apart (one_start x y v.values h at))

in_turn : (x y : ℤ) (v w : Visit) → stands_at x v ≡ true → stands_at y w ≡ true → x ≤ℤ y → InTurn v w
in_turn x y v w at_x at_y less a b at_a at_b =
    let e = one_start a x v.values at_a at_x in
    let f = one_start b y w.values at_b at_y in
    omega (arith, ints)

-- one that does not stand in the first iteration stands in a later one
later : (x y : ℤ) (v : Visit) → x ≤ℤ y → stands_at y v ≡ true → not (stands_at x v) ≡ true → x <ℤ y
later x y v less at other = elim (le_or_lt y x) [
  | inl h ↦
      let same : y ≡ x = omega (arith, ints) in
      let here : stands_at x v ≡ true = subst (λ z. stands_at z v ≡ true) same at in
      let not_here = not-true (stands_at x v) other in
      absurd cc
  | inr h ↦ h
]

-- a visit stands in one of n iterations from x on
abbrev StandsAmong : ℤ → ℕ → Visit → Type 0
StandsAmong x n v = (y : ℤ) × (x ≤ℤ y) × (y <ℤ (x +ℤ pos n)) × (stands_at y v ≡ true)

module _ (flag : Bool) (Run : ℤ → List Visit → Type 0)
    (stand : (x : ℤ) (xs : List Visit) → Run x xs → (v : Visit) → In v xs → stands_at x v ≡ true) where
  along_within : (n : ℕ) (x : ℤ) (zs : List Visit) → RunsAlong flag Run x n zs → (v : Visit) → In v zs
      → StandsAmong x n v
  along_within zero x zs h v i = absurd (subst (In v) h i)
  along_within (suc n) x zs (xs, ys, run, runs, joined) v i =
      elim (in_append v xs ys ((joins_members flag xs ys zs joined v).0 i)) [
        | inl j ↦ (x, omega (arith, ints), omega (arith, ints), stand x xs run v j)
        | inr j ↦ let r = along_within n (x +ℤ pos 1) ys runs v j in
            let a = r.1 in let b = r.2 in (r.0, omega (arith, ints), omega (arith, ints), r.3)
      ]

  -- those of the first iteration are its run
  along_first : (n : ℕ) (x : ℤ) (xs ys zs : List Visit) → Run x xs → RunsAlong flag Run (x +ℤ pos 1) n ys
      → Joins flag xs ys zs → Run x (filter (stands_at x) zs)
  along_first n x xs ys zs run runs joined =
      let P = stands_at x in
      let none : filter P ys ≡ [] = filter_none P ys (λ v i.
      let r = along_within n (x +ℤ pos 1) ys runs v i in
      let a = r.1 in
      stands_else x r.0 v r.3 (λ e. absurd (omega (arith, ints)))) in
      let same = joins_left flag (filter P xs) (filter P ys) (filter P zs) none (joins_filter P flag xs ys zs joined) in
      subst (Run x) (sym (same ∙ filter_all P xs (stand x xs run))) run

  along_each : (n : ℕ) (x : ℤ) (zs : List Visit) → RunsAlong flag Run x n zs → (y : ℤ) → x ≤ℤ y
      → y <ℤ (x +ℤ pos n) → Run y (filter (stands_at y) zs)
  along_each zero x zs h y a b = absurd (omega (arith, ints))
  along_each (suc n) x zs (xs, ys, run, runs, joined) y a b = elim (le_or_lt y x) [
    | inl h ↦
        let same : x ≡ y = omega (arith, ints) in
        subst (λ z. Run z (filter (stands_at z) zs)) same (along_first n x xs ys zs run runs joined)
    | inr h ↦
        let P = stands_at y in
        let none : filter P xs ≡ [] = filter_none P xs (λ v i.
        stands_else y x v (stand x xs run v i) (λ e. absurd (omega (arith, ints)))) in
        let same = joins_right flag (filter P xs) (filter P ys) (filter P zs) none
        (joins_filter P flag xs ys zs joined) in
        subst (Run y) (sym same) (along_each n (x +ℤ pos 1) ys runs y (omega (arith, ints)) (omega (arith, ints)))
  ]

-- visits in turn are those of the first iteration, and then the others
parts_behind : (v : Visit) (b : Bool) (us ws vs : List Visit) → (b ≡ false → us ≡ []) → vs ≡ us ++ ws
    → v ∷ vs ≡ cond b (v ∷ us) us ++ cond (not b) (v ∷ ws) ws
parts_behind v true us ws vs none e = ap (λ zs. v ∷ zs) e
parts_behind v false us ws vs none e =
    ap (λ zs. v ∷ zs) e ∙ subst (λ zs. v ∷ (zs ++ ws) ≡ zs ++ (v ∷ ws)) (sym (none refl)) refl

parts_in_turn : (x : ℤ) (zs : List Visit) → Sorted InTurn zs
    → ((v : Visit) → In v zs → (y : ℤ) × (x ≤ℤ y) × (stands_at y v ≡ true))
    → zs ≡ filter (stands_at x) zs ++ filter (λ v. not (stands_at x v)) zs
parts_in_turn x [] turn from = refl
parts_in_turn x (v ∷ vs) turn from =
    parts_behind v (stands_at x v) (filter (stands_at x) vs) (filter (λ w. not (stands_at x w)) vs) vs
    (λ e. filter_none (stands_at x) vs (λ w i.
    let r = from v (inl refl) in
    let q = from w (inr i) in
    let behind = later x r.0 v r.1 r.2 (ap not e) in
    let up = turn.0 w i r.0 q.0 r.2 q.2 in
    stands_else x q.0 w q.2 (λ f. absurd (omega (arith, ints)))))
    (parts_in_turn x vs turn.1 (λ w i. from w (inr i)))

parts_joined : (flag : Bool) (x : ℤ) (zs : List Visit) → (flag ≡ false → Sorted InTurn zs)
    → ((v : Visit) → In v zs → (y : ℤ) × (x ≤ℤ y) × (stands_at y v ≡ true))
    → Joins flag (filter (stands_at x) zs) (filter (λ v. not (stands_at x v)) zs) zs
parts_joined true x zs turn from = parts_shuffle (stands_at x) zs
parts_joined false x zs turn from = parts_in_turn x zs (turn refl) from

-- visits of n iterations from x on, those of each a run of it, are a run of all
along_from : (flag : Bool) (Run : ℤ → List Visit → Type 0) (n : ℕ) (x : ℤ) (zs : List Visit)
    → ((v : Visit) → In v zs → StandsAmong x n v)
    → ((y : ℤ) → x ≤ℤ y → y <ℤ (x +ℤ pos n) → Run y (filter (stands_at y) zs))
    → (flag ≡ false → Sorted InTurn zs) → RunsAlong flag Run x n zs
along_from flag Run zero x [] within each turn = refl
along_from flag Run zero x (v ∷ vs) within each turn =
    let r = within v (inl refl) in
    let a = r.1 in
    let b = r.2 in
    absurd (omega (arith, ints))
along_from flag Run (suc n) x zs within each turn =
    let Other : Visit → Bool = λ v. not (stands_at x v) in (
      filter (stands_at x) zs,
      filter Other zs,
      each x (omega (arith, ints)) (omega (arith, ints)),
      along_from flag Run n (x +ℤ pos 1) (filter Other zs) (λ v i.
          let f = in_filter Other v zs i in
          let r = within v f.0 in
          let behind = later x r.0 v r.1 r.3 f.1 in
          let b = r.2 in
          (r.0, omega (arith, ints), omega (arith, ints), r.3)) (λ y a b.
          let other : (v : Visit) → stands_at y v ≡ true → not (stands_at x v) ≡ true =
          λ v at. ap not (stands_else x y v at (λ e. absurd (omega (arith, ints)))) in
          subst (Run y) (sym (filter_within (stands_at y) Other other zs))
          (each y (omega (arith, ints)) (omega (arith, ints))))
          (λ off. filter_sorted InTurn Other zs (turn off)),
      parts_joined flag x zs turn (λ v i. let r = within v i in (r.0, r.1, r.3)),
    )

-- the runs of a serial loop are in turn
all_sorted : (xs : List Visit) → ((v w : Visit) → In v xs → In w xs → InTurn v w) → Sorted InTurn xs
all_sorted [] all = tt
all_sorted (x ∷ xs) all = (
  λ y i. all x y (inl refl) (inr i),
  all_sorted xs (λ v w i j. all v w (inr i) (inr j)),
)

along_in_turn : (Run : ℤ → List Visit → Type 0)
    → ((x : ℤ) (xs : List Visit) → Run x xs → (v : Visit) → In v xs → stands_at x v ≡ true)
    → (n : ℕ) (x : ℤ) (zs : List Visit) → RunsAlong false Run x n zs → Sorted InTurn zs
along_in_turn Run stand zero x zs h = subst (Sorted InTurn) (sym h) tt
along_in_turn Run stand (suc n) x zs (xs, ys, run, runs, joined) =
    let at = stand x xs run in
    subst (Sorted InTurn) (sym joined) (sorted_append InTurn xs ys
    (all_sorted xs (λ v w i j. in_turn x x v w (at v i) (at w j) (omega (arith, ints))))
    (along_in_turn Run stand n (x +ℤ pos 1) ys runs) (λ v w i j.
    let r = along_within false Run stand n (x +ℤ pos 1) ys runs w j in
    let a = r.1 in
    in_turn x r.0 v w (at v i) r.3 (omega (arith, ints))))

-- what a run of an iteration visits stands in it
run_stands : (flag : Bool) (body : Trees) (params outer : List ℤ) (x : ℤ) (xs : List Visit)
    → MayRunAt flag body params outer x xs → (v : Visit) → In v xs → stands_at x v ≡ true
run_stands flag body params outer x xs run v i =
    let m = in_map_from (through flag x) v run.0 (subst (In v) run.2 i) in
    subst (λ w. stands_at x w ≡ true) (sym m.2) ((Decides-int_eq x x).1 refl)

pub run_interleaves : (flag : Bool) (lo up : Bounds) (body : Trees) (params outer : List ℤ) (zs : List Visit)
    → MayRun (loop flag lo up body) params outer zs → Interleaves flag lo up body params outer zs
run_interleaves flag lo up body params outer zs h =
    let first = lower lo (outer ++ params) in
    let last = upper up (outer ++ params) in
    let n = most_turns (last -ℤ first) in
    let Run = MayRunAt flag body params outer in
    let stand = run_stands flag body params outer in
    record {
      within = λ v i.
          let r = along_within flag Run stand n first zs h v i in
          (r.0, (r.1, turns_reach (last -ℤ first) r.0 first last refl r.1 r.2), r.3);
      runs = λ x w. along_each flag Run stand n first zs h x w.0
          (turns_within (last -ℤ first) x first last refl w.0 w.1);
    }

pub interleaving_runs : (flag : Bool) (lo up : Bounds) (body : Trees) (params outer : List ℤ) (zs : List Visit)
    → Interleaves flag lo up body params outer zs → (flag ≡ false → Sorted InTurn zs)
    → MayRun (loop flag lo up body) params outer zs
interleaving_runs flag lo up body params outer zs is turn =
    let first = lower lo (outer ++ params) in
    let last = upper up (outer ++ params) in
    along_from flag (MayRunAt flag body params outer) (most_turns (last -ℤ first)) first zs (λ v i.
    let r = is.within v i in
    (r.0, r.1.0, turns_within (last -ℤ first) r.0 first last refl r.1.0 r.1.1, r.2))
    (λ y a b. is.runs y (a, turns_reach (last -ℤ first) y first last refl a b)) turn

pub serial_in_turn : (lo up : Bounds) (body : Trees) (params outer : List ℤ) (zs : List Visit)
    → MayRun (loop false lo up body) params outer zs → Sorted InTurn zs
serial_in_turn lo up body params outer zs h =
    let first = lower lo (outer ++ params) in
    along_in_turn (MayRunAt false body params outer) (run_stands false body params outer)
    (most_turns (upper up (outer ++ params) -ℤ first)) first zs h
