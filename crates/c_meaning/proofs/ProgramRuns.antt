-- Runs of a printed program are those of its loop tree.
use Rattle.scop_syntax.proofs.Common.{◌≡◌, ◌∙◌, ap, ap₂, sym, subst, refl, ℕ, zero, suc, ◌+◌, Bool, true, false, inl}
use Rattle.scop_syntax.proofs.Common.{inr, ℤ, pos, negsuc, ◌+ℤ◌, ◌-ℤ◌, ◌≤ℤ◌, ◌<ℤ◌, List, [], ◌∷◌, ◌++◌, length, arith}
use Rattle.scop_syntax.proofs.Common.{ints, Option, Some, le_z, le_z_holds, holds_le_z, map, same_Some, Program, Affine}
use Rattle.scop_syntax.proofs.Common.{values_of, Standing, append-nil, T, not, In, in_append, in_map_from}
use Rattle.std.specs.Int.Signed.{lt_z, lt_z_yes, lt_z_no}
use Rattle.whole_numbers.proofs.Common.{map-append}
use Rattle.std.proofs.lemmas.List.{append_assoc, length-append}
use Rattle.scop_syntax.specs.Walk.{most_turns}
use Rattle.loop_tree.specs.Tree.{Tree, loop, guard, instance, Trees, none, more}
use Rattle.loop_tree.specs.Walk.{Visit, lower, upper, all_hold, through}
use Rattle.loop_tree.specs.Runs.{IsShuffle, RunsAlong, MayRun, MayRunAll}
use Rattle.loop_tree.specs.Marks.{Flat, FlatAll}
use Rattle.form_text.specs.Reading.{when}
use Rattle.c_meaning.proofs.FormWorths.{kept_wide}
use Rattle.c_meaning.proofs.BoundWorths.{lower_worth, upper_worth, tests_worth}
use Rattle.c_meaning.proofs.LaterNames.{condition_worth, constants_worth}
use Rattle.c_meaning.specs.Visits.{IsRaceless, AreRaceless}
use Rattle.c_meaning.specs.Expressions.{kept, worth, constants, all_of}
use Rattle.c_meaning.specs.Runs.{Act, Outcome, After, Stops, InTurn, SideBySide, MayDo, MayDoAll, at_most_last, counted}
use Rattle.c_meaning.specs.Runs.{Together, Clash, Race}
use Rattle.loop_tree.proofs.Shuffles.{joins_members}
use Rattle.planned_trees.proofs.TreeRuns.{members_all}
use Rattle.c_meaning.specs.Programs.{lower_expression, upper_expression, statement_of, statements_of, comparison, c_of}
use Rattle.c_meaning.specs.Programs.{instance_at, given_expressions, assignment_in}
use Rattle.c_printer.specs.Iterators.{given_values}
use Rattle.c_meaning.specs.Narrow.{GivensFit, Fits, IsNarrow, AreNarrow, InstanceFits, CountFits}
use Rattle.c_meaning.specs.steps.Law.{IsFormed, AreFormed, Tells, TellAll, ComesTo}

pub no_turns : (z : ℤ) → z <ℤ pos 0 → most_turns z ≡ 0
no_turns (pos n) h = absurd (omega (arith, ints, h))
no_turns (negsuc n) h = refl

pub one_turn : (z : ℤ) → pos 0 ≤ℤ z → most_turns z ≡ suc (most_turns (z -ℤ pos 1))
one_turn (pos zero) h = refl
one_turn (pos (suc n)) h =
    let e : pos (suc n) -ℤ pos 1 ≡ pos n = omega (arith, ints) in ap (λ (z : ℤ). suc (most_turns z)) (sym e)
one_turn (negsuc n) h = absurd (omega (arith, ints, h))

pub after_is : {A : Type 0} → (q : Option A) (a : A) (o : Outcome) (f : A → Type 0) → q ≡ Some a → After q o f → f a
after_is q a o f e h = subst (λ r. After r o f) e h

pub clash : (t : Bool) → t ≡ true → t ≡ false → ⊥
clash true e f = cc
clash false e f = cc

pub false_le : (a b : ℤ) → le_z a b ≡ false → b <ℤ a
false_le a b e = by_lt (lt_z b a) refl
  where
    by_lt : (t : Bool) → lt_z b a ≡ t → b <ℤ a
    by_lt true f = lt_z_yes (subst T (sym f) tt)
    by_lt false f =
        absurd (clash (le_z a b) (le_z_holds a b (lt_z_no (subst (λ x. T (not x)) (sym f) tt))) e)

-- a loop that runs its iterations in turn
in_turn : (told : Visit → Act) (condition : ℤ → Option Bool) (Body : ℤ → Outcome → Type 0)
    (Run : ℤ → List Visit → Type 0) (first last : ℤ) → ((x : ℤ) → condition x ≡ Some (le_z x last))
    → ((x : ℤ) → first ≤ℤ x → x ≤ℤ last → Fits (x +ℤ pos 1))
    → ((x : ℤ) → first ≤ℤ x → x ≤ℤ last → (a : Outcome) → Body x a → ComesTo told (Run x) a)
    → (n : ℕ) (x : ℤ) → first ≤ℤ x → (o : Outcome) → InTurn condition Body x n o
    → ComesTo told (RunsAlong false Run x (most_turns (last -ℤ x))) o
in_turn told condition Body Run first last test fits body zero x low o h =
    by_test (le_z x last) refl (subst (λ t. Stops t o) (test x) h)
  where
    by_test : (t : Bool) → le_z x last ≡ t → Stops (Some t) o
        → ComesTo told (RunsAlong false Run x (most_turns (last -ℤ x))) o
    by_test true e k = absurd k
    by_test false e k =
        let l = false_le x last e in
        let z = no_turns (last -ℤ x) (omega (arith, ints, l)) in
        ([], subst (λ m. RunsAlong false Run x m []) (sym z) refl, k)
in_turn told condition Body Run first last test fits body (suc n) x low o h =
    let up = holds_le_z x last (same_Some (le_z x last) true (sym (test x) ∙ h.0)) in
    let done = body x low up h.1 h.2 in
    let on = after_is h.1 (map told done.0) o
    (λ vs. After (kept false (x +ℤ pos 1)) o
    (λ y. (b : Outcome) × InTurn condition Body y n b × After b o (λ ws. o ≡ Some (vs ++ ws)))) done.2 h.3 in
    let rest = after_is (kept false (x +ℤ pos 1)) (x +ℤ pos 1) o
    (λ y. (b : Outcome) × InTurn condition Body y n b × After b o (λ ws. o ≡ Some (map told done.0 ++ ws)))
    (kept_wide (x +ℤ pos 1) (fits x low up)) on in
    let more = in_turn told condition Body Run first last test fits body n (x +ℤ pos 1) (omega (arith, ints, low))
    rest.0 rest.1 in
    let ends = after_is rest.0 (map told more.0) o (λ ws. o ≡ Some (map told done.0 ++ ws)) more.2 rest.2 in
    let turn = one_turn (last -ℤ x) (omega (arith, ints, up)) in
    let same : (last -ℤ x) -ℤ pos 1 ≡ last -ℤ (x +ℤ pos 1) = omega (arith, ints) in
    let count = turn ∙ ap (λ (z : ℤ). suc (most_turns z)) same in (
      done.0 ++ more.0,
      subst (λ m. RunsAlong false Run x m (done.0 ++ more.0)) (sym count) (done.0, more.0, done.1, more.1, refl),
      ends ∙ ap (λ (vs : List Act). Some vs) (sym (map-append told done.0 more.0)),
    )

-- a list of images has a first, which is that of its first
first_image : (f : Visit → Act) (xs : List Visit) (z : Act) (rest : List Act) → map f xs ≡ z ∷ rest
    → (x : Visit) × (ys : List Visit) × (xs ≡ x ∷ ys) × (z ≡ f x) × (map f ys ≡ rest)
first_image f [] z rest e = absurd (by_cc e)
  where
    by_cc : [] ≡ z ∷ rest → ⊥
    by_cc k = cc
first_image f (x ∷ xs) z rest e = (x, xs, refl, by_first e, by_rest e)
  where
    by_first : f x ∷ map f xs ≡ z ∷ rest → z ≡ f x
    by_first k = cc

    by_rest : f x ∷ map f xs ≡ z ∷ rest → map f xs ≡ rest
    by_rest k = cc

no_image : (f : Visit → Act) (xs : List Visit) → map f xs ≡ [] → xs ≡ []
no_image f [] e = refl
no_image f (x ∷ xs) e = absurd (by_cc e)
  where
    by_cc : f x ∷ map f xs ≡ [] → ⊥
    by_cc k = cc

-- a shuffle of images is the image of a shuffle
shuffled : (f : Visit → Act) (us : List Act) (xs ys : List Visit) → IsShuffle (map f xs) (map f ys) us
    → (zs : List Visit) × IsShuffle xs ys zs × (us ≡ map f zs)
shuffled f [] xs ys h = ([], (no_image f xs h.0, no_image f ys h.1), refl)
shuffled f (u ∷ us) xs ys (inl h) =
    let i = first_image f xs u h.0 h.1 in
    let r = shuffled f us i.1 ys (subst (λ (t : List Act). IsShuffle t (map f ys) us) (sym i.4) h.2) in
    (i.0 ∷ r.0, inl (i.1, i.2, r.1), ap₂ (λ (v : Act) (vs : List Act). v ∷ vs) i.3 r.2)
shuffled f (u ∷ us) xs ys (inr h) =
    let i = first_image f ys u h.0 h.1 in
    let r = shuffled f us xs i.1 (subst (λ (t : List Act). IsShuffle (map f xs) t us) (sym i.4) h.2) in
    (i.0 ∷ r.0, inr (i.1, i.2, r.1), ap₂ (λ (v : Act) (vs : List Act). v ∷ vs) i.3 r.2)

-- a visit of some run of an iteration
record Reaches (Run : ℤ → List Visit → Type 0) (x : ℤ) (v : Visit) : Type 0 where
  visits : List Visit
  run : Run x visits
  among : In v visits

-- what later iterations make together stands in one of them
along_reached : (Run : ℤ → List Visit → Type 0) (n : ℕ) (x : ℤ) (zs : List Visit) → RunsAlong true Run x n zs
    → (v : Visit) → In v zs → (y : ℤ) × (x ≤ℤ y) × (y <ℤ (x +ℤ pos n)) × Reaches Run y v
along_reached Run zero x zs h v i = absurd (subst (λ (ws : List Visit). In v ws) h i)
along_reached Run (suc n) x zs h v i =
    elim (in_append v h.0 h.1 ((joins_members true h.0 h.1 zs h.4 v).0 i)) [
      | inl j ↦ (x, omega (arith, ints), omega (arith, ints), record { visits = h.0; run = h.2; among = j })
      | inr j ↦ let r = along_reached Run n (x +ℤ pos 1) h.1 h.3 v j in
          let a = r.1 in
          let b = r.2 in (r.0, omega (arith, ints, a), omega (arith, ints, b), r.3)
    ]

-- acts of two iterations do not conflict
abbrev AreApart : (Visit → Act) → (ℤ → List Visit → Type 0) → ℤ → ℤ → Type 0
AreApart told Run first last =
    (x y : ℤ) → first ≤ℤ x → x <ℤ y → y ≤ℤ last → (v w : Visit) → Reaches Run x v → Reaches Run y w
    → Clash (told v) (told w) → ⊥

no_race : (told : Visit → Act) (Run : ℤ → List Visit → Type 0) (first last : ℤ) → AreApart told Run first last
    → (n : ℕ) (x : ℤ) (vs ws : List Visit) → first ≤ℤ x → (x +ℤ pos (suc n)) ≤ℤ (last +ℤ pos 1) → Run x vs
    → RunsAlong true Run (x +ℤ pos 1) n ws → Race (map told vs) (map told ws) → ⊥
no_race told Run first last apart n x vs ws low high run later race =
    let v = in_map_from told race.left vs race.is_left in
    let w = in_map_from told race.right ws race.is_right in
    let r = along_reached Run n (x +ℤ pos 1) ws later w.0 w.1 in
    let a = r.1 in
    let b = r.2 in
    apart x r.0 low (omega (arith, ints, a)) (omega (arith, ints, b, high)) v.0 w.0
    (record { visits = vs; run = run; among = v.1 }) r.3
    (subst (λ (t : Act). Clash (told v.0) t) w.2 (subst (λ (t : Act). Clash t race.right) v.2 race.clash))

-- a loop that runs its iterations side by side
side_by_side : (told : Visit → Act) (Body : ℤ → Outcome → Type 0) (Run : ℤ → List Visit → Type 0) (first last : ℤ)
    → ((x : ℤ) → first ≤ℤ x → x ≤ℤ last → (a : Outcome) → Body x a → ComesTo told (Run x) a)
    → AreApart told Run first last
    → (n : ℕ) (x : ℤ) → first ≤ℤ x → (x +ℤ pos n) ≤ℤ (last +ℤ pos 1) → (o : Outcome) → SideBySide Body x n o
    → ComesTo told (RunsAlong true Run x n) o
side_by_side told Body Run first last body apart zero x low high o h = ([], refl, h)
side_by_side told Body Run first last body apart (suc n) x low high o h =
    let done = body x low (omega (arith, ints, high)) h.0 h.2 in
    let more = side_by_side told Body Run first last body apart n (x +ℤ pos 1) (omega (arith, ints, low))
    (omega (arith, ints, high)) h.1 h.3 in
    let on = after_is h.0 (map told done.0) o (λ vs. After h.1 o (λ ws. Together vs ws o)) done.2 h.4 in
    let ends = after_is h.1 (map told more.0) o (λ ws. Together (map told done.0) ws o) more.2 on in
    elim ends [
      | inl race ↦ absurd (no_race told Run first last apart n x done.0 more.0 low high done.1 more.1 race.0)
      | inr made ↦ let r = shuffled told made.0 done.0 more.0 made.1 in
          (r.0, (done.0, more.0, done.1, more.1, r.1), made.2 ∙ ap (λ (vs : List Act). Some vs) r.2)
    ]

pub map_twice : (f : Visit → Act) (g : Visit → Visit) (vs : List Visit) → map (λ v. f (g v)) vs ≡ map f (map g vs)
map_twice f g [] = refl
map_twice f g (v ∷ vs) = ap (λ (ws : List Act). f (g v) ∷ ws) (map_twice f g vs)

-- what an instance's constants hold
pub held : (params outer : List ℤ) (n : ℕ) (s : Standing) (turns : List Affine) → n ≡ length params
    → GivensFit params outer [] s.heads turns
    → constants (params ++ outer) (given_expressions n (length outer) (n + length outer) s.heads turns)
    ≡ Some (given_values params outer [] s.heads turns)
held params outer n s turns e f =
    let same = append-nil outer in
    let l = length-append params outer in
    let m = ap (λ (t : List ℤ). length (params ++ t)) same in
    subst (λ k. constants (params ++ outer) (given_expressions k (length outer) (k + length outer) s.heads turns)
    ≡ Some (given_values params outer [] s.heads turns)) (sym e)
    (ap (λ (t : List ℤ). constants (params ++ t)
    (given_expressions (length params) (length outer) (length params + length outer) s.heads turns)) (sym same)
    ∙ constants_worth params outer [] (length params + length outer) s.heads turns (omega (arith, l, m)) f)

pub turns_are : (z : ℤ) → pos 0 ≤ℤ z → pos (most_turns z) ≡ z +ℤ pos 1
turns_are (pos n) h = omega (arith, ints)
turns_are (negsuc n) h = absurd (omega (arith, ints, h))

pub counted_is : (x y : ℤ) → CountFits x y → counted x y ≡ Some ((y -ℤ x) +ℤ pos 1)
counted_is x y f =
    ap (λ (o : Option ℤ). when o (λ a. when (kept false (y -ℤ x)) (λ b. kept false (b +ℤ pos 1))))
    (kept_wide (y +ℤ pos 1) f.0)
    ∙ (ap (λ (o : Option ℤ). when o (λ b. kept false (b +ℤ pos 1))) (kept_wide (y -ℤ x) f.1)
    ∙ kept_wide ((y -ℤ x) +ℤ pos 1) f.2)

-- a parallel loop behind its bounds
parallel : (told : Visit → Act) (Body : ℤ → Outcome → Type 0) (Run : ℤ → List Visit → Type 0) (first last : ℤ)
    (o : Outcome) → CountFits first last
    → ((x : ℤ) → first ≤ℤ x → x ≤ℤ last → (a : Outcome) → Body x a → ComesTo told (Run x) a)
    → AreApart told Run first last
    → After (counted first last) o (λ z. SideBySide Body first (most_turns (last -ℤ first)) o)
    → ComesTo told (RunsAlong true Run first (most_turns (last -ℤ first))) o
parallel told Body Run first last o fits body apart h =
    by_test (le_z first last) refl
    (after_is (counted first last) ((last -ℤ first) +ℤ pos 1) o
    (λ z. SideBySide Body first (most_turns (last -ℤ first)) o) (counted_is first last fits) h)
  where
    by_test : (t : Bool) → le_z first last ≡ t → SideBySide Body first (most_turns (last -ℤ first)) o
        → ComesTo told (RunsAlong true Run first (most_turns (last -ℤ first))) o
    by_test true e k =
        let l = holds_le_z first last e in
        let n = turns_are (last -ℤ first) (omega (arith, ints, l)) in
        side_by_side told Body Run first last body apart (most_turns (last -ℤ first)) first (omega (arith, ints))
        (omega (arith, ints, n)) o k
    by_test false e k =
        let l = false_le first last e in
        let z = no_turns (last -ℤ first) (omega (arith, ints, l)) in
        ([], subst (λ m. RunsAlong true Run first m []) (sym z) refl, subst (λ m. SideBySide Body first m o) z k)

-- one iteration, whose iterator is one name more
iteration : (program : Program) (told : Visit → Act) (flag : Bool) (body : Trees) (params outer : List ℤ) (x : ℤ)
    (a : Outcome)
    → ((b : Outcome) → MayDoAll (statements_of program (length (outer ++ x ∷ [])) body) (params ++ (outer ++ x ∷ [])) b
    → ComesTo (λ v. told (through flag x v)) (MayRunAll body params (outer ++ x ∷ [])) b)
    → MayDoAll (statements_of program (suc (length outer)) body) ((params ++ outer) ++ x ∷ []) a
    → ComesTo told
    (λ xs. (ys : List Visit) × MayRunAll body params (outer ++ x ∷ []) ys × (xs ≡ map (through flag x) ys)) a
iteration program told flag body params outer x a runs h =
    let l = length-append outer (x ∷ []) in
    let r = runs a (subst (λ k. MayDoAll (statements_of program k body) (params ++ (outer ++ x ∷ [])) a)
    (omega (arith, l)) (subst (λ q. MayDoAll (statements_of program (suc (length outer)) body) q a)
    (append_assoc params outer (x ∷ [])) h)) in (
      map (through flag x) r.0,
      (r.0, r.1, refl),
      r.2 ∙ ap (λ (vs : List Act). Some vs) (map_twice told (through flag x) r.0),
    )

guarded_runs : (told : Visit → Act) (Run : List Visit → Type 0) (t : Bool) (o : Outcome) (Do : Type 0)
    → (t ≡ true → Do → ComesTo told Run o) → (t ≡ true → Do) × (t ≡ false → o ≡ Some [])
    → ComesTo told (λ vs. (t ≡ true → Run vs) × (t ≡ false → vs ≡ [])) o
guarded_runs told Run true o Do runs h =
    let r = runs refl (h.0 refl) in (r.0, (λ e. r.1, λ e. absurd (clash true refl e)), r.2)
guarded_runs told Run false o Do runs h = ([], (λ e. absurd (clash false e refl), λ e. refl), h.1 refl)

-- what an instance reaches, where its constants hold these values
abbrev pub reached : Program → List ℤ → List ℤ → Standing → List ℤ → Act
reached program params outer s vs =
    record {
      assignment = assignment_in (length program.parameters) (length outer)
          (length program.parameters + length outer + length s.heads) s.body;
      point = (params ++ outer) ++ vs;
    }

mutual
  pub runs_of : (program : Program) (told : Visit → Act) (t : Tree) (params outer : List ℤ)
      → length program.parameters ≡ length params → Flat t → IsFormed program t params outer → IsNarrow program t params outer
      → Tells program told t params outer → IsRaceless told t params outer → (o : Outcome)
      → MayDo (statement_of program (length outer) t) (params ++ outer) o → ComesTo told (MayRun t params outer) o
  runs_of program told (loop false lo up body) params outer e flat formed narrow tells free o h =
      let p = params ++ outer in
      let first = lower lo (outer ++ params) in
      let last = upper up (outer ++ params) in
      let n = length program.parameters in
      let d = length outer in
      let g = after_is (worth p (lower_expression n d lo)) first o
      (λ x. (m : ℕ) × InTurn (at_most_last p (upper_expression n d up))
      (λ y. MayDoAll (statements_of program (suc d) body) (p ++ y ∷ [])) x m o)
      (ap (λ k. worth p (lower_expression k d lo)) e ∙ lower_worth params outer lo flat.0 formed.0 narrow.0) h in
      in_turn told (at_most_last p (upper_expression n d up))
      (λ y. MayDoAll (statements_of program (suc d) body) (p ++ y ∷ []))
      (λ x xs. (ys : List Visit) × MayRunAll body params (outer ++ x ∷ []) ys × (xs ≡ map (through false x) ys))
      first last
      (λ x. ap (λ k. at_most_last p (upper_expression k d up) x) e
      ∙ condition_worth params outer up x flat.1 formed.1 narrow.1)
      (λ x low high. (narrow.3 x (low, high)).0)
      (λ x low high a k. iteration program told false body params outer x a
      (runs_all program (λ v. told (through false x v)) body params (outer ++ x ∷ []) e flat.2 (formed.2 x)
      (narrow.3 x (low, high)).1 (tells x) (free.1 x (low, high))) k)
      g.0 first (omega (arith, ints)) o g.1
  runs_of program told (loop true lo up body) params outer e flat formed narrow tells free o h =
      let p = params ++ outer in
      let first = lower lo (outer ++ params) in
      let last = upper up (outer ++ params) in
      let n = length program.parameters in
      let d = length outer in
      let Body = λ (k : ℤ). MayDoAll (statements_of program (suc d) body) (p ++ k ∷ []) in
      let g = after_is (worth p (lower_expression n d lo)) first o
      (λ x. After (worth p (upper_expression n d up)) o (λ y. After (counted x y) o
      (λ z. SideBySide Body x (most_turns (y -ℤ x)) o)))
      (ap (λ k. worth p (lower_expression k d lo)) e ∙ lower_worth params outer lo flat.0 formed.0 narrow.0) h in
      let f = after_is (worth p (upper_expression n d up)) last o
      (λ y. After (counted first y) o (λ z. SideBySide Body first (most_turns (y -ℤ first)) o))
      (ap (λ k. worth p (upper_expression k d up)) e ∙ upper_worth params outer up flat.1 formed.1 narrow.1) g in
      parallel told Body
      (λ x xs. (ys : List Visit) × MayRunAll body params (outer ++ x ∷ []) ys × (xs ≡ map (through true x) ys))
      first last o (narrow.2 refl)
      (λ x low high a k. iteration program told true body params outer x a
      (runs_all program (λ v. told (through true x v)) body params (outer ++ x ∷ []) e flat.2 (formed.2 x)
      (narrow.3 x (low, high)).1 (tells x) (free.1 x (low, high))) k)
      (λ x y low less high v w a b.
      let i = in_map_from (through true x) v a.run.0 (subst (In v) a.run.2 a.among) in
      let j = in_map_from (through true y) w b.run.0 (subst (In w) b.run.2 b.among) in
      λ clash. free.0 refl x y (low, omega (arith, ints, less, high)) (omega (arith, ints, low, less), high) less i.0 j.0
      ((members_all body params (outer ++ x ∷ []) a.run.0 a.run.1 i.0).0 i.1)
      ((members_all body params (outer ++ y ∷ []) b.run.0 b.run.1 j.0).0 j.1)
      (subst (λ (t : Visit). Clash (told (through true x i.0)) (told t)) j.2
      (subst (λ (t : Visit). Clash (told t) (told w)) i.2 clash))) f
  runs_of program told (guard [] body) params outer e flat formed narrow tells free o h = absurd flat
  runs_of program told (guard (test ∷ tests) body) params outer e flat formed narrow tells free o h =
      let p = params ++ outer in
      let n = length program.parameters in
      let d = length outer in
      let Do = MayDoAll (statements_of program d body) p o in
      let t = all_hold (test ∷ tests) (outer ++ params) in
      let g = after_is (all_of p (map (comparison n d) (test ∷ tests))) t o
      (λ (x : Bool). (x ≡ true → Do) × (x ≡ false → o ≡ Some []))
      (ap (λ k. all_of p (map (comparison k d) (test ∷ tests))) e
      ∙ tests_worth params outer (test ∷ tests) flat.0 formed.0 narrow.0) h in
      guarded_runs told (MayRunAll body params outer) t o Do
      (λ k does. runs_all program told body params outer e flat.1 formed.1 (narrow.1 k) tells (free k) o does) g
  runs_of program told (instance n turns) params outer e flat formed narrow tells free o h =
      let p = params ++ outer in
      let s = formed.0 in
      let fits = subst (λ (q : Option Standing). InstanceFits params outer q turns) formed.1 narrow in
      let does = subst (λ (q : Option Standing). MayDo (instance_at (length program.parameters) (length outer) q turns)
      p o) formed.1 h in
      let g = after_is (constants p (given_expressions (length program.parameters) (length outer)
      (length program.parameters + length outer) s.heads turns)) (given_values params outer [] s.heads turns) o
      (λ vs. o ≡ Some (reached program params outer s vs ∷ []))
      (held params outer (length program.parameters) s turns e fits.0) does in (
        record { values = []; parallel = []; number = n; turns = values_of turns (outer ++ params) } ∷ [],
        refl,
        g ∙ ap (λ (w : Act). Some (w ∷ [])) (sym (tells s formed.1)),
      )

  pub runs_all : (program : Program) (told : Visit → Act) (ts : Trees) (params outer : List ℤ)
      → length program.parameters ≡ length params → FlatAll ts → AreFormed program ts params outer
      → AreNarrow program ts params outer → TellAll program told ts params outer → AreRaceless told ts params outer
      → (o : Outcome)
      → MayDoAll (statements_of program (length outer) ts) (params ++ outer) o
      → ComesTo told (MayRunAll ts params outer) o
  runs_all program told none params outer e flat formed narrow tells free o h = ([], refl, h)
  runs_all program told (more t ts) params outer e flat formed narrow tells free o h =
      let p = params ++ outer in
      let ss = statements_of program (length outer) ts in
      let r = runs_of program told t params outer e flat.0 formed.0 narrow.0 tells.0 free.0 h.0 h.1 in
      let on = after_is h.0 (map told r.0) o
      (λ vs. (b : Outcome) × MayDoAll ss p b × After b o (λ ws. o ≡ Some (vs ++ ws))) r.2 h.2 in
      let q = runs_all program told ts params outer e flat.1 formed.1 narrow.1 tells.1 free.1 on.0 on.1 in
      let ends = after_is on.0 (map told q.0) o (λ ws. o ≡ Some (map told r.0 ++ ws)) q.2 on.2 in (
        r.0 ++ q.0,
        (r.0, q.0, r.1, q.1, refl),
        ends ∙ ap (λ (vs : List Act). Some vs) (sym (map-append told r.0 q.0)),
      )

-- so it is with a whole program
pub runs_of_program : (program : Program) (told : Visit → Act) (ts : Trees) (params : List ℤ)
    → length program.parameters ≡ length params → FlatAll ts → AreFormed program ts params [] → AreNarrow program ts params []
    → TellAll program told ts params [] → AreRaceless told ts params [] → (o : Outcome)
    → MayDoAll (c_of program ts) params o → ComesTo told (MayRunAll ts params []) o
runs_of_program program told ts params e flat formed narrow tells free o h =
    runs_all program told ts params [] e flat formed narrow tells free o
    (subst (λ (q : List ℤ). MayDoAll (c_of program ts) q o) (sym (append-nil params)) h)
