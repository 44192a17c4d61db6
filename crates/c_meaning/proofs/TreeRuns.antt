-- Each run of a loop tree is one of its printed program.
use Rattle.scop_syntax.proofs.Common.{◌≡◌, ◌∙◌, ap, sym, subst, refl, ℕ, zero, suc, Bool, true, false, ℤ, pos, ◌+ℤ◌}
use Rattle.scop_syntax.proofs.Common.{◌-ℤ◌, ◌≤ℤ◌, List, [], ◌∷◌, ◌++◌, Option, Some, map, arith, ints, inl, inr, le_z}
use Rattle.scop_syntax.proofs.Common.{holds_le_z, ◌+◌, length, Program, append-nil}
use Rattle.loop_tree.specs.Walk.{Visit, lower, upper, all_hold, through}
use Rattle.std.proofs.lemmas.List.{append_assoc, length-append}
use Rattle.loop_tree.specs.Tree.{Tree, loop, guard, instance, Trees, none, more}
use Rattle.loop_tree.specs.Runs.{MayRun, MayRunAll, IsShuffle, RunsAlong}
use Rattle.loop_tree.specs.Marks.{Flat, FlatAll}
use Rattle.c_meaning.proofs.BoundWorths.{lower_worth, upper_worth, tests_worth}
use Rattle.c_meaning.proofs.LaterNames.{condition_worth}
use Rattle.c_meaning.proofs.ProgramRuns.{turns_are, map_twice, held, counted_is, one_turn, no_turns, false_le, reached}
use Rattle.whole_numbers.proofs.Common.{map-append}
use Rattle.scop_syntax.specs.Walk.{most_turns}
use Rattle.c_meaning.proofs.FormWorths.{kept_wide}
use Rattle.c_meaning.specs.Expressions.{worth, constants, all_of, kept}
use Rattle.c_meaning.specs.Runs.{Act, MayDo, MayDoAll, at_most_last, counted, Outcome, After, SideBySide, InTurn, Stops}
use Rattle.c_meaning.specs.Programs.{lower_expression, upper_expression, statement_of, statements_of, comparison, c_of}
use Rattle.c_meaning.specs.Programs.{instance_at, given_expressions}
use Rattle.c_printer.specs.Iterators.{given_values}
use Rattle.scop_syntax.specs.Standings.{Standing}
use Rattle.c_meaning.specs.Narrow.{InstanceFits, IsNarrow, AreNarrow, Fits}
use Rattle.c_meaning.specs.steps.Law.{IsFormed, AreFormed, Tells, TellAll}

after_made : {A : Type 0} → (q : Option A) (a : A) (o : Outcome) (f : A → Type 0) → q ≡ Some a → f a → After q o f
after_made q a o f e h = subst (λ r. After r o f) (sym e) h

shuffle_of_images : (f : Visit → Act) (zs xs ys : List Visit) → IsShuffle xs ys zs
    → IsShuffle (map f xs) (map f ys) (map f zs)
shuffle_of_images f [] xs ys h = (ap (λ (t : List Visit). map f t) h.0, ap (λ (t : List Visit). map f t) h.1)
shuffle_of_images f (z ∷ zs) xs ys (inl h) =
    inl (map f h.0, ap (λ (t : List Visit). map f t) h.1, shuffle_of_images f zs h.0 ys h.2)
shuffle_of_images f (z ∷ zs) xs ys (inr h) =
    inr (map f h.0, ap (λ (t : List Visit). map f t) h.1, shuffle_of_images f zs xs h.0 h.2)

-- iterations side by side
made_side : (told : Visit → Act) (Body : ℤ → Outcome → Type 0) (Run : ℤ → List Visit → Type 0) (first last : ℤ)
    → ((x : ℤ) → first ≤ℤ x → x ≤ℤ last → (vs : List Visit) → Run x vs → Body x (Some (map told vs)))
    → (n : ℕ) (x : ℤ) → first ≤ℤ x → (x +ℤ pos n) ≤ℤ (last +ℤ pos 1) → (vs : List Visit) → RunsAlong true Run x n vs
    → SideBySide Body x n (Some (map told vs))
made_side told Body Run first last body zero x low high vs h =
    ap (λ (t : List Visit). Some (map told t)) h
made_side told Body Run first last body (suc n) x low high vs h = (
  Some (map told h.0),
  Some (map told h.1),
  body x low (omega (arith, ints, high)) h.0 h.2,
  made_side told Body Run first last body n (x +ℤ pos 1) (omega (arith, ints, low)) (omega (arith, ints, high)) h.1 h.3,
  inr (map told vs, shuffle_of_images told vs h.0 h.1 h.4, refl),
)

-- iterations in turn
made_turn : (told : Visit → Act) (condition : ℤ → Option Bool) (Body : ℤ → Outcome → Type 0)
    (Run : ℤ → List Visit → Type 0) (first last : ℤ) → ((x : ℤ) → condition x ≡ Some (le_z x last))
    → ((x : ℤ) → first ≤ℤ x → x ≤ℤ last → Fits (x +ℤ pos 1))
    → ((x : ℤ) → first ≤ℤ x → x ≤ℤ last → (vs : List Visit) → Run x vs → Body x (Some (map told vs)))
    → (n : ℕ) (x : ℤ) → first ≤ℤ x → most_turns (last -ℤ x) ≡ n → (vs : List Visit) → RunsAlong false Run x n vs
    → InTurn condition Body x n (Some (map told vs))
made_turn told condition Body Run first last test fits body zero x low count vs h =
    subst (λ t. Stops t (Some (map told vs))) (sym (test x)) (by_test (le_z x last) refl)
  where
    by_test : (t : Bool) → le_z x last ≡ t → Stops (Some t) (Some (map told vs))
    by_test true e =
        let l = holds_le_z x last e in
        let m = one_turn (last -ℤ x) (omega (arith, ints, l)) in absurd (omega (arith, m, count))
    by_test false e = ap (λ (t : List Visit). Some (map told t)) h
made_turn told condition Body Run first last test fits body (suc n) x low count vs h = (
  test x ∙ ap (λ (t : Bool). Some t) goes,
  Some (map told h.0),
  body x low up h.0 h.2,
  after_made (kept false (x +ℤ pos 1)) (x +ℤ pos 1) (Some (map told vs))
      (λ y. (b : Outcome) × InTurn condition Body y n b
      × After b (Some (map told vs)) (λ ws. Some (map told vs) ≡ Some (map told h.0 ++ ws)))
      (kept_wide (x +ℤ pos 1) (fits x low up)) (
        Some (map told h.1),
        made_turn told condition Body Run first last test fits body n (x +ℤ pos 1) (omega (arith, ints, low)) rest h.1 h.3,
        ap (λ (t : List Visit). Some (map told t)) h.4
            ∙ ap (λ (ws : List Act). Some ws) (map-append told h.0 h.1),
      ),
)
  where
    by_test : (t : Bool) → le_z x last ≡ t → le_z x last ≡ true
    by_test true e = e
    by_test false e =
        let l = false_le x last e in
        let z = no_turns (last -ℤ x) (omega (arith, ints, l)) in absurd (omega (arith, z, count))

    goes : le_z x last ≡ true
    goes = by_test (le_z x last) refl

    up : x ≤ℤ last
    up = holds_le_z x last goes

    rest : most_turns (last -ℤ (x +ℤ pos 1)) ≡ n
    rest =
        let same : last -ℤ (x +ℤ pos 1) ≡ (last -ℤ x) -ℤ pos 1 = omega (arith, ints) in
        let m = one_turn (last -ℤ x) (omega (arith, ints, up)) in
        ap (λ (z : ℤ). most_turns z) same ∙ omega (arith, m, count)

made_parallel : (told : Visit → Act) (Body : ℤ → Outcome → Type 0) (Run : ℤ → List Visit → Type 0)
    (first last : ℤ)
    → ((x : ℤ) → first ≤ℤ x → x ≤ℤ last → (vs : List Visit) → Run x vs → Body x (Some (map told vs)))
    → (vs : List Visit) → RunsAlong true Run first (most_turns (last -ℤ first)) vs
    → SideBySide Body first (most_turns (last -ℤ first)) (Some (map told vs))
made_parallel told Body Run first last body vs h = by_test (le_z first last) refl
  where
    by_test : (t : Bool) → le_z first last ≡ t → SideBySide Body first (most_turns (last -ℤ first)) (Some (map told vs))
    by_test true e =
        let l = holds_le_z first last e in
        let n = turns_are (last -ℤ first) (omega (arith, ints, l)) in
        made_side told Body Run first last body (most_turns (last -ℤ first)) first (omega (arith, ints))
        (omega (arith, ints, n)) vs h
    by_test false e =
        let l = false_le first last e in
        let z = no_turns (last -ℤ first) (omega (arith, ints, l)) in
        subst (λ m. SideBySide Body first m (Some (map told vs))) (sym z)
        (ap (λ (t : List Visit). Some (map told t)) (subst (λ m. RunsAlong true Run first m vs) z h))

made_iteration : (program : Program) (told : Visit → Act) (flag : Bool) (body : Trees) (params outer : List ℤ)
    (x : ℤ) (vs : List Visit)
    → ((ys : List Visit) → MayRunAll body params (outer ++ x ∷ []) ys
    → MayDoAll (statements_of program (length (outer ++ x ∷ [])) body) (params ++ (outer ++ x ∷ []))
    (Some (map (λ v. told (through flag x v)) ys)))
    → (ys : List Visit) × MayRunAll body params (outer ++ x ∷ []) ys × (vs ≡ map (through flag x) ys)
    → MayDoAll (statements_of program (suc (length outer)) body) ((params ++ outer) ++ x ∷ []) (Some (map told vs))
made_iteration program told flag body params outer x vs does h =
    let l = length-append outer (x ∷ []) in
    let same = map_twice told (through flag x) h.0 ∙ ap (λ (t : List Visit). map told t) (sym h.2) in
    subst (λ (ws : List Act). MayDoAll (statements_of program (suc (length outer)) body)
    ((params ++ outer) ++ x ∷ []) (Some ws)) same
    (subst (λ (q : List ℤ). MayDoAll (statements_of program (suc (length outer)) body) q
    (Some (map (λ v. told (through flag x v)) h.0))) (sym (append_assoc params outer (x ∷ [])))
    (subst (λ k. MayDoAll (statements_of program k body) (params ++ (outer ++ x ∷ []))
    (Some (map (λ v. told (through flag x v)) h.0))) (omega (arith, l)) (does h.0 h.1)))

mutual
  pub made_of : (program : Program) (told : Visit → Act) (t : Tree) (params outer : List ℤ)
      → length program.parameters ≡ length params → Flat t → IsFormed program t params outer → IsNarrow program t params outer
      → Tells program told t params outer → (vs : List Visit) → MayRun t params outer vs
      → MayDo (statement_of program (length outer) t) (params ++ outer) (Some (map told vs))
  made_of program told (loop false lo up body) params outer e flat formed narrow tells vs h =
      let p = params ++ outer in
      let first = lower lo (outer ++ params) in
      let last = upper up (outer ++ params) in
      let n = length program.parameters in
      let d = length outer in
      after_made (worth p (lower_expression n d lo)) first (Some (map told vs))
      (λ x. (m : ℕ) × InTurn (at_most_last p (upper_expression n d up))
      (λ y. MayDoAll (statements_of program (suc d) body) (p ++ y ∷ [])) x m (Some (map told vs)))
      (ap (λ k. worth p (lower_expression k d lo)) e ∙ lower_worth params outer lo flat.0 formed.0 narrow.0) (
        most_turns (last -ℤ first),
        made_turn told (at_most_last p (upper_expression n d up))
            (λ y. MayDoAll (statements_of program (suc d) body) (p ++ y ∷ []))
            (λ x xs. (ys : List Visit) × MayRunAll body params (outer ++ x ∷ []) ys × (xs ≡ map (through false x) ys))
            first last
            (λ x. ap (λ k. at_most_last p (upper_expression k d up) x) e
            ∙ condition_worth params outer up x flat.1 formed.1 narrow.1)
            (λ x low high. (narrow.3 x (low, high)).0)
            (λ x low high xs k. made_iteration program told false body params outer x xs
            (made_all program (λ v. told (through false x v)) body params (outer ++ x ∷ []) e flat.2 (formed.2 x)
            (narrow.3 x (low, high)).1 (tells x)) k)
            (most_turns (last -ℤ first)) first (omega (arith, ints)) refl vs h,
      )
  made_of program told (loop true lo up body) params outer e flat formed narrow tells vs h =
      let p = params ++ outer in
      let first = lower lo (outer ++ params) in
      let last = upper up (outer ++ params) in
      let n = length program.parameters in
      let d = length outer in
      let o = Some (map told vs) in
      let Body = λ (k : ℤ). MayDoAll (statements_of program (suc d) body) (p ++ k ∷ []) in
      after_made (worth p (lower_expression n d lo)) first o
      (λ x. After (worth p (upper_expression n d up)) o (λ y. After (counted x y) o
      (λ z. SideBySide Body x (most_turns (y -ℤ x)) o)))
      (ap (λ k. worth p (lower_expression k d lo)) e ∙ lower_worth params outer lo flat.0 formed.0 narrow.0)
      (after_made (worth p (upper_expression n d up)) last o
      (λ y. After (counted first y) o (λ z. SideBySide Body first (most_turns (y -ℤ first)) o))
      (ap (λ k. worth p (upper_expression k d up)) e ∙ upper_worth params outer up flat.1 formed.1 narrow.1)
      (after_made (counted first last) ((last -ℤ first) +ℤ pos 1) o
      (λ z. SideBySide Body first (most_turns (last -ℤ first)) o) (counted_is first last (narrow.2 refl))
      (made_parallel told Body
      (λ x xs. (ys : List Visit) × MayRunAll body params (outer ++ x ∷ []) ys × (xs ≡ map (through true x) ys))
      first last
      (λ x low high xs k. made_iteration program told true body params outer x xs
      (made_all program (λ v. told (through true x v)) body params (outer ++ x ∷ []) e flat.2 (formed.2 x)
      (narrow.3 x (low, high)).1 (tells x)) k) vs h)))
  made_of program told (guard [] body) params outer e flat formed narrow tells vs h = absurd flat
  made_of program told (guard (test ∷ tests) body) params outer e flat formed narrow tells vs h =
      let p = params ++ outer in
      let n = length program.parameters in
      let d = length outer in
      let o = Some (map told vs) in
      let t = all_hold (test ∷ tests) (outer ++ params) in
      after_made (all_of p (map (comparison n d) (test ∷ tests))) t o
      (λ (x : Bool). (x ≡ true → MayDoAll (statements_of program d body) p o) × (x ≡ false → o ≡ Some []))
      (ap (λ k. all_of p (map (comparison k d) (test ∷ tests))) e
      ∙ tests_worth params outer (test ∷ tests) flat.0 formed.0 narrow.0) (
        λ k. made_all program told body params outer e flat.1 formed.1 (narrow.1 k) tells vs (h.0 k),
        λ k. ap (λ (ws : List Visit). Some (map told ws)) (h.1 k),
      )
  made_of program told (instance n turns) params outer e flat formed narrow tells vs h =
      let p = params ++ outer in
      let s = formed.0 in
      let fits = subst (λ (q : Option Standing). InstanceFits params outer q turns) formed.1 narrow in
      subst (λ (q : Option Standing). MayDo (instance_at (length program.parameters) (length outer) q turns) p
      (Some (map told vs))) (sym formed.1)
      (after_made (constants p (given_expressions (length program.parameters) (length outer)
      (length program.parameters + length outer) s.heads turns)) (given_values params outer [] s.heads turns)
      (Some (map told vs)) (λ ws. Some (map told vs) ≡ Some (reached program params outer s ws ∷ []))
      (held params outer (length program.parameters) s turns e fits.0)
      (ap (λ (ws : List Visit). Some (map told ws)) h ∙ ap (λ (w : Act). Some (w ∷ [])) (tells s formed.1)))

  pub made_all : (program : Program) (told : Visit → Act) (ts : Trees) (params outer : List ℤ)
      → length program.parameters ≡ length params → FlatAll ts → AreFormed program ts params outer
      → AreNarrow program ts params outer → TellAll program told ts params outer → (vs : List Visit)
      → MayRunAll ts params outer vs
      → MayDoAll (statements_of program (length outer) ts) (params ++ outer) (Some (map told vs))
  made_all program told none params outer e flat formed narrow tells vs h =
      ap (λ (ws : List Visit). Some (map told ws)) h
  made_all program told (more t ts) params outer e flat formed narrow tells vs h = (
    Some (map told h.0),
    made_of program told t params outer e flat.0 formed.0 narrow.0 tells.0 h.0 h.2,
    (
      Some (map told h.1),
      made_all program told ts params outer e flat.1 formed.1 narrow.1 tells.1 h.1 h.3,
      ap (λ (ws : List Visit). Some (map told ws)) h.4
          ∙ ap (λ (ws : List Act). Some ws) (map-append told h.0 h.1),
    ),
  )

-- so it is with a whole program
pub made_program : (program : Program) (told : Visit → Act) (ts : Trees) (params : List ℤ)
    → length program.parameters ≡ length params → FlatAll ts → AreFormed program ts params [] → AreNarrow program ts params []
    → TellAll program told ts params [] → (vs : List Visit) → MayRunAll ts params [] vs
    → MayDoAll (c_of program ts) params (Some (map told vs))
made_program program told ts params e flat formed narrow tells vs h =
    subst (λ (q : List ℤ). MayDoAll (c_of program ts) q (Some (map told vs))) (append-nil params)
    (made_all program told ts params [] e flat formed narrow tells vs h)
