-- What visits of a tree reach: each is an instance of a statement whose numbers fit, and the program's act there is told
-- by the visit.
use Rattle.scop_syntax.proofs.Common.{◌≡◌, ◌∙◌, ap, sym, subst, refl, ℕ, zero, suc, ◌+◌, ℤ, List, [], ◌∷◌, ◌++◌, length}
use Rattle.scop_syntax.proofs.Common.{map, drop, Option, Some, inl, inr, slice_get, append-nil, In, in_append}
use Rattle.scop_syntax.proofs.Common.{in_map_from, in_if_from, none-some, same_Some, Affine, values_of, Head, Program}
use Rattle.scop_syntax.proofs.Common.{Placed, statements_of, visit_of, Standing, standing, heads_in, standings_of}
use Rattle.std.proofs.lemmas.List.{append_assoc}
use Rattle.loop_tree.specs.Tree.{Tree, loop, guard, instance, Trees, none, more}
use Rattle.loop_tree.specs.Walk.{Visit, lower, upper, all_hold, through, walk, walk_all}
use Rattle.loop_tree.proofs.Lists.{in_between_from}
use Rattle.c_printer.specs.Iterators.{given_value, given_values}
use Rattle.c_printer.specs.Printable.{AreTurns, IsInstance, IsNamed, IsNode, AreNodes}
use Rattle.c_printer.proofs.Iterators.{visit_of_givens}
use Rattle.c_meaning.specs.Runs.{Act}
use Rattle.c_meaning.specs.Programs.{assignment_in}
use Rattle.c_meaning.specs.Narrow.{IsNarrow, AreNarrow, InstanceFits, StatementFits}
use Rattle.c_meaning.specs.Visits.{acted, act_in, constants_at}
use Rattle.c_meaning.specs.steps.Law.{Tells, TellAll, act_at, IsReached}
use Rattle.c_meaning.proofs.FormedTrees.{within_count}

-- a statement of a number, and the loops round it
placed_is : (xs : List Placed) (n : ℕ) (s : Standing)
    → slice_get (map (λ (p : Placed). standing (heads_in p.scopes) p.body) xs) n ≡ Some s
    → (p : Placed) × (slice_get xs n ≡ Some p) × (s ≡ standing (heads_in p.scopes) p.body)
placed_is [] n s e = absurd (none-some s e)
placed_is (p ∷ xs) zero s e =
    (p, refl, sym (same_Some (standing (heads_in p.scopes) p.body) s e))
placed_is (p ∷ xs) (suc n) s e = placed_is xs n s e

drop_front : (xs ys : List ℤ) → drop (length xs) (xs ++ ys) ≡ ys
drop_front [] [] = refl
drop_front [] (y ∷ ys) = refl
drop_front (x ∷ xs) ys = drop_front xs ys

length-givens : (params outer before : List ℤ) (m k : ℕ) (heads : List Head) (turns : List Affine)
    → AreTurns m k heads turns → length (given_values params outer before heads turns) ≡ length heads
length-givens params outer before m k [] [] h = refl
length-givens params outer before m k [] (turn ∷ turns) h = refl
length-givens params outer before m k (head ∷ heads) [] h = absurd h
length-givens params outer before m k (head ∷ heads) (turn ∷ turns) h =
    ap suc (length-givens params outer (before ++ given_value params outer before head turn ∷ []) m k heads turns h.1)

-- an instance: its statement, the source's point there, and the constants of its block
pub record Stands (program : Program) (params outer : List ℤ) (n : ℕ) (turns : List Affine) : Type 0 where
  pub placed : Placed
  pub stands : slice_get (statements_of program) n ≡ Some placed
  pub numbered : slice_get (standings_of program) n ≡ Some (standing (heads_in placed.scopes) placed.body)
  pub point : params ++ given_values params outer [] (heads_in placed.scopes) turns
      ≡ (visit_of placed params (values_of turns (outer ++ params))).point
  pub given : constants_at placed params (values_of turns (outer ++ params))
      ≡ given_values params outer [] (heads_in placed.scopes) turns
  pub heads : length (given_values params outer [] (heads_in placed.scopes) turns)
      ≡ length (heads_in placed.scopes)

stands_at : (program : Program) (params outer : List ℤ) (k n : ℕ) (turns : List Affine) → IsNamed program
    → length program.parameters ≡ length params → k ≡ length outer → IsInstance program k n turns
    → Stands program params outer n turns
stands_at program params outer k n turns named e d i =
    let p = placed_is (statements_of program) n i.standing i.stands in
    let at = subst (λ (j : ℕ). IsInstance program j n turns) d i in
    let point = visit_of_givens program n p.0 turns params outer named (sym e) p.1 at in
    let turned = subst (λ (s : Standing). AreTurns (length program.parameters) k s.heads turns) p.2 i.turned in
    record {
      placed = p.0;
      stands = p.1;
      numbered = i.stands ∙ ap (λ (s : Standing). Some s) p.2;
      point = point;
      given = ap (λ (xs : List ℤ). drop (length params) xs) (sym point)
          ∙ drop_front params (given_values params outer [] (heads_in p.0.scopes) turns);
      heads = length-givens params outer [] (length program.parameters) k (heads_in p.0.scopes) turns turned;
    }

-- what an instance reaches, where its constants hold these values
abbrev reach : Program → List ℤ → List ℤ → Placed → List ℤ → Act
reach program params outer p given =
    record {
      assignment = assignment_in (length program.parameters) (length outer)
          (length program.parameters + length outer + length (heads_in p.scopes)) p.body;
      point = (params ++ outer) ++ given;
    }

-- the visit of an instance
abbrev visit_at : List ℤ → List ℤ → ℕ → List Affine → Visit
visit_at params outer n turns =
    record { values = []; parallel = []; number = n; turns = values_of turns (outer ++ params) }

mutual
  tells : (program : Program) (told : Visit → Act) (t : Tree) (params outer : List ℤ) (k : ℕ) → IsNamed program
      → length program.parameters ≡ length params → k ≡ length outer → IsNode program k t
      → ((v : Visit) → told v ≡ act_in program params outer v) → Tells program told t params outer
  tells program told (loop flag lo up body) params outer k named e d is same = λ x.
      tell_all program (λ v. told (through flag x v)) body params (outer ++ x ∷ []) (suc k) named e
      (within_count k outer x d) is.3
      (λ v. same (through flag x v)
      ∙ ap (λ (ls : List ℤ). acted program params ls v.turns (slice_get (statements_of program) v.number))
      (sym (append_assoc outer (x ∷ []) v.values)))
  tells program told (guard [] body) params outer k named e d is same = absurd is
  tells program told (guard (test ∷ tests) body) params outer k named e d is same =
      tell_all program told body params outer k named e d is.1 same
  tells program told (instance n turns) params outer k named e d is same = λ s at.
      let i = stands_at program params outer k n turns named e d is in
      let one : s ≡ standing (heads_in i.placed.scopes) i.placed.body =
      same_Some s (standing (heads_in i.placed.scopes) i.placed.body) (sym at ∙ i.numbered) in
      let xs = values_of turns (outer ++ params) in
      same (visit_at params outer n turns)
      ∙ (ap (λ (q : Option Placed). acted program params (outer ++ []) xs q) i.stands
      ∙ (ap (λ (ls : List ℤ). acted program params ls xs (Some i.placed)) (append-nil outer)
      ∙ (ap (λ (given : List ℤ). reach program params outer i.placed given) i.given
      ∙ ap (λ (q : Standing). act_at program params outer q turns) (sym one))))

  pub tell_all : (program : Program) (told : Visit → Act) (ts : Trees) (params outer : List ℤ) (k : ℕ)
      → IsNamed program → length program.parameters ≡ length params → k ≡ length outer → AreNodes program k ts
      → ((v : Visit) → told v ≡ act_in program params outer v) → TellAll program told ts params outer
  tell_all program told none params outer k named e d is same = tt
  tell_all program told (more t ts) params outer k named e d is same = (
    tells program told t params outer k named e d is.0 same,
    tell_all program told ts params outer k named e d is.1 same,
  )

mutual
  pub reached : (program : Program) (t : Tree) (params outer : List ℤ) (k : ℕ) → IsNamed program
      → length program.parameters ≡ length params → k ≡ length outer → IsNode program k t
      → IsNarrow program t params outer → (v : Visit) → In v (walk t params outer) → IsReached program params outer v
  reached program (loop flag lo up body) params outer k named e d is narrow v h =
      let r = in_between_from (λ x. map (through flag x) (walk_all body params (outer ++ x ∷ []))) v
      (lower lo (outer ++ params)) (upper up (outer ++ params)) h in
      let m = in_map_from (through flag r.0) v (walk_all body params (outer ++ r.0 ∷ [])) r.3 in
      let inner = reach_all program body params (outer ++ r.0 ∷ []) (suc k) named e (within_count k outer r.0 d) is.3
      (narrow.3 r.0 (r.1, r.2)).1 m.0 m.1 in
      subst (IsReached program params outer) (sym m.2)
      (record {
        placed = inner.placed;
        stands = inner.stands;
        point = inner.point;
        heads = inner.heads;
        fits = subst (λ (ls : List ℤ). StatementFits params ls (constants_at inner.placed params m.0.turns)
            inner.placed.body) (append_assoc outer (r.0 ∷ []) m.0.values) inner.fits;
      })
  reached program (guard [] body) params outer k named e d is narrow v h = absurd is
  reached program (guard (test ∷ tests) body) params outer k named e d is narrow v h =
      let g = in_if_from (all_hold (test ∷ tests) (outer ++ params)) v (walk_all body params outer) h in
      reach_all program body params outer k named e d is.1 (narrow.1 g.0) v g.1
  reached program (instance n turns) params outer k named e d is narrow v (inr h) = absurd h
  reached program (instance n turns) params outer k named e d is narrow v (inl same) =
      let i = stands_at program params outer k n turns named e d is in
      let fits = subst (λ (q : Option Standing). InstanceFits params outer q turns) i.numbered narrow in
      subst (IsReached program params outer) (sym same)
      (record {
        placed = i.placed;
        stands = i.stands;
        point = ap (λ (given : List ℤ). params ++ given) i.given ∙ i.point;
        heads = ap (λ (given : List ℤ). length given) i.given ∙ i.heads;
        fits = subst (λ (ls : List ℤ). StatementFits params ls
            (constants_at i.placed params (values_of turns (outer ++ params))) i.placed.body) (sym (append-nil outer))
            (subst (λ (given : List ℤ). StatementFits params outer given i.placed.body) (sym i.given) fits.1);
      })

  -- so is each visit of trees
  pub reach_all : (program : Program) (ts : Trees) (params outer : List ℤ) (k : ℕ) → IsNamed program
      → length program.parameters ≡ length params → k ≡ length outer → AreNodes program k ts
      → AreNarrow program ts params outer → (v : Visit) → In v (walk_all ts params outer)
      → IsReached program params outer v
  reach_all program none params outer k named e d is narrow v h = absurd h
  reach_all program (more t ts) params outer k named e d is narrow v h =
      elim (in_append v (walk t params outer) (walk_all ts params outer) h) [
        | inl g ↦ reached program t params outer k named e d is.0 narrow.0 v g
        | inr g ↦ reach_all program ts params outer k named e d is.1 narrow.1 v g
      ]
