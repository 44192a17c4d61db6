-- The acts of a printed program's run, performed from given arrays, leave what the source's execution leaves.
use Rattle.scop_syntax.proofs.Common.{◌≡◌, ◌∙◌, ap, sym, subst, refl, ℕ, ◌+◌, ℤ, List, [], ◌∷◌, ◌++◌, length, map}
use Rattle.scop_syntax.proofs.Common.{arith, Option, Some, inl, inr, slice_get, same_Some, In, place_of, Program}
use Rattle.scop_syntax.proofs.Common.{Placed, loops_in, statements_of, IsCell, cell_of, visit_of, heads_in, Instance}
use Rattle.scop_syntax.proofs.Common.{instance, walk_of, IsKernel, IsInside, layout, performed_all, narrow_arrays}
use Rattle.scop_syntax.proofs.Common.{ranks_of}
use Rattle.scop_syntax.specs.Execution.{performed, performed_by}
use Rattle.scop_syntax.specs.Walk.{Visit as Walked}
use Rattle.scop_syntax.specs.Widths.{HoldTypes}
use Rattle.scop_syntax.proofs.Kernels.{kernel_placed}
use Rattle.scop_syntax.proofs.Statements.{found_at, placed_number}
use Rattle.scop_syntax.proofs.Widths.{instance_is}
use Rattle.std.proofs.lemmas.List.{append_assoc, length-append}
use Rattle.loop_tree.specs.Walk.{Visit, given}
use Rattle.c_meaning.specs.Assignments.{Contents, assigned}
use Rattle.c_meaning.specs.Runs.{Act}
use Rattle.c_meaning.specs.Runs as c
use Rattle.c_meaning.specs.Programs.{arrays_of, assignment_in}
use Rattle.c_meaning.specs.Visits.{acted, act_in, constants_at}
use Rattle.c_meaning.specs.steps.Law.{IsReached}
use Rattle.c_meaning.proofs.ValueWorths.{Spot, point_at, one}
use Rattle.c_meaning.proofs.Assigned.{assigned_is, types_behind}

-- where an act of the program stands
abbrev pub spot_of : Program → List ℤ → List ℤ → List ℤ → Placed → Contents → Spot
spot_of program params outer given p contents =
    record {
      arrays = arrays_of program params;
      contents = contents;
      params = params;
      outer = outer;
      given = given;
      names = length program.parameters + length outer + length (heads_in p.scopes);
    }

zero_more : (n : ℕ) → 0 + n ≡ n
zero_more n = omega arith

-- a visit of the walk is of the statement of its number
pub record IsOf (program : Program) (params : List ℤ) (p : Placed) (w : Walked) : Type 0 where
  pub same : w ≡ visit_of p params w.turns
  pub is : In p (statements_of program)

pub walked_of : (program : Program) (params : List ℤ) (p : Placed) (w : Walked) → In w (walk_of program params)
    → slice_get (statements_of program) w.number ≡ Some p → IsOf program params p w
walked_of program params p w there stands =
    let f = found_at program.body 0 params w there in
    let at = place_of (statements_of program) f.0 f.2 in
    let number : w.number ≡ at.0 =
    ap (λ (v : Walked). v.number) f.4 ∙ (placed_number program.body 0 at.0 f.0 at.1 ∙ zero_more at.0) in
    let q : f.0 ≡ p =
    same_Some f.0 p (sym at.1 ∙ (ap (λ (n : ℕ). slice_get (statements_of program) n) (sym number) ∙ stands)) in
    let turns : w.turns ≡ f.1 = ap (λ (v : Walked). v.turns) f.4 in
    record {
      same = f.4 ∙ (ap (λ (r : Placed). visit_of r params f.1) q ∙ ap (λ (xs : List ℤ). visit_of p params xs) (sym turns));
      is = subst (λ (r : Placed). In r (statements_of program)) q f.2;
    }

-- how many names are in scope of an assignment
pub count_names : (params outer given : List ℤ) (m k : ℕ) → m ≡ length params → length given ≡ k
    → m + length outer + k ≡ length (params ++ (outer ++ given))
count_names params outer given m k e f =
    let a = length-append params (outer ++ given) in
    let b = length-append outer given in
    omega (arith, a, b, e, f)

-- one act, as the walk's visit of that instance
act_is : (program : Program) (params : List ℤ) (contents : Contents) (v : Visit) (w : Walked) → IsKernel program
    → length program.parameters ≡ length params → IsInside program params
    → HoldTypes (narrow_arrays program) contents → IsReached program params [] v → In w (walk_of program params)
    → instance w ≡ given v
    → assigned (arrays_of program params) (act_in program params [] v).point (act_in program params [] v).assignment
    contents
    ≡ Some (performed (layout program params) contents w)
act_is program params contents v w kernel count inside hold is there same =
    let p = is.placed in
    let xs = v.turns in
    let number : w.number ≡ v.number = ap (λ (x : Instance). x.number) same in
    let turns : w.turns ≡ xs = ap (λ (x : Instance). x.turns) same in
    let walks = walked_of program params p w there
    (ap (λ (n : ℕ). slice_get (statements_of program) n) number ∙ is.stands) in
    let u = visit_of p params xs in
    let walked : w ≡ u = walks.same ∙ ap (λ (ys : List ℤ). visit_of p params ys) turns in
    let constants = constants_at p params xs in
    let s = spot_of program params v.values constants p contents in
    let m = length program.parameters + loops_in p.scopes in
    let body = (kernel_placed program p kernel walks.is).body in
    let width = (instance_is program params kernel u (subst (λ (t : Walked). In t (walk_of program params)) walked there)).2
    in
    let count_all = count_names params v.values constants (length program.parameters) (length (heads_in p.scopes)) count
    is.heads in
    let a = arrays_of program params in
    let es = layout program params in
    ap (λ (t : Act). assigned a t.point t.assignment contents)
    (ap (λ (q : Option Placed). acted program params v.values xs q) is.stands)
    ∙ (ap (λ (q : List ℤ). assigned a q (assignment_in (length program.parameters) (length v.values) s.names p.body)
    contents) (append_assoc params v.values constants)
    ∙ (ap (λ (k : ℕ). assigned a (point_at s) (assignment_in k (length v.values) s.names p.body) contents) count
    ∙ (assigned_is s (ranks_of program) m p.body (record { count = count_all; long = omega (arith, count) }) body width
    hold is.fits.place is.fits.right (λ access i. subst (λ (q : List ℤ). IsCell es (cell_of access q)) (sym is.point)
    (inside u (subst (λ (t : Walked). In t (walk_of program params)) walked there) access i))
    ∙ (ap (λ (q : List ℤ). Some (performed_by es contents p.body q)) is.point
    ∙ ap (λ (t : Walked). Some (performed es contents t)) (sym walked)))))

heads_same : (x y : Instance) (xs ys : List Instance) → x ∷ xs ≡ y ∷ ys → x ≡ y
heads_same x y xs ys e = cc

tails_same : (x y : Instance) (xs ys : List Instance) → x ∷ xs ≡ y ∷ ys → xs ≡ ys
tails_same x y xs ys e = cc

not_none : (x : Instance) (xs : List Instance) → x ∷ xs ≡ [] → ⊥
not_none x xs e = cc

none_not : (x : Instance) (xs : List Instance) → [] ≡ x ∷ xs → ⊥
none_not x xs e = cc

-- acts, one after another
pub acts_are : (program : Program) (params : List ℤ) (vs : List Visit) (ws : List Walked) (contents : Contents)
    → IsKernel program → length program.parameters ≡ length params → IsInside program params
    → HoldTypes (narrow_arrays program) contents → ((v : Visit) → In v vs → IsReached program params [] v)
    → ((w : Walked) → In w ws → In w (walk_of program params)) → map instance ws ≡ map given vs
    → c.performed (arrays_of program params) (map (act_in program params []) vs) contents
    ≡ Some (performed_all (layout program params) contents ws)
acts_are program params [] [] contents kernel count inside hold reached there same = refl
acts_are program params [] (w ∷ ws) contents kernel count inside hold reached there same =
    absurd (not_none (instance w) (map instance ws) same)
acts_are program params (v ∷ vs) [] contents kernel count inside hold reached there same =
    absurd (none_not (given v) (map given vs) same)
acts_are program params (v ∷ vs) (w ∷ ws) contents kernel count inside hold reached there same =
    let es = layout program params in
    let i = instance_is program params kernel w (there w (inl refl)) in
    let next = performed es contents w in
    one (assigned (arrays_of program params) (act_in program params [] v).point
    (act_in program params [] v).assignment contents) next
    (λ now. c.performed (arrays_of program params) (map (act_in program params []) vs) now)
    (Some (performed_all es next ws))
    (act_is program params contents v w kernel count inside hold (reached v (inl refl)) (there w (inl refl))
    (heads_same (instance w) (given v) (map instance ws) (map given vs) same))
    (acts_are program params vs ws next kernel count inside
    (types_behind (narrow_arrays program) (ranks_of program) i.0 es contents w.body w.point i.1 i.2 hold)
    (λ u j. reached u (inr j)) (λ u j. there u (inr j))
    (tails_same (instance w) (given v) (map instance ws) (map given vs) same))
