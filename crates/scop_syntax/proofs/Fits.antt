-- Within the limits every number of a run fits.
use Rattle.whole_numbers.proofs.Common.{◌≡◌, ℕ, zero, suc, ◌+◌, ◌-◌, ◌*◌, ◌^◌, ◌≤◌, ℤ, pos, List, [], ◌∷◌, length}
use Rattle.whole_numbers.proofs.Common.{get_or, subst, sym, arith, mul-le-mul, length-append, ◌+ℤ◌, ◌*ℤ◌, ◌≤ℤ◌, All}
use Rattle.whole_numbers.proofs.Common.{FitsSigned, w64, ints, fits_signed_from_abs, Affine, value_of}
use Rattle.scop_syntax.specs.Tree.{Expression, read, constant, affine, negated, complemented, cast, binary}
use Rattle.scop_syntax.specs.Tree.{shifted_left, shifted_right, narrowed, Right, assigned, combined, moved_left}
use Rattle.scop_syntax.specs.Tree.{moved_right, combined_narrow, moved_left_narrow, Statement, Test, Head, Tree, loop}
use Rattle.scop_syntax.specs.Tree.{guard, statement, Trees, none, more}
use Rattle.scop_syntax.specs.Walk.{turn_point, condition_at}
use Rattle.scop_syntax.specs.Kernel.{test_form, IsForm, IsAffine, IsComparison, IsHead, IsExpression, IsRight}
use Rattle.scop_syntax.specs.Kernel.{IsStatement, IsTree, AreTrees}
use Rattle.scop_syntax.specs.Fits.{IsReached, TurnFits, TestsFit, ExpressionFits, RightFits, StatementFits, Fits}
use Rattle.scop_syntax.specs.Fits.{FitsAll}
use Rattle.scop_syntax.proofs.Sizes.{size, grown, value_size, size-append, iterator_size, reached_size, grown_more}
use Rattle.scop_syntax.proofs.Sizes.{grown_up}

value_fits : (n k m : ℕ) (f : Affine) (point : List ℤ) → IsForm n k m f → k ≤ 32 → m ≤ 2 ^ 22 → size point ≤ 2 ^ 50
    → FitsSigned w64 (value_of f point)
value_fits n k m f point is few small params =
    let v = value_size n k m f point is in
    let s : size point ≤ size point = omega arith in
    let p = mul-le-mul few s in
    fits_signed_from_abs w64 (value_of f point) (omega arith)

forms_fit : (n : ℕ) (fs : List Affine) (point : List ℤ) → All (IsAffine n) fs → size point ≤ 2 ^ 50
    → All (λ form. FitsSigned w64 (value_of form point)) fs
forms_fit n fs point is few =
    λ i d h. value_fits n 16 (2 ^ 20) (get_or fs i d) point (is i d h) (omega arith) (omega arith) few

tests_fit : (n : ℕ) (tests : List Test) (point : List ℤ) → All (λ test. IsComparison n (test_form test)) tests
    → size point ≤ 2 ^ 50 → TestsFit tests point
tests_fit n tests point is few = λ i d h.
    value_fits n 32 (2 ^ 21 + 1) (test_form (get_or tests i d)) point (is i d h) (omega arith) (omega arith) few

expression_fits : (rs : List ℕ) (n : ℕ) (e : Expression) (point : List ℤ) → IsExpression rs n e → size point ≤ 2 ^ 50
    → ExpressionFits e point
expression_fits rs n (read a) point is few = forms_fit n a.subscripts point is.subscripts few
expression_fits rs n (constant c) point is few = tt
expression_fits rs n (affine f) point is few = value_fits n 16 (2 ^ 20) f point is (omega arith) (omega arith) few
expression_fits rs n (negated e) point is few = expression_fits rs n e point is few
expression_fits rs n (complemented e) point is few = expression_fits rs n e point is few
expression_fits rs n (cast e) point is few = expression_fits rs n e point is few
expression_fits rs n (binary op e f) point is few =
    (expression_fits rs n e point is.0 few, expression_fits rs n f point is.1 few)
expression_fits rs n (shifted_left e k) point is few = expression_fits rs n e point is.1 few
expression_fits rs n (shifted_right e k) point is few = expression_fits rs n e point is.1 few
expression_fits rs n (narrowed w e) point is few = expression_fits rs n e point is.1 few

right_fits : (rs : List ℕ) (n : ℕ) (r : Right) (point : List ℤ) → IsRight rs n r → size point ≤ 2 ^ 50
    → RightFits r point
right_fits rs n (assigned e) point is few = expression_fits rs n e point is few
right_fits rs n (combined op e) point is few = expression_fits rs n e point is few
right_fits rs n (moved_left k) point is few = tt
right_fits rs n (moved_right k) point is few = tt
right_fits rs n (combined_narrow op e) point is few = expression_fits rs n e point is few
right_fits rs n (moved_left_narrow k) point is few = tt

statement_fits : (rs : List ℕ) (n : ℕ) (s : Statement) (point : List ℤ) → IsStatement rs n s → size point ≤ 2 ^ 50
    → StatementFits s point
statement_fits rs n s point is few =
    (forms_fit n s.place.subscripts point is.place.subscripts few, right_fits rs n s.right point is.right few)

turn_fits : (head : Head) (point : List ℤ) (k : ℕ) → IsHead (length point) head → size point ≤ 2 ^ 40
    → IsReached head point k → TurnFits head point k
turn_fits head point k small few reached =
    let i = value_of head.first point +ℤ (head.stride *ℤ pos k) in
    let b = reached_size head point k small reached in
    let s = size-append point i in
    record {
      iterator = fits_signed_from_abs w64 i (omega arith);
      condition = value_fits (length point + 1) 16
          (2 ^ 20 + 1) head.condition (turn_point head point (pos k)) small.condition (omega arith) (omega arith)
          (omega arith);
    }

inner_size : (d : ℕ) (head : Head) (point : List ℤ) (k : ℕ) → IsHead (length point) head
    → grown (suc d) (size point) ≤ 2 ^ 40 → pos 0 ≤ℤ condition_at head point (pos k)
    → grown d (size (turn_point head point (pos k))) ≤ 2 ^ 40
inner_size d head point k small few holds =
    let i = value_of head.first point +ℤ (head.stride *ℤ pos k) in
    let b = iterator_size head point (pos k) small (omega (arith, ints)) holds in
    let s = size-append point i in
    let m = grown_more d (size (turn_point head point (pos k))) (17 * size point + 2 ^ 21) (omega arith) in
    omega arith

mutual
  fits : (rs : List ℕ) (d cs : ℕ) (t : Tree) (point : List ℤ) → IsTree rs (length point) d cs t
      → grown d (size point) ≤ 2 ^ 40 → Fits t point
  fits rs zero cs (loop head body) point is few = absurd (let none = is.0 in omega arith)
  fits rs (suc d) cs (loop head body) point is few = λ k reached.
      let up = grown_up (suc d) (size point) in
      let less : suc d - 1 ≡ d = omega arith in (
        turn_fits head point k is.1 (omega arith) reached,
        λ holds.
            let i = value_of head.first point +ℤ (head.stride *ℤ pos k) in
            fits_all rs d cs body (turn_point head point (pos k))
            (subst (λ n. AreTrees rs n d cs body) (sym (length-append point (i ∷ [])))
            (subst (λ l. AreTrees rs (length point + 1) l cs body) less is.3))
            (inner_size d head point k is.1 few holds),
      )
  fits rs d cs (guard tests body) point is few =
      let up = grown_up d (size point) in (
        tests_fit (length point) tests point is.2 (omega arith),
        λ hold. fits_all rs d
            (cs - length tests) body point is.4 few,
      )
  fits rs d cs (statement s) point is few =
      let up = grown_up d (size point) in statement_fits rs (length point) s point is (omega arith)

  pub fits_all : (rs : List ℕ) (d cs : ℕ) (ts : Trees) (point : List ℤ) → AreTrees rs (length point) d cs ts
      → grown d (size point) ≤ 2 ^ 40 → FitsAll ts point
  fits_all rs d cs none point is few = tt
  fits_all rs d cs (more t ts) point is few = (fits rs d cs t point is.0 few, fits_all rs d cs ts point is.1 few)
