-- Where the faults of a tree's formula stand, and what its names and constants are.
use Rattle.scop_syntax.proofs.Common.{ℕ, ◌&&◌, ◌+◌, ◌<◌, ◌≤◌, List, [], ◌∷◌, ◌++◌, Option, Some, None, All, arith}
use Rattle.scop_syntax.proofs.Common.{All-nil, All-cons, All-head, All-tail, All-append}
use Rattle.scop_expressions.specs.Tree.{Tree, constant, name, group, index, bare_call, call, unary, cast, binary}
use Rattle.scop_expressions.specs.Tree.{size}
use Rattle.scop_roles.specs.declared.kinds.Fault.{Fault}
use Rattle.scop_roles.specs.declared.kinds.Kind.{Kind}
use Rattle.scop_roles.specs.declared.formula.Role.{Role}
use Rattle.scop_roles.specs.declared.formula.Role.TheVariants as role
use Rattle.scop_roles.specs.Formula.{Lookup, formula, place}
use Rattle.scop_roles.specs.Forms.{is_signed}
use Rattle.scop_roles.specs.Faults.{told, judged, faults, place_faults, named, called, operand_role, cast_role}
use Rattle.scop_roles.specs.Faults.{side_role, own}
use Rattle.scop_roles.specs.Scope.{LiesWithin, KnowsArrays, IsInScope}
use Rattle.scop_roles.proofs.FormulaStack.{size_group, size_index, size_call, size_unary, size_cast, size_binary}

pub in_scope : (ranks : List ℕ) (look : Lookup) (at : ℕ) (t : Tree) → KnowsArrays ranks look
    → IsInScope ranks (formula look at t)
in_scope ranks look at (constant s) k = k.worth at
in_scope ranks look at name k = k.meaning at
in_scope ranks look at (group t) k = in_scope ranks look (at + 1) t k
in_scope ranks look at (index t i) k = (in_scope ranks look at t k, in_scope ranks look (at + size t + 1) i k)
in_scope ranks look at bare_call k = k.meaning at
in_scope ranks look at (call t) k = (k.meaning at, in_scope ranks look (at + 1 + 1) t k)
in_scope ranks look at (unary s t) k = in_scope ranks look (at + 1) t k
in_scope ranks look at (cast w t) k = in_scope ranks look (at + 1 + 1 + 1) t k
in_scope ranks look at (binary o a b) k = (in_scope ranks look at a k, in_scope ranks look (at + size a + 1) b k)

pub place_from : (look : Lookup) (at : ℕ) (t : Tree) → at ≤ place (formula look at t)
place_from look at (constant s) = omega arith
place_from look at name = omega arith
place_from look at (group t) = let h = place_from look (at + 1) t in omega arith
place_from look at (index t i) = place_from look at t
place_from look at bare_call = omega arith
place_from look at (call t) = omega arith
place_from look at (unary s t) = omega arith
place_from look at (cast w t) = omega arith
place_from look at (binary o a b) = omega arith

pub place_below : (look : Lookup) (at : ℕ) (t : Tree) → place (formula look at t) < at + size t
place_below look at (constant s) = omega arith
place_below look at name = omega arith
place_below look at (group t) = let h = place_below look (at + 1) t in let s = size_group t in omega arith
place_below look at (index t i) = let h = place_below look at t in let s = size_index t i in omega arith
place_below look at bare_call = omega arith
place_below look at (call t) = let s = size_call t in omega arith
place_below look at (unary s t) = let e = size_unary s t in omega arith
place_below look at (cast w t) = let e = size_cast w t in omega arith
place_below look at (binary o a b) = let s = size_binary o a b in omega arith

wider : (at count from length : ℕ) (fs : List Fault) → at ≤ from → from + length ≤ at + count
    → All (LiesWithin from length) fs → All (LiesWithin at count) fs
wider at count from length [] h g all = All-nil (LiesWithin at count)
wider at count from length (x ∷ xs) h g all =
    let here = All-head (LiesWithin from length) x xs all in
    All-cons (LiesWithin at count) x xs
    record { from = let a = here.from in omega arith; below = let b = here.below in omega arith }
    (wider at count from length xs h g (All-tail (LiesWithin from length) x xs all))

told_within : (at count p : ℕ) (k : Option Kind) → at ≤ p → p < at + count → All (LiesWithin at count) (told p k)
told_within at count p None h g = All-nil (LiesWithin at count)
told_within at count p (Some k) h g =
    All-cons (LiesWithin at count) record { place = p; kind = k } [] record { from = h; below = g }
    (All-nil (LiesWithin at count))

judged_within : (at count : ℕ) (fs own : List Fault) → All (LiesWithin at count) fs → All (LiesWithin at count) own
    → All (LiesWithin at count) (judged fs own)
judged_within at count [] own h g = g
judged_within at count (x ∷ xs) own h g = h

mutual
  pub faults_within : (look : Lookup) (at : ℕ) (t : Tree) (n : ℕ) (r : Role)
      → All (LiesWithin at (size t)) (faults n r (formula look at t))
  faults_within look at (constant s) n r =
      told_within at 1 at (own n r (formula look at (constant s))) (omega arith) (omega arith)
  faults_within look at name n r =
      judged_within at 1 (told at (named (look.meaning at))) (told at (own n r (formula look at name)))
      (told_within at 1 at (named (look.meaning at)) (omega arith) (omega arith))
      (told_within at 1 at (own n r (formula look at name)) (omega arith) (omega arith))
  faults_within look at (group t) n r =
      let s = size_group t in
      wider at (size (group t)) (at + 1) (size t) (faults n r (formula look (at + 1) t)) (omega arith) (omega arith)
      (faults_within look (at + 1) t n r)
  faults_within look at (index t i) n r =
      let s = size_index t i in
      let from = place_from look at t in
      let below = place_below look at t in
      judged_within at (size (index t i)) (place_faults n (formula look at (index t i)))
      (told (place (formula look at t)) (own n r (formula look at (index t i))))
      (All-append (LiesWithin at (size (index t i))) (place_faults n (formula look at t))
      (faults n role.Affine (formula look (at + size t + 1) i))
      (wider at (size (index t i)) at (size t) (place_faults n (formula look at t)) (omega arith) (omega arith)
      (place_faults_within look at t n))
      (wider at (size (index t i)) (at + size t + 1) (size i) (faults n role.Affine (formula look (at + size t + 1) i))
      (omega arith) (omega arith) (faults_within look (at + size t + 1) i n role.Affine)))
      (told_within at (size (index t i)) (place (formula look at t)) (own n r (formula look at (index t i)))
      (omega arith) (omega arith))
  faults_within look at bare_call n r =
      judged_within at 3 (told at (called (look.meaning at))) (told at (own n r (formula look at bare_call)))
      (told_within at 3 at (called (look.meaning at)) (omega arith) (omega arith))
      (told_within at 3 at (own n r (formula look at bare_call)) (omega arith) (omega arith))
  faults_within look at (call t) n r =
      let s = size_call t in
      let c = size (call t) in
      judged_within at c (told at (called (look.meaning at)) ++ faults n role.Free (formula look (at + 1 + 1) t))
      (told at (own n r (formula look at (call t))))
      (All-append (LiesWithin at c) (told at (called (look.meaning at)))
      (faults n role.Free (formula look (at + 1 + 1) t))
      (told_within at c at (called (look.meaning at)) (omega arith) (omega arith))
      (wider at c (at + 1 + 1) (size t) (faults n role.Free (formula look (at + 1 + 1) t)) (omega arith) (omega arith)
      (faults_within look (at + 1 + 1) t n role.Free)))
      (told_within at c at (own n r (formula look at (call t))) (omega arith) (omega arith))
  faults_within look at (unary s t) n r =
      let e = size_unary s t in
      let c = size (unary s t) in
      let inner = operand_role s (is_signed (formula look (at + 1) t)) r in
      judged_within at c (faults n inner (formula look (at + 1) t)) (told at (own n r (formula look at (unary s t))))
      (wider at c (at + 1) (size t) (faults n inner (formula look (at + 1) t)) (omega arith) (omega arith)
      (faults_within look (at + 1) t n inner))
      (told_within at c at (own n r (formula look at (unary s t))) (omega arith) (omega arith))
  faults_within look at (cast w t) n r =
      let e = size_cast w t in
      let c = size (cast w t) in
      judged_within at c (faults n (cast_role r) (formula look (at + 1 + 1 + 1) t))
      (told at (own n r (formula look at (cast w t))))
      (wider at c (at + 1 + 1 + 1) (size t) (faults n (cast_role r) (formula look (at + 1 + 1 + 1) t)) (omega arith)
      (omega arith)
      (faults_within look (at + 1 + 1 + 1) t n (cast_role r)))
      (told_within at c at (own n r (formula look at (cast w t))) (omega arith) (omega arith))
  faults_within look at (binary o a b) n r =
      let s = size_binary o a b in
      let c = size (binary o a b) in
      let side = side_role o (is_signed (formula look at a) && is_signed (formula look (at + size a + 1) b)) r in
      judged_within at c (faults n side (formula look at a) ++ faults n side (formula look (at + size a + 1) b))
      (told (at + size a) (own n r (formula look at (binary o a b))))
      (All-append (LiesWithin at c) (faults n side (formula look at a))
      (faults n side (formula look (at + size a + 1) b))
      (wider at c at (size a) (faults n side (formula look at a)) (omega arith) (omega arith)
      (faults_within look at a n side))
      (wider at c (at + size a + 1) (size b) (faults n side (formula look (at + size a + 1) b)) (omega arith)
      (omega arith)
      (faults_within look (at + size a + 1) b n side)))
      (told_within at c (at + size a) (own n r (formula look at (binary o a b))) (omega arith) (omega arith))

  pub place_faults_within : (look : Lookup) (at : ℕ) (t : Tree) (n : ℕ)
      → All (LiesWithin at (size t)) (place_faults n (formula look at t))
  place_faults_within look at (constant s) n = All-nil (LiesWithin at (size (constant s)))
  place_faults_within look at name n = told_within at 1 at (named (look.meaning at)) (omega arith) (omega arith)
  place_faults_within look at (group t) n =
      let s = size_group t in
      wider at (size (group t)) (at + 1) (size t) (place_faults n (formula look (at + 1) t)) (omega arith) (omega arith)
      (place_faults_within look (at + 1) t n)
  place_faults_within look at (index t i) n =
      let s = size_index t i in
      let c = size (index t i) in
      All-append (LiesWithin at c) (place_faults n (formula look at t))
      (faults n role.Affine (formula look (at + size t + 1) i))
      (wider at c at (size t) (place_faults n (formula look at t)) (omega arith) (omega arith)
      (place_faults_within look at t n))
      (wider at c (at + size t + 1) (size i) (faults n role.Affine (formula look (at + size t + 1) i)) (omega arith)
      (omega arith)
      (faults_within look (at + size t + 1) i n role.Affine))
  place_faults_within look at bare_call n = All-nil (LiesWithin at 3)
  place_faults_within look at (call t) n = All-nil (LiesWithin at (size (call t)))
  place_faults_within look at (unary s t) n = All-nil (LiesWithin at (size (unary s t)))
  place_faults_within look at (cast w t) n = All-nil (LiesWithin at (size (cast w t)))
  place_faults_within look at (binary o a b) n = All-nil (LiesWithin at (size (binary o a b)))
