-- What the numbers of a system's one variable tell, constraint by constraint.
use Rattle.scop_syntax.proofs.Common.{◌≡◌, ℕ, ◌<◌, ℤ, List, length, get_or, take, inl, inr, subst, sym, All, ◌⊎◌}
use Rattle.scop_syntax.proofs.Common.{IfSome, None, Option, Some, All-nil, Affine, In, member_at}
use Rattle.integer_sets.specs.Constraints.{Constraints}
use Rattle.plain_scan.specs.Between.{IsLargeIn, IsLargeOf}
use Rattle.plain_scan.proofs.CodeBounds.{take_none}

pub all_none : (P : Affine → Type 0) (fs : List Affine) → All P (take 0 fs)
all_none P fs = subst (All P) (sym (take_none fs)) (All-nil P)

-- a number beyond 2^40 that was there, or is one of the constraint's
large_next : (t : Constraints) (f : Affine) (old new : Option ℤ) → ((z : ℤ) → IsLargeIn f z → IsLargeOf t z)
    → IfSome old (IsLargeOf t) → IfSome new (λ z. (old ≡ Some z) ⊎ IsLargeIn f z) → IfSome new (IsLargeOf t)
large_next t f old None put was now = tt
large_next t f old (Some z) put was now = elim now [
  | inl e ↦ subst (λ o. IfSome o (IsLargeOf t)) e was
  | inr l ↦ put z l
]

pub large_equality : (t : Constraints) (fs : List Affine) (i : ℕ) (f : Affine) (old new : Option ℤ)
    → f ≡ get_or fs i f → i < length fs → fs ≡ t.equalities
    → IfSome old (IsLargeOf t) → IfSome new (λ z. (old ≡ Some z) ⊎ IsLargeIn f z) → IfSome new (IsLargeOf t)
large_equality t fs i f old new is inside e was now =
    large_next t f old new (λ z l. inl (f, subst (In f) e (member_at fs i f is inside), l)) was now

pub large_row : (t : Constraints) (fs : List Affine) (i : ℕ) (f : Affine) (old new : Option ℤ)
    → f ≡ get_or fs i f → i < length fs → fs ≡ t.rows
    → IfSome old (IsLargeOf t) → IfSome new (λ z. (old ≡ Some z) ⊎ IsLargeIn f z) → IfSome new (IsLargeOf t)
large_row t fs i f old new is inside e was now =
    large_next t f old new (λ z l. inr (f, subst (In f) e (member_at fs i f is inside), l)) was now
