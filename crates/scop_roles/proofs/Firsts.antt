-- The first fault of lists in a row, and of a node from those of its parts.
use Rattle.scop_syntax.proofs.Common.{◌≡◌, ℕ, Bool, true, false, ◌&&◌, ◌||◌, ◌==◌, nat_lt, List, [], ◌∷◌, ◌++◌, Option}
use Rattle.scop_syntax.proofs.Common.{Some, None, ap, sym, ◌∙◌, refl, arith, if◌then◌else◌}
use Rattle.scop_roles.specs.declared.kinds.Fault.{Fault}
use Rattle.scop_roles.specs.declared.kinds.Kind.{Kind}
use Rattle.scop_roles.specs.Faults.{number, precedes, first_of, first, told, judged}
use Rattle.scop_roles.specs.steps.Judgement.{part_or_own}

-- by two numbers, the first first
before_then : (a k b l c m : ℕ) → (nat_lt a b || (a == b && nat_lt k l)) ≡ true
    → (nat_lt b c || (b == c && nat_lt l m)) ≡ true → (nat_lt a c || (a == c && nat_lt k m)) ≡ true
before_then a k b l c m p q = grind arith

before_not : (a k b l c m : ℕ) → (nat_lt a b || (a == b && nat_lt k l)) ≡ false
    → (nat_lt b c || (b == c && nat_lt l m)) ≡ false → (nat_lt a c || (a == c && nat_lt k m)) ≡ false
before_not a k b l c m p q = grind arith

-- what stands before another stands before all that the other does
pub precedes_then : (f g h : Fault) → precedes f g ≡ true → precedes g h ≡ true → precedes f h ≡ true
precedes_then f g h a b = before_then f.place (number f.kind) g.place (number g.kind) h.place (number h.kind) a b

pub precedes_not : (f g h : Fault) → precedes f g ≡ false → precedes g h ≡ false → precedes f h ≡ false
precedes_not f g h a b = before_not f.place (number f.kind) g.place (number g.kind) h.place (number h.kind) a b

-- of three
by_order : (f g h : Fault) (a b c : Bool) → precedes g f ≡ a → precedes h g ≡ b → precedes h f ≡ c
    → first_of (first_of (Some f) (Some g)) (Some h) ≡ first_of (Some f) (first_of (Some g) (Some h))
by_order f g h true true c p q r = rw (p, q, precedes_then h g f q p) refl
by_order f g h true false c p q r = rw (p, q, p) refl
by_order f g h false true c p q r = rw (p, q) refl
by_order f g h false false c p q r = rw (p, q, precedes_not h g f q p, p) refl

pub first_of-assoc : (f g h : Option Fault) → first_of (first_of f g) h ≡ first_of f (first_of g h)
first_of-assoc None g h = refl
first_of-assoc (Some f) None h = refl
first_of-assoc (Some f) (Some g) None = only (precedes g f)
  where
    only : (b : Bool) → first_of (if b then Some g else Some f) None ≡ (if b then Some g else Some f)
    only true = refl
    only false = refl
first_of-assoc (Some f) (Some g) (Some h) =
    by_order f g h (precedes g f) (precedes h g) (precedes h f) refl refl refl

pub first-append : (fs gs : List Fault) → first (fs ++ gs) ≡ first_of (first fs) (first gs)
first-append [] gs = refl
first-append (f ∷ fs) gs =
    ap (λ (g : Option Fault). first_of (Some f) g) (first-append fs gs)
    ∙ sym (first_of-assoc (Some f) (first fs) (first gs))

-- one of two, where one is there
pub some_first : (f : Fault) (g : Option Fault) → (x : Fault) × (first_of (Some f) g ≡ Some x)
some_first f None = (f, refl)
some_first f (Some g) = which (precedes g f)
  where
    which : (b : Bool) → (x : Fault) × ((if b then Some g else Some f) ≡ Some x)
    which true = (g, refl)
    which false = (f, refl)

-- a list without a first fault is empty
pub first_none : (fs : List Fault) → first fs ≡ None → fs ≡ []
first_none [] h = refl
first_none (f ∷ fs) h = let s = some_first f (first fs) in absurd (grind (arith, s.1, h))

pub first_of_none : (f g : Option Fault) → first_of f g ≡ None → (f ≡ None) × (g ≡ None)
first_of_none None g h = (refl, h)
first_of_none (Some f) g h = let s = some_first f g in absurd (grind (arith, s.1, h))

pub none_first_of : (f g : Option Fault) → f ≡ None → g ≡ None → first_of f g ≡ None
none_first_of None g f_is g_is = g_is
none_first_of (Some f) g f_is g_is = absurd (grind (arith, f_is))

-- a node's first fault is that of its parts, else its own
pub first-judged : (fs : List Fault) (at : ℕ) (own : Option Kind)
    → first (judged fs (told at own)) ≡ part_or_own (first fs) at own
first-judged [] at own = refl
first-judged (f ∷ fs) at own = let s = some_first f (first fs) in rw s.1 refl

pub part_or_own_none : (part : Option Fault) (at : ℕ) (own : Option Kind) → part_or_own part at own ≡ None
    → (part ≡ None) × (own ≡ None)
part_or_own_none None at None h = (refl, refl)
part_or_own_none None at (Some k) h = absurd (grind (arith, h))
part_or_own_none (Some f) at own h = absurd (grind (arith, h))

pub none_part_or_own : (part : Option Fault) (at : ℕ) (own : Option Kind) → part ≡ None → own ≡ None
    → part_or_own part at own ≡ None
none_part_or_own None at None p o = refl
none_part_or_own None at (Some k) p o = absurd (grind (arith, o))
none_part_or_own (Some f) at own p o = absurd (grind (arith, p))

pub part_or_own_same : (part : Option Fault) (at : ℕ) (k l : Option Kind) → (part ≡ None → k ≡ l)
    → part_or_own part at k ≡ part_or_own part at l
part_or_own_same None at k l h = ap (λ (x : Option Kind). part_or_own None at x) (h refl)
part_or_own_same (Some f) at k l h = refl
