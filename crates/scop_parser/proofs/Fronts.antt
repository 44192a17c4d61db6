-- The first token with which no text goes on is one.
use Rattle.scop_syntax.proofs.Common.{◌≡◌, ℕ, ◌≤◌, List, [], ◌∷◌, ◌++◌, length, refl, sym, subst, append_assoc, arith}
use Rattle.scop_expressions.specs.Token.{Token}
use Rattle.scop_expressions.specs.Tree.{Tree}
use Rattle.scop_grammar.specs.Kernel.{Step, counted, counts, assigned, Head, branch, loop, Item, block, empty, assign}
use Rattle.scop_grammar.specs.Kernel.{headed, Items, none, more, Parameter, number, array, Fits, AllFit, StepFits}
use Rattle.scop_grammar.specs.Kernel.{HeadFits, ItemFits, ItemsFit, ParameterFits, ParametersFit, Spells, IsFront}

-- what fits fits wider limits
pub fits-more : (d n e m : ℕ) (t : Tree) → d ≤ e → n ≤ m → Fits d n t → Fits e m t
fits-more d n e m t x y f =
    let depth = f.within.depth in
    let operators = f.within.operators in
    record {
      expression = f.expression;
      within = record { depth = omega (arith, depth, x); operators = omega (arith, operators, y) };
    }

pub all-more : (d n e m : ℕ) (ts : List Tree) → d ≤ e → n ≤ m → AllFit d n ts → AllFit e m ts
all-more d n e m [] x y f = tt
all-more d n e m (t ∷ ts) x y f = (fits-more d n e m t x y f.0, all-more d n e m ts x y f.1)

pub step-more : (d n e m : ℕ) (s : Step) → d ≤ e → n ≤ m → StepFits d n s → StepFits e m s
step-more d n e m (counted c) x y f = tt
step-more d n e m (counts c) x y f = tt
step-more d n e m (assigned a t) x y f = (f.0, fits-more d n e m t x y f.1)

pub head-more : (d n e m : ℕ) (h : Head) → d ≤ e → n ≤ m → HeadFits d n h → HeadFits e m h
head-more d n e m (branch c) x y f = fits-more d n e m c x y f
head-more d n e m (loop b a c s) x y f =
    (fits-more d n e m a x y f.0, fits-more d n e m c x y f.1, step-more d n e m s x y f.2)

mutual
  pub item-more : (d n e m : ℕ) (i : Item) → d ≤ e → n ≤ m → ItemFits d n i → ItemFits e m i
  item-more d n e m (block is) x y f = items-more d n e m is x y f
  item-more d n e m empty x y f = tt
  item-more d n e m (assign a p t) x y f = (f.0, fits-more d n e m p x y f.1, fits-more d n e m t x y f.2)
  item-more d n e m (headed h i) x y f = (head-more d n e m h x y f.0, item-more d n e m i x y f.1)

  pub items-more : (d n e m : ℕ) (is : Items) → d ≤ e → n ≤ m → ItemsFit d n is → ItemsFit e m is
  items-more d n e m none x y f = tt
  items-more d n e m (more i is) x y f = (item-more d n e m i x y f.0, items-more d n e m is x y f.1)

pub parameter-more : (d n e m : ℕ) (p : Parameter) → d ≤ e → n ≤ m → ParameterFits d n p → ParameterFits e m p
parameter-more d n e m number x y f = tt
parameter-more d n e m (array w t ts) x y f = all-more d n e m (t ∷ ts) x y f

pub parameters-more : (d n e m : ℕ) (ps : List Parameter) → d ≤ e → n ≤ m → ParametersFit d n ps → ParametersFit e m ps
parameters-more d n e m [] x y f = tt
parameters-more d n e m (p ∷ ps) x y f = (parameter-more d n e m p x y f.0, parameters-more d n e m ps x y f.1)

-- a front within limits is one within wider ones
pub front-more : (d n e m : ℕ) (ts : List Token) → d ≤ e → n ≤ m → IsFront d n ts → IsFront e m ts
front-more d n e m ts x y (rest, k, s) =
    let f = s.fits in (
      rest,
      k,
      record {
        fits =
            record {
              first = parameter-more d n e m k.first x y f.first;
              others = parameters-more d n e m k.others x y f.others;
              items = items-more d n e m k.items x y f.items;
            };
        tokens = s.tokens;
      },
    )

-- a front of a front is one
pub front-shorter : (d n : ℕ) (f rest : List Token) → IsFront d n (f ++ rest) → IsFront d n f
front-shorter d n f rest (later, k, s) =
    (rest ++ later, k, subst (λ (ts : List Token). Spells d n ts k) (append_assoc f rest later) s)

-- no front goes further than the first token with which none goes on
further : (d n : ℕ) (acc : List Token) (t y : Token) (g : List Token) → t ≡ y → IsFront d n (acc ++ (y ∷ g))
    → (IsFront d n (acc ++ (t ∷ [])) → ⊥) → ⊥
further d n acc t y g e f never =
    let short = front-shorter d n (acc ++ (y ∷ [])) g
    (subst (λ (ts : List Token). IsFront d n ts) (sym (append_assoc acc (y ∷ []) g)) f) in
    never (subst (λ (z : Token). IsFront d n (acc ++ (z ∷ []))) (sym e) short)

shifted : (d n : ℕ) (acc : List Token) (x y : Token) (f : List Token) → x ≡ y → IsFront d n (acc ++ (y ∷ f))
    → IsFront d n ((acc ++ (x ∷ [])) ++ f)
shifted d n acc x y f e h =
    subst (λ (ts : List Token). IsFront d n ts) (sym (append_assoc acc (x ∷ []) f))
    (subst (λ (z : Token). IsFront d n (acc ++ (z ∷ f))) (sym e) h)

unshifted : (d n : ℕ) (acc : List Token) (x y : Token) (f : List Token) → x ≡ y
    → (IsFront d n (acc ++ (y ∷ f)) → ⊥) → IsFront d n ((acc ++ (x ∷ [])) ++ f) → ⊥
unshifted d n acc x y f e never h =
    never (subst (λ (z : Token). IsFront d n (acc ++ (z ∷ f))) e
    (subst (λ (ts : List Token). IsFront d n ts) (append_assoc acc (x ∷ []) f) h))

heads : (x y : Token) (f g : List Token) → x ∷ f ≡ y ∷ g → x ≡ y
heads x y f g e = cc

tails : (x y : Token) (f g : List Token) → x ∷ f ≡ y ∷ g → f ≡ g
tails x y f g e = cc

both : (x y : Token) (f g : List Token) (t u : Token) → x ≡ y → (f ≡ g) × (t ≡ u) → (x ∷ f ≡ y ∷ g) × (t ≡ u)
both x y f g t u e h = (cc, h.1)

-- two such tokens are one
pub one-break : (d n : ℕ) (acc f g : List Token) (t u : Token) (r q : List Token) → f ++ t ∷ r ≡ g ++ u ∷ q
    → IsFront d n (acc ++ f) → (IsFront d n (acc ++ (f ++ t ∷ [])) → ⊥)
    → IsFront d n (acc ++ g) → (IsFront d n (acc ++ (g ++ u ∷ [])) → ⊥) → (f ≡ g) × (t ≡ u)
one-break d n acc [] [] t u r q e a b c v = (refl, heads t u r q e)
one-break d n acc [] (y ∷ g) t u r q e a b c v =
    absurd (further d n acc t y g (heads t y r (g ++ u ∷ q) e) c b)
one-break d n acc (x ∷ f) [] t u r q e a b c v =
    absurd (further d n acc u x f (sym (heads x u (f ++ t ∷ r) q e)) a v)
one-break d n acc (x ∷ f) (y ∷ g) t u r q e a b c v =
    let same = heads x y (f ++ t ∷ r) (g ++ u ∷ q) e in
    both x y f g t u same
    (one-break d n (acc ++ (x ∷ [])) f g t u r q (tails x y (f ++ t ∷ r) (g ++ u ∷ q) e)
    (shifted d n acc x x f refl a) (unshifted d n acc x x (f ++ t ∷ []) refl b)
    (shifted d n acc x y g same c) (unshifted d n acc x y (g ++ u ∷ []) same v))

-- a text is split at a length in one way
pub one-split : (f g : List Token) (t u : Token) (r q : List Token) → f ++ t ∷ r ≡ g ++ u ∷ q → length f ≡ length g
    → (f ≡ g) × (t ≡ u)
one-split [] [] t u r q e h = (refl, heads t u r q e)
one-split [] (y ∷ g) t u r q e h = absurd (omega (arith, h))
one-split (x ∷ f) [] t u r q e h = absurd (omega (arith, h))
one-split (x ∷ f) (y ∷ g) t u r q e h =
    both x y f g t u (heads x y (f ++ t ∷ r) (g ++ u ∷ q) e)
    (one-split f g t u r q (tails x y (f ++ t ∷ r) (g ++ u ∷ q) e) (omega (arith, h)))
