-- How the code's steps compose into the machine's.
use Rattle.std.proofs.Common.{◌≡◌, ℕ, ◌+◌, Bool, true, false, List, [], ◌∷◌, ◌++◌, refl, sym, ap, ◌∙◌, arith, nat_lt}
use Rattle.std.proofs.Common.{Option, Some, None, Result, Ok, Err, if◌then◌else◌}
use Rattle.std.proofs.lemmas.Bool.{lt-ltb}
use Rattle.scop_tokens.specs.declared.Op.{Op}
use Rattle.scop_tokens.specs.declared.Width.{Width}
use Rattle.scop_expressions.specs.declared.token.Sign.{Sign}
use Rattle.scop_expressions.specs.declared.node.Node.{Node}
use Rattle.scop_expressions.specs.declared.node.Node.TheVariants as node
use Rattle.scop_expressions.specs.declared.node.Held.{Held}
use Rattle.scop_expressions.specs.declared.node.Held.TheVariants as held
use Rattle.scop_expressions.specs.Tree.{level}
use Rattle.scop_expressions.specs.declared.node.Last.{Last}
use Rattle.scop_expressions.specs.declared.node.Mode.TheVariants as mode
use Rattle.scop_expressions.specs.Machine.{reduced, Pair, State, state, Move, complete, whole}
use Rattle.scop_expressions.specs.Stepping.{Steps}
use Rattle.scop_expressions.specs.steps.Joining.{tight, StepsFrom}

-- one operator, by whether it binds tighter
abbrev pub reduced_by : ℕ → Held → List Held → List Node → Option Node → Pair
reduced_by l h hs ns (Some n) = reduced l hs (ns ++ n ∷ [])
reduced_by l h hs ns None = (h ∷ hs, ns)

pub binary_by : (l : ℕ) (o : Op) (at : ℕ) (hs : List Held) (ns : List Node) (x : Bool) → nat_lt l (level o + 1) ≡ x
    → reduced l (held.Binary o at ∷ hs) ns
    ≡ reduced_by l (held.Binary o at) hs ns (tight l (held.Binary o at))
binary_by l o at hs ns true e = rw e refl
binary_by l o at hs ns false e = rw e refl

pub unary_by : (l : ℕ) (s : Sign) (at : ℕ) (hs : List Held) (ns : List Node) (x : Bool) → nat_lt l 11 ≡ x
    → reduced l (held.Unary s at ∷ hs) ns
    ≡ reduced_by l (held.Unary s at) hs ns (tight l (held.Unary s at))
unary_by l s at hs ns true e = rw e refl
unary_by l s at hs ns false e = rw e refl

pub cast_by : (l : ℕ) (z : Width) (at : ℕ) (hs : List Held) (ns : List Node) (x : Bool) → nat_lt l 11 ≡ x
    → reduced l (held.Cast z at ∷ hs) ns
    ≡ reduced_by l (held.Cast z at) hs ns (tight l (held.Cast z at))
cast_by l z at hs ns true e = rw e refl
cast_by l z at hs ns false e = rw e refl

pub reduced_tight : (l : ℕ) (h : Held) (hs : List Held) (ns : List Node)
    → reduced l (h ∷ hs) ns ≡ reduced_by l h hs ns (tight l h)
reduced_tight l (held.Binary o at) hs ns = binary_by l o at hs ns (nat_lt l (level o + 1)) refl
reduced_tight l (held.Unary s at) hs ns = unary_by l s at hs ns (nat_lt l 11) refl
reduced_tight l (held.Cast z at) hs ns = cast_by l z at hs ns (nat_lt l 11) refl
reduced_tight l _ hs ns = refl

pub reduced_some : (l : ℕ) (h : Held) (old hs : List Held) (ns : List Node) (n : Node)
    → old ≡ h ∷ hs → Some n ≡ tight l h
    → reduced l old ns ≡ reduced l hs (ns ++ n ∷ [])
reduced_some l h old hs ns n e f = rw e (reduced_tight l h hs ns ∙ ap (reduced_by l h hs ns) (sym f))

pub reduced_none : (l : ℕ) (h : Held) (old hs : List Held) (ns : List Node) → old ≡ h ∷ hs → None ≡ tight l h
    → reduced l old ns ≡ (h ∷ hs, ns)
reduced_none l h old hs ns e f = rw e (reduced_tight l h hs ns ∙ ap (reduced_by l h hs ns) (sym f))

-- reducing by a level and then by none is reducing by none
pub again_by : (l : ℕ) (h : Held) (hs : List Held) (ns : List Node) (o p : Option Node)
    → tight l h ≡ o → tight 0 h ≡ p → ((n : Node) → o ≡ Some n → p ≡ Some n)
    → ((ms : List Node) → reduced 0 (reduced l hs ms).0 (reduced l hs ms).1 ≡ reduced 0 hs ms)
    → reduced 0 (reduced_by l h hs ns o).0 (reduced_by l h hs ns o).1 ≡ reduced 0 (h ∷ hs) ns
again_by l h hs ns None p e f g more = refl
again_by l h hs ns (Some n) p e f g more =
    let q : tight 0 h ≡ Some n = f ∙ g n refl in
    more (ns ++ n ∷ []) ∙ sym (reduced_tight 0 h hs ns ∙ ap (reduced_by 0 h hs ns) q)

pub some_if : {A : Type 0} (x : Bool) (a b : A) → (if x then Some a else None) ≡ Some b → Some a ≡ Some b
some_if true a b e = e
some_if false a b e = absurd (cc)

pub tight_all : (l : ℕ) (h : Held) (n : Node) → tight l h ≡ Some n → tight 0 h ≡ Some n
tight_all l (held.Binary o at) n e =
    rw (lt-ltb 0 (level o + 1) (omega arith)) (some_if (nat_lt l (level o + 1)) (node.Binary o at) n e)
tight_all l (held.Unary s at) n e = some_if (nat_lt l 11) (node.Unary s at) n e
tight_all l (held.Cast z at) n e = some_if (nat_lt l 11) (node.Cast z at) n e
tight_all l _ n e = absurd (cc)

pub reduced_again : (l : ℕ) (hs : List Held) (ns : List Node)
    → reduced 0 (reduced l hs ns).0 (reduced l hs ns).1 ≡ reduced 0 hs ns
reduced_again l [] ns = refl
reduced_again l (h ∷ hs) ns =
    rw (reduced_tight l h hs ns)
    (again_by l h hs ns (tight l h) (tight 0 h) refl refl (tight_all l h) (reduced_again l hs))

-- what is complete stays so, however far it is reduced
pub stepped : {E : Type 0} (r : Result Bool E) (old new : State) (l : ℕ) (last : Last) (m : Move)
    → old.mode ≡ mode.Done last → StepsFrom r old new (reduced l old.held old.nodes) m → Steps r old new m
stepped (Ok true) old new l last m k h = h
stepped (Ok false) old new l last m k h =
    let p = reduced l old.held old.nodes in
    let kept : complete (state old.mode p.0 p.1 old.at old.brackets old.used) ≡ complete old =
    rw k (ap whole (reduced_again l old.held old.nodes)) in (
      h.0,
      ap complete h.1 ∙ kept,
      (
        ap (λ (s : State). s.mode) h.1,
        ap (λ (s : State). s.at) h.1,
        ap (λ (s : State). s.brackets) h.1,
        ap (λ (s : State). s.used) h.1,
      ),
    )
stepped (Err e) old new l last m k h = tt

pub ruleset reducing = (reduced_some, reduced_none)
