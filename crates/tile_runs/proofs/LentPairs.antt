-- What is known of what may be there, as the pairs of tiles or an expansion: of a reference to it; and how many pairs
-- there are.
use Rattle.scop_syntax.proofs.Common.{◌≡◌, ◌≤◌, ℕ, List, Bool, true, false, Bor, Option, None, Some, ap, subst, sym, ⊤}
use Rattle.scop_syntax.proofs.Common.{MatchOption, is_some, option_copied, Visit}
use Rattle.loop_tree.specs.Tiling.{Tiling}
use Rattle.tile_edges.specs.Counting.{HasEdges, HasMoreEdges, IsReleaseOf}

pub lent : {T : Type 0} (P : T → Type 0) (o : Option (Bor T)) (m : Option T) → option_copied o ≡ m → MatchOption m ⊤ P
    → MatchOption o ⊤ (λ b. P b.now)
lent P None m e h = tt
lent P (Some b) m e h = subst (λ n. MatchOption n ⊤ P) (sym e) h

-- the reference is there where that is
pub lent_some : {T : Type 0} (o : Option (Bor T)) (m : Option T) → option_copied o ≡ m → is_some o ≡ is_some m
lent_some None m e = ap is_some e
lent_some (Some b) m e = ap is_some e

-- what is known by whether one is there is known by another that is there where it is
pub as_there : {S T : Type 0} (P Q : Type 0) (o : Option S) (m : Option T) → is_some o ≡ is_some m
    → MatchOption m P (λ t. Q) → MatchOption o P (λ s. Q)
as_there P Q None None e h = h
as_there P Q None (Some t) e h = absurd cc
as_there P Q (Some s) None e h = absurd cc
as_there P Q (Some s) (Some t) e h = h

-- what follows from what holds where they are there holds there
pub then_there : {T : Type 0} (P Q : Type 0) (m : Option T) → (P → Q) → MatchOption m ⊤ (λ e. P)
    → MatchOption m ⊤ (λ e. Q)
then_there P Q None f h = tt
then_there P Q (Some e) f h = f h

-- tiles are to be released one by one, and there are so many pairs
pub told_pairs : (release flow : Bool) (tiling : Tiling) (visits : List Visit) (n : ℕ) → release ≡ true
    → HasEdges flow tiling visits n → n ≤ 4194304 → IsReleaseOf release flow tiling visits (Some n)
told_pairs true flow tiling visits n e has few = (has, few)
told_pairs false flow tiling visits n e has few = absurd cc

-- or too many
pub told_many : (release flow : Bool) (tiling : Tiling) (visits : List Visit) → release ≡ true
    → HasMoreEdges flow tiling visits → IsReleaseOf release flow tiling visits None
told_many true flow tiling visits e more = more
told_many false flow tiling visits e more = absurd cc
