-- A text that stops at a token within limits stops there within wider ones too: the token is misplaced.
use Rattle.std.proofs.Common.{◌≡◌, ℕ, ◌+◌, ◌≤◌, Bool, true, false, List, [], ◌∷◌, refl, ap, subst, arith, if◌then◌else◌}
use Rattle.std.proofs.Common.{Err}
use Rattle.std.specs.Prelude.{⊤}
use Rattle.scop_expressions.specs.Token.{Token}
use Rattle.scop_expressions.specs.Machine.{Move, go, stops, step, fits, unfit}
use Rattle.scop_expressions.proofs.RunEnds.{fits_wider}
use Rattle.scop_grammar.specs.declared.table.Role.{Role}
use Rattle.scop_grammar.specs.declared.table.Want.{Want}
use Rattle.scop_grammar.specs.declared.table.Want.TheVariants as want
use Rattle.scop_grammar.specs.Table.{room, left}
use Rattle.scop_grammar.specs.Machine.{Spot, spot, first_spot, Turn, on, stop, too_deep, inner_turn, turn_in, turn}
use Rattle.scop_grammar.specs.Machine.{End, goes_on, stopped_at, deep_at, turns, run, Answer, whole, answer, read}
use Rattle.scop_grammar.specs.Kernel.{Piece}
use Rattle.scop_grammar.specs.Promises.{IsMisplaced}
use Rattle.scop_grammar.specs.Claims.{IsAnswer}
use Rattle.scop_grammar.proofs.SpotInvariant.{room_wider, left_wider}
use Rattle.scop_grammar.proofs.MachineAnswers.{read_answers}

-- a turn that goes on or stops, and not for a limit
abbrev pub IsWithin : Turn → Type 0
IsWithin (on s) = ⊤
IsWithin stop = ⊤
IsWithin too_deep = ⊥

by-fit : (b c : Bool) (s : Spot) → (b ≡ true → c ≡ true) → IsWithin (if b then on s else too_deep)
    → (if c then on s else too_deep) ≡ (if b then on s else too_deep)
by-fit true c s h w = rw (h refl) refl
by-fit false c s h w = absurd w

inner-wider : (d n e m : ℕ) (r : Role) (s : Spot) (t : Token) (x : Move) → d ≤ e → n ≤ m
    → IsWithin (inner_turn d n r s t x) → inner_turn e m r s t x ≡ inner_turn d n r s t x
inner-wider d n e m r s t (go i) x y w =
    by-fit (fits (room r d) (left r n s.used) i) (fits (room r e) (left r m s.used) i)
    (spot (want.Inner r) s.braces s.used s.pieces (s.at + 1) s.first i)
    (fits_wider (room r d) (left r n s.used) (room r e) (left r m s.used) i (room_wider r d e x)
    (left_wider r n m s.used y)) w
inner-wider d n e m r s t stops x y w = refl

in-wider : (d n e m : ℕ) (w : Want) (s : Spot) (t : Token) → d ≤ e → n ≤ m → IsWithin (turn_in d n w s t)
    → turn_in e m w s t ≡ turn_in d n w s t
in-wider d n e m (want.Inner r) s t x y w = inner-wider d n e m r s t (step s.inner t) x y w
in-wider d n e m w s t x y h = refl

by-turn : (d n e m : ℕ) (s o : Spot) (t : Token) (ts : List Token) (x : Turn) → (IsWithin x → turn e m s t ≡ x)
    → ((later : Spot) → run d n later ts ≡ stopped_at o → run e m later ts ≡ stopped_at o)
    → turns s t x (λ later. run d n later ts) ≡ stopped_at o → run e m s (t ∷ ts) ≡ stopped_at o
by-turn d n e m s o t ts (on later) w ih h = rw (w tt) (ih later h)
by-turn d n e m s o t ts stop w ih h = rw (w tt) h
by-turn d n e m s o t ts too_deep w ih h = absurd (cc)

pub stops-wider : (d n e m : ℕ) → d ≤ e → n ≤ m → (ts : List Token) (s o : Spot) → run d n s ts ≡ stopped_at o
    → run e m s ts ≡ stopped_at o
stops-wider d n e m x y [] s o h = absurd (cc)
stops-wider d n e m x y (t ∷ ts) s o h =
    by-turn d n e m s o t ts (turn d n s t) (λ w. in-wider d n e m s.want s t x y w)
    (λ later. stops-wider d n e m x y ts later o) h

pub stop-misplaced : (d n : ℕ) (us : List Token) (s : Spot) → 1 ≤ d → run d n first_spot us ≡ stopped_at s
    → IsMisplaced d n us s.at
stop-misplaced d n us s some e = λ b m x y.
    let same : read b m us ≡ Err (unfit, s.at) = ap answer (stops-wider d n b m x y us first_spot s e) in
    subst (λ (a : Answer). IsAnswer b m us a) same (read_answers b m us (omega (arith, some, x)))

-- what an answer says of a token that fits nowhere
abbrev Tells : ℕ → ℕ → List Token → Answer → Type 0
Tells d n us (Err (unfit, at)) = IsMisplaced d n us at
Tells d n us a = ⊤

whole-tells : (d n : ℕ) (us : List Token) (w : Want) (ps : List Piece) (at : ℕ) → Tells d n us (whole w ps at)
whole-tells d n us want.Over ps at = tt
whole-tells d n us w ps at = tt

end-tells : (d n : ℕ) (us : List Token) (o : End) → 1 ≤ d → run d n first_spot us ≡ o → Tells d n us (answer o)
end-tells d n us (goes_on s) some e = whole-tells d n us s.want s.pieces s.at
end-tells d n us (stopped_at s) some e = stop-misplaced d n us s some e
end-tells d n us (deep_at s t) some e = tt

-- a token that the machine calls unfit is misplaced
pub unfit-misplaced : (d n : ℕ) (us : List Token) (at : ℕ) → 1 ≤ d → read d n us ≡ Err (unfit, at)
    → IsMisplaced d n us at
unfit-misplaced d n us at some h = rw h at (end-tells d n us (run d n first_spot us) some refl)
