-- Pieces in front of a spot's own stay in front, as where they are taken out while the machine goes on.
use Rattle.std.proofs.Common.{◌≡◌, ℕ, ◌+◌, Bool, true, false, if◌then◌else◌, List, [], ◌∷◌, ◌++◌, refl, sym, ap, ◌∙◌}
use Rattle.std.proofs.Common.{append_assoc, append-nil, Option, Some, None, Result, Ok, Err}
use Rattle.scop_expressions.specs.declared.node.Node.{Node}
use Rattle.scop_expressions.specs.declared.reader.Stop.{Stop}
use Rattle.scop_expressions.specs.declared.reader.Stop.TheVariants as fault
use Rattle.scop_expressions.specs.Token.{Token}
use Rattle.scop_expressions.specs.Machine.{State, Move, go, stops, step, fits, complete}
use Rattle.scop_grammar.specs.declared.table.Role.{Role}
use Rattle.scop_grammar.specs.declared.table.Want.{Want}
use Rattle.scop_grammar.specs.declared.table.Want.TheVariants as want
use Rattle.scop_grammar.specs.Table.{next, behind, mark, braced, room, left}
use Rattle.scop_grammar.specs.Kernel.{Piece, nodes_from, marked}
use Rattle.scop_grammar.specs.Machine.{Spot, spot, ahead, Turn, on, stop, too_deep, sign_turn, leaves, inner_turn}
use Rattle.scop_grammar.specs.Machine.{turn_in, turn, turns, End, goes_on, stopped_at, deep_at, run, whole, answer}
use Rattle.scop_grammar.specs.Turns.{turned, ended, Feeds}
use Rattle.scop_grammar.specs.Turns as spots

sign_behind : (ps : List Piece) (s : Spot) (t : Token) (o : Option Want)
    → sign_turn (spots.behind ps s) t o ≡ turned ps (sign_turn s t o)
sign_behind ps s t (Some w) =
    ap (λ (qs : List Piece). on (ahead w (braced s.want t s.braces) s.used qs (s.at + 1)))
    (append_assoc ps s.pieces (marked (mark s.want t) s.at))
sign_behind ps s t None = refl

leaves_behind : (ps : List Piece) (s : Spot) (o : Option (List Node)) (w : Option Want)
    → leaves (spots.behind ps s) o w ≡ turned ps (leaves s o w)
leaves_behind ps s (Some ns) (Some w) =
    ap (λ (qs : List Piece). on (ahead w s.braces (s.used + s.inner.used) qs (s.at + 1)))
    (append_assoc ps s.pieces (nodes_from s.first ns ∷ []))
leaves_behind ps s (Some ns) None = refl
leaves_behind ps s None w = refl

fits_behind : (ps : List Piece) (r : Role) (s : Spot) (e : State) (b : Bool) (here : Turn)
    → here ≡ on (spot (want.Inner r) s.braces s.used s.pieces (s.at + 1) s.first e)
    → (if b then turned ps here else too_deep) ≡ turned ps (if b then here else too_deep)
fits_behind ps r s e true here is = refl
fits_behind ps r s e false here is = refl

inner_behind : (d n : ℕ) (ps : List Piece) (r : Role) (s : Spot) (t : Token) (m : Move)
    → inner_turn d n r (spots.behind ps s) t m ≡ turned ps (inner_turn d n r s t m)
inner_behind d n ps r s t (go e) =
    fits_behind ps r s e (fits (room r d) (left r n s.used) e)
    (on (spot (want.Inner r) s.braces s.used s.pieces (s.at + 1) s.first e)) refl
inner_behind d n ps r s t stops = leaves_behind ps s (complete s.inner) (behind r t)

in_behind : (d n : ℕ) (ps : List Piece) (w : Want) (s : Spot) (t : Token)
    → turn_in d n w (spots.behind ps s) t ≡ turned ps (turn_in d n w s t)
in_behind d n ps (want.Inner r) s t = inner_behind d n ps r s t (step s.inner t)
in_behind d n ps w s t = sign_behind ps s t (next w s.braces t)

pub turn_behind : (d n : ℕ) (ps : List Piece) (s : Spot) (t : Token)
    → turn d n (spots.behind ps s) t ≡ turned ps (turn d n s t)
turn_behind d n ps s t = in_behind d n ps s.want s t

turns_behind : (d n : ℕ) (ps : List Piece) (s : Spot) (t : Token) (ts : List Token) (m : Turn)
    → ((next : Spot) → run d n (spots.behind ps next) ts ≡ ended ps (run d n next ts))
    → turns (spots.behind ps s) t (turned ps m) (λ next. run d n next ts)
    ≡ ended ps (turns s t m (λ next. run d n next ts))
turns_behind d n ps s t ts (on next) more = more next
turns_behind d n ps s t ts stop more = refl
turns_behind d n ps s t ts too_deep more = refl

pub run_behind : (d n : ℕ) (ps : List Piece) (s : Spot) (ts : List Token)
    → run d n (spots.behind ps s) ts ≡ ended ps (run d n s ts)
run_behind d n ps s [] = refl
run_behind d n ps s (t ∷ ts) =
    ap (λ (m : Turn). turns (spots.behind ps s) t m (λ next. run d n next ts)) (turn_behind d n ps s t)
    ∙ turns_behind d n ps s t ts (turn d n s t) (λ (next : Spot). run_behind d n ps next ts)

-- what the code's reader does, it does with the pieces in front that were taken
pub feeds_behind : {A : Type 0} (d n : ℕ) (ps : List Piece) (r : Result A Stop) (old new : Spot) (t : Token)
    → Feeds r old new t (turn d n old t)
    → Feeds r (spots.behind ps old) (spots.behind ps new) t (turn d n (spots.behind ps old) t)
feeds_behind d n ps (Ok a) old new t h = turn_behind d n ps old t ∙ ap (turned ps) h
feeds_behind d n ps (Err (fault.Unfit at)) old new t h = (turn_behind d n ps old t ∙ ap (turned ps) h.0, h.1)
feeds_behind d n ps (Err (fault.Depth at)) old new t h = (turn_behind d n ps old t ∙ ap (turned ps) h.0, h.1)
feeds_behind d n ps (Err (fault.Unended at)) old new t h = h
feeds_behind d n ps (Err fault.NoMemory) old new t h = tt

pub whole_front : (w : Want) (ps qs all : List Piece) (at : ℕ) → whole w (ps ++ qs) at ≡ Ok all → ps ++ qs ≡ all
whole_front want.Over ps qs all at h = cc
whole_front w ps qs all at h = absurd (cc)

end_front : (ps all : List Piece) (o : End) → answer (ended ps o) ≡ Ok all
    → (rest : List Piece) × (ps ++ rest ≡ all)
end_front ps all (goes_on s) h = (s.pieces, whole_front s.want ps s.pieces all s.at h)
end_front ps all (stopped_at s) h = absurd (cc)
end_front ps all (deep_at s t) h = absurd (cc)

-- a run that ends with a whole text has the spot's pieces in front of its own
pub run_front : (d n : ℕ) (s : Spot) (ts : List Token) (all : List Piece) → answer (run d n s ts) ≡ Ok all
    → (rest : List Piece) × (s.pieces ++ rest ≡ all)
run_front d n s ts all h =
    let bare = record s { pieces = [] } in
    let same : spots.behind s.pieces bare ≡ s =
    ap (λ (qs : List Piece). record s { pieces = qs }) (append-nil s.pieces) in
    end_front s.pieces all (run d n bare ts)
    (ap answer (sym (run_behind d n s.pieces bare ts) ∙ ap (λ (p : Spot). run d n p ts) same) ∙ h)
