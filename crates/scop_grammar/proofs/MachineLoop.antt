-- The loop of the code is the machine's run.
use Rattle.std.proofs.Common.{◌≡◌, ℕ, ◌+◌, ◌<◌, ◌≤◌, List, [], ◌∷◌, ◌++◌, length, take, drop, get_or, add-one, refl}
use Rattle.std.proofs.Common.{sym, ap, ◌∙◌, subst, length-append, arith, Result, Ok, Err, IfOk, IfErr}
use Rattle.std.proofs.Math.Seq.{drop-cons, take-suc}
use Rattle.scop_expressions.specs.Token.{Token}
use Rattle.scop_expressions.specs.declared.reader.Stop.{Stop}
use Rattle.scop_expressions.specs.declared.reader.Stop.TheVariants as fault
use Rattle.scop_expressions.specs.Machine.{State, start}
use Rattle.scop_expressions.proofs.Fronts.{stands_brackets}
use Rattle.scop_expressions.proofs.MachineAnswers.{at_length}
use Rattle.scop_grammar.specs.declared.reader.Text.{Text}
use Rattle.scop_grammar.specs.declared.table.Role.{Role}
use Rattle.scop_grammar.specs.declared.table.Role.TheVariants as role
use Rattle.scop_grammar.specs.declared.table.Want.{Want}
use Rattle.scop_grammar.specs.declared.table.Want.TheVariants as want
use Rattle.scop_grammar.specs.Table.{room, left}
use Rattle.scop_grammar.specs.Kernel.{spelled}
use Rattle.scop_grammar.specs.Machine.{Spot, first_spot, Turn, on, stop, too_deep, turn, turns, run, answer, read}
use Rattle.scop_grammar.specs.Promises.{IsRead}
use Rattle.scop_grammar.specs.Turns.{Feeds, Gives, IsStop, pieces_of}
use Rattle.scop_grammar.proofs.SpotInvariant.{Holds, Means, Goes, keeps_turn, first_means}
use Rattle.scop_grammar.proofs.MachineAnswers.{read_answers}
use Rattle.scop_grammar.proofs.WiderLimits.{unfit-misplaced}

-- the counts of the expression in hand
pub record InnerSmall (d n i : ℕ) (e : State) : Type 0 where
  pub at : e.at ≤ i
  pub brackets : e.brackets ≤ d
  pub used : e.used ≤ n

pub room_most : (r : Role) (d : ℕ) → room r d ≤ d
room_most role.Subscript d = omega arith
room_most _ d = omega arith

pub left_most : (r : Role) (n u : ℕ) → left r n u ≤ n
left_most role.Subscript n u = omega arith
left_most _ n u = omega arith

pub start_small : (d n i : ℕ) (e : State) → e ≡ start → InnerSmall d n i e
start_small d n i e h = rw h (record { at = omega arith; brackets = omega arith; used = omega arith })

pub inner_small : (d n : ℕ) (w : Want) (u : ℕ) (e : State) (us : List Token) → Holds d n w u e us
    → InnerSmall d n (length us) e
inner_small d n (want.Inner r) u e us h =
    let a = at_length e us (room r d) h.0 in
    let b = stands_brackets e us (room r d) h.0 in
    let c = room_most r d in
    let f = left_most r n u in
    let g = h.1 in
    record { at = omega arith; brackets = omega arith; used = omega arith }
inner_small d n want.Over u e us h = start_small d n (length us) e h.1
inner_small d n _ u e us h = start_small d n (length us) e h.1

-- what is left runs as the whole, and the spot stands for what was read
pub record Runs (d n : ℕ) (ts : List Token) (i : ℕ) (s : Spot) : Type 0 where
  pub run : run d n s (drop i ts) ≡ run d n first_spot ts
  pub means : Means d n s (take i ts)
  pub place : s.at ≡ i
  pub inner : InnerSmall d n i s.inner

pub runs_first : (d n : ℕ) (ts : List Token) → Runs d n ts 0 first_spot
runs_first d n ts =
    record {
      run = refl;
      means = first_means d n;
      place = refl;
      inner = record { at = omega arith; brackets = omega arith; used = omega arith };
    }

-- what is left begins with the token at hand
pub runs_left : (d n : ℕ) (ts : List Token) (i : ℕ) (s : Spot) (t0 : Token) → Runs d n ts i s → i < length ts
    → run d n s (get_or ts i t0 ∷ drop (i + 1) ts) ≡ run d n first_spot ts
runs_left d n ts i s t0 r h =
    let left : drop i ts ≡ get_or ts i t0 ∷ drop (i + 1) ts = rw (add-one, drop-cons ts i t0) refl in
    ap (λ (xs : List Token). run d n s xs) (sym left) ∙ r.run

pub means_on : (d n : ℕ) (s next : Spot) (ts : List Token) (t : Token) → 1 ≤ d → turn d n s t ≡ on next
    → Means d n s ts → Means d n next (ts ++ t ∷ [])
means_on d n s next ts t l e k = subst (λ (m : Turn). Goes d n (ts ++ t ∷ []) m) e (keeps_turn d n s ts t l k)

pub runs_on : (d n : ℕ) (ts : List Token) (i : ℕ) (s next : Spot) (t0 : Token) → 1 ≤ d → Runs d n ts i s
    → i < length ts → turn d n s (get_or ts i t0) ≡ on next → Runs d n ts (i + 1) next
runs_on d n ts i s next t0 l r h e =
    let taken : take i ts ++ get_or ts i t0 ∷ [] ≡ take (i + 1) ts = rw (add-one, take-suc ts i t0) refl in
    let after : Means d n next (take (i + 1) ts) =
    subst (λ (xs : List Token). Means d n next xs) taken
    (means_on d n s next (take i ts) (get_or ts i t0) l e r.means) in
    let one : run d n s (get_or ts i t0 ∷ drop (i + 1) ts) ≡ run d n next (drop (i + 1) ts) = rw e refl in
    let before = r.means.place in
    let now = after.place in
    let many = ap length taken in
    let here = r.place in
    let whole = ap length after.tokens in
    let place : next.at ≡ i + 1 = omega (arith, length-append (take i ts) (get_or ts i t0 ∷ [])) in
    let small = inner_small d n next.want next.used next.inner after.inner after.holds in
    let at = small.at in
    record {
      run = sym one ∙ runs_left d n ts i s t0 r h;
      means = after;
      place = place;
      inner =
          record {
            at = omega (arith, length-append (spelled after.elements) after.inner);
            brackets = small.brackets;
            used = small.used;
          };
    }

pub feeds_on : {A : Type 0} (r : Result A Stop) (x : A) (old new : Spot) (t : Token) (m : Turn) → r ≡ Ok x
    → Feeds r old new t m → m ≡ on new
feeds_on r x old new t m e h = rw e at h

-- the machine's answer where a token is refused
pub refused : (d n : ℕ) (ts rest : List Token) (s : Spot) (t : Token) (m : Turn) → turn d n s t ≡ m
    → run d n s (t ∷ rest) ≡ run d n first_spot ts → read d n ts ≡ answer (turns s t m (λ next. run d n next rest))
refused d n ts rest s t m e h = ap answer (sym h ∙ rw e refl)

pub gives_fault : {A : Type 0} (d n : ℕ) (ts rest : List Token) (s new : Spot) (t : Token) (r : Result A Stop)
    (e : Stop) → r ≡ Err e → Feeds r s new t (turn d n s t) → run d n s (t ∷ rest) ≡ run d n first_spot ts
    → Gives (Err e) (read d n ts)
gives_fault d n ts rest s new t r (fault.Unfit at) h f k =
    let g = rw h at f in
    rw (refused d n ts rest s t stop g.0 k, g.1) refl
gives_fault d n ts rest s new t r (fault.Depth at) h f k =
    let g = rw h at f in
    rw (refused d n ts rest s t too_deep g.0 k, g.1) refl
gives_fault d n ts rest s new t r (fault.Unended at) h f k = absurd (rw h at f)
gives_fault d n ts rest s new t r fault.NoMemory h f k = tt

pub tells_text : (d n : ℕ) (ts : List Token) (r : Result Text Stop) → 1 ≤ d → Gives r (read d n ts)
    → IfOk r (λ t. IsRead d n ts (pieces_of t.parts.items))
tells_text d n ts (Ok t) l h = rw h at (read_answers d n ts l)
tells_text d n ts (Err e) l h = tt

pub tells_stop : (d n : ℕ) (ts : List Token) (r : Result Text Stop) → 1 ≤ d → Gives r (read d n ts)
    → IfErr r (IsStop d n ts)
tells_stop d n ts (Ok t) l h = tt
tells_stop d n ts (Err (fault.Unfit at)) l h = unfit-misplaced d n ts at l h
tells_stop d n ts (Err (fault.Unended at)) l h = rw h at (read_answers d n ts l)
tells_stop d n ts (Err (fault.Depth at)) l h = rw h at (read_answers d n ts l)
tells_stop d n ts (Err fault.NoMemory) l h = tt
