-- The loop of the code is the machine's run.
use Rattle.std.proofs.Common.{◌≡◌, ℕ, ◌+◌, ◌<◌, ◌≤◌, true, false, List, [], ◌∷◌, ◌++◌, length, take, drop, get_or}
use Rattle.std.proofs.Common.{add-one, refl, sym, ap, ◌∙◌, length-append, arith, max, Err, if◌then◌else◌}
use Rattle.std.proofs.Math.Seq.{drop-cons, take-suc}
use Rattle.scop_tokens.specs.declared.Token.{Token}
use Rattle.scop_expressions.specs.Machine.{State, Move, start, go, stops, step, fits, goes, run, deep, answer, read}
use Rattle.scop_expressions.specs.Machine.{or_fault, complete, unfit, unended, depth}
use Rattle.scop_expressions.specs.Grammar.{told_at}
use Rattle.std.proofs.lemmas.List.{drop_all}
use Rattle.scop_expressions.proofs.Runs.{run_goes}
use Rattle.scop_expressions.proofs.Shapes.{Stands}
use Rattle.scop_expressions.proofs.RunEnds.{fits_bounds}
use Rattle.scop_expressions.proofs.MachineAnswers.{at_length, go_stands, begins}

-- what is left runs as the whole, and the state stands for what was read
pub record Runs (d n : ℕ) (ts : List Token) (i : ℕ) (s : State) : Type 0 where
  pub run : run d n s (drop i ts) ≡ run d n start ts
  pub stands : Stands s (take i ts) d
  pub place : s.at ≡ i
  pub brackets : s.brackets ≤ d
  pub used : s.used ≤ n

pub runs_first : (d n : ℕ) (ts : List Token) → Runs d n ts 0 start
runs_first d n ts =
    record {
      run = refl;
      stands = begins d;
      place = refl;
      brackets = omega arith;
      used = omega arith;
    }

pub runs_on : (d n : ℕ) (ts : List Token) (i : ℕ) (s next : State) (t0 : Token) → Runs d n ts i s
    → i < length ts → step s (get_or ts i t0) ≡ go next → fits d n next ≡ true
    → Runs d n ts (i + 1) next
runs_on d n ts i s next t0 r h e f =
    let bounds = fits_bounds d n next.brackets next.used f in
    let b = bounds.0 in
    let u = bounds.1 in
    let after = go_stands (take i ts) (get_or ts i t0) d s next e r.stands in
    let p = after.peak in
    let q = r.place in
    let left : drop i ts ≡ get_or ts i t0 ∷ drop (i + 1) ts = rw (add-one, drop-cons ts i t0) refl in
    let taken : take i ts ++ get_or ts i t0 ∷ [] ≡ take (i + 1) ts = rw (add-one, take-suc ts i t0) refl in
    let length_is = at_length next (take i ts ++ get_or ts i t0 ∷ []) (max d next.brackets) after in
    let before = at_length s (take i ts) d r.stands in
    record {
      run =
          sym (run_goes d n s next (get_or ts i t0) (drop (i + 1) ts) e b u)
          ∙ ap (λ (xs : List Token). run d n s xs) (sym left)
          ∙ r.run;
      stands =
          record {
            shape = after.shape;
            is = after.is;
            tokens = sym taken ∙ after.tokens;
            sound = after.sound;
            peak = omega arith;
          };
      place = omega (arith, length_is, before, length-append (take i ts) (get_or ts i t0 ∷ []));
      brackets = b;
      used = u;
    }

-- a token that does not go on ends the run with what is complete
pub run_stops : (d n : ℕ) (ts : List Token) (i : ℕ) (s : State) (t0 : Token) → Runs d n ts i s
    → i < length ts → step s (get_or ts i t0) ≡ stops → read d n ts ≡ or_fault (complete s) unfit s.at
run_stops d n ts i s t0 r h e =
    let left : drop i ts ≡ get_or ts i t0 ∷ drop (i + 1) ts = rw (add-one, drop-cons ts i t0) refl in
    ap answer (sym r.run)
    ∙ ap (λ (xs : List Token). answer (run d n s xs)) left
    ∙ ap (λ (m : Move). answer (goes d n s (get_or ts i t0) m (λ next. run d n next (drop (i + 1) ts)))) e

-- so does one that passes a limit
pub run_deepens : (d n : ℕ) (ts : List Token) (i : ℕ) (s next : State) (t0 : Token) → Runs d n ts i s
    → i < length ts → step s (get_or ts i t0) ≡ go next → fits d n next ≡ false
    → read d n ts ≡ Err (depth, told_at (get_or ts i t0) s.at)
run_deepens d n ts i s next t0 r h e f =
    let t = get_or ts i t0 in
    let left : drop i ts ≡ t ∷ drop (i + 1) ts = rw (add-one, drop-cons ts i t0) refl in
    ap answer (sym r.run)
    ∙ ap (λ (xs : List Token). answer (run d n s xs)) left
    ∙ ap (λ (m : Move). answer (goes d n s t m (λ next. run d n next (drop (i + 1) ts)))) e
    ∙ ap (λ b. answer (if b then run d n next (drop (i + 1) ts) else deep s t)) f

-- and the end of the tokens
pub run_ends : (d n : ℕ) (ts : List Token) (i : ℕ) (s : State) → Runs d n ts i s → length ts ≤ i
    → read d n ts ≡ or_fault (complete s) unended s.at
run_ends d n ts i s r h =
    ap answer (sym r.run) ∙ ap (λ (xs : List Token). answer (run d n s xs)) (drop_all i ts h)
