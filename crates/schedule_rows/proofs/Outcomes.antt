-- Each state has one outcome.
use Rattle.scop_syntax.proofs.Common.{◌≡◌, ℕ, Bool, List, [], ◌∷◌, ◌++◌, sym, ◌∙◌, ap, subst, inl, inr, arith, length}
use Rattle.scop_syntax.proofs.Common.{In}
use Rattle.schedule_rows.specs.Items.{Row, Block, scalar, closed_by}
use Rattle.iteration_domains.specs.Dependence.{Dependence}
use Rattle.schedule_rows.specs.Dependences.{IsEqualAt, edges_of}
use Rattle.stmt_graph.specs.Graph.{IsNumbering}
use Rattle.schedule_rows.specs.Next.{State, rows_of, AreSingle}
use Rattle.schedule_rows.specs.Outcomes.{Outcome, goes, no_order, state, IsShared, Orders, Finishes, Takes}
use Rattle.schedule_rows.specs.Outcomes.{Cutting, Lacks, Next}
use Rattle.schedule_rows.proofs.Determinism.{least_unique, restricts_unique, uncuts_unique, mark_unique}

-- the law of numberings: there is one
abbrev pub HasOneNumbering : Type 0
HasOneNumbering =
    (n : ℕ) (edges : List (ℕ × ℕ)) (f g : List ℕ) → IsNumbering n edges f → IsNumbering n edges g → f ≡ g

shared_apart : (n : ℕ) (numbers : List ℕ) (k : ℕ) → AreSingle n numbers → IsShared n numbers k → ⊥
shared_apart n numbers k h s = s.4 (h s.0 s.1 s.2 s.3 (s.5 ∙ sym s.6))

orders_one : (loops : List ℕ) (blocks : List Block) (numbers : List ℕ) (o q : Outcome)
    → Orders loops blocks numbers o → Orders loops blocks numbers q → o ≡ q
orders_one loops blocks numbers o q (inl h) (inl k) = h.1 ∙ sym k.1
orders_one loops blocks numbers o q (inl h) (inr k) = absurd (shared_apart (length loops) numbers k.0 h.0 k.1)
orders_one loops blocks numbers o q (inr h) (inl k) = absurd (shared_apart (length loops) numbers h.0 k.0 h.1)
orders_one loops blocks numbers o q (inr h) (inr k) =
    let a = h.2 k.0 k.1 in
    let b = k.2 h.0 h.1 in
    let e : h.0 ≡ k.0 = omega arith in
    h.3 ∙ (ap no_order e ∙ sym k.3)

finishes_one : HasOneNumbering → (m : ℕ) (loops : List ℕ) (s : State) (o q : Outcome) → Finishes m loops s o
    → Finishes m loops s q → o ≡ q
finishes_one one m loops s o q (l, r, inl h) (l', r', inl k) = h.1 ∙ sym k.1
finishes_one one m loops s o q (l, r, inl h) (l', r', inr k) =
    absurd (k.0 (restricts_unique m s.rows s.remaining l' l r' r ∙ h.0))
finishes_one one m loops s o q (l, r, inr h) (l', r', inl k) =
    absurd (h.0 (restricts_unique m s.rows s.remaining l l' r r' ∙ k.0))
finishes_one one m loops s o q (l, r, inr h) (l', r', inr k) =
    let e = restricts_unique m s.rows s.remaining l' l r' r in
    let n = subst (λ (z : List Dependence). IsNumbering (length loops) (edges_of z) k.1.0) e k.1.1 in
    let w = one (length loops) (edges_of l) k.1.0 h.1.0 n h.1.1 in
    orders_one loops (closed_by s.closed s.rows) h.1.0 o q h.1.2
    (subst (λ (z : List ℕ). Orders loops (closed_by s.closed s.rows) z q) w k.1.2)

takes_one : (m : ℕ) (s : State) (r : Row) (o q : Outcome) → Takes m s r o → Takes m s r q → o ≡ q
takes_one m s r o q (inl h) (inl k) =
    let e = mark_unique ((d : Dependence) → In d s.remaining → IsEqualAt m r d) h.1.0 k.1.0 h.1.1 k.1.1 in
    h.1.2 ∙ (ap (λ (p : Bool). goes
    (state s.closed (s.rows ++ record { row = r; parallel = p } ∷ []) s.remaining)) e ∙ sym k.1.2)
takes_one m s r o q (inl h) (inr k) = absurd (k.0 h.0)
takes_one m s r o q (inr h) (inl k) = absurd (h.0 k.0)
takes_one m s r o q (inr h) (inr k) = h.1 ∙ sym k.1

cutting_one : (loops : List ℕ) (s : State) (numbers : List ℕ) (o q : Outcome) → Cutting loops s numbers o
    → Cutting loops s numbers q → o ≡ q
cutting_one loops s numbers o q (l, u, inl h) (l', u', inl k) =
    h.1 ∙ (ap (λ (z : List Dependence). goes (state (s.closed ++ scalar numbers ∷ []) [] z))
    (uncuts_unique numbers s.remaining l l' u u') ∙ sym k.1)
cutting_one loops s numbers o q (l, u, inl h) (l', u', inr k) =
    let e = ap length (uncuts_unique numbers s.remaining l l' u u') in
    let a = h.0 in let b = k.0 in absurd (omega arith)
cutting_one loops s numbers o q (l, u, inr h) (l', u', inl k) =
    let e = ap length (uncuts_unique numbers s.remaining l l' u u') in
    let a = h.0 in let b = k.0 in absurd (omega arith)
cutting_one loops s numbers o q (l, u, inr h) (l', u', inr k) = h.1 ∙ sym k.1

lacks_one : HasOneNumbering → (m : ℕ) (loops : List ℕ) (s : State) (o q : Outcome) → Lacks m loops s o
    → Lacks m loops s q
    → o ≡ q
lacks_one one m loops s o q (inl h) (inl k) =
    h.1.2 ∙ (ap (λ (z : List Dependence). goes (state (closed_by s.closed s.rows) [] z))
    (restricts_unique m s.rows s.remaining h.1.0 k.1.0 h.1.1 k.1.1) ∙ sym k.1.2)
lacks_one one m loops s o q (inl h) (inr k) = absurd (h.0 k.0)
lacks_one one m loops s o q (inr h) (inl k) = absurd (k.0 h.0)
lacks_one one m loops s o q (inr h) (inr k) =
    let w = one (length loops) (edges_of s.remaining) k.1.0 h.1.0 k.1.1 h.1.1 in
    cutting_one loops s h.1.0 o q h.1.2 (subst (λ (z : List ℕ). Cutting loops s z q) w k.1.2)

pub determined : HasOneNumbering → (m : ℕ) (loops : List ℕ) (s : State) (o q : Outcome) → Next m loops s o
    → Next m loops s q
    → o ≡ q
determined one m loops s o q (inl h) (inl k) = finishes_one one m loops s o q h.1 k.1
determined one m loops s o q (inl h) (inr k) = absurd (k.0 h.0)
determined one m loops s o q (inr h) (inl k) = absurd (h.0 k.0)
determined one m loops s o q (inr (a, inl h)) (inr (b, inl k)) =
    let e = least_unique m loops s.remaining (rows_of s) k.0 h.0 k.1 h.1 in
    takes_one m s h.0 o q h.2 (subst (λ (r : Row). Takes m s r q) e k.2)
determined one m loops s o q (inr (a, inl h)) (inr (b, inr k)) = absurd (k.0 h.0 h.1.posed)
determined one m loops s o q (inr (a, inr h)) (inr (b, inl k)) = absurd (h.0 k.0 k.1.posed)
determined one m loops s o q (inr (a, inr h)) (inr (b, inr k)) = lacks_one one m loops s o q h.1 k.1
