-- Frames that are put on and taken off, the innermost last in the code's stack.
use Rattle.whole_numbers.proofs.Common.{◌≡◌, ℕ, suc, ℤ, List, [], ◌∷◌, ◌++◌, length, drop, reverse, refl, subst, ap}
use Rattle.whole_numbers.proofs.Common.{sym, ◌∙◌, arith, Result, Ok, Err, OnOk, reverse-append, Affine}
use Rattle.quast_trees.specs.Tree.{Tree, leaf, bind, branch}
use Rattle.quast_trees.specs.Source.{unnamed}
use Rattle.quast_trees.specs.Postfix.{top, branched, bound}
use Rattle.checked_tableau.specs.Nodes.{Counted, resumed, whole}
use Rattle.pip_solver.specs.declared.node.Tableau.{Tableau}
use Rattle.pip_solver.specs.Node.{node_of}
use Rattle.pip_solver.specs.declared.frames.Frame.TheVariants as frame
use Rattle.pip_solver.specs.steps.Frames.{framing, under, joins, seconds, IsReady, AreReady, KeepsSides}

-- the innermost frame
pub turned_last : (old rest : List frame.the_data) (x : frame.the_data) → old ≡ rest ++ x ∷ []
    → reverse old ≡ x ∷ reverse rest
turned_last old rest x is = ap (λ (fs : List frame.the_data). reverse fs) is ∙ reverse-append rest (x ∷ [])

-- a bind is taken off
pub record Taken (old rest : List frame.the_data) (trees news : List Tree) : Type 0 where
  pub stands : length news ≡ suc (joins (reverse rest))
  pub runs : (n left : ℕ) → under n old (drop 1 trees) (Ok (top trees, left))
      ≡ under n rest (drop 1 news) (Ok (top news, left))
  pub waiting : seconds (reverse old) ≡ seconds (reverse rest)
  pub ready : (n : ℕ) → AreReady n (reverse old) → AreReady n (reverse rest)

taken_over : (old rest : List frame.the_data) (x : frame.the_data) (trees news : List Tree)
    → reverse old ≡ x ∷ reverse rest → length news ≡ suc (joins (reverse rest))
    → ((n left : ℕ) → resumed n (framing (x ∷ reverse rest) (drop 1 trees)) (Ok (top trees, left))
    ≡ under n rest (drop 1 news) (Ok (top news, left)))
    → seconds (x ∷ reverse rest) ≡ seconds (reverse rest)
    → ((n : ℕ) → AreReady n (x ∷ reverse rest) → AreReady n (reverse rest)) → Taken old rest trees news
taken_over old rest x trees news e stands runs waiting ready =
    record {
      stands = stands;
      runs = λ n left. subst (λ (fs : List frame.the_data). resumed n (framing fs (drop 1 trees)) (Ok (top trees, left))
          ≡ under n rest (drop 1 news) (Ok (top news, left))) (sym e) (runs n left);
      waiting = ap (λ (fs : List frame.the_data). seconds fs) e ∙ waiting;
      ready = λ n are. ready n (subst (λ (fs : List frame.the_data). AreReady n fs) e are);
    }

pub take_binding : (old rest : List frame.the_data) (form : Affine) (divisor : ℤ) (trees news : List Tree)
    → old ≡ rest ++ frame.Binding form divisor ∷ []
    → length trees ≡ suc (joins (reverse old)) → news ≡ bound form divisor trees → Taken old rest trees news
take_binding old rest form divisor trees news is stand made =
    let e = turned_last old rest (frame.Binding form divisor) is in
    by_trees trees e (stand ∙ ap (λ (fs : List frame.the_data). suc (joins fs)) e) made
  where
    by_trees : (trees : List Tree) → reverse old ≡ frame.Binding form divisor ∷ reverse rest
        → length trees ≡ suc (joins (reverse rest)) → news ≡ bound form divisor trees → Taken old rest trees news
    by_trees [] e stand made = absurd (omega arith)
    by_trees (t ∷ trees) e stand made =
        subst (λ (us : List Tree). Taken old rest (t ∷ trees) us) (sym made)
        (taken_over old rest (frame.Binding form divisor) (t ∷ trees) (bind form divisor t ∷ trees) e stand
        (λ n left. refl) refl (λ n are. are))

pub take_joining : (old rest : List frame.the_data) (test : Affine) (trees news : List Tree)
    → old ≡ rest ++ frame.Joining test ∷ []
    → length trees ≡ suc (joins (reverse old)) → news ≡ branched test trees → Taken old rest trees news
take_joining old rest test trees news is stand made =
    let e = turned_last old rest (frame.Joining test) is in
    by_trees trees e (stand ∙ ap (λ (fs : List frame.the_data). suc (joins fs)) e) made
  where
    by_trees : (trees : List Tree) → reverse old ≡ frame.Joining test ∷ reverse rest
        → length trees ≡ suc (suc (joins (reverse rest))) → news ≡ branched test trees → Taken old rest trees news
    by_trees [] e stand made = absurd (omega arith)
    by_trees (t ∷ []) e stand made = absurd (omega arith)
    by_trees (t ∷ u ∷ trees) e stand made =
        subst (λ (us : List Tree). Taken old rest (t ∷ u ∷ trees) us) (sym made)
        (taken_over old rest (frame.Joining test) (t ∷ u ∷ trees) (branch test u t ∷ trees) e (omega arith)
        (λ n left. refl) refl (λ n are. are))

-- a second side is taken off, and its test put on
pub record Turned (old rest : List frame.the_data) (node : Tableau) (new : List frame.the_data) (trees : List Tree) :
    Type 0 where
  pub runs : (n left : ℕ) → under n old (drop 1 trees) (Ok (top trees, left))
      ≡ under n new trees (whole n left (node_of node))
  pub stands : length trees ≡ joins (reverse new)
  pub waiting : seconds (reverse old) ≡ suc (seconds (reverse new))
  pub ready : (n : ℕ) → AreReady n (reverse old) → IsReady n node × AreReady n (reverse new)

pub take_second : (old rest new : List frame.the_data) (test : Affine) (node : Tableau) (trees : List Tree)
    → old ≡ rest ++ frame.Second test node ∷ []
    → new ≡ rest ++ frame.Joining test ∷ [] → length trees ≡ suc (joins (reverse old)) → Turned old rest node new trees
take_second old rest new test node trees is made stand =
    by_trees trees (turned_last old rest (frame.Second test node) is) (turned_last new rest (frame.Joining test) made)
    stand
  where
    by_trees : (trees : List Tree) → reverse old ≡ frame.Second test node ∷ reverse rest
        → reverse new ≡ frame.Joining test ∷ reverse rest
        → length trees ≡ suc (joins (reverse old)) → Turned old rest node new trees
    by_trees [] e f stand = absurd (omega arith)
    by_trees (t ∷ trees) e f stand =
        record {
          runs = λ n left. ap (λ (fs : List frame.the_data). resumed n (framing fs trees) (Ok (t, left))) e
              ∙ sym (ap (λ (fs : List frame.the_data). resumed n (framing fs (t ∷ trees)) (whole n left (node_of node)))
              f);
          stands = stand ∙ ap (λ (fs : List frame.the_data). suc (joins fs)) e
              ∙ sym (ap (λ (fs : List frame.the_data). joins fs) f);
          waiting = ap (λ (fs : List frame.the_data). seconds fs) e
              ∙ sym (ap (λ (fs : List frame.the_data). suc (seconds fs)) f);
          ready = λ n are. let both = subst (λ (fs : List frame.the_data). AreReady n fs) e are in
              (both.0, subst (λ (fs : List frame.the_data). AreReady n fs) (sym f) both.1);
        }

-- frames put on one after another
pub sides_on : (old mid new : List frame.the_data) → KeepsSides old mid → KeepsSides mid new → KeepsSides old new
sides_on old mid new first next =
    record {
      joined = next.joined ∙ first.joined;
      waiting = next.waiting ∙ first.waiting;
      ready = λ n are. next.ready n (first.ready n are);
    }

-- a leaf on top
pub on_ok : {X E A B : Type 0} (r : Result X E) → (A → B) → OnOk r A → OnOk r B
on_ok (Ok x) f h = f h
on_ok (Err e) f h = h

pub leaf_top : (n left : ℕ) (frames : List frame.the_data) (old news : List Tree) (v k : ℕ) (forms : List Affine)
    (run : Counted Tree) → news ≡ leaf (unnamed v forms) ∷ old → v ≡ k
    → under n frames old (Ok (leaf (unnamed k forms), left)) ≡ run
    → under n frames (drop 1 news) (Ok (top news, left)) ≡ run
leaf_top n left frames old news v k forms run made same is =
    subst (λ (us : List Tree). under n frames (drop 1 us) (Ok (top us, left)) ≡ run) (sym made)
    (subst (λ (i : ℕ). under n frames old (Ok (leaf (unnamed i forms), left)) ≡ run) (sym same) is)
