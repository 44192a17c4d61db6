-- A printed line goes on as what it says, where its numbers are those that are read.
use Rattle.scop_syntax.proofs.Common.{◌≡◌, ◌∙◌, ap, sym, ℕ, suc, ◌^◌, ◌<◌, ◌≤◌, Bool, true, List, ◌∷◌, ◌++◌, length}
use Rattle.scop_syntax.proofs.Common.{codes, arith, map, refl, ap₂, [], All, Some, Result, Ok, Err, ◌==◌, not}
use Rattle.scop_syntax.proofs.Common.{if◌then◌else◌, false, All-head, All-tail}
use Rattle.std.proofs.lemmas.List.{length-append}
use Rattle.scop_lexer.specs.Bytes.{Text}
use Rattle.form_text.specs.View.{saturated}
use Rattle.iteration_domains.specs.Model.{KernelModel}
use Rattle.plan_check.specs.Goals.{loops_in}
use Rattle.plan_check.specs.Judged.{Stage, line_judged, lines_judged, then_lines}
use Rattle.plan_check.specs.Printed.{IsSaid, said_text, saturated_said}
use Rattle.plan_check.specs.Text.{Said, lines_of, said_in}

-- the laws of printed lines: each is read as it is printed, and comes off the front
pub record PrintedLaws : Type 0 where
  pub printed : (loops : List ℕ) (s : Said) → IsSaid loops s → said_in loops (said_text s) ≡ Some (saturated_said s)
  pub first : (s : Said) (rest : Text) → lines_of ((said_text s ++ codes "\n") ++ rest) ≡ said_text s ∷ lines_of rest

-- a line of its numbers themselves
pub record IsPlain (loops : List ℕ) (s : Said) : Type 0 where
  pub said : IsSaid loops s
  pub same : saturated_said s ≡ s

pub saturated_same : (n : ℕ) → n < 2 ^ 127 → saturated n ≡ n
saturated_same n h = omega arith

pub all_saturated : (ns : List ℕ) → All (λ n. n < 2 ^ 127) ns → map saturated ns ≡ ns
all_saturated [] h = refl
all_saturated (n ∷ ns) h =
    ap₂ (λ (x : ℕ) (xs : List ℕ). x ∷ xs) (saturated_same n (All-head (λ n. n < 2 ^ 127) n ns h))
    (all_saturated ns (All-tail (λ n. n < 2 ^ 127) n ns h))

-- the stage goes on by what the line says
pub line_goes : PrintedLaws → (model : KernelModel) (k : ℕ) (s t : Stage) (said : Said) (rest : Text)
    → IsPlain (loops_in model) said → line_judged model k s (Some said) ≡ Ok t
    → lines_judged model k s (lines_of ((said_text said ++ codes "\n") ++ rest))
    ≡ lines_judged model (suc k) t (lines_of rest)
line_goes laws model k s t said rest is goes =
    ap (lines_judged model k s) (laws.first said rest)
    ∙ (ap (λ o. then_lines (line_judged model k s o) (λ u. lines_judged model (suc k) u (lines_of rest)))
    (laws.printed (loops_in model) said is.said ∙ ap (λ (x : Said). Some x) is.same)
    ∙ ap (λ r. then_lines r (λ u. lines_judged model (suc k) u (lines_of rest))) goes)

-- so do two stages of which it makes the same
pub line_same : PrintedLaws → (model : KernelModel) (k : ℕ) (s t : Stage) (said : Said) (rest : Text)
    → IsPlain (loops_in model) said → line_judged model k s (Some said) ≡ line_judged model k t (Some said)
    → lines_judged model k s (lines_of ((said_text said ++ codes "\n") ++ rest))
    ≡ lines_judged model k t (lines_of ((said_text said ++ codes "\n") ++ rest))
line_same laws model k s t said rest is same =
    let read = laws.printed (loops_in model) said is.said ∙ ap (λ (x : Said). Some x) is.same in
    ap (lines_judged model k s) (laws.first said rest)
    ∙ (ap (λ o. then_lines (line_judged model k s o) (λ u. lines_judged model (suc k) u (lines_of rest))) read
    ∙ (ap (λ r. then_lines r (λ u. lines_judged model (suc k) u (lines_of rest))) same
    ∙ (ap (λ o. then_lines (line_judged model k t o) (λ u. lines_judged model (suc k) u (lines_of rest))) (sym read)
    ∙ ap (lines_judged model k t) (sym (laws.first said rest)))))

-- a number is itself
pub same_number : (n : ℕ) → (n == n) ≡ true
same_number n = grind arith

-- a test that is passed
pub passes : {A E : Type 0} (a : Bool) (x : E) (y : Result A E) → a ≡ true → (if not a then Err x else y) ≡ y
passes true x y h = refl
passes false x y h = absurd cc

-- a line is a byte at least
pub line_length : (said rest : Text) → suc (length rest) ≤ length ((said ++ codes "\n") ++ rest)
line_length said rest = omega (arith, length-append (said ++ codes "\n") rest, length-append said (codes "\n"))
