-- The trees of items without faults mean what the items say.
use Rattle.scop_syntax.proofs.Common.{◌≡◌, ap, refl, ℕ, ◌+◌, ◌≤◌, List, [], All}
use Rattle.scop_expressions.specs.Tree.{Tree, size}
use Rattle.scop_grammar.specs.Kernel.{branch, loop, Item, block, empty, assign, headed, Items, none, more}
use Rattle.scop_grammar.specs.Kernel.{ItemFits, ItemsFit, item_elements, head_elements}
use Rattle.scop_roles.specs.declared.formula.Role.TheVariants as role
use Rattle.scop_roles.specs.Faults.{first, faults}
use Rattle.scop_roles.specs.Formula.{Formula, Lookup, formula}
use Rattle.scop_roles.specs.Scope.{IsInScope, KnowsArrays}
use Rattle.scop_roles.specs.Values.{tests}
use Rattle.scop_units.specs.Words.{Words, HasWorth}
use Rattle.scop_units.specs.Scopes.{Scope, entries, look}
use Rattle.scop_units.specs.Loops.{loop_of, loop_faults, LoopHead}
use Rattle.scop_units.specs.Units.{Stored, stored_faults, statement_of}
use Rattle.scop_units.specs.Judging.{width, condition, loop_in, inside, stored, head_faults, compared, statements_in}
use Rattle.scop_units.specs.Judging.{item_faults, items_faults}
use Rattle.scop_units.specs.Programs.{item_trees, all_trees}
use Rattle.scop_units.proofs.FaultlessUnits.{parts_none}
use Rattle.scop_units.proofs.FaultlessItems.{ranks_in, knows}
use Rattle.scop_arithmetic.specs.Arithmetic.{HasNoComma}
use Rattle.scop_arithmetic.specs.Meaning.{NamesMean, GuardMeans, LoopMeans, StatementMeans, MeansAt, MeanAt}
use Rattle.scop_arithmetic.proofs.Conditions.{tests_value}
use Rattle.scop_arithmetic.proofs.Commas.{no_comma}
use Rattle.scop_arithmetic.proofs.Loops.{loop_parts, parts_defined, first_turn, next_turn, turn_holds, changed_name}
use Rattle.scop_arithmetic.proofs.Orders.{inside_means}
use Rattle.scop_arithmetic.proofs.Stores.{place_same, statement_reads, right_stores}
use Rattle.scop_arithmetic.proofs.Wholes.{AreAffine}
use Rattle.scop_arithmetic.proofs.FaultlessExpressions.{truth_of, fit_truth, stored_of, stored_defined}

guard_means : (affine : AreAffine) (n : ℕ) (f : Formula) → faults n role.Condition f ≡ [] → GuardMeans n f (tests n f)
guard_means affine n f e =
    record {
      defined = fit_truth n f (truth_of affine n f (ap first e));
      holds = λ p long. tests_value n f p long (ap first e);
    }

loop_means : (s : Scope) (h : LoopHead) → loop_faults s h ≡ [] → LoopMeans (entries s) h (loop_of s h)
loop_means s h e =
    let parts = loop_parts s h e in
    record {
      iterator = refl;
      defined = parts_defined s h parts;
      changed = changed_name s h parts;
      first = λ p long. first_turn s h p long parts;
      next = λ p x long. next_turn s h p x long parts;
      condition = λ p x long. turn_holds s h p x long parts;
    }

statement_means : (affine : AreAffine) (ranks : List ℕ) (n : ℕ) (s : Stored) → All (λ r. 1 ≤ r) ranks
    → IsInScope ranks s.value → HasNoComma s.value → stored_faults n s ≡ [] → StatementMeans n s (statement_of n s)
statement_means affine ranks n s some scope plain e =
    record {
      defined = stored_defined n s (stored_of affine ranks n s some scope plain e);
      place = λ p long. place_same n s p long e;
      reads = λ p long. statement_reads n s p long e;
      stores = λ p held long types. right_stores ranks n s p held long scope plain e types;
    }

-- what roles promise of formulas of a text
abbrev pub AreInScope : Type 0
AreInScope = (ranks : List ℕ) (look : Lookup) (at : ℕ) (t : Tree) → KnowsArrays ranks look
    → IsInScope ranks (formula look at t)

mutual
  item_means : (scoped : AreInScope) (affine : AreAffine) (words : Words) (worth : HasWorth words) (s : Scope)
      (comparisons before at d n : ℕ) (i : Item) → All (λ r. 1 ≤ r) (ranks_in s) → NamesMean s → ItemFits d n i
      → item_faults words s comparisons before at i ≡ [] → MeansAt words s at i (item_trees words s at i)
  item_means scoped affine words worth s comparisons before at d n (block is) some names fits e =
      items_mean scoped affine words worth s comparisons before (at + 1) d n is some names fits e
  item_means scoped affine words worth s comparisons before at d n empty some names fits e = refl
  item_means scoped affine words worth s comparisons before at d n (assign a p x) some names fits e =
      let st = stored words s at a p x in
      let whole = parts_none (stored_faults (entries s) st) _ e in
      let is = fits.2.expression in (
        statement_of (entries s) st,
        refl,
        names,
        statement_means affine (ranks_in s) (entries s) st some
            (scoped (ranks_in s) (look words s) (at + size p + 1) x (knows words s worth))
            (no_comma (look words s) (at + size p + 1) x is.brackets is.rank) whole.0,
      )
  item_means scoped affine words worth s comparisons before at d n (headed (branch c) i) some names fits e =
      let both = parts_none (head_faults words s at (branch c)) _ e in
      let place = at + width (head_elements (branch c)) in (
        tests (entries s) (condition words s at c),
        item_trees words s place i,
        refl,
        names,
        guard_means affine (entries s) (condition words s at c) both.0,
        item_means scoped affine words worth s (comparisons + compared words s at (branch c)) before place d n i some
            names fits.1 both.1,
      )
  item_means scoped affine words worth s comparisons before at d n (headed (loop new a c st) i) some names fits e =
      let both = parts_none (head_faults words s at (loop new a c st)) _ e in
      let head = loop_in words s at new a c st in
      let within = inside_means s new head.iterator (loop_parts s head both.0).iterator names in
      let place = at + width (head_elements (loop new a c st)) in (
        loop_of s head,
        item_trees words (inside words s new at) place i,
        refl,
        names,
        within,
        loop_means s head both.0,
        item_means scoped affine words worth (inside words s new at) (comparisons + 0) before place d n i some within
            fits.1 both.1,
      )

  pub items_mean : (scoped : AreInScope) (affine : AreAffine) (words : Words) (worth : HasWorth words) (s : Scope)
      (comparisons before at d n : ℕ) (is : Items) → All (λ r. 1 ≤ r) (ranks_in s) → NamesMean s → ItemsFit d n is
      → items_faults words s comparisons before at is ≡ [] → MeanAt words s at is (all_trees words s at is)
  items_mean scoped affine words worth s comparisons before at d n none some names fits e = refl
  items_mean scoped affine words worth s comparisons before at d n (more i is) some names fits e =
      let both = parts_none (item_faults words s comparisons before at i) _ e in
      let place = at + width (item_elements i) in (
        item_trees words s at i,
        all_trees words s place is,
        refl,
        item_means scoped affine words worth s comparisons before at d n i some names fits.0 both.0,
        items_mean scoped affine words worth s comparisons (before + statements_in i) place d n is some names fits.1
            both.1,
      )
