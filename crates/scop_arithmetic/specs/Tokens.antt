-- Where a text's formulas stand: each name, constant, operator and sign that is judged at a place is the token there,
-- the parts of an expression stand in the order of the text, and the scope tells what the names there mean.
use Rattle.std.specs.Prelude.{◌≡◌, ◌⊎◌, ℕ, zero, suc, ◌+◌, ◌<◌, ◌≤◌, List, [], ◌∷◌, slice_get, Some, ⊤}
use Rattle.scop_expressions.specs.Assign.TheVariants as set
use Rattle.scop_expressions.specs.Outside.TheVariants as outside
use Rattle.scop_expressions.specs.Token.{Token}
use Rattle.scop_expressions.specs.Token.TheVariants as token
use Rattle.scop_expressions.specs.declared.node.Node.{Node}
use Rattle.scop_expressions.specs.declared.node.Node.TheVariants as node
use Rattle.scop_expressions.specs.Tree.{sign_token}
use Rattle.scop_grammar.specs.Kernel.{semicolon, comma, Head, branch, loop, Item, block, empty, assign, headed, Items}
use Rattle.scop_grammar.specs.Kernel.{none, more, Parameter, number, array, Kernel, head_elements, item_elements}
use Rattle.scop_grammar.specs.Kernel.{all_elements, parameter_elements, other_parameters}
use Rattle.scop_roles.specs.Formula.{Formula, Lookup, constant, name, index, bare_call, call, unary, cast, binary}
use Rattle.scop_units.specs.Words.{Words}
use Rattle.scop_units.specs.Scopes.{Scope, no_scope, with_loop, look}
use Rattle.scop_units.specs.Loops.{Change, counted, assigned, LoopHead}
use Rattle.scop_units.specs.Units.{Stored}
use Rattle.scop_units.specs.Judging.{width, extents_in, behind_parameter, behind_head, condition, loop_in, stored}
use Rattle.scop_units.specs.Judging.{names_end, others_at, declared_at, items_at, first_scope, body_scope}

-- this token stands at a place
abbrev pub IsAt : List Token → ℕ → Token → Type 0
IsAt ts at t = slice_get ts at ≡ Some t

-- a formula stands at its tokens, which begin at one place or behind it and end in front of another
abbrev pub StandsBetween : List Token → Lookup → ℕ → ℕ → Formula → Type 0
StandsBetween ts look from to (constant s v at) =
    (from ≤ at) × (at < to) × IsAt ts at (token.Constant s) × (v ≡ look.worth at)
StandsBetween ts look from to (name m at) = (from ≤ at) × (at < to) × IsAt ts at token.Name × (m ≡ look.meaning at)
StandsBetween ts look from to (index p i) = (mid : ℕ) × StandsBetween ts look from mid p
    × IsAt ts mid token.OpenIndex × StandsBetween ts look (mid + 1) to i
StandsBetween ts look from to (bare_call m at) =
    (from ≤ at) × (at < to) × IsAt ts at token.Name × IsAt ts (at + 1) token.Open × (m ≡ look.meaning at)
StandsBetween ts look from to (call m f at) = (from ≤ at) × IsAt ts at token.Name × IsAt ts (at + 1) token.Open
    × (m ≡ look.meaning at) × StandsBetween ts look (at + 1 + 1) to f
StandsBetween ts look from to (unary s f at) =
    (from ≤ at) × IsAt ts at (sign_token s) × StandsBetween ts look (at + 1) to f
StandsBetween ts look from to (cast w f at) = (from ≤ at) × IsAt ts at token.Open
    × IsAt ts (at + 1) (token.Unsigned w) × StandsBetween ts look (at + 1 + 1 + 1) to f
StandsBetween ts look from to (binary o f g at) =
    StandsBetween ts look from at f × IsAt ts at (token.Binary o) × StandsBetween ts look (at + 1) to g

-- what changes an iterator, from a place up to the parenthesis behind it
abbrev pub ChangeStands : List Token → Lookup → ℕ → ℕ → Formula → Change → Type 0
ChangeStands ts look from to changed (counted c) =
    (StandsBetween ts look from (from + 1) changed × IsAt ts (from + 1) (token.Outside (outside.Count c)))
    ⊎ (IsAt ts from (token.Outside (outside.Count c)) × StandsBetween ts look (from + 1) to changed)
ChangeStands ts look from to changed (assigned a f) = StandsBetween ts look from (from + 1) changed
    × IsAt ts (from + 1) (token.Outside (outside.Assign a)) × StandsBetween ts look (from + 1 + 1) to f

-- the head of a loop, up to its last parenthesis
pub record LoopStands (ts : List Token) (words : Words) (s : Scope) (to : ℕ) (h : LoopHead) : Type 0 where
  pub keyword : IsAt ts h.place (token.Outside outside.For)
  pub name : IsAt ts h.name_at token.Name
  pub iterator : h.iterator ≡ words.spelling h.name_at
  pub set : IsAt ts (h.name_at + 1) (token.Outside (outside.Assign set.Set))
  pub first_end : ℕ
  pub first : StandsBetween ts (look words s) (h.name_at + 1 + 1) first_end h.first
  pub behind_first : IsAt ts first_end semicolon
  pub second_end : ℕ
  pub second : StandsBetween ts (look words (with_loop s h.iterator)) (first_end + 1) second_end h.second
  pub behind_second : IsAt ts second_end semicolon
  pub third : ChangeStands ts (look words (with_loop s h.iterator)) (second_end + 1) to h.changed h.change

-- a statement from a place up to its semicolon
pub record StatementStands (ts : List Token) (words : Words) (s : Scope) (from to : ℕ) (t : Stored) : Type 0 where
  pub cell : StandsBetween ts (look words s) from t.assign_at t.cell
  pub assign : IsAt ts t.assign_at (token.Outside (outside.Assign t.assign))
  pub value : StandsBetween ts (look words s) (t.assign_at + 1) to t.value

-- a head from a place up to its last parenthesis
abbrev pub HeadStands : List Token → Words → Scope → ℕ → ℕ → Head → Type 0
HeadStands ts words s at to (branch c) = IsAt ts at (token.Outside outside.If)
    × StandsBetween ts (look words s) (at + 1 + 1) to (condition words s at c)
HeadStands ts words s at to (loop new a c st) = (at ≡ (loop_in words s at new a c st).place)
    × LoopStands ts words s to (loop_in words s at new a c st)

abbrev mutual
  -- an item that begins at a place
  pub ItemStands : List Token → Words → Scope → ℕ → Item → Type 0
  ItemStands ts words s at (block is) = IsAt ts at (token.Outside outside.BraceOpen) × ItemsStand ts words s (at + 1) is
      × IsAt ts (at + 1 + width (all_elements is)) (token.Outside outside.BraceClose)
  ItemStands ts words s at empty = IsAt ts at semicolon
  ItemStands ts words s at (assign a p x) = (to : ℕ) × (to + 1 ≡ at + width (item_elements (assign a p x)))
      × StatementStands ts words s at to (stored words s at a p x) × IsAt ts to semicolon
  ItemStands ts words s at (headed h i) = (to : ℕ) × (to + 1 ≡ at + width (head_elements h))
      × HeadStands ts words s at to h × IsAt ts to token.Close
      × ItemStands ts words (behind_head words s at h) (at + width (head_elements h)) i

  -- items, one behind another
  pub ItemsStand : List Token → Words → Scope → ℕ → Items → Type 0
  ItemsStand ts words s at none = ⊤
  ItemsStand ts words s at (more i is) =
      ItemStands ts words s at i × ItemsStand ts words s (at + width (item_elements i)) is

-- extents from a place on, each in brackets
abbrev pub ExtentsStand : List Token → Lookup → ℕ → List Formula → Type 0
ExtentsStand ts look at [] = ⊤
ExtentsStand ts look at (f ∷ fs) = (to : ℕ) × IsAt ts at token.OpenIndex × StandsBetween ts look (at + 1) to f
    × IsAt ts to token.CloseIndex × ExtentsStand ts look (to + 1) fs

-- a parameter that begins at a place, with its name behind its type
abbrev pub ParameterStands : List Token → Words → Scope → ℕ → Parameter → Type 0
ParameterStands ts words s at number = IsAt ts at (token.Outside outside.Int64) × IsAt ts (at + 1) token.Name
ParameterStands ts words s at (array w x xs) = IsAt ts at (token.Unsigned w) × IsAt ts (at + 1) token.Name
    × ExtentsStand ts (look words s) (at + 1 + 1) (extents_in words s (at + 1 + 1) (x ∷ xs))

-- parameters, each behind a comma, and the parenthesis behind them
abbrev pub ParametersStand : List Token → Words → Scope → ℕ → List Parameter → Type 0
ParametersStand ts words s at [] = IsAt ts at token.Close
ParametersStand ts words s at (p ∷ ps) = IsAt ts at comma × ParameterStands ts words s (at + 1) p
    × ParametersStand ts words (behind_parameter words s (at + 1) p) (at + 1 + width (parameter_elements p)) ps

-- k names, each behind a comma, and the semicolon behind them
abbrev pub NamesStand : List Token → ℕ → ℕ → Type 0
NamesStand ts at zero = IsAt ts at semicolon
NamesStand ts at (suc k) = IsAt ts at comma × IsAt ts (at + 1) token.Name × NamesStand ts (at + 1 + 1) k

-- declarations of iterators from a place on
abbrev pub DeclaredStand : List Token → ℕ → List ℕ → Type 0
DeclaredStand ts at [] = ⊤
DeclaredStand ts at (k ∷ ks) = IsAt ts at (token.Outside outside.Int64) × IsAt ts (at + 1) token.Name
    × NamesStand ts (at + 1 + 1) k × DeclaredStand ts (names_end (at + 1 + 1) k + 1) ks

-- a kernel stands at these tokens, where the words are those of the tokens' places
pub record KernelStands (ts : List Token) (words : Words) (k : Kernel) : Type 0 where
  pub void : IsAt ts 0 (token.Outside outside.Void)
  pub name : IsAt ts 1 token.Name
  pub opens : IsAt ts 2 token.Open
  pub first : ParameterStands ts words no_scope 3 k.first
  pub others : ParametersStand ts words (first_scope words k) (others_at k) k.others
  pub begins : IsAt ts (others_at k + width (other_parameters k.others)) (token.Outside outside.BraceOpen)
  pub declared : DeclaredStand ts (declared_at k) k.declared
  pub items : ItemsStand ts words (body_scope words k) (items_at k) k.items
  pub ends : IsAt ts (items_at k + width (all_elements k.items)) (token.Outside outside.BraceClose)

-- a node of an expression stands at a token of its kind, a subscript, a call and a cast at their first bracket
abbrev pub NodeStands : List Token → Node → Type 0
NodeStands ts (node.Constant s at) = IsAt ts at (token.Constant s)
NodeStands ts (node.Name at) = IsAt ts at token.Name
NodeStands ts (node.Index at) = IsAt ts at token.OpenIndex
NodeStands ts (node.BareCall at) = IsAt ts at token.Open
NodeStands ts (node.Call at) = IsAt ts at token.Open
NodeStands ts (node.Unary s at) = IsAt ts at (sign_token s)
NodeStands ts (node.Cast w at) = IsAt ts at token.Open × IsAt ts (at + 1) (token.Unsigned w)
NodeStands ts (node.Binary o at) = IsAt ts at (token.Binary o)
