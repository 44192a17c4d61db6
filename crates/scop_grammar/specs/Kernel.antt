-- The grammar of kernels: trees that keep every spelling, and each tree as a list of elements, which are the signs
-- between expressions, each with what it is, and the expressions, each with the sign that ends it.
use Rattle.std.specs.Prelude.{◌≡◌, ℕ, zero, suc, ◌+◌, Bool, true, false, List, [], ◌∷◌, ◌++◌, Option, Some, None, ⊤}
use Rattle.scop_expressions.specs.Assign.{Assign}
use Rattle.scop_expressions.specs.Assign.TheVariants as set
use Rattle.scop_expressions.specs.Count.{Count}
use Rattle.scop_expressions.specs.Op.TheVariants as op
use Rattle.scop_expressions.specs.Outside.TheVariants as outside
use Rattle.scop_expressions.specs.Token.{Token}
use Rattle.scop_expressions.specs.Token.TheVariants as token
use Rattle.scop_expressions.specs.Width.{Width}
use Rattle.scop_expressions.specs.declared.node.Node.{Node}
use Rattle.scop_expressions.specs.Tree.{Tree, name, index, IsPlace, tokens_of, size, written}
use Rattle.scop_expressions.specs.Grammar.{IsExpression, IsWithin}
use Rattle.scop_grammar.specs.declared.part.Mark.{Mark}
use Rattle.scop_grammar.specs.declared.part.Mark.TheVariants as kept

-- a sign between expressions with what it is, where it is kept, or an expression with the sign that ends it
pub data Element : Type 0 where
  sign : Token → Option Mark → Element
  expression : Tree → Token → Element

-- a sign that only spells
abbrev pub plain : Token → Element
plain t = sign t None

-- the tokens of elements
abbrev pub spelled : List Element → List Token
spelled [] = []
spelled (sign t m ∷ es) = t ∷ spelled es
spelled (expression x t ∷ es) = tokens_of x ++ t ∷ spelled es

-- a part without the memory that holds it
pub data Piece : Type 0 where
  mark_at : Mark → ℕ → Piece
  nodes_from : ℕ → List Node → Piece

-- a sign, if it is kept
abbrev pub marked : Option Mark → ℕ → List Piece
marked None at = []
marked (Some m) at = mark_at m at ∷ []

-- the pieces of elements that begin at a place among the tokens
abbrev pub pieces : ℕ → List Element → List Piece
pieces at [] = []
pieces at (sign t m ∷ es) = marked m at ++ pieces (at + 1) es
pieces at (expression x t ∷ es) = nodes_from at (written 0 x) ∷ pieces (at + size x + 1) es

-- the last part of a loop's head
pub data Step : Type 0 where
  -- name ++
  counted : Count → Step
  -- ++ name
  counts : Count → Step
  -- name += expression
  assigned : Assign → Tree → Step

-- the head of a guarded item or of a loop (C17 6.8.4.1 and 6.8.5.3)
pub data Head : Type 0 where
  -- if ( condition )
  branch : Tree → Head
  -- for ( name = first ; second ; step ), with int64_t in front of the name or without
  loop : Bool → Tree → Tree → Step → Head

-- a list of items is a type of its own, since a type can't hold a list of itself
mutual
  -- an item: a block, an empty statement, an assignment, or an item behind a head (C17 6.8.2 to 6.8.5)
  pub data Item : Type 0 where
    -- { items }
    block : Items → Item
    -- ;
    empty : Item
    -- place += value ;
    assign : Assign → Tree → Tree → Item
    headed : Head → Item → Item

  -- items, one behind another
  pub data Items : Type 0 where
    none : Items
    more : Item → Items → Items

-- a parameter of a kernel: a number, or an array with its extents
pub data Parameter : Type 0 where
  -- int64_t name
  number : Parameter
  -- uint64_t name [ extent ], and further extents; or uint32_t
  array : Width → Tree → List Tree → Parameter

-- a kernel; declared: for each declaration, how many names stand behind its first
pub record Kernel : Type 0 where
  pub first : Parameter
  pub others : List Parameter
  pub declared : List ℕ
  pub items : Items

-- the sign ;
abbrev pub semicolon : Token
semicolon = token.Outside outside.Semicolon

-- the sign ,
abbrev pub comma : Token
comma = token.Binary op.Comma

-- the sign {, which begins a block
abbrev pub begins : Element
begins = sign (token.Outside outside.BraceOpen) (Some kept.Begin)

-- the sign }, which ends a block
abbrev pub ends : Element
ends = sign (token.Outside outside.BraceClose) (Some kept.End)

-- ++ or --
abbrev pub count_sign : Count → Element
count_sign c = sign (token.Outside (outside.Count c)) (Some (kept.Count c))

-- = or an operator and =
abbrev pub assign_sign : Assign → Element
assign_sign a = sign (token.Outside (outside.Assign a)) (Some (kept.Assign a))

-- a step, with the parenthesis behind it
abbrev pub step_elements : Step → List Element
step_elements (counted c) = sign token.Name (Some kept.StepName) ∷ count_sign c ∷ plain token.Close ∷ []
step_elements (counts c) = count_sign c ∷ sign token.Name (Some kept.StepName) ∷ plain token.Close ∷ []
step_elements (assigned a x) = sign token.Name (Some kept.StepName) ∷ assign_sign a ∷ expression x token.Close ∷ []

-- the name of a loop's iterator, behind int64_t or without
abbrev pub iterator_elements : Bool → List Element
iterator_elements true = plain (token.Outside outside.Int64) ∷ sign token.Name (Some kept.NewIterator) ∷ []
iterator_elements false = sign token.Name (Some kept.Iterator) ∷ []

-- a head, up to its last parenthesis
abbrev pub head_elements : Head → List Element
head_elements (branch c) =
    sign (token.Outside outside.If) (Some kept.If) ∷ plain token.Open ∷ expression c token.Close ∷ []
head_elements (loop d a c s) =
    sign (token.Outside outside.For) (Some kept.For) ∷ plain token.Open
    ∷ (iterator_elements d
    ++ plain (token.Outside (outside.Assign set.Set))
    ∷ expression a semicolon
    ∷ expression c semicolon
    ∷ step_elements s)

-- a name with its subscripts
abbrev pub place_elements : Tree → List Element
place_elements name = sign token.Name (Some kept.Place) ∷ []
place_elements (index p i) = place_elements p ++ plain token.OpenIndex ∷ expression i token.CloseIndex ∷ []
place_elements _ = []

abbrev mutual
  -- an item
  pub item_elements : Item → List Element
  item_elements (block is) = begins ∷ (all_elements is ++ ends ∷ [])
  item_elements empty = sign semicolon (Some kept.Empty) ∷ []
  item_elements (assign a p x) = place_elements p ++ assign_sign a ∷ expression x semicolon ∷ []
  item_elements (headed h i) = head_elements h ++ item_elements i

  -- items, one behind another
  pub all_elements : Items → List Element
  all_elements none = []
  all_elements (more i is) = item_elements i ++ all_elements is

-- extents, each in brackets
abbrev pub extents : List Tree → List Element
extents [] = []
extents (x ∷ xs) = plain token.OpenIndex ∷ expression x token.CloseIndex ∷ extents xs

-- a parameter: its type, its name and its extents
abbrev pub parameter_elements : Parameter → List Element
parameter_elements number = plain (token.Outside outside.Int64) ∷ sign token.Name (Some kept.Number) ∷ []
parameter_elements (array w x xs) =
    plain (token.Unsigned w) ∷ sign token.Name (Some (kept.Array w)) ∷ extents (x ∷ xs)

-- the parameters behind the first, and the parenthesis behind them
abbrev pub other_parameters : List Parameter → List Element
other_parameters [] = plain token.Close ∷ []
other_parameters (p ∷ ps) = plain comma ∷ (parameter_elements p ++ other_parameters ps)

-- the names of a declaration behind its first, and its end
abbrev pub other_names : ℕ → List Element
other_names zero = plain semicolon ∷ []
other_names (suc k) = plain comma ∷ sign token.Name (Some kept.Declared) ∷ other_names k

-- declarations of iterators, one behind another; for each, how many names stand behind its first
abbrev pub declarations : List ℕ → List Element
declarations [] = []
declarations (k ∷ ks) =
    plain (token.Outside outside.Int64) ∷ sign token.Name (Some kept.Declared) ∷ (other_names k ++ declarations ks)

-- void name ( parameters ) { declarations items }
abbrev pub kernel_elements : Kernel → List Element
kernel_elements k =
    plain (token.Outside outside.Void) ∷ sign token.Name (Some kept.Kernel) ∷ plain token.Open
    ∷ (parameter_elements k.first
    ++ (other_parameters k.others ++ begins ∷ (declarations k.declared ++ (all_elements k.items ++ ends ∷ []))))

-- an expression with at most d brackets open at once and n operators
pub record Fits (d n : ℕ) (t : Tree) : Type 0 where
  pub expression : IsExpression t
  pub within : IsWithin d n t

-- each of these expressions is such a one
abbrev pub AllFit : ℕ → ℕ → List Tree → Type 0
AllFit d n [] = ⊤
AllFit d n (x ∷ xs) = Fits d n x × AllFit d n xs

-- the operators that a step may assign by
abbrev pub IsStepAssign : Assign → Type 0
IsStepAssign set.Set = ⊤
IsStepAssign set.Plus = ⊤
IsStepAssign set.Minus = ⊤
IsStepAssign _ = ⊥

-- the expression of a step is such a one, behind an operator that a step may assign by
abbrev pub StepFits : ℕ → ℕ → Step → Type 0
StepFits d n (assigned a x) = IsStepAssign a × Fits d n x
StepFits d n _ = ⊤

-- each expression of a head is such a one
abbrev pub HeadFits : ℕ → ℕ → Head → Type 0
HeadFits d n (branch c) = Fits d n c
HeadFits d n (loop e a c s) = Fits d n a × Fits d n c × StepFits d n s

abbrev mutual
  -- each full expression of an item is one within the limits, a place with all its subscripts
  pub ItemFits : ℕ → ℕ → Item → Type 0
  ItemFits d n (block is) = ItemsFit d n is
  ItemFits d n empty = ⊤
  ItemFits d n (assign a p x) = IsPlace p × Fits d n p × Fits d n x
  ItemFits d n (headed h i) = HeadFits d n h × ItemFits d n i

  -- each of these items is such a one
  pub ItemsFit : ℕ → ℕ → Items → Type 0
  ItemsFit d n none = ⊤
  ItemsFit d n (more i is) = ItemFits d n i × ItemsFit d n is

-- each extent of a parameter is one within the limits
abbrev pub ParameterFits : ℕ → ℕ → Parameter → Type 0
ParameterFits d n number = ⊤
ParameterFits d n (array w x xs) = AllFit d n (x ∷ xs)

-- each of these parameters is such a one
abbrev pub ParametersFit : ℕ → ℕ → List Parameter → Type 0
ParametersFit d n [] = ⊤
ParametersFit d n (p ∷ ps) = ParameterFits d n p × ParametersFit d n ps

-- each full expression of a kernel is one within the limits
pub record KernelFits (d n : ℕ) (k : Kernel) : Type 0 where
  pub first : ParameterFits d n k.first
  pub others : ParametersFit d n k.others
  pub items : ItemsFit d n k.items

-- a kernel within the limits that is spelled by the tokens
pub record Spells (d n : ℕ) (ts : List Token) (k : Kernel) : Type 0 where
  pub fits : KernelFits d n k
  pub tokens : ts ≡ spelled (kernel_elements k)

-- the tokens can still become a kernel within the limits
abbrev pub IsFront : ℕ → ℕ → List Token → Type 0
IsFront d n front = (more : List Token) × (k : Kernel) × Spells d n (front ++ more) k
