-- A node's loops, as pieces of its hull.
use Rattle.std.specs.Prelude.{◌≡◌, ℕ, suc, ◌+◌, ◌<◌, Bool, ℤ, pos, negsuc, Option, Some, eqb, List, [], ◌∷◌}
use Rattle.std.specs.Prelude.{◌++◌, length, map, All, ⊤}
use Rattle.whole_numbers.specs.Affine.{Affine, widened}
use Rattle.integer_sets.specs.Scanned.{Scanned}
use Rattle.fm_projection.specs.Alone.{place_form}
use Rattle.scop_syntax.specs.Limits.{AreInRange}
use Rattle.std.specs.Option.{option_eq}
use Rattle.loop_tree.specs.Tree.{Tree, Trees}
use Rattle.plain_scan.specs.Sets.{Keys, row_tests, under}
use Rattle.plain_scan.specs.steps.Serving.{AllAtLeast}
use Rattle.plain_scan.specs.steps.Pieces.{Piece, loop_of}
use Rattle.plain_scan.specs.Sorting.{lows_in, highs_in}
use Rattle.split_scan.specs.steps.Questions.{IsCut}
use Rattle.split_scan.specs.steps.Parts.{staying}
use Rattle.plain_scan.specs.steps.Nodes.{IsNode}
use Rattle.split_scan.specs.declared.part.Part.{Part}

-- the loop's dimension, how many variables its rows have, the two numbers and the other rows of its hull, whether it is
-- parallel, the node's sets and what is known round it
pub record Frame : Type 0 where
  pub place : ℕ
  pub variables : ℕ
  pub low : ℤ
  pub high : ℤ
  pub others : List Affine
  pub parallel : Bool
  pub sets : List Scanned
  pub context : List Affine

-- its first two rows
abbrev pub low_in : Frame → Affine
low_in f = place_form f.variables f.place (pos 1) f.low

abbrev pub high_in : Frame → Affine
high_in f = place_form f.variables f.place (negsuc 0) f.high

-- all its rows
abbrev pub rows_in : Frame → List Affine
rows_in f = low_in f ∷ high_in f ∷ f.others

-- what is known within its loops
abbrev pub inside_of : Frame → List Affine
inside_of f = map (widened f.place) f.context ++ rows_in f

-- the rows bound the loop's value, and hold at each point of the sets
pub record IsFrame (f : Frame) : Type 0 where
  pub inside : f.place < f.variables
  pub rows : All (IsCut f.place f.variables) (rows_in f)
  pub hold : (params outer : List ℤ) (x : ℤ) (r : List ℤ) → AreInRange params → length outer ≡ f.place
      → Keys f.sets params (outer ++ x ∷ r) → AllAtLeast (rows_in f) (outer ++ x ∷ params)

-- the loop of a part, with its body
abbrev pub piece_of : Frame → Part → Trees → Piece
piece_of f p body =
    record {
      tests = [];
      parallel = f.parallel;
      low = low_in f;
      lows = lows_in f.place (f.others ++ p.cuts.items);
      high = high_in f;
      highs = highs_in f.place (f.others ++ p.cuts.items);
      active = staying p.stays.items f.sets;
      body = body;
    }

-- those of parts
abbrev pub pieces_of : Frame → List Part → List Trees → List Piece
pieces_of f [] bodies = []
pieces_of f (p ∷ ps) [] = []
pieces_of f (p ∷ ps) (body ∷ bodies) = piece_of f p body ∷ pieces_of f ps bodies

-- the bodies scan what the sets of their parts have within the loops
abbrev pub AreBodies : ℕ → Option ℕ → Frame → List Part → List Trees → Type 0
AreBodies k mark f [] [] = ⊤
AreBodies k mark f [] (body ∷ bodies) = ⊥
AreBodies k mark f (p ∷ ps) [] = ⊥
AreBodies k mark f (p ∷ ps) (body ∷ bodies) =
    IsNode k (suc f.place) f.variables mark (staying p.stays.items f.sets) (inside_of f ++ p.cuts.items) body
    × AreBodies k mark f ps bodies

-- a piece's tree
abbrev pub tree_at : ℕ → Piece → Tree
tree_at m q = under (row_tests q.tests) (loop_of m q)

-- the trees are those of the parts, with such bodies
pub record HasBodies (k : ℕ) (mark : Option ℕ) (f : Frame) (ps : List Part) (ts : List Tree) : Type 0 where
  pub bodies : List Trees
  pub is : ts ≡ map (tree_at f.place) (pieces_of f ps bodies)
  pub nodes : AreBodies k mark f ps bodies

-- the frame of a node
abbrev pub frame_of : ℕ → ℕ → Option ℕ → List Scanned → List Affine → ℤ → ℤ → List Affine → Frame
frame_of place parameters mark sets context low high others =
    record {
      place = place;
      variables = place + 1 + parameters;
      low = low;
      high = high;
      others = others;
      parallel = option_eq eqb mark (Some place);
      sets = sets;
      context = context;
    }
