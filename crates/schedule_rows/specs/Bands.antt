-- What a schedule is to do for a pair of instances of which the one must come first.
use Rattle.std.specs.Prelude.{◌≡◌, ◌<◌, true, ◌≤ℤ◌, ◌<ℤ◌, List, [], ◌∷◌, ◌⊎◌, ⊤}
use Rattle.scop_syntax.specs.Walk.{Instance}
use Rattle.stmt_graph.specs.Graph.{number_in}
use Rattle.schedule_rows.specs.Items.{Marked, Block, scalar, band, phi}

-- each row's value does not fall from x to y, and that of a row marked parallel stays
abbrev pub AreKept : List Marked → Instance → Instance → Type 0
AreKept [] x y = ⊤
AreKept (m ∷ ms) x y =
    (phi m.row x ≤ℤ phi m.row y) × (m.parallel ≡ true → phi m.row x ≡ phi m.row y) × AreKept ms x y

-- each row has one value
abbrev pub AreEqual : List Marked → Instance → Instance → Type 0
AreEqual [] x y = ⊤
AreEqual (m ∷ ms) x y = (phi m.row x ≡ phi m.row y) × AreEqual ms x y

-- some row's value rises
abbrev pub Rises : List Marked → Instance → Instance → Type 0
Rises [] x y = ⊥
Rises (m ∷ ms) x y = (phi m.row x <ℤ phi m.row y) ⊎ Rises ms x y

-- block by block as long as all values are equal: a scalar does not fall; in a band all rows are kept; at the end E
abbrev pub Along : List Block → Instance → Instance → Type 0 → Type 0
Along [] x y E = E
Along (scalar numbers ∷ bs) x y E =
    (number_in numbers x.number < number_in numbers y.number)
    ⊎ ((number_in numbers x.number ≡ number_in numbers y.number) × Along bs x y E)
Along (band ms ∷ bs) x y E = AreKept ms x y × (Rises ms x y ⊎ (AreEqual ms x y × Along bs x y E))
