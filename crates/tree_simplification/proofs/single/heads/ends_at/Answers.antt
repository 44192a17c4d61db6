use Rattle.tree_simplification.proofs.single.heads.ends_at.Goals as goal

pub returns : goal.returns
returns c =
    record {
      lower = c.in_ok-lower.ensures.bounds;
      upper = c.in_ok-upper.ensures.bounds;
      small_low = c.in_ok-lower.ensures.small;
      small_high = c.in_ok-upper.ensures.small;
    }
