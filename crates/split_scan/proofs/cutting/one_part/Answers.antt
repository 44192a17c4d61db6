use Rattle.scop_syntax.proofs.Common.{◌≡◌, [], ◌∷◌, rules}
use Rattle.split_scan.proofs.cutting.one_part.Goals as goal

pub returns : goal.returns
returns c =
    let pushed : c.push.new.self.items ≡ c.cell_of.result ∷ [] = search rules in
    (c.cell_of.result, pushed, c.cell_of.ensures.cuts, c.cell_of.ensures.stays)
