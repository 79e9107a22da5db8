-- `bigendian::padded_at` meets its contract.
use Rattle.std.proofs.Common.{[], sym, ◌∙◌, arith}
use Rattle.std.proofs.lemmas.List.{take_rest, drop_all}
use Rattle.bigendian.proofs.Places.{padded-number}
use Rattle.bigendian.proofs.padded_at.Goals as goal

pub returns-then-at-bytes : goal.returns-then-at-bytes
returns-then-at-bytes g c =
    let a = c.args in
    padded-number g.row.N a.at a.bytes.now _ g.row.N (c.copy_from_slice.ensures.after ∙ take_rest a.bytes.now a.at)

pub returns-else-at-bytes : goal.returns-else-at-bytes
returns-else-at-bytes g c =
    let a = c.args in
    padded-number g.row.N a.at a.bytes.now 0 g.row.N {front = []} (sym (drop_all a.at a.bytes.now (omega arith)))
