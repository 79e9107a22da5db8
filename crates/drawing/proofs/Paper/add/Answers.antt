-- `drawing::Paper::add` meets its contract.
use Rattle.drawing.proofs.Pieces.{put-draws}
use Rattle.drawing.proofs.Paper.add.Goals as goal

pub returns : goal.returns
returns c = put-draws c.args.self.now c.args.bytes.now c.put_bytes-self.ensures
