-- `drawing::Paper::add_number` meets its contract.
use Rattle.numerals.specs.Numerals.{decimal}
use Rattle.drawing.proofs.Pieces.{put-draws}
use Rattle.drawing.proofs.Paper.add_number.Goals as goal

pub returns : goal.returns
returns c = put-draws c.args.self.now (decimal c.args.n) c.put_number-self.ensures
