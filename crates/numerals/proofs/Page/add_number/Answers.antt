-- `numerals::Page::add_number` meets its contract.
use Rattle.std.proofs.Common.{arith}
use Rattle.numerals.specs.Numerals.{decimal}
use Rattle.numerals.proofs.Putting.{put-within, put-added}
use Rattle.numerals.proofs.Page.add_number.Goals as goal

pub invariant_of-self : goal.invariant_of-self
invariant_of-self g c = let h = put-within c.self.inside.room c.self.inside.len (decimal c.args.n) c.put_number-self-inside.ensures (omega arith) in omega arith

pub returns : goal.returns
returns g c = rw (← c.self.view_is) (put-added g.row.N c.self.inside.room c.self.inside.len (decimal c.args.n) c.put_number-self-inside.ensures c.self.told c.self.invariant)
