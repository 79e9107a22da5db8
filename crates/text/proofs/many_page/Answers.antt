-- `text::many_page` meets its contract.
use Rattle.std.proofs.Common.{arith}
use borrow.Author.Tests.{lt-ltb, le-ltb}
use Rattle.text.specs.Sentences.{many_says}
use Rattle.text.proofs.many_page.Goals as goal

pub returns-then-read-gt-MOST_BYTES : goal.returns-then-read-gt-MOST_BYTES
unfolding many_says
returns-then-read-gt-MOST_BYTES c = rw (lt-ltb 65_536 c.args.read (omega arith), c.add.ensures, c.new-page.ensures)

pub returns-else-read-gt-MOST_BYTES : goal.returns-else-read-gt-MOST_BYTES
unfolding many_says
returns-else-read-gt-MOST_BYTES c = rw (le-ltb 65_536 c.args.read (omega arith), c.add-else-read-gt-MOST_BYTES.ensures, c.new-page.ensures)
