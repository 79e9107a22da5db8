-- `records::head_of` meets its contract.
use native.Mathlib.Omega.{arith}
use Rattle.records.proofs.Heads.{bad-size, good-size, head-short, head-cut, head-bad, head-whole}
use Rattle.std.proofs.Common.{◌∙◌}
use Rattle.records.proofs.head_of.Goals as goal

pub returns-then-rest-lt-HEAD : goal.returns-then-rest-lt-HEAD
returns-then-rest-lt-HEAD c = head-short _ c.if-rest-lt-HEAD.true

pub returns-then-rest-size : goal.returns-then-rest-size
returns-then-rest-size c = head-cut _ (omega arith) _ (c.from-size.ensures ∙ c.read.ensures) c.if-rest-size.true

pub returns-then-size-ne0 : goal.returns-then-size-ne0
returns-then-size-ne0 c = head-bad _ (omega arith) _ (c.from-size.ensures ∙ c.read.ensures) c.if-rest-size.false (bad-size c.from-size.result c.then-size-ne0.either)

pub returns : goal.returns
returns c = head-whole _ (omega arith) _ (c.from-size.ensures ∙ c.read.ensures) c.if-rest-size.false (good-size c.from-size.result c.if-size-ne0.false c.if-size-lt-HEAD.false)
