-- `numerals::put_bytes` meets its contract.
use Rattle.std.proofs.Common.{ℕ, ◌+◌, ◌-◌, ◌≤◌, ◌≡◌, List, length, arith}
use borrow.Rule.Slice.PartMut.{put_mid}
use Rattle.numerals.specs.Bytes.{Put}
use Rattle.numerals.proofs.Putting.{put-made, put-none}
use Rattle.numerals.proofs.put_bytes.Goals as goal

-- what is written between two places is put
made : (out : List ℕ) (at : ℕ) (bytes : List ℕ) {end : ℕ} {part : List ℕ} → end ≡ at + length bytes → end ≤ length out → part ≡ bytes → Put out at bytes end (put_mid at (end - at) out part)
made out at bytes e h p = let n : (at + length bytes) - at ≡ length bytes = omega arith in rw (p, e, n) (put-made out at bytes (omega arith))

pub returns-in_default : goal.returns-in_default
returns-in_default c = put-none c.args.out.now c.args.at c.args.bytes.now (omega (arith, c.in_default.ensures))

pub returns-then-end-out : goal.returns-then-end-out
returns-then-end-out c = put-none c.args.out.now c.args.at c.args.bytes.now (omega (arith, c.in-Some.ensures))

pub returns : goal.returns
returns c = made c.args.out.now c.args.at c.args.bytes.now (omega (arith, c.in-Some.ensures)) (omega arith) c.copy_from_slice.ensures.after
