-- `records::data_of` meets its contract.
use Rattle.std.proofs.Common.{◌≡◌, sym, ◌≤◌, None, get_or, arith}
use Rattle.records.specs.declared.TheConstants.{DATA}
use Rattle.records.proofs.Forms.{At, at-row, unknown-beyond, unknown-unfit}
use Rattle.records.proofs.data_of.Goals as goal
use Rattle.records.proofs.data_of.Goals.{In_err-get, In_ok-get}

-- past the table
past : (c : In_err-get) → 60 ≤ c.args.kind
past c = omega (arith, c.in_err-get.ensures.lookup.3, c.from.ensures)

pub returns-in_err-get-clause-fits_as : goal.returns-in_err-get-clause-fits_as
returns-in_err-get-clause-fits_as c b n =
    let k = c.args.kind in
    rw c.from_residual.ensures (sym (unknown-unfit k b n (unknown-beyond k (past (goal.at.returns-in_err-get-clause-fits_as c).In_err-get))))

pub returns-in_err-get-clause-used : goal.returns-in_err-get-clause-used
returns-in_err-get-clause-used c = rw c.from_residual.ensures (sym (unknown-beyond c.args.kind (past (goal.at.returns-in_err-get-clause-used c).In_err-get)))

-- in it
within : (c : In_ok-get) → At c.args.kind × (c.in_ok-get.field-0.now ≡ get_or DATA c.args.kind None)
within c =
    let l = c.in_ok-get.ensures.lookup.3 in
    (at-row c.args.kind (omega (arith, l.0)), rw (← c.from.ensures) (l.1 None))

pub returns-clause-fits_as : goal.returns-clause-fits_as
returns-clause-fits_as c = let w = within (goal.at.returns-clause-fits_as c).In_ok-get in rw w.1 w.0.0

pub returns-clause-used : goal.returns-clause-used
returns-clause-used c = let w = within (goal.at.returns-clause-used c).In_ok-get in rw w.1 w.0.1
