-- The proof of the cycle of calls {spell}. The measure is the number.
use Rattle.numerals.proofs.+spell.Given as goal

abbrev pub decreases-spell : goal.decreases-spell
decreases-spell l = l.n
