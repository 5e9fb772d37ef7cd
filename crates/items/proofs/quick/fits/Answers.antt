-- `items::quick::fits` meets its contract.
use native.Mathlib.Omega.{arith}
use Rattle.items.proofs.Glances.{fits_long, fits_not, fits_so}
use Rattle.items.proofs.quick.fits.Goals as goal

pub returns-then-n-gt29 : goal.returns-then-n-gt29
returns-then-n-gt29 c = fits_long _ _ _ c.if-n-gt29.true

pub returns-then-row-n-eq0 : goal.returns-then-row-n-eq0
returns-then-row-n-eq0 c = fits_not _ _ _ (omega arith) c.if-row-n-eq0.true

pub returns : goal.returns
returns c = fits_so _ _ _ (omega arith) c.if-row-n-eq0.false
