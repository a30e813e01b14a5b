-- It calls itself on a tenth of n, so n is the measure.
use Rattle.page.proofs.Page.+decimal.Given as goal

abbrev pub decreases-decimal : goal.decreases-decimal
decreases-decimal l = l.n
