-- The number is the measure of `text::Text::put_decimal`'s calls of itself.
use Rattle.text.proofs.Text.+put_decimal.Given as goal

abbrev pub decreases-put_decimal : goal.decreases-put_decimal
decreases-put_decimal l = l.n
