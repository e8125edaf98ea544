-- `text_lines::put_digits` calls itself with one place fewer.
use Rattle.text_lines.proofs.+put_digits.Given as goal

abbrev pub decreases-put_digits : goal.decreases-put_digits
decreases-put_digits l = l.places
