-- A table is readable exactly when its head is right and its records and strings are laid so.
use Rattle.check_doses.proofs.Decided.{as_last}
use Rattle.check_table.proofs.Read.{words_laid, laid_words}
use Rattle.check_table.proofs.check_head.is_readable.Goals as goal

pub returns-then-head_right : goal.returns-then-head_right
returns-then-head_right c =
    as_last (λ l. laid_words (c.head_right.ensures.yes c.if-head_right.true) l) (λ r. (words_laid r).1) c.is_laid.ensures

pub returns-else-head_right : goal.returns-else-head_right
returns-else-head_right c =
    record { yes = λ e. absurd (cc); no = λ e r. c.head_right.ensures.no e (words_laid r).0 }
