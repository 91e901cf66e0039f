-- "17, 18, 19 in that order"
use mathlib.Core.Path.{sym, ◌∙◌}
use Rattle.check_table.proofs.Read.{words_laid}
use Rattle.writer.proofs.WordsWritten.{words_not_use, words_not_readable, words_fitting}
use Rattle.writer.proofs.write_words.Goals as goal

pub returns-then-not-is_use : goal.returns-then-not-is_use
returns-then-not-is_use c =
    words_not_use (sym c.is_use.ensures ∙ c.if-not-is_use.true)

pub returns-then-not-is_readable : goal.returns-then-not-is_readable
returns-then-not-is_readable c =
    let used = sym c.is_use.ensures ∙ c.if-not-is_use.false in
    words_not_readable used (c.is_readable.ensures.no c.if-not-is_readable.true)

pub write_fitting-requires : goal.write_fitting-requires
write_fitting-requires c =
    let l = (words_laid (c.is_readable.ensures.yes c.if-not-is_readable.false)).1 in
    (l.fits, l.room)

pub returns : goal.returns
returns c =
    let used = sym c.is_use.ensures ∙ c.if-not-is_use.false in
    let read = c.is_readable.ensures.yes c.if-not-is_readable.false in
    words_fitting used read c.write_fitting.ensures
