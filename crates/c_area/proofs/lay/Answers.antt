-- A table is laid by its records' words.
use Rattle.document.specs.Words.{table_words}
use Rattle.c_area.specs.Area.{area_of}
use Rattle.c_area.proofs.lay.Goals as goal

pub returns : goal.returns
unfolding area_of table_words
returns c =
    rw (← c.table_words-records.ensures) c.lay_words.ensures
