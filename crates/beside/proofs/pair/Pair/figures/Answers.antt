use Rattle.beside.proofs.Parts.{if_ok}
use Rattle.beside.proofs.pair.Pair.figures.Goals as goal

pub returns-clause-library : goal.returns-clause-library
returns-clause-library c =
    if_ok c.compare.result (c.figures-library.result, c.in_ok-rows.rows, c.figures-library.new.rows, c.in_ok-rows.ensures, c.figures-library.ensures.figures)
