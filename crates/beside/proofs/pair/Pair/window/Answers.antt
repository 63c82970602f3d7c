use Rattle.beside.proofs.pair.Pair.window.Goals as goal

pub returns-clause-library : goal.returns-clause-library
returns-clause-library c =
    let asked = c.window-library.ensures.window in
    (asked.0, (c.in_ok-rows.rows, c.window-library.new.rows, c.in_ok-rows.ensures, asked.1), asked.2)
