use Rattle.requests.proofs.reading.open.Goals as goal

-- The error of a name that is no text.
pub returns-in-Err : goal.returns-in-Err
returns-in-Err g c _ = c.from.ensures
