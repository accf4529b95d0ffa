use Rattle.calls.proofs.terms.Terms.close_on.Goals as goal

pub returns-in-Some : goal.returns-in-Some
returns-in-Some c = rw c.rows.ensures.0 at (rw c.rows.ensures.1 at (rw c.rows.ensures.2 at c.in-Some.ensures))

pub returns-in-None : goal.returns-in-None
returns-in-None c = rw c.rows.ensures.0 at (rw c.rows.ensures.1 at (rw c.rows.ensures.2 at c.in-None.ensures))
