use Rattle.houses.proofs.Houses.{earlier_is}
use Rattle.houses.proofs.earlier.Goals as goal

pub returns : goal.returns
returns c = let x = c.args in
    rw (earlier_is x.work.now x.count x.s x.t) (rw (c.turned.ensures, c.turned-2.ensures) at c.rises.ensures)
