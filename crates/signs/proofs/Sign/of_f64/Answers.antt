use lib.Ieee.{of_bits}
use Rattle.signs.proofs.Signed.{sign_above, sign_below, sign_neither}
use Rattle.signs.proofs.Sign.of_f64.Goals as goal

pub returns-then-v : goal.returns-then-v
unfolding of_bits
returns-then-v c = sign_above _ c.if-v.true

pub returns-then-v-2 : goal.returns-then-v-2
unfolding of_bits
returns-then-v-2 c = sign_below _ c.if-v-2.true

pub returns-else-v-2 : goal.returns-else-v-2
unfolding of_bits
returns-else-v-2 c = sign_neither _ c.if-v.false c.if-v-2.false
