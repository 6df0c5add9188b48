-- The word of a coordinate: what the code computes, and that the order is kept. Assumes nothing.
use mathlib.Core.Path.{◌≡◌, refl, sym, ap, ◌∙◌}
use Prim.Native.Nat.{ℕ, suc, ◌-◌, ◌≤◌, ◌<◌}
use native.Mathlib.Omega.{arith}
use borrow.Author.Tests.{le-ltb}
use lib.Dec.{ltb→lt}
use lib.IntN.{ℤ, pos, negsuc, nat_abs, ◌+ℤ◌}
use lib.Signed.{◌<ℤ◌}
use Rattle.ranks.specs.Items.{word}

-- A coordinate within the limit and 8,192 are not below 0 together.
pub sum_is : (z : ℤ) → nat_abs z ≤ 8192 → z +ℤ pos 8192 ≡ pos (word z)
unfolding word
sum_is (pos n) h = refl
sum_is (negsuc n) h = let e : negsuc n +ℤ pos 8192 ≡ pos (8192 - suc n) = rw (le-ltb 8192 (suc n) h) in e ∙ ap (λ (y : ℤ). pos (nat_abs y)) (sym e)

word_neg : (n : ℕ) → suc n ≤ 8192 → word (negsuc n) ≡ 8192 - suc n
unfolding word
word_neg n h = rw (le-ltb 8192 (suc n) h)

pub word_small : (z : ℤ) → nat_abs z ≤ 8192 → word z ≤ 16384
unfolding word
word_small (pos n) h = omega arith
word_small (negsuc n) h = omega (arith, word_neg n h)

pub word_up : (y z : ℤ) → nat_abs y ≤ 8192 → nat_abs z ≤ 8192 → y <ℤ z → word y < word z
unfolding word
word_up (pos a) (pos b) f g h = let k = ltb→lt a b h.lt in omega arith
word_up (pos a) (negsuc b) f g h = absurd h.lt
word_up (negsuc a) (pos b) f g h = omega (arith, word_neg a f)
word_up (negsuc a) (negsuc b) f g h = let k = ltb→lt b a h.lt in omega (arith, word_neg a f, word_neg b g)
