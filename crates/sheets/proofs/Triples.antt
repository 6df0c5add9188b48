-- The turned triples of a net's slots as a list: where each number stands, and rows of items that agree. Assumes nothing.
use mathlib.Core.List.{List}
use mathlib.Core.Path.{◌≡◌, refl, sym, ap, ◌∙◌}
use Prim.Native.Nat.{ℕ, zero, suc, ◌+◌, ◌*◌, ◌<◌}
use native.Mathlib.Decide.{ℕ_discrete}
use native.Mathlib.Omega.{arith}
use lib.ListN.{length, get_or, length-append, get_or-append}
use lib.Seq.{get_or-append-add}
use Rattle.sorts.specs.Items.{item, times}
use Rattle.nets.specs.Nets.{Net}
use Rattle.sheets.specs.Sheets.{triple, turned}

pub turned_length : (m : Net) (T : ℕ) → length (turned m T) ≡ 3 * T
unfolding turned
turned_length m zero = refl
turned_length m (suc T) = let l = length-append (turned m T) (triple m T) in let r = turned_length m T in omega arith

-- Number j of triple t.
pub turned_at : (m : Net) (T t j : ℕ) → t < T → j < 3 → get_or (turned m T) (3 * t + j) 0 ≡ get_or (triple m t) j 0
unfolding turned
turned_at m zero t j h g = absurd (omega arith)
turned_at m (suc T) t j h g =
    let l = turned_length m T in
    elim (ℕ_discrete t T) [
      | yes e ↦ let z : 3 * t + j ≡ length (turned m T) + j = omega arith in
          rw z (get_or-append-add (turned m T) (triple m T) j 0) ∙ ap (λ (s : ℕ). get_or (triple m s) j 0) (sym e)
      | no e ↦ let k = lt t T h e in get_or-append (turned m T) (triple m T) 0 (3 * t + j) (omega arith) ∙ turned_at m T t j k g
    ]
  where
    lt : (t T : ℕ) → t < suc T → ¬ (t ≡ T) → t < T
    lt t T h e = omega arith

-- ---- rows of items that agree

pub item_same : (w w' : List ℕ) (p q : ℕ) → ((j : ℕ) → j < 3 → get_or w' (q + j) 0 ≡ get_or w (p + j) 0) → item w' q ≡ item w p
unfolding item
item_same w w' p q e =
    let a : q + 0 ≡ q = omega arith in
    let b : p + 0 ≡ p = omega arith in
    let f : get_or w' q 0 ≡ get_or w p 0 = rw (a, b) at (e 0 (omega arith)) in
    rw (f, e 1 (omega arith), e 2 (omega arith))

pub times_same : (w w' : List ℕ) (lo lo' n : ℕ) →
    ((t j : ℕ) → t < n → j < 3 → get_or w' (lo' + 3 * t + j) 0 ≡ get_or w (lo + 3 * t + j) 0) →
    (x : ℕ) → times w' lo' n x ≡ times w lo n x
unfolding times
times_same w w' lo lo' zero e x = refl
times_same w w' lo lo' (suc n) e x =
    let i = item_same w w' (lo + 3 * n) (lo' + 3 * n) (λ j g. e n j (omega arith) g) in
    rw (i, times_same w w' lo lo' n (λ t j h g. e t j (omega arith) g) x)
