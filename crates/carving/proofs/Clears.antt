-- The rows without a triangle are cleared: what is left, and that a recovery has its room afterwards. Assumes nothing.
use mathlib.Core.List.{List}
use mathlib.Core.Path.{◌≡◌, refl, ◌∙◌}
use Prim.Native.Nat.{ℕ, zero, suc, ◌+◌, ◌*◌, ◌≤◌, ◌<◌}
use native.Mathlib.Decide.{dec_lt}
use native.Mathlib.Omega.{arith}
use lib.IntN.{ℤ}
use lib.ListN.{length, get_or}
use Rattle.plane.specs.Points.{Pt}
use Rattle.plane.specs.Base.{Side}
use Rattle.nets.specs.Tilings.{Tiling}
use Rattle.nets.specs.Layout.{cell, net_of, rank_cell, Kept}
use Rattle.chains.specs.Areas.{org, adj, con, chain_cell, slot_cell, chain_of, slot_of, Room}
use Rattle.carving.specs.Clearing.{In, WipedRows, Zeroed, Cleared, SameNet, Ranged}
use Rattle.carving.specs.Clearing.Zeroed.{partner, chain}

-- ---- both

pub cleared : (n t : ℕ) (w w' w'' : List ℕ) → WipedRows t (4 * n) 3 6 w w' → WipedRows (2 * n) (4 * n) 9 11 w' w'' → Cleared n t w w''
cleared n t w w' w'' a b = record {
  len = b.len ∙ a.len;
  zero = λ c z. zero c z;
  rest = λ c m. b.rest c (λ i. m (chain i)) ∙ a.rest c (λ i. m (partner i));
}
  where
    zero : (c : ℕ) → Zeroed n t c → get_or w'' c 0 ≡ 0
    zero c (partner i) = b.rest c (λ j. let x = i.high in let y = j.low in omega arith) ∙ a.zero c i
    zero c (chain i) = b.zero c i

-- ---- what it leaves

module _ {n t : ℕ} {w w' : List ℕ} (o : Cleared n t w w') where
  -- corners and marks, and the partners of the triangles
  other : (c : ℕ) → ¬ (In t (4 * n) 3 6 c) → ¬ (In (2 * n) (4 * n) 9 11 c) → get_or w' c 0 ≡ get_or w c 0
  other c p q = o.rest c (λ z. go z)
    where
      go : Zeroed n t c → ⊥
      go (partner i) = p i
      go (chain i) = q i

  pub cleared_org : (h : ℕ) → org w' h ≡ org w h
  unfolding cell
  cleared_org h = other (cell 0 h) (λ i. let x = i.low in omega arith) (λ i. let x = i.low in omega arith)

  pub cleared_con : (h : ℕ) → con w' h ≡ con w h
  unfolding cell
  cleared_con h = other (cell 6 h) (λ i. let x = i.high in omega arith) (λ i. let x = i.low in omega arith)

  pub cleared_adj : (h : ℕ) → h < 3 * t → adj w' h ≡ adj w h
  unfolding cell
  cleared_adj h l = other (cell 3 h) (λ i. let x = i.from in omega arith) (λ i. let x = i.low in omega arith)

  pub cleared_gone : (h : ℕ) → 3 * t ≤ h → h < 12 * n → adj w' h ≡ 0
  unfolding cell
  cleared_gone h l m = o.zero (cell 3 h) (partner (record { from = omega arith; to = omega arith; low = omega arith; high = omega arith }))

  pub cleared_net : SameNet t w w'
  unfolding net_of
  cleared_net = record { org = λ h l. cleared_org h; adj = λ h l. cleared_adj h l; con = λ h l. cleared_con h }

  pub cleared_kept : Kept n w w'
  cleared_kept = record {
    len = o.len;
    ranks = λ i. other (rank_cell i) (λ z. let x = z.high in omega arith) (λ z. let x = z.high in omega arith);
    free = λ i f a b. other (16 * i + f) (λ z. let x = z.high in omega arith) (λ z. let x = z.high in omega arith);
    rest = λ c l. other c (λ z. let x = z.to in omega arith) (λ z. let x = z.to in omega arith);
  }

  pub cleared_room : Ranged n t w → Room n t w'
  unfolding slot_of chain_of
  cleared_room f = record {
    some = f.some;
    few = f.few;
    less = f.less;
    real = f.real;
    long = rw o.len f.long;
    sound = λ h l. sound h l (dec_lt h (3 * t));
    slots = λ y l. rw (o.zero (slot_cell n y) (chain (record { from = omega arith; to = omega arith; low = omega arith; high = omega arith }))) f.real;
    chain = λ x l. rw (o.zero (chain_cell n x) (chain (record { from = omega arith; to = omega arith; low = omega arith; high = omega arith }))) (let s = f.some in omega arith);
    low = λ h l. rw (cleared_org h) (f.corners h l);
  }
    where
      sound : (h : ℕ) → h < 8 * n + 4 → Dec (h < 3 * t) → adj w' h ≤ 8 * n + 2
      sound h l (yes b) = rw (cleared_adj h b) (let z = f.partners h b in let k = f.less in omega arith)
      sound h l (no b) = rw (cleared_gone h (omega arith) (let s = f.some in omega arith)) (omega arith)

-- ---- a tiling by k of the n points is in range

pub ranged_tiling : {P : ℕ → Pt ℤ} {B : Side → Pt ℤ} {k : ℕ} (n t : ℕ) (w : List ℕ) → Tiling P B k (net_of w t) → k ≤ n → 3 ≤ n → n ≤ 4096 → t + 5 ≤ 2 * n → 0 < t → 64 * n ≤ length w → Ranged n t w
unfolding net_of
ranged_tiling n t w b kn some few less real long = record {
  some = some;
  few = few;
  less = less;
  real = real;
  long = long;
  corners = λ h l. let z = b.corners h l in omega arith;
  partners = λ h l. near (adj w h) (λ g e. b.linked.low h g l e);
}
  where
    near : (a : ℕ) → ((g : ℕ) → a ≡ suc g → g < 3 * t) → a ≤ 3 * t
    near zero f = omega arith
    near (suc g) f = let z = f g refl in omega arith
