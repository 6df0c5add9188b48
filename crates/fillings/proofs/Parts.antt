-- The steps of the filling, put together. Assumes nothing.
use mathlib.Core.Bool.{true, false}
use mathlib.Core.List.{List}
use mathlib.Core.Path.{◌≡◌, refl, sym, ap, ◌∙◌, subst}
use Prim.Native.Nat.{ℕ, suc, ◌+◌, ◌-◌, ◌*◌, ◌≤◌, ◌<◌}
use native.Mathlib.Omega.{arith}
use lib.IntN.{ℤ}
use Rattle.std.specs.Prelude.{Result, Err, ⊤}
use Rattle.plane.specs.Points.{Pt}
use Rattle.chains.specs.Areas.{chain_of, slot_of, move_w, join_w, cut_w, Room, Still}
use Rattle.chains.specs.Scans.{left_of, apex}
use Rattle.chains.specs.Fillings.{FillW, NoApex, Filled, Came}
use Rattle.chains.specs.Fillings.FillW.{gap, node}
use Rattle.chains.specs.Fillings.NoApex.{here, before, after}
use Rattle.chains.specs.declared.Reason.{Reason}
use Rattle.chains.specs.declared.Reason.TheVariants.{Apex}
use Rattle.chains.proofs.Rooms.{still_none, still_step, move_still, join_still, cut_still, move_room, join_room, cut_room, chain_still, slot_still}
use Rattle.seams.proofs.Fitting.{slot_low}

module _ (P : ℕ → Pt ℤ) (n t : ℕ) where
  fill_as : (w w' : List ℕ) → Still n w w' → {i j p q top : ℕ} {w1 w2 : List ℕ} →
      FillW P (6 * n) (chain_of n w') (slot_of n w') i j p q top w1 w2 → FillW P (6 * n) (chain_of n w) (slot_of n w) i j p q top w1 w2
  fill_as w w' k {i} {j} {p} {q} {top} {w1} {w2} f =
      subst (λ (s : ℕ → ℕ). FillW P (6 * n) (chain_of n w) s i j p q top w1 w2) (slot_still n w w' k)
      (subst (λ (c : ℕ → ℕ). FillW P (6 * n) c (slot_of n w') i j p q top w1 w2) (chain_still n w w' k) f)

  fill_to : {c s : ℕ → ℕ} {i j p q q' top : ℕ} {w1 w2 : List ℕ} → q ≡ q' → FillW P (6 * n) c s i j p q top w1 w2 → FillW P (6 * n) c s i j p q' top w1 w2
  fill_to {c} {s} {i} {j} {p} {q} {q'} {top} {w1} {w2} e f = subst (λ (x : ℕ). FillW P (6 * n) c s i j p x top w1 w2) e f

  stuck_as : (w w' : List ℕ) → Still n w w' → {i j : ℕ} → NoApex P (chain_of n w') i j → NoApex P (chain_of n w) i j
  stuck_as w w' k {i} {j} f = subst (λ (c : ℕ → ℕ). NoApex P c i j) (chain_still n w w' k) f

  -- ---- a gap

  pub filled_gap : (w w' : List ℕ) (i j p top : ℕ) → Room n t w → j ≡ i + 1 → j < 2 * n → top < 8 * n + 2 → w' ≡ move_w w (6 * n + i) top → Filled P n t w i j p top w'
  filled_gap w w' i j p top r e l hp z = record {
    fill = fill_to (let q : p ≡ p + (j - i - 1) = omega arith in q) (gap e z);
    still = subst (Still n w) (sym z) (move_still n w (6 * n + i) top r.some r.sound (omega arith) hp);
    room = subst (Room n t) (sym z) (move_room n t w (6 * n + i) top r (omega arith) hp);
  }

  pub stuck_here : (w : List ℕ) (i j k : ℕ) → i + 1 < j → k ≡ apex P (chain_of n w) i j → left_of P (chain_of n w i) (chain_of n w j) (chain_of n w k) ≡ false →
      (Apex ≡ Apex) × NoApex P (chain_of n w) i j × Still n w w
  stuck_here w i j k l is f = (refl, here l is f, still_none n w)

  pub came_stuck : {w w' : List ℕ} {i j : ℕ} (p top : ℕ) {e : Reason} {out : Result ⊤ Reason} → out ≡ Err e → e ≡ Apex → NoApex P (chain_of n w) i j × Still n w w' → Came P n t w i j p top w' out
  came_stuck {w} {w'} {i} {j} p top q a s = subst (Came P n t w i j p top w') (sym q) (a, s.0, s.1)

  count1 : (i j k p r : ℕ) → i < k → k < j → r ≡ p + (j - i - 2) → p + (k - i - 1) + (j - k - 1) ≡ r
  count1 i j k p r a b e = omega arith

  count2 : (i j p r : ℕ) → i + 1 < j → r ≡ p + (j - i - 2) → suc r ≡ p + (j - i - 1)
  count2 i j p r a e = omega arith

  three_low : (s : ℕ) → s < 2 * n → 3 * s < 8 * n + 2
  three_low s h = omega arith

  -- ---- a triangle over the base of the part, cut from the last of its slots

  pub record Based (w w0 : List ℕ) (i j k p top r s : ℕ) : Type 0 where
    pub room : Room n t w
    pub long : i + 1 < j
    pub is : k ≡ apex P (chain_of n w) i j
    pub ik : i < k
    pub kj : k < j
    pub jn : j < 2 * n
    pub fits : p + (j - i) ≤ 2 * n
    pub low : top < 8 * n + 2
    pub left : left_of P (chain_of n w i) (chain_of n w j) (chain_of n w k) ≡ true
    pub last : r ≡ p + (j - i - 2)
    pub slot : s ≡ slot_of n w r
    pub cut : w0 ≡ cut_w w s (chain_of n w i) (chain_of n w j) (chain_of n w k)

  module _ {w w0 : List ℕ} {i j k p top r s : ℕ} (b : Based w w0 i j k p top r s) where
    r_low : r < 2 * n
    r_low = let l = b.long in let f = b.fits in let e = b.last in omega arith

    pub s_low : s < 2 * n
    s_low = rw b.slot (slot_low n t w b.room r r_low)

    c_low : (x : ℕ) → x < 2 * n → chain_of n w x < n
    c_low x h = b.room.chain x h

    i_low : i < 2 * n
    i_low = let l = b.long in let h = b.jn in omega arith

    k_low : k < 2 * n
    k_low = let l = b.kj in let h = b.jn in omega arith

    still0 : Still n w w0
    still0 =
        subst (Still n w) (sym b.cut)
        (cut_still n w s (chain_of n w i) (chain_of n w j) (chain_of n w k) s_low (c_low i i_low) (c_low j b.jn) (c_low k k_low))

    pub room0 : Room n t w0
    room0 =
        subst (Room n t) (sym b.cut)
        (cut_room n t w s (chain_of n w i) (chain_of n w j) (chain_of n w k) b.room s_low (c_low i i_low) (c_low j b.jn) (c_low k k_low))

    pub stuck_before : {w1 : List ℕ} → NoApex P (chain_of n w0) i k × Still n w0 w1 → NoApex P (chain_of n w) i j × Still n w w1
    stuck_before {w1} f = (before b.long b.is b.left (stuck_as w w0 still0 f.0), still_step n w w0 w1 still0 f.1)

    module _ {w1 : List ℕ} (f : Filled P n t w0 i k p (3 * s + 2) w1) where
      still1 : Still n w w1
      still1 = still_step n w w0 w1 still0 f.still

      pub stuck_after : {w2 : List ℕ} → NoApex P (chain_of n w1) k j × Still n w1 w2 → NoApex P (chain_of n w) i j × Still n w w2
      stuck_after {w2} g = (after b.long b.is b.left (stuck_as w w1 still1 g.0), still_step n w w1 w2 still1 g.1)

      module _ {w2 : List ℕ} (g : Filled P n t w1 k j (p + (k - i - 1)) (3 * s + 1) w2) where
        still2 : Still n w w2
        still2 = still_step n w w1 w2 still1 g.still

        first : FillW P (6 * n) (chain_of n w) (slot_of n w) i k p (p + (k - i - 1)) (3 * slot_of n w r + 2) (cut_w w (slot_of n w r) (chain_of n w i) (chain_of n w j) (chain_of n w k)) w1
        first =
            subst (λ (x : ℕ). FillW P (6 * n) (chain_of n w) (slot_of n w) i k p (p + (k - i - 1)) (3 * x + 2) (cut_w w x (chain_of n w i) (chain_of n w j) (chain_of n w k)) w1) b.slot
            (subst (λ (v : List ℕ). FillW P (6 * n) (chain_of n w) (slot_of n w) i k p (p + (k - i - 1)) (3 * s + 2) v w1) b.cut (fill_as w w0 still0 f.fill))

        second : FillW P (6 * n) (chain_of n w) (slot_of n w) k j (p + (k - i - 1)) r (3 * slot_of n w r + 1) w1 w2
        second =
            subst (λ (x : ℕ). FillW P (6 * n) (chain_of n w) (slot_of n w) k j (p + (k - i - 1)) r (3 * x + 1) w1 w2) b.slot
            (fill_to (count1 i j k p r b.ik b.kj b.last) (fill_as w w1 still1 g.fill))

        pub filled_node : {w3 : List ℕ} → w3 ≡ join_w w2 (3 * s) top → Filled P n t w i j p top w3
        filled_node {w3} z = record {
          fill = fill_to (count2 i j p r b.long b.last) (node b.long b.is b.left first second (z ∙ ap (λ (x : ℕ). join_w w2 (3 * x) top) b.slot));
          still = still_step n w w2 w3 still2 (subst (Still n w2) (sym z) (join_still n w2 (3 * s) top b.room.some (three_low s s_low) b.low));
          room = subst (Room n t) (sym z) (join_room n t w2 (3 * s) top g.room (three_low s s_low) b.low);
        }
