-- What the working area keeps of the net before the walk: corners and marks of the triangles, and the partners too but for those that lie in
-- crossed slots, which are parked. Assumes nothing.
use mathlib.Core.List.{List}
use mathlib.Core.Logic.{◌⊎◌, inl, inr}
use mathlib.Core.Path.{◌≡◌, refl, sym, ◌∙◌, subst}
use Prim.Native.Nat.{ℕ, suc, ◌*◌, ◌/◌, ◌≤◌, ◌<◌}
use native.Mathlib.Decide.{ℕ_discrete}
use native.Mathlib.Omega.{arith}
use lib.ListN.{length, set, length-set}
use Rattle.chains.proofs.Entering.{enter_length, enter_org}
use Rattle.chains.proofs.Laws.{set_beside, chain_mod}
use Rattle.chains.specs.Areas.{org, adj, con, chain_cell}
use Rattle.chains.specs.Walks.{enter_w}
use Rattle.tracks.proofs.Leaf.{enter_con, enter_not, enter_told}
use Rattle.tracks.proofs.Saw.{Seen}

module _ (n t : ℕ) (w0 : List ℕ) (slot : ℕ → ℕ) where
  -- the partner of h lies in one of the first K crossed slots, and is parked
  pub record Gone (K : ℕ) (w : List ℕ) (h : ℕ) : Type 0 where
    pub over : 6 * n < adj w h
    pub y : ℕ
    pub i : ℕ
    pub mate : adj w0 h ≡ suc y
    pub high : i < K
    pub is : slot i ≡ y / 3

  abbrev pub Mate : ℕ → List ℕ → ℕ → Type 0
  Mate K w h = (adj w h ≡ adj w0 h) ⊎ Gone K w h

  pub record Keeps (K : ℕ) (w : List ℕ) : Type 0 where
    pub long : 64 * n ≤ length w
    pub corner : (h : ℕ) → org w h ≡ org w0 h
    pub mark : (h : ℕ) → h < 3 * t → con w h ≡ con w0 h
    pub mate : (h : ℕ) → h < 3 * t → Mate K w h

  pub keeps_none : 64 * n ≤ length w0 → Keeps 0 w0
  keeps_none l = record { long = l; corner = λ h. refl; mark = λ h k. refl; mate = λ h k. inl refl }

  gone_wide : (K K' : ℕ) (w : List ℕ) (h : ℕ) → K ≤ K' → Mate K w h → Mate K' w h
  gone_wide K K' w h l (inl e) = inl e
  gone_wide K K' w h l (inr d) = inr (record { over = d.over; y = d.y; i = d.i; mate = d.mate; high = let q = d.high in omega arith; is = d.is })

  pub keeps_wide : (K K' : ℕ) (w : List ℕ) → K ≤ K' → Keeps K w → Keeps K' w
  keeps_wide K K' w l k = record { long = k.long; corner = k.corner; mark = k.mark; mate = λ h q. gone_wide K K' w h l (k.mate h q) }

  by_adj : (K : ℕ) (w w' : List ℕ) (h : ℕ) → adj w' h ≡ adj w h → Mate K w h → Mate K w' h
  by_adj K w w' h e (inl d) = inl (e ∙ d)
  by_adj K w w' h e (inr d) = inr (record { over = subst (λ (z : ℕ). 6 * n < z) (sym e) d.over; y = d.y; i = d.i; mate = d.mate; high = d.high; is = d.is })

  -- a corner of the chain is written
  pub keeps_chain : (K : ℕ) (w : List ℕ) (e c : ℕ) → Keeps K w → Keeps K (set w (chain_cell n e) c)
  keeps_chain K w e c k = record {
    long = subst (λ (z : ℕ). 64 * n ≤ z) (sym (length-set w (chain_cell n e) c)) k.long;
    corner = λ h. set_beside w 0 (chain_cell n e) c h (omega arith) (chain_mod n e) ∙ k.corner h;
    mark = λ h l. set_beside w 6 (chain_cell n e) c h (omega arith) (chain_mod n e) ∙ k.mark h l;
    mate = λ h l. by_adj K w (set w (chain_cell n e) c) h (set_beside w 3 (chain_cell n e) c h (omega arith) (chain_mod n e)) (k.mate h l);
  }

  module _ (small : t ≤ 2 * n) (some : 1 ≤ n) (back : (h g : ℕ) → h < 3 * t → adj w0 h ≡ suc g → adj w0 g ≡ suc h) where
    -- what the area has below 6 n is what the net has
    same_mate : (K : ℕ) (w : List ℕ) (h y : ℕ) → adj w h ≡ suc y → y < 6 * n → Mate K w h → adj w0 h ≡ suc y
    same_mate K w h y e l (inl d) = sym d ∙ e
    same_mate K w h y e l (inr d) = absurd (let q = d.over in omega arith)

    pub seen_mate : (K : ℕ) (w : List ℕ) (x y : ℕ) → Keeps K w → x < 3 * t → Seen t w x y → adj w0 x ≡ suc y
    seen_mate K w x y k l s = same_mate K w x y s.mate (let q = s.low in omega arith) (k.mate x l)

    -- a half-edge of a crossed slot is parked
    pub keeps_enter : (K : ℕ) (w : List ℕ) (k y o g e c i : ℕ) → Keeps K w → g < 2 * n → o < 3 * t → i < K → slot i ≡ o / 3 → Keeps K (enter_w n w k y o g e c)
    keeps_enter K w k y o g e c i kp gl ol il si = record {
      long = subst (λ (z : ℕ). 64 * n ≤ z) (sym (enter_length n w k y o g e c)) kp.long;
      corner = λ h. enter_org n w k y o g e c h ∙ kp.corner h;
      mark = λ h l. enter_con n w k y o g e c h (omega arith) ∙ kp.mark h l;
      mate = λ h l. go h l (ℕ_discrete (adj w o) (suc h));
    }
      where
        go : (h : ℕ) → h < 3 * t → Dec (adj w o ≡ suc h) → Mate K (enter_w n w k y o g e c) h
        go h l (no q) = by_adj K w (enter_w n w k y o g e c) h (enter_not n w k y o g e c h (omega arith) q) (kp.mate h l)
        go h l (yes q) =
            let u = enter_told n w k y o g e c h kp.long gl (omega arith) q in
            inr (record { over = omega arith; y = o; i = i; mate = back o h ol (same_mate K w o h q (omega arith) (kp.mate o ol)); high = il; is = si })
