-- Both sides of a cavity: its boundary is one closed chain, c 0 = a, the corners on the left, c n = b, those on the right, c m = a.
-- 0 .. n is filled under PL and n .. m under PR, and then the right root takes PL's place. Assumes nothing.
use mathlib.Core.Bool.{true}
use mathlib.Core.Path.{◌≡◌, refl, sym, ap, ◌∙◌, subst}
use Prim.Native.Nat.{ℕ, suc, ◌+◌, ◌*◌, ◌≤◌, ◌<◌}
use native.Mathlib.Decide.{ℕ_discrete, dec_lt}
use native.Mathlib.Omega.{arith}
use Rattle.cavities.specs.Changes.{But, Dropped, Moved}
use Rattle.cavities.specs.Closings.{Opened, Closing, Closed}
use Rattle.cavities.specs.Fillings.{Slots, Gaps, Tri, Ready, Done}
use Rattle.cavities.specs.Heirs.{Kept}
use Rattle.cavities.specs.Nets.{Net, Live, Dead, World, Inv}
use Rattle.cavities.proofs.Fill.{fill_part, fill_top, tri_same, fill_done, le_self, same_slot, is0, lt0}
use Rattle.cavities.proofs.Net.{clash}
use Rattle.cavities.proofs.Steps.{dropped_inv, moved_inv, not_same}

module _ (W : World) (Ccw : ℕ → ℕ → ℕ → Type 0) (c gp slot : ℕ → ℕ) (n m q r PL PR : ℕ) (σ : Net) (opn : Opened W c gp slot n m r PL PR σ) (qr : q ≤ r) (nm : n < m) where
  in_left : (h : ℕ) → Slots slot 0 q h → Slots slot 0 (suc r) h
  in_left h y = let l = qr in record { at = y.at; k = y.k; low = y.low; high = omega arith; three = y.three; is = y.is }

  in_right : (h : ℕ) → Slots slot q (suc r) h → Slots slot 0 (suc r) h
  in_right h y = record { at = y.at; k = y.k; low = omega arith; high = y.high; three = y.three; is = y.is }

  gap_left : (h : ℕ) → Gaps gp 0 n h → Gaps gp 0 m h
  gap_left h g = let l = nm in record { at = g.at; low = g.low; high = omega arith; is = g.is }

  gap_right : (h : ℕ) → Gaps gp n m h → Gaps gp 0 m h
  gap_right h g = record { at = g.at; low = omega arith; high = g.high; is = g.is }

  gap_slot : (h : ℕ) → Gaps gp 0 m h → Slots slot 0 (suc r) h → ⊥
  gap_slot h g y = clash (opn.gap_live h g) (opn.slot_dead h y)

  gap_gap : (h : ℕ) → Gaps gp 0 n h → Gaps gp n m h → ⊥
  gap_gap h a b = let l = nm in let e = opn.gap_apart a.at b.at (omega arith) b.high (sym a.is ∙ b.is) in omega arith

  left_right : (h : ℕ) → Slots slot 0 q h → Slots slot q (suc r) h → ⊥
  left_right h a b = let l = qr in let e = opn.slot_apart a.at b.at (omega arith) b.high
      (same_slot (slot a.at) (slot b.at) a.k b.k a.three b.three (sym a.is ∙ b.is)) in omega arith

  gap_is : (h x : ℕ) → Gaps gp 0 m h → Dead σ x → ¬ (h ≡ x)
  gap_is h x g d = not_same σ h x (opn.gap_live h g) d

  slot_is : (h x : ℕ) → Slots slot 0 (suc r) h → ¬ Slots slot 0 (suc r) x → ¬ (h ≡ x)
  slot_is h x y n e = n (subst (Slots slot 0 (suc r)) e y)

  pub left_ready : Ready W c gp slot 0 n 0 q PL σ
  left_ready = record {
    inv = opn.inv;
    gap_live = λ h g. opn.gap_live h (gap_left h g);
    gap_apart = λ x y a b d e. opn.gap_apart x y (below x b) (below y e);
    gap_org = λ x l k. opn.gap_org x (below x k);
    gap_dst = λ x l k. opn.gap_dst x (below x k);
    slot_dead = λ h y. opn.slot_dead h (in_left h y);
    slot_low = λ h y. opn.slot_low h (in_left h y);
    slot_apart = λ y z a b d e. opn.slot_apart y z (high y b) (high z e);
    top_dead = opn.left_dead;
    top_low = opn.left_low;
    top_org = opn.left_org;
    top_dst = opn.left_dst;
    top_out = λ y. opn.left_out (in_left PL y);
  }
    where
      below : (x : ℕ) → x < n → x < m
      below x k = let l = nm in omega arith

      high : (y : ℕ) → y < q → y < suc r
      high y k = let l = qr in omega arith

  -- the left side is filled
  module _ (σ1 : Net) (dl : Done W Ccw gp slot 0 n 0 q PL σ σ1) where
    pub right_ready : Ready W c gp slot n m q (suc r) PR σ1
    right_ready = record {
      inv = dl.inv;
      gap_live = λ h g. dl.live h (gap_is h PL (gap_right h g) opn.left_dead) (λ a. gap_gap h a g) (λ y. gap_slot h (gap_right h g) (in_left h y)) ∙ opn.gap_live h (gap_right h g);
      gap_apart = λ x y a b d e. opn.gap_apart x y b e;
      gap_org = λ x l k. dl.org (gp x) (λ y. gap_slot (gp x) (at x k) (in_left (gp x) y)) ∙ opn.gap_org x k;
      gap_dst = λ x l k. dl.dst (gp x) (λ y. gap_slot (gp x) (at x k) (in_left (gp x) y)) ∙ opn.gap_dst x k;
      slot_dead = λ h y. dl.live h (slot_is h PL (in_right h y) opn.left_out) (λ g. gap_slot h (gap_left h g) (in_right h y)) (λ a. left_right h a y) ∙ opn.slot_dead h (in_right h y);
      slot_low = λ h y. opn.slot_low h (in_right h y);
      slot_apart = λ y z a b d e. opn.slot_apart y z b e;
      top_dead = dl.live PR (λ e. opn.two (sym e)) (λ g. gap_is PR PR (gap_left PR g) opn.right_dead refl) (λ y. opn.right_out (in_left PR y)) ∙ opn.right_dead;
      top_low = opn.right_low;
      top_org = dl.org PR (λ y. opn.right_out (in_left PR y)) ∙ opn.right_org;
      top_dst = dl.dst PR (λ y. opn.right_out (in_left PR y)) ∙ opn.right_dst;
      top_out = λ y. opn.right_out (in_right PR y);
    }
      where
        at : (x : ℕ) → x < m → Gaps gp 0 m (gp x)
        at x k = record { at = x; low = omega arith; high = k; is = refl }

    -- and the right side
    module _ (σ2 : Net) (dr : Done W Ccw gp slot n m q (suc r) PR σ1 σ2) (top : (σ2.has PR ≡ true) × (σ2.mate PR ≡ 3 * slot r) × (σ2.mark PR ≡ 0)) where
      pub root : Slots slot 0 (suc r) (3 * slot r)
      root = record { at = r; k = 0; low = omega arith; high = le_self; three = lt0; is = is0 (slot r) }

      pub org2 : (h : ℕ) → ¬ Slots slot 0 (suc r) h → σ2.org h ≡ σ.org h
      org2 h y = dr.org h (λ z. y (in_right h z)) ∙ dl.org h (λ z. y (in_left h z))

      pub dst2 : (h : ℕ) → ¬ Slots slot 0 (suc r) h → σ2.dst h ≡ σ.dst h
      dst2 h y = dr.dst h (λ z. y (in_right h z)) ∙ dl.dst h (λ z. y (in_left h z))

      -- the right root runs from b to a
      pub root_org : σ2.org (3 * slot r) ≡ c n
      root_org = ap σ2.org (sym top.1) ∙ ((dr.inv.good PR dr.top_live).mated top.0).org ∙ dst2 PR opn.right_out ∙ opn.right_dst

      pub root_dst : σ2.dst (3 * slot r) ≡ c 0
      root_dst = ap σ2.dst (sym top.1) ∙ ((dr.inv.good PR dr.top_live).mated top.0).dst ∙ org2 PR opn.right_out ∙ opn.right_org ∙ opn.closed

      left_live : Live σ2 PL
      left_live = dr.live PL opn.two (λ g. gap_is PL PL (gap_right PL g) opn.left_dead refl) (λ y. opn.left_out (in_right PL y)) ∙ dl.top_live

      pub not_root : (h : ℕ) → ¬ Slots slot 0 (suc r) h → ¬ (h ≡ 3 * slot r)
      not_root h n e = slot_is (3 * slot r) h root n (sym e)

      -- a and b start other half-edges: edge 1 of the right root, and PL
      keep_a : Kept σ2 (But PR (3 * slot r)) (σ2.org PR)
      keep_a = record {
        at = 3 * slot r + 1;
        live = dr.slot_live (3 * slot r + 1) second;
        keep = (slot_is (3 * slot r + 1) PR (in_right (3 * slot r + 1) second) opn.right_out, (λ e. omega arith));
        org = sym (dr.tri r qr le_self).dst0 ∙ root_dst ∙ sym (org2 PR opn.right_out ∙ opn.right_org ∙ opn.closed);
      }
        where
          second : Slots slot q (suc r) (3 * slot r + 1)
          second = record { at = r; k = 1; low = qr; high = le_self; three = omega arith; is = refl }

      keep_b : Kept σ2 (But PR (3 * slot r)) (σ2.org (3 * slot r))
      keep_b = record { at = PL; live = left_live; keep = (opn.two, not_root PL opn.left_out); org = org2 PL opn.left_out ∙ opn.left_org ∙ sym root_org }

      -- and the two are joined
      module _ (σ3 : Net) (drop : Dropped σ2 σ3 PR (3 * slot r)) where
        pub inv3 : Inv W σ3
        inv3 = dropped_inv W σ2 σ3 PR (3 * slot r) dr.top_live top.0 top.1 top.2 keep_a keep_b drop dr.inv

        pub live3 : Live σ3 PL
        live3 = drop.live PL opn.two (not_root PL opn.left_out) ∙ left_live

        module _ (σ4 : Net) (move : Moved σ3 σ4 PL (3 * slot r)) where
          inv4 : Inv W σ4
          inv4 =
              moved_inv W σ3 σ4 PL (3 * slot r) (drop.live PL opn.two (not_root PL opn.left_out) ∙ left_live) drop.dead_y (opn.slot_low (3 * slot r) root)
              ((drop.same (3 * slot r)).org ∙ root_org ∙ sym ((drop.same PL).org ∙ org2 PL opn.left_out ∙ opn.left_org))
              ((drop.same (3 * slot r)).dst ∙ root_dst ∙ sym ((drop.same PL).dst ∙ dst2 PL opn.left_out ∙ opn.left_dst))
              move inv3

          -- what lives after the two fillings does so at the end, but for the two above the roots
          live4 : (h : ℕ) → ¬ (h ≡ PL) → ¬ (h ≡ PR) → ¬ (h ≡ 3 * slot r) → σ4.live h ≡ σ2.live h
          live4 h a b d = move.live h a d ∙ drop.live h b d

          slot_live : (h : ℕ) → Slots slot 0 (suc r) h → Live σ4 h
          slot_live h y = go (ℕ_discrete h (3 * slot r)) (dec_lt y.at q)
            where
              go : Dec (h ≡ 3 * slot r) → Dec (y.at < q) → Live σ4 h
              go (yes e) d = ap σ4.live e ∙ move.live_v
              go (no e) (yes l) =
                  let a : Slots slot 0 q h = record { at = y.at; k = y.k; low = y.low; high = l; three = y.three; is = y.is } in
                  live4 h (slot_is h PL y opn.left_out) (slot_is h PR y opn.right_out) e
                  ∙ dr.live h (slot_is h PR y opn.right_out) (λ g. gap_slot h (gap_right h g) y) (left_right h a) ∙ dl.slot_live h a
              go (no e) (no l) = live4 h (slot_is h PL y opn.left_out) (slot_is h PR y opn.right_out) e
                  ∙ dr.slot_live h (record { at = y.at; k = y.k; low = omega arith; high = y.high; three = y.three; is = y.is })

          gap_dead : (h : ℕ) → Gaps gp 0 m h → Dead σ4 h
          gap_dead h g = live4 h (gap_is h PL g opn.left_dead) (gap_is h PR g opn.right_dead) (gap_is h (3 * slot r) g (opn.slot_dead (3 * slot r) root)) ∙ go (dec_lt g.at n)
            where
              go : Dec (g.at < n) → Dead σ2 h
              go (yes l) =
                  let a : Gaps gp 0 n h = record { at = g.at; low = g.low; high = l; is = g.is } in
                  dr.live h (gap_is h PR g opn.right_dead) (gap_gap h a) (λ y. gap_slot h g (in_right h y)) ∙ dl.gap_dead h a
              go (no l) = dr.gap_dead h (record { at = g.at; low = omega arith; high = g.high; is = g.is })

          tri : (y : ℕ) → y < suc r → Tri Ccw σ4 (slot y)
          tri y l = tri_same Ccw σ2 σ4 (slot y) (λ h d k e. move.org h ∙ (drop.same h).org) (λ h d k e. move.dst h ∙ (drop.same h).dst) (go (dec_lt y q))
            where
              go : Dec (y < q) → Tri Ccw σ2 (slot y)
              go (yes k) =
                  tri_same Ccw σ1 σ2 (slot y)
                  (λ h d t e. dr.org h (left_right h (record { at = y; k = d; low = omega arith; high = k; three = t; is = e })))
                  (λ h d t e. dr.dst h (left_right h (record { at = y; k = d; low = omega arith; high = k; three = t; is = e })))
                  (dl.tri y (omega arith) k)
              go (no k) = dr.tri y (omega arith) l

          -- a filling that does not stick
          pub closes : Closed W Ccw gp slot m r PL PR σ σ4
          closes = record {
            inv = inv4;
            slot_live = slot_live;
            gap_dead = gap_dead;
            left_dead = move.dead_o;
            right_dead = move.live PR (λ e. opn.two (sym e)) (not_root PR opn.right_out) ∙ drop.dead_x;
            live = λ h a b g y. live4 h a b (not_root h y) ∙ dr.live h b (λ z. g (gap_right h z)) (λ z. y (in_right h z)) ∙ dl.live h a (λ z. g (gap_left h z)) (λ z. y (in_left h z));
            org = λ h y. move.org h ∙ (drop.same h).org ∙ org2 h y;
            dst = λ h y. move.dst h ∙ (drop.same h).dst ∙ dst2 h y;
            tri = tri;
          }

pub close : (W : World) (Ccw : ℕ → ℕ → ℕ → Type 0) (c gp slot : ℕ → ℕ) (n m q r PL PR : ℕ) (σ σ1 σ2 σ3 σ4 : Net) → Opened W c gp slot n m r PL PR σ →
    Closing Ccw c gp slot n m q r PL PR σ σ1 σ2 σ3 σ4 → Closed W Ccw gp slot m r PL PR σ σ4
close W Ccw c gp slot n m q r PL PR σ σ1 σ2 σ3 σ4 opn act =
    let nm = fill_part Ccw c gp slot act.right in
    let dl = fill_done W Ccw c gp slot act.left (left_ready W Ccw c gp slot n m q r PL PR σ opn act.some nm) in
    let dr = fill_done W Ccw c gp slot act.right (right_ready W Ccw c gp slot n m q r PL PR σ opn act.some nm σ1 dl) in
    closes W Ccw c gp slot n m q r PL PR σ opn act.some nm σ1 dl σ2 dr (fill_top Ccw c gp slot act.right r refl act.some) σ3 act.drop σ4 act.move

-- the edge from b to a is there: edge 0 of the last slot
pub close_edge : (W : World) (Ccw : ℕ → ℕ → ℕ → Type 0) (c gp slot : ℕ → ℕ) (n m q r PL PR : ℕ) (σ σ1 σ2 σ3 σ4 : Net) →
    Opened W c gp slot n m r PL PR σ → Closing Ccw c gp slot n m q r PL PR σ σ1 σ2 σ3 σ4 → (σ4.org (3 * slot r) ≡ c n) × (σ4.dst (3 * slot r) ≡ c 0)
close_edge W Ccw c gp slot n m q r PL PR σ σ1 σ2 σ3 σ4 opn act =
    let nm = fill_part Ccw c gp slot act.right in
    let dl = fill_done W Ccw c gp slot act.left (left_ready W Ccw c gp slot n m q r PL PR σ opn act.some nm) in
    let dr = fill_done W Ccw c gp slot act.right (right_ready W Ccw c gp slot n m q r PL PR σ opn act.some nm σ1 dl) in
    let top = fill_top Ccw c gp slot act.right r refl act.some in (
      act.move.org (3 * slot r) ∙ (act.drop.same (3 * slot r)).org ∙ root_org W Ccw c gp slot n m q r PL PR σ opn act.some nm σ1 dl σ2 dr top,
      act.move.dst (3 * slot r) ∙ (act.drop.same (3 * slot r)).dst ∙ root_dst W Ccw c gp slot n m q r PL PR σ opn act.some nm σ1 dl σ2 dr top,
    )
