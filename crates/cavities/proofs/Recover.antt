-- A recovery that does not stick: from a tiling, a walk along the corridor that meets b, and a filling of both sides, to a tiling of the
-- same triangles' slots. Assumes nothing.
use mathlib.Core.Path.{◌≡◌, refl, sym, ap, ◌∙◌, subst}
use Prim.Native.Nat.{ℕ, zero, suc, ◌+◌, ◌*◌, ◌-◌, ◌/◌, ◌%◌, ◌≤◌, ◌<◌}
use native.Mathlib.Decide.{ℕ_discrete, dec_lt}
use native.Mathlib.Omega.{arith}
use lib.IntN.{ℤ}
use Rattle.algebra.specs.Order.{Pos}
use Rattle.plane.specs.Base.{Side, area_of_base}
use Rattle.plane.specs.Mesh.{Covers}
use Rattle.plane.specs.Points.{Pt}
use Rattle.cavities.specs.Closings.{Opened, Closing, Closed}
use Rattle.cavities.specs.Corridors.{Tiled, Figure, Which, is_left, is_right, Chains, Open}
use Rattle.cavities.specs.Fillings.{Slots, Gaps, Tri}
use Rattle.cavities.specs.Nets.{Net, Live, Dead, Edge, World, Inv}
use Rattle.cavities.specs.Recovery.{pick, chain, gaps, Tops, Recovery, Room}
use Rattle.cavities.specs.Tilings.{CcwP, world, mesh_of, Whole}
use Rattle.cavities.proofs.Close.{close, close_edge}
use Rattle.cavities.proofs.Fill.{tri_same, le_self}
use Rattle.cavities.proofs.Net.{clash}
use Rattle.cavities.proofs.Steps.{wrote_inv, not_same}
use Rattle.cavities.proofs.Tiles.{net_covers}
use Rattle.cavities.proofs.Walk.{walk_strip, arrive, walk_count}

pick_yes : {A : Type 0} (d : Dec A) (a b : ℕ) → A → pick d a b ≡ a
unfolding pick
pick_yes (yes l) a b h = refl
pick_yes (no l) a b h = absurd (l h)

pick_no : {A : Type 0} (d : Dec A) (a b : ℕ) → ¬ A → pick d a b ≡ b
unfolding pick
pick_no (yes l) a b h = absurd (h l)
pick_no (no l) a b h = refl

-- ---- searches

pub find_slot : (slot : ℕ → ℕ) (n s : ℕ) → Dec ((y : ℕ) × (y < n) × (slot y ≡ s))
find_slot slot zero s = no (λ r. let l = r.1 in none r.0 l)
  where
    none : (y : ℕ) → y < 0 → ⊥
    none y l = omega arith
find_slot slot (suc n) s = go (find_slot slot n s) (ℕ_discrete (slot n) s)
  where
    go : Dec ((y : ℕ) × (y < n) × (slot y ≡ s)) → Dec (slot n ≡ s) → Dec ((y : ℕ) × (y < suc n) × (slot y ≡ s))
    go (yes r) d = yes (r.0, (let l = r.1 in omega arith), r.2)
    go (no r) (yes e) = yes (n, le_self, e)
    go (no r) (no e) = no (λ q. r (q.0, less q.0 q.1 q.2, q.2))
      where
        less : (y : ℕ) → y < suc n → slot y ≡ s → y < n
        less y l w = let d : ¬ (y ≡ n) = (λ u. e (ap slot (sym u) ∙ w)) in omega arith

dec_slots : (slot : ℕ → ℕ) (n h : ℕ) → Dec (Slots slot 0 n h)
dec_slots slot n h = go (find_slot slot n (h / 3))
  where
    go : Dec ((y : ℕ) × (y < n) × (slot y ≡ h / 3)) → Dec (Slots slot 0 n h)
    go (yes r) = yes (record { at = r.0; k = h % 3; low = omega arith; high = r.1; three = omega arith; is = split (slot r.0) r.2 })
      where
        split : (s : ℕ) → s ≡ h / 3 → h ≡ 3 * s + h % 3
        split s e = omega arith
    go (no f) = no (λ s. f (s.at, s.high, third (slot s.at) s.k s.three s.is))
      where
        third : (s k : ℕ) → k < 3 → h ≡ 3 * s + k → s ≡ h / 3
        third s k l e = omega arith

dec_gaps : (gp : ℕ → ℕ) (m h : ℕ) → Dec (Gaps gp 0 m h)
dec_gaps gp m h = go (find_slot gp m h)
  where
    go : Dec ((y : ℕ) × (y < m) × (gp y ≡ h)) → Dec (Gaps gp 0 m h)
    go (yes r) = yes (record { at = r.0; low = omega arith; high = r.1; is = sym r.2 })
    go (no f) = no (λ g. f (g.at, g.high, sym g.is))

module _ (W : World) (Ccw : ℕ → ℕ → ℕ → Type 0) (F : Figure) (t cap : ℕ) (σ : Net) (til : Tiled W Ccw F.vt t cap σ) (n l r : ℕ)
    (fits : suc (suc n) < cap) (σ4 : Net) (opn : Open W F t n l r σ σ4) (PL PR : ℕ) (σ5 : Net) (a_same : F.cl 0 ≡ F.cr 0)
    (b_same : F.cl (suc l) ≡ F.cr (suc r)) (tops : Tops σ4 σ5 PL PR (F.cl 0) (F.cl (suc l))) (PL_dead : Dead σ PL) (PR_dead : Dead σ PR)
    (PL_vt : ¬ Gaps F.vt 0 (suc (suc (suc n))) PL) (PR_vt : ¬ Gaps F.vt 0 (suc (suc (suc n))) PR) (PL_low : PL < W.bound) (PR_low : PR < W.bound) (two : ¬ (PL ≡ PR)) where
  pub c_left : (x : ℕ) → x < suc l → chain F l r x ≡ F.cl x
  unfolding chain
  c_left x k = pick_yes (dec_lt x (suc l)) (F.cl x) (F.cr (suc l + suc r - x)) k

  pub c_right : (x : ℕ) → ¬ (x < suc l) → chain F l r x ≡ F.cr (suc l + suc r - x)
  unfolding chain
  c_right x k = pick_no (dec_lt x (suc l)) (F.cl x) (F.cr (suc l + suc r - x)) k

  pub g_left : (x : ℕ) → x < suc l → gaps F l r x ≡ F.gl x
  unfolding gaps
  g_left x k = pick_yes (dec_lt x (suc l)) (F.gl x) (F.gr (l + suc r - x)) k

  pub g_right : (x : ℕ) → ¬ (x < suc l) → gaps F l r x ≡ F.gr (l + suc r - x)
  unfolding gaps
  g_right x k = pick_no (dec_lt x (suc l)) (F.gl x) (F.gr (l + suc r - x)) k

  -- b, from the left too
  pub c_left' : (x : ℕ) → x ≤ suc l → chain F l r x ≡ F.cl x
  c_left' x k = go (dec_lt x (suc l))
    where
      go : Dec (x < suc l) → chain F l r x ≡ F.cl x
      go (yes d) = c_left x d
      go (no d) = let e : x ≡ suc l = omega arith in c_right x d ∙ ap F.cr (less x e) ∙ sym b_same ∙ ap F.cl (sym e)
        where
          less : (x : ℕ) → x ≡ suc l → suc l + suc r - x ≡ suc r
          less x e = omega arith

  ch : Chains F (suc (suc n)) (suc l) (suc r) σ4
  ch = opn.chains

  idx : (x : ℕ) → ¬ (x < suc l) → x < suc l + suc r → l + suc r - x < suc r
  idx x d k = omega arith

  pub in_vt : (x : ℕ) → x < suc l + suc r → Gaps F.vt 0 (suc (suc (suc n))) (gaps F l r x)
  in_vt x k = go (dec_lt x (suc l))
    where
      go : Dec (x < suc l) → Gaps F.vt 0 (suc (suc (suc n))) (gaps F l r x)
      go (yes d) = subst (Gaps F.vt 0 (suc (suc (suc n)))) (sym (g_left x d)) (ch.l_in x d)
      go (no d) = subst (Gaps F.vt 0 (suc (suc (suc n)))) (sym (g_right x d)) (ch.r_in (l + suc r - x) (idx x d k))

  gap_top : (h : ℕ) → Gaps F.vt 0 (suc (suc (suc n))) h → (¬ (h ≡ PL)) × (¬ (h ≡ PR))
  gap_top h g = ((λ e. PL_vt (subst (Gaps F.vt 0 (suc (suc (suc n)))) e g)), (λ e. PR_vt (subst (Gaps F.vt 0 (suc (suc (suc n)))) e g)))

  -- the gaps' ends
  gap_org : (x : ℕ) → x < suc l + suc r → σ5.org (gaps F l r x) ≡ chain F l r (suc x)
  gap_org x k = let u = gap_top (gaps F l r x) (in_vt x k) in tops.org (gaps F l r x) u.0 u.1 ∙ go (dec_lt x (suc l))
    where
      go : Dec (x < suc l) → σ4.org (gaps F l r x) ≡ chain F l r (suc x)
      go (yes d) = ap σ4.org (g_left x d) ∙ ch.l_org x d ∙ sym (c_left' (suc x) d)
      go (no d) = ap σ4.org (g_right x d) ∙ ch.r_org (l + suc r - x) (idx x d k) ∙ ap F.cr (same x d k) ∙ sym (c_right (suc x) (λ e. d (omega arith)))
        where
          same : (x : ℕ) → ¬ (x < suc l) → x < suc l + suc r → l + suc r - x ≡ suc l + suc r - suc x
          same x d k = omega arith

  gap_dst : (x : ℕ) → x < suc l + suc r → σ5.dst (gaps F l r x) ≡ chain F l r x
  gap_dst x k = let u = gap_top (gaps F l r x) (in_vt x k) in tops.dst (gaps F l r x) u.0 u.1 ∙ go (dec_lt x (suc l))
    where
      go : Dec (x < suc l) → σ4.dst (gaps F l r x) ≡ chain F l r x
      go (yes d) = ap σ4.dst (g_left x d) ∙ ch.l_dst x d ∙ sym (c_left x d)
      go (no d) = ap σ4.dst (g_right x d) ∙ ch.r_dst (l + suc r - x) (idx x d k) ∙ ap F.cr (same x d k) ∙ sym (c_right x d)
        where
          same : (x : ℕ) → ¬ (x < suc l) → x < suc l + suc r → suc (l + suc r - x) ≡ suc l + suc r - x
          same x d k = omega arith

  gap_apart : (x y : ℕ) → x < suc l + suc r → y < suc l + suc r → gaps F l r x ≡ gaps F l r y → x ≡ y
  gap_apart x y i j q = go (dec_lt x (suc l)) (dec_lt y (suc l))
    where
      back : (x y : ℕ) → ¬ (x < suc l) → ¬ (y < suc l) → x < suc l + suc r → y < suc l + suc r → l + suc r - x ≡ l + suc r - y → x ≡ y
      back x y a b i j e = omega arith

      go : Dec (x < suc l) → Dec (y < suc l) → x ≡ y
      go (yes a) (yes b) = ch.l_apart x y a b (sym (g_left x a) ∙ q ∙ g_left y b)
      go (yes a) (no b) = absurd (ch.lr x (l + suc r - y) a (idx y b j) (sym (g_left x a) ∙ q ∙ g_right y b))
      go (no a) (yes b) = absurd (ch.lr y (l + suc r - x) b (idx x a i) (sym (g_left y b) ∙ sym q ∙ g_right x a))
      go (no a) (no b) = back x y a b i j (ch.r_apart (l + suc r - x) (l + suc r - y) (idx x a i) (idx y b j) (sym (g_right x a) ∙ q ∙ g_right y b))

  slot_real : (h : ℕ) → Slots F.slot 0 (suc n) h → h < 3 * t
  slot_real h s = subst (λ (k : ℕ). k < 3 * t) (sym s.is) (low (F.slot s.at) s.k (opn.core.slot_real s.at s.high) s.three)
    where
      low : (s k : ℕ) → s < t → k < 3 → 3 * s + k < 3 * t
      low s k i j = omega arith

  slot_was : (h : ℕ) → Slots F.slot 0 (suc n) h → Live σ h
  slot_was h s = til.live h (slot_real h s)

  no_slot : (p : ℕ) → Dead σ p → ¬ Slots F.slot 0 (suc n) p
  no_slot p d s = clash (slot_was p s) d

  top_dead : (p : ℕ) → Dead σ p → ¬ Gaps F.vt 0 (suc (suc (suc n))) p → Dead σ5 p
  top_dead p d g = tops.wrote.live p ∙ opn.core.live p (no_slot p d) g ∙ d

  pub opened : Opened W (chain F l r) (gaps F l r) F.slot (suc l) (suc l + suc r) n PL PR σ5
  opened = record {
    inv = wrote_inv W σ4 σ5 tops.wrote opn.core.inv;
    gap_live = λ h g. tops.wrote.live h ∙ opn.core.gap_live h (subst (Gaps F.vt 0 (suc (suc (suc n)))) (sym g.is) (in_vt g.at g.high));
    gap_apart = gap_apart;
    gap_org = gap_org;
    gap_dst = gap_dst;
    slot_dead = λ h s. tops.wrote.live h ∙ opn.core.slot_dead h s;
    slot_low = λ h s. til.inv.below h (slot_was h s);
    slot_apart = opn.core.slot_apart;
    left_dead = top_dead PL PL_dead PL_vt;
    left_low = PL_low;
    left_org = tops.left_org ∙ sym (c_left' (suc l) le_self);
    left_dst = tops.left_dst ∙ sym (c_left 0 (omega arith));
    left_out = no_slot PL PL_dead;
    right_dead = top_dead PR PR_dead PR_vt;
    right_low = PR_low;
    right_org = tops.right_org ∙ a_same ∙ sym (c_right (suc l + suc r) (λ e. omega arith) ∙ ap F.cr zero_is);
    right_dst = tops.right_dst ∙ sym (c_left' (suc l) le_self);
    right_out = no_slot PR PR_dead;
    two = two;
    closed = c_right (suc l + suc r) (λ e. omega arith) ∙ ap F.cr zero_is ∙ sym a_same ∙ sym (c_left 0 (omega arith));
  }
    where
      zero_is : suc l + suc r - (suc l + suc r) ≡ 0
      zero_is = omega arith

  -- ---- and closed

  module _ (q : ℕ) (σ6 σ7 σ8 σ9 : Net) (act : Closing Ccw (chain F l r) (gaps F l r) F.slot (suc l) (suc l + suc r) q n PL PR σ5 σ6 σ7 σ8 σ9) where
    cl : Closed W Ccw (gaps F l r) F.slot (suc l + suc r) n PL PR σ5 σ9
    cl = close W Ccw (chain F l r) (gaps F l r) F.slot (suc l) (suc l + suc r) q n PL PR σ5 σ6 σ7 σ8 σ9 opened act

    -- the edge from b to a is edge 0 of the last crossed triangle's slot
    pub recovered_edge : (σ9.org (3 * F.slot n) ≡ F.cl (suc l)) × (σ9.dst (3 * F.slot n) ≡ F.cl 0)
    recovered_edge =
        let e = close_edge W Ccw (chain F l r) (gaps F l r) F.slot (suc l) (suc l + suc r) q n PL PR σ5 σ6 σ7 σ8 σ9 opened act in
        (e.0 ∙ c_left' (suc l) le_self, e.1 ∙ c_left 0 (omega arith))

    -- and that slot is one of the t triangles'
    pub recovered_slot : 3 * F.slot n < 3 * t
    recovered_slot = let k = opn.core.slot_real n le_self in omega arith

    pub recovered_inv : Inv W σ9
    recovered_inv = cl.inv

    vt_dead : (h : ℕ) → Gaps F.vt 0 (suc (suc (suc n))) h → Dead σ h
    vt_dead h g = ap σ.live g.is ∙ til.dead g.at (let k = g.high in omega arith)

    -- each place where a gap was parked is one of the closed chain's
    vt_gap : (h : ℕ) → Gaps F.vt 0 (suc (suc (suc n))) h → Gaps (gaps F l r) 0 (suc l + suc r) h
    vt_gap h g = go (ch.onto g.at g.high)
      where
        go : Which F (suc l) (suc r) (F.vt g.at) → Gaps (gaps F l r) 0 (suc l + suc r) h
        go (is_left z k e) = record { at = z; low = omega arith; high = omega arith; is = g.is ∙ sym e ∙ sym (g_left z k) }
        go (is_right z k e) = record { at = l + suc r - z; low = omega arith; high = omega arith; is = g.is ∙ sym e ∙ ap F.gr (back z k) ∙ sym (g_right (l + suc r - z) (λ d. omega arith)) }
          where
            back : (z : ℕ) → z < suc r → z ≡ l + suc r - (l + suc r - z)
            back z k = omega arith

    same : (h : ℕ) → Live σ h → ¬ Slots F.slot 0 (suc n) h → σ9.live h ≡ σ.live h
    same h k s =
        cl.live h (not_same σ h PL k PL_dead) (not_same σ h PR k PR_dead) (λ g. clash k (vt_dead h (subst (Gaps F.vt 0 (suc (suc (suc n)))) (sym g.is) (in_vt g.at g.high)))) s ∙
        tops.wrote.live h ∙ opn.core.live h s (λ g. clash k (vt_dead h g))

    -- the live half-edges are those of before
    pub recovered_live : (h : ℕ) → h < 3 * t → Live σ9 h
    recovered_live h k = go (dec_slots F.slot (suc n) h)
      where
        go : Dec (Slots F.slot 0 (suc n) h) → Live σ9 h
        go (yes s) = cl.slot_live h s
        go (no s) = same h (til.live h k) s ∙ til.live h k

    pub recovered_low : ((h : ℕ) → Live σ h → h < 3 * t) → (h : ℕ) → Live σ9 h → h < 3 * t
    recovered_low low h k = go (dec_slots F.slot (suc n) h) (dec_gaps (gaps F l r) (suc l + suc r) h) (ℕ_discrete h PL) (ℕ_discrete h PR)
      where
        go : Dec (Slots F.slot 0 (suc n) h) → Dec (Gaps (gaps F l r) 0 (suc l + suc r) h) → Dec (h ≡ PL) → Dec (h ≡ PR) → h < 3 * t
        go (yes s) g a b = slot_real h s
        go (no s) (yes g) a b = clash k (cl.gap_dead h g)
        go (no s) (no g) (yes a) b = clash k (ap σ9.live a ∙ cl.left_dead)
        go (no s) (no g) (no a) (yes b) = clash k (ap σ9.live b ∙ cl.right_dead)
        go (no s) (no g) (no a) (no b) = low h (sym (cl.live h a b g s ∙ tops.wrote.live h ∙ opn.core.live h s (λ v. g (vt_gap h v))) ∙ k)

    pub recovered_tri : (s : ℕ) → s < t → Tri Ccw σ9 s
    recovered_tri s k = go (find_slot F.slot (suc n) s)
      where
        go : Dec ((y : ℕ) × (y < suc n) × (F.slot y ≡ s)) → Tri Ccw σ9 s
        go (yes w) = subst (Tri Ccw σ9) w.2 (cl.tri w.0 w.1)
        go (no w) = tri_same Ccw σ σ9 s (λ h d i e. org h d i e) (λ h d i e. dst h d i e) (til.tri s k)
          where
            was : (h d : ℕ) → d < 3 → h ≡ 3 * s + d → Live σ h
            was h d i e = til.live h (low h s d k i e)
              where
                low : (h s d : ℕ) → s < t → d < 3 → h ≡ 3 * s + d → h < 3 * t
                low h s d k i e = omega arith

            out : (h d : ℕ) → d < 3 → h ≡ 3 * s + d → ¬ Slots F.slot 0 (suc n) h
            out h d i e z = w (z.at, z.high, third (F.slot z.at) z.k d z.three i (sym z.is ∙ e))
              where
                third : (a k d : ℕ) → k < 3 → d < 3 → 3 * a + k ≡ 3 * s + d → a ≡ s
                third a k d i j e = omega arith

            org : (h d : ℕ) → d < 3 → h ≡ 3 * s + d → σ9.org h ≡ σ.org h
            org h d i e = cl.org h (out h d i e) ∙ tops.org h (not_same σ h PL (was h d i e) PL_dead) (not_same σ h PR (was h d i e) PR_dead)
                ∙ opn.core.org h (λ g. clash (was h d i e) (vt_dead h g))

            dst : (h d : ℕ) → d < 3 → h ≡ 3 * s + d → σ9.dst h ≡ σ.dst h
            dst h d i e = cl.dst h (out h d i e) ∙ tops.dst h (not_same σ h PL (was h d i e) PL_dead) (not_same σ h PR (was h d i e) PR_dead)
                ∙ opn.core.dst h (λ g. clash (was h d i e) (vt_dead h g))

-- ---- in one: the walk to b, the filling of both sides, and a tiling again

module _ (pts : ℕ → Pt ℤ) (base : Side → Pt ℤ) (N : ℕ) (must : ℕ → ℕ → Type 0) (point : ℕ → Type 0) (F : Figure) (t cap n l r PL PR : ℕ) (σ σ' : Net)
    (til : Tiled (world pts base N must point) (CcwP pts) F.vt t cap σ) (low : (h : ℕ) → Live σ h → h < 3 * t) (fits : suc (suc n) < cap)
    (a_same : F.cl 0 ≡ F.cr 0) (b_same : F.cl (suc l) ≡ F.cr (suc r)) (room : Room (world pts base N must point) F.vt n PL PR σ)
    (rec : Recovery (CcwP pts) F t n l r PL PR σ σ') where
  pub opened_net : Open (world pts base N must point) F t n l r σ rec.σ4
  opened_net =
      arrive (world pts base N must point) (CcwP pts) F t cap σ til n l r rec.x rec.f rec.g rec.σ1 rec.σ2 rec.σ3 rec.σ4
      (walk_strip (world pts base N must point) (CcwP pts) F t cap til (omega arith) rec.walk) fits rec.arrive

  -- the invariant, with the pairs that must be marked and the points that must be corners
  pub recovery_inv : Inv (world pts base N must point) σ'
  recovery_inv = recovered_inv (world pts base N must point) (CcwP pts) F t cap σ til n l r fits rec.σ4 opened_net PL PR rec.σ5 a_same b_same
      rec.tops room.PL_dead room.PR_dead room.PL_vt room.PR_vt room.PL_low room.PR_low room.two rec.q rec.σ6 rec.σ7 rec.σ8 σ' rec.closing

  pub recovery_whole : Whole pts base t σ'
  recovery_whole = record {
    live = recovered_live (world pts base N must point) (CcwP pts) F t cap σ til n l r fits rec.σ4 opened_net PL PR rec.σ5 a_same b_same
        rec.tops room.PL_dead room.PR_dead room.PL_vt room.PR_vt room.PL_low room.PR_low room.two rec.q rec.σ6 rec.σ7 rec.σ8 σ' rec.closing;
    low = recovered_low (world pts base N must point) (CcwP pts) F t cap σ til n l r fits rec.σ4 opened_net PL PR rec.σ5 a_same b_same
        rec.tops room.PL_dead room.PR_dead room.PL_vt room.PR_vt room.PL_low room.PR_low room.two rec.q rec.σ6 rec.σ7
        rec.σ8 σ' rec.closing low;
    tri = recovered_tri (world pts base N must point) (CcwP pts) F t cap σ til n l r fits rec.σ4 opened_net PL PR rec.σ5 a_same b_same
        rec.tops room.PL_dead room.PR_dead room.PL_vt room.PR_vt room.PL_low room.PR_low room.two rec.q rec.σ6 rec.σ7 rec.σ8 σ' rec.closing;
  }

  -- the demanded edge
  pub recovery_edge : Edge σ' (F.cl (suc l)) (F.cl 0)
  recovery_edge =
      let e = recovered_edge (world pts base N must point) (CcwP pts) F t cap σ til n l r fits rec.σ4 opened_net PL PR rec.σ5 a_same b_same
      rec.tops room.PL_dead room.PR_dead room.PL_vt room.PR_vt room.PL_low room.PR_low room.two rec.q rec.σ6
      rec.σ7 rec.σ8 σ' rec.closing in
      record {
        at = 3 * F.slot n;
        live = recovery_whole.live (3 * F.slot n)
            (recovered_slot (world pts base N must point) (CcwP pts) F t cap σ til n l r fits rec.σ4 opened_net PL PR rec.σ5 a_same b_same
            rec.tops room.PL_dead room.PR_dead room.PL_vt room.PR_vt room.PL_low room.PR_low room.two rec.q rec.σ6
            rec.σ7 rec.σ8 σ' rec.closing);
        org = e.0;
        dst = e.1;
      }

  -- RECOVERY KEEPS THE TILING
  pub recovery_covers : 3 * t ≤ N → Pos (area_of_base base) → Covers (mesh_of pts base t σ')
  recovery_covers k b = net_covers pts base t N must point σ' k b recovery_whole recovery_inv

  -- as many triangles crossed as corners met, and as many new ones
  pub recovery_count : suc n ≡ l + r
  recovery_count = walk_count F t rec.walk
