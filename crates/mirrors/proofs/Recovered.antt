-- From the model's walk and the code's closing to the model's recovery, and the model's net read back from the area. Assumes nothing.
use mathlib.Core.Bool.{Bool, false, cond}
use mathlib.Core.List.{List}
use mathlib.Core.Path.{◌≡◌, refl, sym, ap, ◌∙◌, subst}
use Prim.Native.Nat.{ℕ, zero, suc, ◌+◌, ◌-◌, ◌*◌, ◌≤◌, ◌<◌}
use native.Mathlib.Omega.{arith}
use borrow.Author.Tests.{lt-ltb}
use lib.Dec.{ltb}
use lib.IntN.{ℤ}
use lib.ListN.{length}
use Rattle.plane.specs.Halfedges.{nxt}
use Rattle.plane.specs.Points.{Pt}
use Rattle.nets.specs.Layout.{net_of}
use Rattle.cavities.specs.Closings.{Opened}
use Rattle.cavities.specs.Corridors.{Figure, Walk, start, left, right, Arrive, Tiled, Strip, Open}
use Rattle.cavities.specs.Fillings.{Slots}
use Rattle.cavities.specs.Nets.{Net, Live, World}
use Rattle.cavities.specs.Recovery.{chain, gaps, Room, Tops}
use Rattle.cavities.specs.Tilings.{CcwP}
use Rattle.cavities.proofs.Recover.{opened, c_left', c_right, g_left, g_right}
use Rattle.cavities.proofs.Walk.{walk_strip, walk_count, arrive}
use Rattle.cavities.proofs.Net.{clash}
use Rattle.bridges.specs.Images.{has_mate, Reads}
use Rattle.chains.specs.Areas.{org, adj, chain_of, slot_of, move_w}
use Rattle.chains.specs.Fillings.{FillW}
use Rattle.chains.specs.Recoveries.{ClosedW}
use Rattle.mirrors.specs.Models.{Ghost, model_of, ends_g}
use Rattle.mirrors.specs.Recovered.{Laid, Mirrored}
use Rattle.mirrors.proofs.Closing.{Shut, closes}
use Rattle.mirrors.proofs.Memory.{model_tops, has_suc}
use Rattle.mirrors.proofs.Sides.{Shift}

-- both chains start at a
pub walk_starts : {F : Figure} {t k l r x : ℕ} {σ σ' : Net} → Walk F t k l r x σ σ' → F.cl 0 ≡ F.cr 0
walk_starts (start th s a b e f g h i j p q) = sym a ∙ b
walk_starts (left w a b c d e f g h i) = walk_starts w
walk_starts (right w a b c d e f g h i) = walk_starts w

module _ (P : ℕ → Pt ℤ) (W : World) (F : Figure) (t cap : ℕ) (σ : Net) (til : Tiled W (CcwP P) F.vt t cap σ)
    (n k l r : ℕ) (fits : suc (suc k) < cap) (bound : W.bound ≤ 12 * n) (few : t ≤ 2 * n) (less : l + r + 3 ≤ 2 * n) (room : Room W F.vt k (8 * n) (8 * n + 1) σ)
    (w w' : List ℕ) (G : Ghost) (long : 64 * n ≤ length w) (laid : Laid n w F l r)
    (x f g : ℕ) (σ1 σ2 σ3 : Net) (walk : Walk F t k l r x σ σ1) (arr : Arrive F t k l r x f g σ1 σ2 σ3 (model_of n w G)) (closed : ClosedW P n w l r w') where
  a_same : F.cl 0 ≡ F.cr 0
  a_same = walk_starts walk

  b_same : F.cl (suc l) ≡ F.cr (suc r)
  b_same = sym arr.b_left ∙ arr.b_right

  count : suc k ≡ l + r
  count = walk_count F t walk

  strip : Strip W F t k l r x σ σ1
  strip = walk_strip W (CcwP P) F t cap til (omega arith) walk

  opn : Open W F t k l r σ (model_of n w G)
  opn = arrive W (CcwP P) F t cap σ til k l r x f g σ1 σ2 σ3 (model_of n w G) strip fits arr

  -- the two half-edges above the roots are free, and get their ends
  out : (h : ℕ) → 6 * n ≤ h → ¬ Slots F.slot 0 (suc k) h
  out h l y = let s = opn.core.slot_real y.at y.high in none (F.slot y.at) y.k s y.three y.is
    where
      none : (s j : ℕ) → s < t → j < 3 → h ≡ 3 * s + j → ⊥
      none s j a b e = omega arith

  dead_left : G.live (8 * n) ≡ false
  unfolding model_of
  dead_left = opn.core.live (8 * n) (out (8 * n) (omega arith)) room.PL_vt ∙ room.PL_dead

  dead_right : G.live (8 * n + 1) ≡ false
  unfolding model_of
  dead_right = opn.core.live (8 * n + 1) (out (8 * n + 1) (omega arith)) room.PR_vt ∙ room.PR_dead

  H : Ghost
  H = ends_g (ends_g G (8 * n) (F.cl (suc l)) (F.cl 0)) (8 * n + 1) (F.cl 0) (F.cl (suc l))

  σ5 : Net
  σ5 = model_of n w H

  tops : Tops (model_of n w G) σ5 (8 * n) (8 * n + 1) (F.cl 0) (F.cl (suc l))
  unfolding σ5 H
  tops = model_tops n w G (F.cl 0) (F.cl (suc l)) dead_left dead_right

  open5 : Opened W (chain F l r) (gaps F l r) F.slot (suc l) (suc l + suc r) k (8 * n) (8 * n + 1) σ5
  open5 = opened W (CcwP P) F t cap σ til k l r fits (model_of n w G) opn (8 * n) (8 * n + 1) σ5 a_same b_same tops
      room.PL_dead room.PR_dead room.PL_vt room.PR_vt room.PL_low room.PR_low room.two

  -- the closed chain of the model is that of the code
  corner_left : (z : ℕ) → z ≤ suc l → chain F l r z ≡ F.cl z
  corner_left = c_left' W (CcwP P) F t cap σ til k l r fits (model_of n w G) opn (8 * n) (8 * n + 1) σ5 a_same b_same tops
      room.PL_dead room.PR_dead room.PL_vt room.PR_vt room.PL_low room.PR_low room.two

  corner_right : (z : ℕ) → ¬ (z < suc l) → chain F l r z ≡ F.cr (suc l + suc r - z)
  corner_right = c_right W (CcwP P) F t cap σ til k l r fits (model_of n w G) opn (8 * n) (8 * n + 1) σ5 a_same b_same tops
      room.PL_dead room.PR_dead room.PL_vt room.PR_vt room.PL_low room.PR_low room.two

  gap_left : (z : ℕ) → z < suc l → gaps F l r z ≡ F.gl z
  gap_left = g_left W (CcwP P) F t cap σ til k l r fits (model_of n w G) opn (8 * n) (8 * n + 1) σ5 a_same b_same tops
      room.PL_dead room.PR_dead room.PL_vt room.PR_vt room.PL_low room.PR_low room.two

  gap_right : (z : ℕ) → ¬ (z < suc l) → gaps F l r z ≡ F.gr (l + suc r - z)
  gap_right = g_right W (CcwP P) F t cap σ til k l r fits (model_of n w G) opn (8 * n) (8 * n + 1) σ5 a_same b_same tops
      room.PL_dead room.PR_dead room.PL_vt room.PR_vt room.PL_low room.PR_low room.two

  d : ℕ
  d = 2 * n - 2 - r - suc l

  d_is : d + (l + r + 3) ≡ 2 * n
  unfolding d
  d_is = omega arith

  on_left : Shift (chain F l r) (gaps F l r) F.slot (chain_of n w) (λ z. 6 * n + z) (slot_of n w) 0 0 (suc l) 0 l
  on_left = record {
    corner = λ z a b. ap (chain_of n w) (let e : 0 + z ≡ z = omega arith in e) ∙ laid.left z b ∙ sym (corner_left z b);
    gaps = λ z a b. ap (λ (u : ℕ). 6 * n + u) (let e : 0 + z ≡ z = omega arith in e) ∙ sym (laid.left_gap z (omega arith)) ∙ sym (gap_left z b);
    slots = λ y a b. laid.slots y (omega arith);
  }

  on_right : Shift (chain F l r) (gaps F l r) F.slot (chain_of n w) (λ z. 6 * n + z) (slot_of n w) d (suc l) (suc l + suc r) l (suc k)
  on_right = record {
    corner = λ z a b. ap (chain_of n w) (place z b) ∙ laid.right (suc l + suc r - z) (omega arith) ∙ sym (corner_right z (omega arith));
    gaps = λ z a b. ap (λ (u : ℕ). 6 * n + u) (place' z b) ∙ sym (laid.right_gap (l + suc r - z) (omega arith)) ∙ sym (gap_right z (omega arith));
    slots = λ y a b. laid.slots y (let e = count in omega arith);
  }
    where
      place : (z : ℕ) → z ≤ suc l + suc r → d + z ≡ 2 * n - 1 - (suc l + suc r - z)
      place z b = let e = d_is in omega arith

      place' : (z : ℕ) → z < suc l + suc r → d + z ≡ 2 * n - 2 - (l + suc r - z)
      place' z b = let e = d_is in omega arith

  low : (y : ℕ) → y < suc k → F.slot y < 2 * n
  low y h = let s = opn.core.slot_real y h in omega arith

  fill_left : FillW P (6 * n) (chain_of n w) (slot_of n w) (0 + 0) (0 + suc l) 0 l (8 * n) w closed.w1
  fill_left = subst (λ (j : ℕ). FillW P (6 * n) (chain_of n w) (slot_of n w) 0 j 0 l (8 * n) w closed.w1) (let e : l + 1 ≡ 0 + suc l = omega arith in e) closed.left

  fill_right : FillW P (6 * n) (chain_of n w) (slot_of n w) (d + suc l) (d + (suc l + suc r)) l (suc k) (8 * n + 1) closed.w1 closed.w2
  fill_right =
      subst (λ (q : ℕ). FillW P (6 * n) (chain_of n w) (slot_of n w) (d + suc l) (d + (suc l + suc r)) l q (8 * n + 1) closed.w1 closed.w2) (sym count)
      (subst (λ (j : ℕ). FillW P (6 * n) (chain_of n w) (slot_of n w) (d + suc l) j l (l + r) (8 * n + 1) closed.w1 closed.w2)
      (let a = d_is in let e : 2 * n - 1 ≡ d + (suc l + suc r) = omega arith in e)
      (subst (λ (i : ℕ). FillW P (6 * n) (chain_of n w) (slot_of n w) i (2 * n - 1) l (l + r) (8 * n + 1) closed.w1 closed.w2)
      (let a = d_is in let e : 2 * n - 2 - r ≡ d + suc l = omega arith in e) closed.right))

  shuts : Shut P (chain F l r) (gaps F l r) F.slot (suc l) (suc l + suc r) l k (8 * n) (8 * n + 1) n σ5 (move_w closed.w2 (8 * n) (3 * F.slot k))
  unfolding σ5
  shuts =
      closes P W n bound (chain F l r) (gaps F l r) F.slot (chain_of n w) (slot_of n w) l r k d (8 * n) (8 * n + 1) count strip.exit.some_left strip.exit.some_right on_left on_right low
      w closed.w1 closed.w2 H long open5 fill_left fill_right

  last : w' ≡ move_w closed.w2 (8 * n) (3 * F.slot k)
  last = closed.root ∙ ap (λ (s : ℕ). move_w closed.w2 (8 * n) (3 * s)) (ap (slot_of n w) (let c = count in let e : l + r - 1 ≡ k = omega arith in e) ∙ laid.slots k (let c = count in omega arith))

  -- THE CODE'S RECOVERY IS THE MODEL'S
  pub mirrored : Mirrored P n t F k l r σ w'
  mirrored = subst (Mirrored P n t F k l r σ) (sym last) (record {
    ghost = shuts.ghost;
    recovery = record {
      x = x;
      f = f;
      g = g;
      q = l;
      σ1 = σ1;
      σ2 = σ2;
      σ3 = σ3;
      σ4 = model_of n w G;
      σ5 = σ5;
      σ6 = shuts.σ1;
      σ7 = shuts.σ2;
      σ8 = shuts.σ3;
      walk = walk;
      arrive = arr;
      tops = tops;
      closing = shuts.closing;
    };
  })

-- ---- read back

has_none : (m : ℕ) → has_mate m ≡ false → m ≡ 0
has_none zero e = refl
has_none (suc m) e = clash refl e

-- where exactly the half-edges of the triangles are live, the net of the area is what the model's net says
pub model_reads : (n t : ℕ) (w : List ℕ) (G : Ghost) → t ≤ 2 * n → ((h : ℕ) → h < 3 * t → Live (model_of n w G) h) → ((h : ℕ) → Live (model_of n w G) h → h < 3 * t) → Reads (net_of w t) (model_of n w G)
unfolding model_of net_of
model_reads n t w G few live low = record {
  live = live;
  low = low;
  org = λ h l. below h l (org w h) (G.from h);
  dst = λ h l. below h l (org w (nxt h)) (G.to h);
  mark = λ h l. refl;
  mated = λ h l e. has_suc (adj w h) e;
  bare = λ h l e. has_none (adj w h) e;
}
  where
    below : (h : ℕ) → h < 3 * t → (a b : ℕ) → cond (ltb h (6 * n)) a b ≡ a
    below h l a b = ap (λ (x : Bool). cond x a b) (lt-ltb h (6 * n) (omega arith))
