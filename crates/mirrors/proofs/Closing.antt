-- Both fillings of an open cavity and the move of the right root to the place above the left one are the model's closing. Assumes nothing.
use mathlib.Core.List.{List}
use mathlib.Core.Path.{◌≡◌, refl, sym, ◌∙◌, subst}
use mathlib.Core.Bool.{true}
use Prim.Native.Nat.{ℕ, suc, ◌+◌, ◌*◌, ◌≤◌, ◌<◌}
use native.Mathlib.Decide.{dec_lt}
use native.Mathlib.Omega.{arith}
use lib.IntN.{ℤ}
use lib.ListN.{length}
use Rattle.plane.specs.Points.{Pt}
use Rattle.cavities.specs.Changes.{Dropped, Moved}
use Rattle.cavities.specs.Closings.{Opened, Closing}
use Rattle.cavities.specs.Fillings.{Fill, Ready, Done}
use Rattle.cavities.specs.Leaves.{park_net}
use Rattle.cavities.specs.Nets.{Net, Live, World, Inv}
use Rattle.cavities.specs.Tilings.{CcwP}
use Rattle.cavities.proofs.Close.{left_ready, right_ready, org2, dst2, root_org, root_dst, not_root, inv3, live3}
use Rattle.cavities.proofs.Fill.{fill_done, fill_top, fill_part}
use Rattle.cavities.proofs.Leaves.{parks, drops}
use Rattle.cavities.proofs.Run.{moves}
use Rattle.chains.specs.Areas.{move_w}
use Rattle.chains.specs.Fillings.{FillW}
use Rattle.mirrors.specs.Models.{Ghost, model_of, park_g, drop_g}
use Rattle.mirrors.proofs.Filling.{fill_ends}
use Rattle.mirrors.proofs.Memory.{model_move, model_drop, adj_back, adj_fits}
use Rattle.mirrors.proofs.Sides.{Shift, Filled, one_side}

-- ---- the root

module _ (P : ℕ → Pt ℤ) (W : World) (n : ℕ) (bound : W.bound ≤ 12 * n) (c gp slot : ℕ → ℕ) (N m q r PL PR : ℕ) (σ σ1 : Net)
    (opn : Opened W c gp slot N m r PL PR σ) (qr : q ≤ r) (two : ¬ (c N ≡ c 0)) (w : List ℕ) (G : Ghost) (long : 64 * n ≤ length w)
    (f : Fill (CcwP P) c gp slot 0 N 0 q PL σ σ1) (g : Fill (CcwP P) c gp slot N m q (suc r) PR σ1 (model_of n w G)) (s_low : slot r < 2 * n) where
  σ2 : Net
  σ2 = model_of n w G

  nm : N < m
  nm = fill_part (CcwP P) c gp slot g

  dl : Done W (CcwP P) gp slot 0 N 0 q PL σ σ1
  dl = fill_done W (CcwP P) c gp slot f (left_ready W (CcwP P) c gp slot N m q r PL PR σ opn qr nm)

  dr : Done W (CcwP P) gp slot N m q (suc r) PR σ1 σ2
  unfolding σ2
  dr = fill_done W (CcwP P) c gp slot g (right_ready W (CcwP P) c gp slot N m q r PL PR σ opn qr nm σ1 dl)

  top : (σ2.has PR ≡ true) × (σ2.mate PR ≡ 3 * slot r) × (σ2.mark PR ≡ 0)
  unfolding σ2
  top = fill_top (CcwP P) c gp slot g r refl qr

  H : Ghost
  H = drop_g G PR (3 * slot r)

  σ3 : Net
  σ3 = model_of n w H

  drop : Dropped σ2 σ3 PR (3 * slot r)
  unfolding σ2 σ3 H
  drop =
      subst (λ (τ : Net). Dropped (model_of n w G) τ PR (3 * slot r)) (sym (model_drop n w G PR (3 * slot r)))
      (drops (model_of n w G) PR (3 * slot r) (not_root W (CcwP P) c gp slot N m q r PL PR σ opn qr nm σ1 dl (model_of n w G) dr top PR opn.right_out))

  inv : Inv W σ3
  inv = inv3 W (CcwP P) c gp slot N m q r PL PR σ opn qr nm σ1 dl σ2 dr top σ3 drop

  lo : Live σ3 PL
  lo = live3 W (CcwP P) c gp slot N m q r PL PR σ opn qr nm σ1 dl σ2 dr top σ3 drop

  org_l : σ3.org PL ≡ c N
  org_l = (drop.same PL).org ∙ org2 W (CcwP P) c gp slot N m q r PL PR σ opn qr nm σ1 dl σ2 dr top PL opn.left_out ∙ opn.left_org

  dst_l : σ3.dst PL ≡ c 0
  dst_l = (drop.same PL).dst ∙ dst2 W (CcwP P) c gp slot N m q r PL PR σ opn qr nm σ1 dl σ2 dr top PL opn.left_out ∙ opn.left_dst

  same_org : σ3.org (3 * slot r) ≡ σ3.org PL
  same_org = (drop.same (3 * slot r)).org ∙ root_org W (CcwP P) c gp slot N m q r PL PR σ opn qr nm σ1 dl σ2 dr top ∙ sym org_l

  same_dst : σ3.dst (3 * slot r) ≡ σ3.dst PL
  same_dst = (drop.same (3 * slot r)).dst ∙ root_dst W (CcwP P) c gp slot N m q r PL PR σ opn qr nm σ1 dl σ2 dr top ∙ sym dst_l

  is : model_of n (move_w w PL (3 * slot r)) (park_g n w H PL (3 * slot r)) ≡ park_net σ3 PL (3 * slot r)
  unfolding σ3 model_of
  is =
      model_move n w PL (3 * slot r) long (let l = s_low in omega arith) (let l = adj_fits W n w H inv PL lo in omega arith) (adj_back W n w H inv PL lo) H (λ _. same_org) (λ _. same_dst)

  moved : Moved σ3 (model_of n (move_w w PL (3 * slot r)) (park_g n w H PL (3 * slot r))) PL (3 * slot r)
  moved =
      subst (λ (τ : Net). Moved σ3 τ PL (3 * slot r)) (sym is)
      (moves σ3 (park_net σ3 PL (3 * slot r)) PL (3 * slot r) same_org same_dst (parks W σ3 PL (3 * slot r) inv lo drop.dead_y (λ e. two (sym org_l ∙ e ∙ dst_l))))

  pub shut_ghost : Ghost
  shut_ghost = park_g n w H PL (3 * slot r)

  pub shut_net : Net
  shut_net = σ3

  -- the right root takes the place above the left one
  pub shut : Closing (CcwP P) c gp slot N m q r PL PR σ σ1 (model_of n w G) shut_net (model_of n (move_w w PL (3 * slot r)) shut_ghost)
  unfolding σ2 shut_ghost shut_net
  shut = record { left = f; right = g; some = qr; drop = drop; move = moved }

-- ---- both sides

pub record Shut (P : ℕ → Pt ℤ) (c gp slot : ℕ → ℕ) (N m q r PL PR n : ℕ) (σ : Net) (w' : List ℕ) : Type 0 where
  pub σ1 : Net
  pub σ2 : Net
  pub σ3 : Net
  pub ghost : Ghost
  pub closing : Closing (CcwP P) c gp slot N m q r PL PR σ σ1 σ2 σ3 (model_of n w' ghost)

module _ (P : ℕ → Pt ℤ) (W : World) (n : ℕ) (bound : W.bound ≤ 12 * n) (c gp slot ch slot' : ℕ → ℕ) (l r k d PL PR : ℕ) (count : suc k ≡ l + r)
    (some_l : 0 < l) (some_r : 0 < r) (sl : Shift c gp slot ch (λ x. 6 * n + x) slot' 0 0 (suc l) 0 l)
    (sr : Shift c gp slot ch (λ x. 6 * n + x) slot' d (suc l) (suc l + suc r) l (suc k)) (low : (y : ℕ) → y < suc k → slot y < 2 * n)
    (w w1 w2 : List ℕ) (G : Ghost) (long : 64 * n ≤ length w) (opn : Opened W c gp slot (suc l) (suc l + suc r) k PL PR (model_of n w G))
    (fl : FillW P (6 * n) ch slot' (0 + 0) (0 + suc l) 0 l PL w w1) (fr : FillW P (6 * n) ch slot' (d + suc l) (d + (suc l + suc r)) l (suc k) PR w1 w2) where
  lk : l ≤ k
  lk = omega arith

  span : suc l < suc l + suc r
  span = omega arith

  two_l : ¬ (ch (0 + suc l) ≡ ch (0 + 0))
  two_l = fill_ends P fl (omega arith)

  two_r : ¬ (ch (d + (suc l + suc r)) ≡ ch (d + suc l))
  two_r = fill_ends P fr (omega arith)

  left' : Ready W c gp slot 0 (suc l) 0 l PL (model_of n w G)
  left' = left_ready W (CcwP P) c gp slot (suc l) (suc l + suc r) l k PL PR (model_of n w G) opn lk span

  low_l : (y : ℕ) → y < l → slot' y < 2 * n
  low_l y h = subst (λ (u : ℕ). u < 2 * n) (sym (sl.slots y (omega arith) h)) (low y (let e = lk in omega arith))

  low_r : (y : ℕ) → y < suc k → slot' y < 2 * n
  low_r y h = go (dec_lt y l)
    where
      go : Dec (y < l) → slot' y < 2 * n
      go (yes b) = low_l y b
      go (no b) = subst (λ (u : ℕ). u < 2 * n) (sym (sr.slots y (omega arith) h)) (low y h)

  a : Filled P c gp slot n 0 (suc l) 0 l PL w w1 G
  a = one_side P W n bound c gp slot ch slot' 0 0 (suc l) 0 l PL w w1 G sl low_l two_l long fl left'

  long1 : 64 * n ≤ length w1
  long1 = rw a.long long

  b : Filled P c gp slot n (suc l) (suc l + suc r) l (suc k) PR w1 w2 a.ghost
  b =
      one_side P W n bound c gp slot ch slot' d (suc l) (suc l + suc r) l (suc k) PR w1 w2 a.ghost sr low_r two_r long1 fr
      (right_ready W (CcwP P) c gp slot (suc l) (suc l + suc r) l k PL PR (model_of n w G) opn lk span (model_of n w1 a.ghost) (fill_done W (CcwP P) c gp slot a.fill left'))

  long2 : 64 * n ≤ length w2
  long2 = rw b.long long1

  s_low' : slot k < 2 * n
  s_low' = low k (omega arith)

  two : ¬ (c (suc l) ≡ c 0)
  two e = two_l (sl.corner (suc l) (omega arith) (omega arith) ∙ e ∙ sym (sl.corner 0 (omega arith) (omega arith)))

  -- THE CODE'S TWO FILLINGS AND ITS LAST MOVE ARE THE MODEL'S CLOSING
  pub closes : Shut P c gp slot (suc l) (suc l + suc r) l k PL PR n (model_of n w G) (move_w w2 PL (3 * slot k))
  closes = record {
    σ1 = model_of n w1 a.ghost;
    σ2 = model_of n w2 b.ghost;
    σ3 = shut_net P W n bound c gp slot (suc l) (suc l + suc r) l k PL PR (model_of n w G) (model_of n w1 a.ghost) opn lk two w2 b.ghost long2 a.fill b.fill s_low';
    ghost = shut_ghost P W n bound c gp slot (suc l) (suc l + suc r) l k PL PR (model_of n w G) (model_of n w1 a.ghost) opn lk two w2 b.ghost long2 a.fill b.fill s_low';
    closing = shut P W n bound c gp slot (suc l) (suc l + suc r) l k PL PR (model_of n w G) (model_of n w1 a.ghost) opn lk two w2 b.ghost long2 a.fill b.fill s_low';
  }
