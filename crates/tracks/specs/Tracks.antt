-- The walk of the working area as the walk of the model of recovery: the figure of the walk, read from the area after it, and the theorems
-- of this crate, which are proved in proofs/. Definitions only.
use Rattle.std.specs.Prelude.{Ok, Err, Bool, cond, not, List, ◌≡◌, ℕ, zero, suc, ◌+◌, ◌-◌, ◌*◌, ◌≤◌, ◌<◌, ℤ, neg_ℤ, length}
use Rattle.algebra.specs.Order.{Pos}
use Rattle.plane.specs.Base.{Side}
use Rattle.plane.specs.Determinants.{orient}
use Rattle.plane.specs.Points.{Pt}
use Rattle.nets.specs.Layout.{net_of}
use Rattle.nets.specs.Tilings.{Tiling}
use Rattle.cavities.specs.Corridors.{Figure, Walk, Arrive}
use Rattle.cavities.specs.Nets.{Net as Model}
use Rattle.bridges.specs.Images.{image}
use Rattle.bridges.specs.Bridges.{Places}
use Rattle.chains.specs.Areas.{chain_of, slot_of, Room}
use Rattle.chains.specs.Recoveries.{begin_w, SidesW}
use Rattle.chains.specs.Sticking.{Leaves, Sticks}
use Rattle.chains.specs.Walks.{Walks}
use Rattle.chains.specs.declared.Reason.{Reason}
use Rattle.mirrors.specs.Models.{Ghost, model_of}

-- The gaps are parked one after another, some on the left and some on the right. Here s k says whether the k-th one is parked on the left,
-- and this is how many of the first k are.
unfoldable pub count : (ℕ → Bool) → ℕ → ℕ
count s zero = 0
count s (suc k) = cond (s k) (suc (count s k)) (count s k)

-- the others
unfoldable pub other : (ℕ → Bool) → ℕ → Bool
other s k = not (s k)

-- the half-edge at which the k-th gap is parked: from 6 n up on the left, and from 8 n - 2 down on the right
unfoldable pub place : ℕ → (ℕ → Bool) → ℕ → ℕ
place n s k = cond (s k) (6 * n + count s k) (6 * n + (2 * n - 2 - count (other s) k))

-- The figure of the walk from a to b that the area w holds after it.
abbrev pub figure : (P : ℕ → Pt ℤ) (n a b : ℕ) → ((p : ℕ) → Pos (orient (P a) (P b) (P p)) → Pos (neg_ℤ (orient (P a) (P b) (P p))) → ⊥) → List ℕ → (ℕ → Bool) → Figure
figure P n a b apart w s = record {
  Left = λ p. Pos (orient (P a) (P b) (P p));
  Right = λ p. Pos (neg_ℤ (orient (P a) (P b) (P p)));
  apart = apart;
  slot = slot_of n w;
  vt = place n s;
  cl = chain_of n w;
  cr = λ z. chain_of n w (2 * n - 1 - z);
  gl = λ z. 6 * n + z;
  gr = λ z. 6 * n + (2 * n - 2 - z);
}

-- What the walk leaves where it meets b, w the area before it and w1 the one after it: the model's walk over l + r - 1 triangles and its last
-- triangle, and the places that a recovery asks for.
pub record Track (P : ℕ → Pt ℤ) (B : Side → Pt ℤ) (n t a b : ℕ) (w : List ℕ) (l r : ℕ) (w1 : List ℕ) : Type 0 where
  pub apart : (p : ℕ) → Pos (orient (P a) (P b) (P p)) → Pos (neg_ℤ (orient (P a) (P b) (P p))) → ⊥
  pub turns : ℕ → Bool
  pub ghost : Ghost
  pub x : ℕ
  pub f : ℕ
  pub g : ℕ
  pub σ1 : Model
  pub σ2 : Model
  pub σ3 : Model
  pub some_left : 1 ≤ l
  pub some_right : 1 ≤ r
  pub few : l + r ≤ t
  pub long : 64 * n ≤ length w1
  pub walk : Walk (figure P n a b apart w1 turns) t (l + r - 1) l r x (image P B (net_of w t)) σ1
  pub arrive : Arrive (figure P n a b apart w1 turns) t (l + r - 1) l r x f g σ1 σ2 σ3 (model_of n w1 ghost)
  pub places : Places (8 * n + 2) (figure P n a b apart w1 turns) t (t + 3) (l + r - 1) l r (8 * n) (8 * n + 1)
  -- both chains lead from a to b
  pub left_from : chain_of n w1 0 ≡ a
  pub right_from : chain_of n w1 (2 * n - 1) ≡ a
  pub left_to : chain_of n w1 (suc l) ≡ b
  pub right_to : chain_of n w1 (2 * n - 2 - r) ≡ b
  -- the crossed slots are different triangles
  pub slot_low : (y : ℕ) → y < l + r → slot_of n w1 y < t
  pub slot_apart : (y z : ℕ) → y < l + r → z < l + r → slot_of n w1 y ≡ slot_of n w1 z → y ≡ z

-- THE WALK OF THE CODE IS THE WALK OF THE MODEL.
abbrev pub Tracks : Type 0
Tracks =
    (P : ℕ → Pt ℤ) (B : Side → Pt ℤ) (k n t a b : ℕ) (w : List ℕ) (x l r : ℕ) (w1 : List ℕ) →
    Tiling P B k (net_of w t) → Room n t w → Leaves P (net_of w t) a b x →
    Walks P n t a b (begin_w n w a x) 1 1 x (Ok (l, r)) w1 → Track P B n t a b w l r w1

-- WHERE THE WALK STICKS, DOCUMENT 01'S STEP 4 STICKS, told of the net before it,
abbrev pub SticksOnWay : Type 0
SticksOnWay =
    (P : ℕ → Pt ℤ) (B : Side → Pt ℤ) (k n t a b : ℕ) (w : List ℕ) (x : ℕ) (e : Reason) (w1 : List ℕ) →
    Tiling P B k (net_of w t) → Room n t w → Leaves P (net_of w t) a b x →
    Walks P n t a b (begin_w n w a x) 1 1 x (Err e) w1 → Sticks P (net_of w t) a b

-- and so it does where an apex over a side of the cavity is not strictly left of its base.
abbrev pub SticksAtApex : Type 0
SticksAtApex =
    (P : ℕ → Pt ℤ) (B : Side → Pt ℤ) (k n t a b : ℕ) (w : List ℕ) (x l r : ℕ) (w1 : List ℕ) →
    Tiling P B k (net_of w t) → Room n t w → Leaves P (net_of w t) a b x →
    Walks P n t a b (begin_w n w a x) 1 1 x (Ok (l, r)) w1 → SidesW P n w1 l r → Sticks P (net_of w t) a b
