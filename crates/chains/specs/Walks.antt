-- The walk along the corridor in the working area, as a relation of the lists before and after. Definitions only.
use Rattle.std.specs.Prelude.{cond, not, List, Result, Ok, Err, ◌≡◌, ℕ, ◌+◌, ◌-◌, ◌*◌, ◌/◌, ◌≤◌, ◌<◌, eqb, ltb, ℤ, set}
use Rattle.plane.specs.Halfedges.{nxt}
use Rattle.plane.specs.Points.{Pt}
use Rattle.nets.specs.Nets.{prv}
use Rattle.chains.specs.Areas.{org, adj, con, chain_cell, slot_cell, move_w}
use Rattle.chains.specs.Scans.{left_of, right_of}
use Rattle.chains.specs.declared.Reason.{Reason}
use Rattle.chains.specs.declared.Reason.TheVariants.{NoNeighbour, Marked, Twice, OnLine}
use Rattle.chains.specs.declared.Beyond.{Beyond}
use Rattle.chains.specs.declared.Beyond.TheVariants.{Left, Right, Last}

-- the far corner c of the triangle that half-edge y enters: it is b, or lies left or right of the line from a to b, or on it
unfoldable pub met : (ℕ → Pt ℤ) → ℕ → ℕ → ℕ → ℕ → Result Beyond Reason
met P a b y c = cond (eqb c b) (Ok (Last y)) (cond (left_of P a b c) (Ok (Left y c)) (cond (right_of P a b c) (Ok (Right y c)) (Err OnLine)))

-- behind the half-edge x of t triangles; a partner beyond them is a gap, whose triangle was crossed before
unfoldable pub look_at : (ℕ → Pt ℤ) → ℕ → ℕ → ℕ → List ℕ → ℕ → Result Beyond Reason
look_at P t a b w x =
    cond (eqb (adj w x) 0) (Err NoNeighbour)
    (cond (not (eqb (con w x) 0)) (Err Marked)
    (cond (ltb (3 * t) (adj w x)) (Err Twice)
    (met P a b (adj w x - 1) (org w (prv (adj w x - 1))))))

-- the k-th crossed slot is that of y; half-edge o of it is parked as the gap at place g, and the corner c stands at place e of the chain
unfoldable pub enter_w : ℕ → List ℕ → ℕ → ℕ → ℕ → ℕ → ℕ → ℕ → List ℕ
enter_w n w k y o g e c = set (move_w (set w (slot_cell n k) (y / 3)) o (6 * n + g)) (chain_cell n e) c

-- a corner on the left, and one on the right
abbrev pub left_w : ℕ → List ℕ → ℕ → ℕ → ℕ → ℕ → List ℕ
left_w n w l r y c = enter_w n w (l + r - 1) y (prv y) l (l + 1) c

abbrev pub right_w : ℕ → List ℕ → ℕ → ℕ → ℕ → ℕ → List ℕ
right_w n w l r y c = enter_w n w (l + r - 1) y (nxt y) (2 * n - 2 - r) (2 * n - 2 - r) c

-- b is met: both edges beside it are parked
unfoldable pub arrive_w : ℕ → List ℕ → ℕ → ℕ → ℕ → ℕ → List ℕ
arrive_w n w l r y b = right_w n (left_w n w l r y b) l r y b

-- from l corners on the left, r on the right, and the half-edge x to cross
pub data Walks (P : ℕ → Pt ℤ) (n t a b : ℕ) : List ℕ → ℕ → ℕ → ℕ → Result (ℕ × ℕ) Reason → List ℕ → Type 0 where
  far : {w : List ℕ} {l r x : ℕ} → t < l + r → Walks P n t a b w l r x (Err Twice) w
  stop : {w : List ℕ} {l r x : ℕ} {e : Reason} → l + r ≤ t → look_at P t a b w x ≡ Err e → Walks P n t a b w l r x (Err e) w
  last : {w w' : List ℕ} {l r x y : ℕ} → l + r ≤ t → look_at P t a b w x ≡ Ok (Last y) → w' ≡ arrive_w n w l r y b → Walks P n t a b w l r x (Ok (l, r)) w'
  left : {w w' : List ℕ} {l r x y c : ℕ} {out : Result (ℕ × ℕ) Reason} → l + r ≤ t → look_at P t a b w x ≡ Ok (Left y c) → Walks P n t a b (left_w n w l r y c) (l + 1) r (nxt y) out w' → Walks P n t a b w l r x out w'
  right : {w w' : List ℕ} {l r x y c : ℕ} {out : Result (ℕ × ℕ) Reason} → l + r ≤ t → look_at P t a b w x ≡ Ok (Right y c) → Walks P n t a b (right_w n w l r y c) l (r + 1) (prv y) out w' → Walks P n t a b w l r x out w'
