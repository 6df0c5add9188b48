-- The working area during a recovery, seen as a net of the model of crate cavities. The area holds of each half-edge its partner and its mark,
-- and of those of triangles the start too. Which half-edges are live, along which side one without a partner lies, and the ends of a parked
-- half-edge are not in the area, for no code asks for them. Definitions only.
use Rattle.std.specs.Prelude.{Bool, true, false, cond, List, ℕ, ◌+◌, ◌*◌, ltb, ℤ}
use Rattle.plane.specs.Base.{Side}
use Rattle.plane.specs.Halfedges.{nxt}
use Rattle.plane.specs.Points.{Pt}
use Rattle.nets.specs.Layout.{net_of}
use Rattle.cavities.specs.Leaves.{put}
use Rattle.cavities.specs.Nets.{Net}
use Rattle.bridges.specs.Images.{has_mate, mate_of, side_of}
use Rattle.chains.specs.Areas.{org, adj, con}

-- what the area does not hold
pub record Ghost : Type 0 where
  pub live : ℕ → Bool
  pub from : ℕ → ℕ
  pub to : ℕ → ℕ
  pub side : ℕ → Side

-- the net, for n points: half-edges from 6 n on are no triangle's
unfoldable pub model_of : ℕ → List ℕ → Ghost → Net
model_of n w G = record {
  live = G.live;
  org = λ h. cond (ltb h (6 * n)) (org w h) (G.from h);
  dst = λ h. cond (ltb h (6 * n)) (org w (nxt h)) (G.to h);
  mark = λ h. con w h;
  has = λ h. has_mate (adj w h);
  mate = λ h. mate_of (adj w h);
  side = G.side;
}

-- at the start the half-edges of the t triangles are live, and there are no others
unfoldable pub ghost_of : (ℕ → Pt ℤ) → (Side → Pt ℤ) → List ℕ → ℕ → Ghost
ghost_of P B w t = record {
  live = λ h. ltb h (3 * t);
  from = λ h. org w h;
  to = λ h. org w (nxt h);
  side = λ h. side_of B (P (org w h)) (P (org w (nxt h)));
}

-- half-edge o moves to v, with its ends
unfoldable pub park_g : ℕ → List ℕ → Ghost → ℕ → ℕ → Ghost
park_g n w G o v = record {
  live = put (put G.live o false) v true;
  from = put G.from v ((model_of n w G).org o);
  to = put G.to v ((model_of n w G).dst o);
  side = put G.side v (G.side o);
}

-- the partners x and y die
unfoldable pub drop_g : Ghost → ℕ → ℕ → Ghost
drop_g G x y = record { live = put (put G.live x false) y false; from = G.from; to = G.to; side = G.side }

-- x and y become partners
unfoldable pub join_g : Ghost → ℕ → ℕ → Ghost
join_g G x y = record { live = put (put G.live x true) y true; from = G.from; to = G.to; side = G.side }

-- half-edge h runs from p to q
unfoldable pub ends_g : Ghost → ℕ → ℕ → ℕ → Ghost
ends_g G h p q = record { live = G.live; from = put G.from h p; to = put G.to h q; side = G.side }
