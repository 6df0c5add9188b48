-- Every point stays a corner (rule 4), and the new point becomes one. Assumes nothing.
use mathlib.Core.Path.{◌≡◌, sym, ap, ◌∙◌, subst}
use Prim.Native.Nat.{ℕ, suc, ◌+◌, ◌*◌, ◌/◌, ◌<◌}
use native.Mathlib.Decide.{ℕ_discrete, dec_lt}
use native.Mathlib.Omega.{arith}
use Rattle.plane.specs.Halfedges.{nxt}
use Rattle.nets.specs.Nets.{Net, Linked, prv}
use Rattle.nets.specs.Steps.{flip, inside, side_split, edge_split}
use Rattle.nets.specs.Tilings.{Has, Present}
use Rattle.nets.proofs.EdgeSplit.{edge_tris, edge_t, edge_b_lem, edge_n, edge_off}
use Rattle.nets.proofs.Flip.{Apart, flip_tris, flip_org}
use Rattle.nets.proofs.Inside.{inside_tris, inside_t, inside_b, inside_off}
use Rattle.nets.proofs.Net.{to}
use Rattle.nets.proofs.SideSplit.{side_tris, side_t, side_b_lem, side_off}
use Rattle.nets.proofs.Slot.{Turn, it, one, two, turn, Edge, e0, e1, e2, edge}

has_at : (m : Net) (T x u : ℕ) → m.tris ≡ T → x < 3 * T → m.org x ≡ u → Has m u
has_at m T x u e l o = (x, subst (λ (y : ℕ). x < 3 * y) (sym e) l, o)

-- one more point
grown : (m m' : Net) (k : ℕ) → ((u : ℕ) → Has m u → Has m' u) → Has m' k → Present m k → Present m' (k + 1)
grown m m' k f p c u l = go (dec_lt u k)
  where
    go : Dec (u < k) → Has m' u
    go (yes b) = f u (c u b)
    go (no n) = subst (Has m') (let z : k ≡ u = omega arith in z) p

module _ {S : ℕ → ℕ → Type 0} {m : Net} (l : Linked S m) (ap' : Apart m) where
  abbrev N : ℕ
  N = m.tris

  module _ (h g : ℕ) (hb : h < 3 * m.tris) (pair : m.adj h ≡ suc g) (cd : ¬ (m.org (prv h) ≡ m.org (prv g))) where
    gb : g < 3 * m.tris
    gb = l.low h g hb pair

    at : (x u : ℕ) → x < 3 * N → (flip m h g).org x ≡ u → Has (flip m h g) u
    at x u b e = has_at (flip m h g) N x u (flip_tris l ap' h g hb pair cd) b e

    pub has_flip : (u : ℕ) → Has m u → Has (flip m h g) u
    has_flip u s = go (ℕ_discrete (s.0 / 3) (h / 3)) (ℕ_discrete (s.0 / 3) (g / 3))
      where
        x : ℕ
        x = s.0

        c : Rattle.nets.proofs.Flip.Corners l ap' h g hb pair cd
        c = flip_org l ap' h g hb pair cd

        in_h : Turn h x → Has (flip m h g) u
        in_h (it e) = at (3 * (h / 3)) u (omega arith) (c.t0 ∙ ap m.org (sym e) ∙ s.2)
        in_h (one e) = at (3 * (g / 3) + 1) u (let z = gb in omega arith) (c.n1 ∙ ap m.org (sym e) ∙ s.2)
        in_h (two e) = at (3 * (h / 3) + 2) u (omega arith) (c.t2 ∙ ap m.org (sym e) ∙ s.2)

        in_g : Turn g x → Has (flip m h g) u
        in_g (it e) = at (3 * (g / 3) + 1) u (let z = gb in omega arith) (c.n1 ∙ sym (l.from h g hb pair) ∙ ap m.org (sym e) ∙ s.2)
        in_g (one e) = at (3 * (h / 3)) u (omega arith) (c.t0 ∙ sym (to l h g hb pair) ∙ ap m.org (sym e) ∙ s.2)
        in_g (two e) = at (3 * (h / 3) + 1) u (omega arith) (c.t1 ∙ ap m.org (sym e) ∙ s.2)

        go : Dec (x / 3 ≡ h / 3) → Dec (x / 3 ≡ g / 3) → Has (flip m h g) u
        go (yes e) d = in_h (turn h x e)
        go (no n) (yes e) = in_g (turn g x e)
        go (no n) (no n') = at x u s.1 (c.off x n n' ∙ s.2)

    pub has_edge : (p u : ℕ) → Has m u → Has (edge_split m h g p) u
    has_edge p u s = go (ℕ_discrete (s.0 / 3) (h / 3)) (ℕ_discrete (s.0 / 3) (g / 3))
      where
        x : ℕ
        x = s.0

        ate : (y : ℕ) → y < 3 * (N + 2) → (edge_split m h g p).org y ≡ u → Has (edge_split m h g p) u
        ate y b e = has_at (edge_split m h g p) (N + 2) y u (edge_tris l ap' h g hb pair cd p) b e

        in_h : Turn h x → Has (edge_split m h g p) u
        in_h (it e) = ate (3 * (h / 3)) (omega arith) ((edge_t l ap' h g hb pair cd p).k0 ∙ ap m.org (sym e) ∙ s.2)
        in_h (one e) = ate (3 * N + 1) (omega arith) ((edge_b_lem l ap' h g hb pair cd p).k1 ∙ ap m.org (sym e) ∙ s.2)
        in_h (two e) = ate (3 * (h / 3) + 2) (omega arith) ((edge_t l ap' h g hb pair cd p).k2 ∙ ap m.org (sym e) ∙ s.2)

        in_g : Turn g x → Has (edge_split m h g p) u
        in_g (it e) = ate (3 * N + 1) (omega arith) ((edge_b_lem l ap' h g hb pair cd p).k1 ∙ sym (l.from h g hb pair) ∙ ap m.org (sym e) ∙ s.2)
        in_g (one e) = ate (3 * (h / 3)) (omega arith) ((edge_t l ap' h g hb pair cd p).k0 ∙ sym (to l h g hb pair) ∙ ap m.org (sym e) ∙ s.2)
        in_g (two e) = ate (3 * (g / 3) + 2) (let z = gb in omega arith) ((edge_n l ap' h g hb pair cd p).k2 ∙ ap m.org (sym e) ∙ s.2)

        go : Dec (x / 3 ≡ h / 3) → Dec (x / 3 ≡ g / 3) → Has (edge_split m h g p) u
        go (yes e) d = in_h (turn h x e)
        go (no n) (yes e) = in_g (turn g x e)
        go (no n) (no n') = ate x (let z = s.1 in omega arith) (edge_off l ap' h g hb pair cd p x s.1 n n' ∙ s.2)

    pub present_edge : (k : ℕ) → Present m k → Present (edge_split m h g k) (k + 1)
    present_edge k = grown m (edge_split m h g k) k (has_edge k)
        (has_at (edge_split m h g k) (N + 2) (3 * (h / 3) + 1) k (edge_tris l ap' h g hb pair cd k) (omega arith) (edge_t l ap' h g hb pair cd k).k1)

  module _ (t : ℕ) (tb : t < m.tris) where
    pub has_inside : (p u : ℕ) → Has m u → Has (inside m t p) u
    has_inside p u s = go (ℕ_discrete (s.0 / 3) t)
      where
        x : ℕ
        x = s.0

        ati : (y : ℕ) → y < 3 * (N + 2) → (inside m t p).org y ≡ u → Has (inside m t p) u
        ati y b e = has_at (inside m t p) (N + 2) y u (inside_tris l ap' t p tb) b e

        in_t : Edge t x → Has (inside m t p) u
        in_t (e0 e) = ati (3 * t) (omega arith) ((inside_t l ap' t p tb).k0 ∙ ap m.org (sym e) ∙ s.2)
        in_t (e1 e) = ati (3 * t + 1) (omega arith) ((inside_t l ap' t p tb).k1 ∙ ap m.org (sym e) ∙ s.2)
        in_t (e2 e) = ati (3 * N + 1) (omega arith) ((inside_b l ap' t p tb).k1 ∙ ap m.org (sym e) ∙ s.2)

        go : Dec (x / 3 ≡ t) → Has (inside m t p) u
        go (yes e) = in_t (edge t x e)
        go (no n) = ati x (let z = s.1 in omega arith) (inside_off l ap' t p tb x s.1 n ∙ s.2)

    pub present_inside : (k : ℕ) → Present m k → Present (inside m t k) (k + 1)
    present_inside k = grown m (inside m t k) k (has_inside k) (has_at (inside m t k) (N + 2) (3 * t + 2) k (inside_tris l ap' t k tb) (omega arith) (inside_t l ap' t k tb).k2)

  module _ (h p : ℕ) (hb : h < 3 * m.tris) (lone : m.adj h ≡ 0) (sa : S (m.org h) p) (sb : S p (m.org (nxt h))) where
    pub has_side : (u : ℕ) → Has m u → Has (side_split m h p) u
    has_side u s = go (ℕ_discrete (s.0 / 3) (h / 3))
      where
        x : ℕ
        x = s.0

        ats : (y : ℕ) → y < 3 * (N + 1) → (side_split m h p).org y ≡ u → Has (side_split m h p) u
        ats y b e = has_at (side_split m h p) (N + 1) y u (side_tris l ap' h p hb lone sa sb) b e

        in_h : Turn h x → Has (side_split m h p) u
        in_h (it e) = ats (3 * (h / 3)) (omega arith) ((side_t l ap' h p hb lone sa sb).k0 ∙ ap m.org (sym e) ∙ s.2)
        in_h (one e) = ats (3 * N + 1) (omega arith) ((side_b_lem l ap' h p hb lone sa sb).k1 ∙ ap m.org (sym e) ∙ s.2)
        in_h (two e) = ats (3 * (h / 3) + 2) (omega arith) ((side_t l ap' h p hb lone sa sb).k2 ∙ ap m.org (sym e) ∙ s.2)

        go : Dec (x / 3 ≡ h / 3) → Has (side_split m h p) u
        go (yes e) = in_h (turn h x e)
        go (no n) = ats x (let z = s.1 in omega arith) (side_off l ap' h p hb lone sa sb x s.1 n ∙ s.2)

    pub present_side : Present m p → Present (side_split m h p) (p + 1)
    present_side = grown m (side_split m h p) p has_side (has_at (side_split m h p) (N + 1) (3 * (h / 3) + 1) p (side_tris l ap' h p hb lone sa sb) (omega arith) (side_t l ap' h p hb lone sa sb).k1)
