-- A record written at a slot of a net, and what the slots read then. Assumes nothing.
use mathlib.Core.Path.{◌≡◌, refl, sym, ap, ◌∙◌}
use Prim.Native.Nat.{ℕ, ◌+◌, ◌*◌, ◌/◌}
use Rattle.plane.proofs.Halfedges.{nxt0, nxt1, nxt2}
use Rattle.nets.specs.Nets.{Net, dst}
use Rattle.nets.specs.Slots.{put, Rec, write, grow}
use Rattle.nets.proofs.Slot.{slot0, slot1, slot2, put_0, put_1, put_2, put_off}

pub record Reads (r : Net) (s : ℕ) (x : Rec) : Type 0 where
  pub o0 : r.org (3 * s) ≡ x.v0
  pub o1 : r.org (3 * s + 1) ≡ x.v1
  pub o2 : r.org (3 * s + 2) ≡ x.v2
  pub d0 : dst r (3 * s) ≡ x.v1
  pub d1 : dst r (3 * s + 1) ≡ x.v2
  pub d2 : dst r (3 * s + 2) ≡ x.v0
  pub a0 : r.adj (3 * s) ≡ x.a0
  pub a1 : r.adj (3 * s + 1) ≡ x.a1
  pub a2 : r.adj (3 * s + 2) ≡ x.a2
  pub c0 : r.con (3 * s) ≡ x.c0
  pub c1 : r.con (3 * s + 1) ≡ x.c1
  pub c2 : r.con (3 * s + 2) ≡ x.c2

pub record Off (r m : Net) (h : ℕ) : Type 0 where
  pub org : r.org h ≡ m.org h
  pub adj : r.adj h ≡ m.adj h
  pub con : r.con h ≡ m.con h

pub write_off : (m : Net) (s : ℕ) (x : Rec) (h : ℕ) → ¬ (h / 3 ≡ s) → Off (write m s x) m h
unfolding write
write_off m s x h n = record {
  org = put_off m.org s x.v0 x.v1 x.v2 h n;
  adj = put_off m.adj s x.a0 x.a1 x.a2 h n;
  con = put_off m.con s x.c0 x.c1 x.c2 h n;
}

pub off_off : (a b c : Net) (h : ℕ) → Off a b h → Off b c h → Off a c h
off_off a b c h x y = record { org = x.org ∙ y.org; adj = x.adj ∙ y.adj; con = x.con ∙ y.con }

pub off_same : (m : Net) (h : ℕ) → Off m m h
off_same m h = record { org = refl; adj = refl; con = refl }

pub off_grow : (m : Net) (k h : ℕ) → Off (grow m k) m h
unfolding grow
off_grow m k h = record { org = refl; adj = refl; con = refl }

pub reads_here : (m : Net) (s : ℕ) (x : Rec) → Reads (write m s x) s x
unfolding write
reads_here m s x = record {
  o0 = put_0 m.org s x.v0 x.v1 x.v2;
  o1 = put_1 m.org s x.v0 x.v1 x.v2;
  o2 = put_2 m.org s x.v0 x.v1 x.v2;
  d0 = ap (put m.org s x.v0 x.v1 x.v2) (nxt0 s) ∙ put_1 m.org s x.v0 x.v1 x.v2;
  d1 = ap (put m.org s x.v0 x.v1 x.v2) (nxt1 s) ∙ put_2 m.org s x.v0 x.v1 x.v2;
  d2 = ap (put m.org s x.v0 x.v1 x.v2) (nxt2 s) ∙ put_0 m.org s x.v0 x.v1 x.v2;
  a0 = put_0 m.adj s x.a0 x.a1 x.a2;
  a1 = put_1 m.adj s x.a0 x.a1 x.a2;
  a2 = put_2 m.adj s x.a0 x.a1 x.a2;
  c0 = put_0 m.con s x.c0 x.c1 x.c2;
  c1 = put_1 m.con s x.c0 x.c1 x.c2;
  c2 = put_2 m.con s x.c0 x.c1 x.c2;
}

-- a slot that two nets read alike
pub reads_by : (r m : Net) (s : ℕ) (x : Rec) → Off r m (3 * s) → Off r m (3 * s + 1) → Off r m (3 * s + 2) → Reads m s x → Reads r s x
reads_by r m s x p q u y = record {
  o0 = p.org ∙ y.o0;
  o1 = q.org ∙ y.o1;
  o2 = u.org ∙ y.o2;
  d0 = ap r.org (nxt0 s) ∙ q.org ∙ y.o1;
  d1 = ap r.org (nxt1 s) ∙ u.org ∙ y.o2;
  d2 = ap r.org (nxt2 s) ∙ p.org ∙ y.o0;
  a0 = p.adj ∙ y.a0;
  a1 = q.adj ∙ y.a1;
  a2 = u.adj ∙ y.a2;
  c0 = p.con ∙ y.c0;
  c1 = q.con ∙ y.c1;
  c2 = u.con ∙ y.c2;
}

pub reads_there : (m : Net) (s s' : ℕ) (x y : Rec) → ¬ (s' ≡ s) → Reads m s' y → Reads (write m s x) s' y
reads_there m s s' x y n = reads_by (write m s x) m s' y (write_off m s x (3 * s') (λ e. n (sym (slot0 s') ∙ e)))
    (write_off m s x (3 * s' + 1) (λ e. n (sym (slot1 s') ∙ e))) (write_off m s x (3 * s' + 2) (λ e. n (sym (slot2 s') ∙ e)))

pub reads_grow : (m : Net) (k s : ℕ) (x : Rec) → Reads m s x → Reads (grow m k) s x
reads_grow m k s x = reads_by (grow m k) m s x (off_grow m k (3 * s)) (off_grow m k (3 * s + 1)) (off_grow m k (3 * s + 2))

-- the corners of a slot
pub record Corner (org : ℕ → ℕ) (s u v w : ℕ) : Type 0 where
  pub k0 : org (3 * s) ≡ u
  pub k1 : org (3 * s + 1) ≡ v
  pub k2 : org (3 * s + 2) ≡ w

pub corner_of : (r : Net) (s : ℕ) (x : Rec) → Reads r s x → Corner r.org s x.v0 x.v1 x.v2
corner_of r s x y = record { k0 = y.o0; k1 = y.o1; k2 = y.o2 }
