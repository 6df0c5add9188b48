-- Surgery where a half-edge that moves may have a partner that moves too (an edge that hangs inside a cavity): what a filling has to show.
-- Assumes nothing.
use mathlib.Core.Bool.{Bool, cond}
use mathlib.Core.List.{List, [], ◌∷◌}
use mathlib.Core.Logic.{◌⊎◌, inl, inr}
use mathlib.Core.Path.{◌≡◌, refl, ap, ◌∙◌, subst}
use Prim.Native.Nat.{ℕ, suc, ◌*◌, ◌/◌, ◌<◌, ◌≤◌}
use native.Mathlib.Omega.{arith}
use Rattle.algebra.proofs.Sum.{eqb_no}
use Rattle.plane.specs.Halfedges.{nxt}
use Rattle.nets.specs.Moves.{Move}
use Rattle.nets.specs.Nets.{Net, dst, Linked}
use Rattle.nets.proofs.Net.{ren+, Fits, kept, fresh, along, Same, carry}
use Rattle.nets.proofs.Slot.{nxt_slot}
use Rattle.nets.proofs.Surgery.{ren, All, Has, all_at, New, moved, paired, bare, Old, moves, gone}

-- the partner of a half-edge that moves is named by its new number, wherever it is
pub record Shifted (m m' : Net) (D : ℕ → Type 0) (L : List Move) (v : Move) : Type 0 where
  pub old_in : v.old < 3 * m.tris
  pub new_in : v.new < 3 * m'.tris
  pub old_d : D (v.old / 3)
  pub name : ren L v.old ≡ v.new
  pub adj_is : m'.adj v.new ≡ ren+ (ren L) (m.adj v.old)
  pub org_is : m'.org v.new ≡ m.org v.old
  pub dst_is : dst m' v.new ≡ dst m v.old
  pub con_is : m'.con v.new ≡ m.con v.old
  -- its partner, where that is touched, moves too
  pub closed : (g : ℕ) → m.adj v.old ≡ suc g → D (g / 3) → (z : Move) × Has L z × (z.old ≡ g)

pub record Cavity (S : ℕ → ℕ → Type 0) (m m' : Net) (D : ℕ → Type 0) (L : List Move) : Type 0 where
  pub dec : (t : ℕ) → Dec (D t)
  pub off_in : (h : ℕ) → ¬ D (h / 3) → h < 3 * m'.tris → h < 3 * m.tris
  pub grow : m.tris ≤ m'.tris
  pub off_org : (h : ℕ) → ¬ D (h / 3) → m'.org h ≡ m.org h
  pub off_adj : (h : ℕ) → h < 3 * m.tris → ¬ D (h / 3) → m'.adj h ≡ ren+ (ren L) (m.adj h)
  pub off_con : (h : ℕ) → ¬ D (h / 3) → m'.con h ≡ m.con h
  pub shifted : All (Shifted m m' D L) L
  pub old_all : (h : ℕ) → h < 3 * m.tris → D (h / 3) → Old m D L h
  pub new_all : (h : ℕ) → h < 3 * m'.tris → D (h / 3) → New S m' D L h

ren_off : (m m' : Net) (D : ℕ → Type 0) (L L' : List Move) → All (Shifted m m' D L') L → (o : ℕ) → ¬ D (o / 3) → ren L o ≡ o
unfolding ren
ren_off m m' D [] L' a o n = refl
ren_off m m' D (v ∷ L) L' a o n =
    ap (λ (b : Bool). cond b v.new (ren L o)) (eqb_no v.old o (λ e. n (subst (λ (x : ℕ). D (x / 3)) e a.0.old_d))) ∙ ren_off m m' D L L' a.1 o n

module _ {S : ℕ → ℕ → Type 0} {m m' : Net} {D : ℕ → Type 0} {L : List Move} (l : Linked S m) (c : Cavity S m m' D L) where
  Kept : ℕ → Type 0
  Kept h = (¬ D (h / 3)) ⊎ ((v : Move) × Has L v × (v.old ≡ h))

  at : (v : Move) → Has L v → Shifted m m' D L v
  at v i = all_at (Shifted m m' D L) L v c.shifted i

  same : (h : ℕ) → h < 3 * m.tris → Kept h → Same m m' (ren L) h
  unfolding Kept
  same h b (inl n) =
      let e : ren L h ≡ h = ren_off m m' D L L c.shifted h n in
      let g = c.grow in
      record {
        into = rw e (let i : h < 3 * m'.tris = omega arith in i);
        adj_is = ap m'.adj e ∙ c.off_adj h b n;
        org_is = ap m'.org e ∙ c.off_org h n;
        dst_is = ap (λ (x : ℕ). m'.org (nxt x)) e ∙ c.off_org (nxt h) (rw nxt_slot n);
        con_is = ap m'.con e ∙ c.off_con h n;
      }
  same h b (inr p) =
      let w = at p.0 p.1 in
      subst (Same m m' (ren L)) p.2 (record {
        into = rw w.name w.new_in;
        adj_is = ap m'.adj w.name ∙ w.adj_is;
        org_is = ap m'.org w.name ∙ w.org_is;
        dst_is = ap (λ (x : ℕ). m'.org (nxt x)) w.name ∙ w.dst_is;
        con_is = ap m'.con w.name ∙ w.con_is;
      })

  closed : (h g : ℕ) → h < 3 * m.tris → Kept h → m.adj h ≡ suc g → Kept g
  unfolding Kept
  closed h g b (inl n) e = go (c.dec (g / 3))
    where
      old : D (h / 3) ⊎ Old m D L g → (¬ D (g / 3)) ⊎ ((v : Move) × Has L v × (v.old ≡ g))
      old (inl d) = absurd (n d)
      old (inr (moves v i q)) = inr (v, i, q)
      old (inr (gone f)) = absurd (n (f h (l.back h g b e)))

      go : Dec (D (g / 3)) → (¬ D (g / 3)) ⊎ ((v : Move) × Has L v × (v.old ≡ g))
      go (no k) = inl k
      go (yes k) = old (inr (c.old_all g (l.low h g b e) k))
  closed h g b (inr p) e = go (c.dec (g / 3))
    where
      go : Dec (D (g / 3)) → (¬ D (g / 3)) ⊎ ((v : Move) × Has L v × (v.old ≡ g))
      go (no k) = inl k
      go (yes k) = inr ((at p.0 p.1).closed g (ap m.adj p.2 ∙ e) k)

  fits : (h' : ℕ) → h' < 3 * m'.tris → Dec (D (h' / 3)) → Fits S m m' Kept (ren L) h'
  unfolding Kept
  fits h' b (no n) = kept h' (c.off_in h' n b) (inl n) (ren_off m m' D L L c.shifted h' n)
  fits h' b (yes d) = go (c.new_all h' b d)
    where
      go : New S m' D L h' → Fits S m m' Kept (ren L) h'
      go (moved v i q) = kept v.old (at v i).old_in (inr (v, i, refl)) ((at v i).name ∙ q)
      go (paired g e k a a' o y) = fresh g e a a' o y
      go (bare a o) = along a o

  pub filled : Linked S m'
  filled = carry l (record { closed = closed; same = same; fits = λ h' b. fits h' b (c.dec (h' / 3)) })
