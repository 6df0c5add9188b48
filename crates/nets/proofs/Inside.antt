-- A split of slot t at a point inside keeps a net linked: slot t becomes (v0, v1, p), and (v1, v2, p), (v2, v0, p) are appended. Assumes
-- nothing.
use mathlib.Core.Bool.{true}
use mathlib.Core.Logic.{◌⊎◌, inl, inr}
use mathlib.Core.Path.{◌≡◌, refl, sym, ap, ◌∙◌, subst}
use Prim.Native.Nat.{ℕ, suc, ◌+◌, ◌*◌, ◌/◌, ◌<◌, ◌≤◌}
use native.Mathlib.Decide.{ℕ_discrete, dec_le}
use native.Mathlib.Omega.{arith}
use lib.Dec.{eqb}
use Rattle.algebra.proofs.Sum.{eqb_no, eqb_yes}
use Rattle.plane.proofs.Halfedges.{nxt0, nxt1, nxt2}
use Rattle.nets.specs.Moves.{after, mv}
use Rattle.nets.specs.Nets.{Net, dst, Linked}
use Rattle.nets.specs.Slots.{write, grow}
use Rattle.nets.specs.Steps.{inside_moves, in_a, in_b, in_c, inside_raw, inside}
use Rattle.nets.proofs.Flip.{Apart, same_slot}
use Rattle.nets.proofs.Slot.{slot0, slot1, slot2, Edge, e0, e1, e2, edge}
use Rattle.nets.proofs.Surgery.{OneMore, ren, All, here, there, Moved, New, moved, paired, Old, moves, Surgery, sewn}
use Rattle.nets.proofs.Write.{Reads, Off, write_off, off_off, off_grow, reads_here, reads_there, reads_grow, Corner, corner_of}

module _ {S : ℕ → ℕ → Type 0} {m : Net} (l : Linked S m) (ap' : Apart m) (t p : ℕ) (tb : t < m.tris) where
  abbrev N : ℕ
  N = m.tris

  D : ℕ → Type 0
  D s = (s ≡ t) ⊎ (N ≤ s)

  r : Net
  r = inside_raw m t p

  tris' : r.tris ≡ N + 2
  unfolding r inside_raw grow write
  tris' = refl

  t_n : ¬ (t ≡ N)
  t_n e = omega arith

  t_n1 : ¬ (t ≡ N + 1)
  t_n1 e = omega arith

  NN1 : ¬ (N ≡ N + 1)
  NN1 e = omega arith

  r_a : Reads r t (in_a m t p)
  unfolding r inside_raw
  r_a = reads_grow (write (write (write m t (in_a m t p)) N (in_b m t p)) (N + 1) (in_c m t p)) 2 t (in_a m t p)
      (reads_there (write (write m t (in_a m t p)) N (in_b m t p)) (N + 1) t (in_c m t p) (in_a m t p) t_n1
      (reads_there (write m t (in_a m t p)) N t (in_b m t p) (in_a m t p) t_n (reads_here m t (in_a m t p))))

  r_b : Reads r N (in_b m t p)
  unfolding r inside_raw
  r_b = reads_grow (write (write (write m t (in_a m t p)) N (in_b m t p)) (N + 1) (in_c m t p)) 2 N (in_b m t p)
      (reads_there (write (write m t (in_a m t p)) N (in_b m t p)) (N + 1) N (in_c m t p) (in_b m t p) NN1 (reads_here (write m t (in_a m t p)) N (in_b m t p)))

  r_c : Reads r (N + 1) (in_c m t p)
  unfolding r inside_raw
  r_c = reads_grow (write (write (write m t (in_a m t p)) N (in_b m t p)) (N + 1) (in_c m t p)) 2 (N + 1) (in_c m t p) (reads_here (write (write m t (in_a m t p)) N (in_b m t p)) (N + 1) (in_c m t p))

  off : (h : ℕ) → ¬ D (h / 3) → Off r m h
  unfolding r inside_raw D
  off h k =
      off_off r w3 m h (off_grow w3 2 h)
      (off_off w3 w2 m h (write_off w2 (N + 1) (in_c m t p) h (λ e. k (inr (let q : N ≤ h / 3 = omega arith in q))))
      (off_off w2 w1 m h (write_off w1 N (in_b m t p) h (λ e. k (inr (let q : N ≤ h / 3 = omega arith in q))))
      (write_off m t (in_a m t p) h (λ e. k (inl e)))))
    where
      w1 : Net
      w1 = write m t (in_a m t p)

      w2 : Net
      w2 = write w1 N (in_b m t p)

      w3 : Net
      w3 = write w2 (N + 1) (in_c m t p)

  -- a partner of the triangle lies elsewhere
  out : (x o : ℕ) → x < 3 * N → x / 3 ≡ t → m.adj x ≡ suc o → ¬ D (o / 3)
  unfolding D
  out x o b s e (inl q) = same_slot l ap' x o b e (q ∙ sym s)
  out x o b s e (inr q) = let k = l.low x o b e in omega arith

  i0 : 3 * t < 3 * N
  i0 = omega arith

  i1 : 3 * t + 1 < 3 * N
  i1 = omega arith

  i2 : 3 * t + 2 < 3 * N
  i2 = omega arith

  lowr : (x : ℕ) → x < 3 * (N + 2) → x < 3 * r.tris
  lowr x b = rw tris' b

  all_moved : All (Moved m r D) (inside_moves m t)
  unfolding inside_moves D
  all_moved = (
    record {
      old_in = i0;
      new_in = lowr (3 * t) (omega arith);
      old_d = inl (slot0 t);
      new_d = inl (slot0 t);
      adj_is = r_a.a0;
      org_is = r_a.o0;
      dst_is = r_a.d0 ∙ ap m.org (sym (nxt0 t));
      con_is = r_a.c0;
      out = λ o e. out (3 * t) o i0 (slot0 t) e;
    },
    (
      record {
        old_in = i1;
        new_in = lowr (3 * N) (omega arith);
        old_d = inl (slot1 t);
        new_d = inr (let q : N ≤ 3 * N / 3 = omega arith in q);
        adj_is = r_b.a0;
        org_is = r_b.o0;
        dst_is = r_b.d0 ∙ ap m.org (sym (nxt1 t));
        con_is = r_b.c0;
        out = λ o e. out (3 * t + 1) o i1 (slot1 t) e;
      },
      (
        record {
          old_in = i2;
          new_in = lowr (3 * (N + 1)) (omega arith);
          old_d = inl (slot2 t);
          new_d = inr (let q : N ≤ 3 * (N + 1) / 3 = omega arith in q);
          adj_is = r_c.a0;
          org_is = r_c.o0;
          dst_is = r_c.d0
              ∙ ap m.org (sym (nxt2 t));
          con_is = r_c.c0;
          out = λ o e. out (3 * t + 2) o i2 (slot2 t) e;
        },
        tt,
      ),
    ),
  )

  self : (x : ℕ) → eqb x x ≡ true
  self x = eqb_yes x x refl

  ren_at : All (λ v. ren (inside_moves m t) v.old ≡ v.new) (inside_moves m t)
  unfolding inside_moves ren
  ren_at = (
    rw (self (3 * t)),
    (
      rw (eqb_no (3 * t) (3 * t + 1) (omega arith), self (3 * t + 1)),
      (rw (eqb_no (3 * t) (3 * t + 2) (omega arith), eqb_no (3 * t + 1) (3 * t + 2) (omega arith), self (3 * t + 2)), tt),
    ),
  )

  old_all : (x : ℕ) → x < 3 * N → D (x / 3) → Old m D (inside_moves m t) x
  unfolding inside_moves D
  old_all x b (inr q) = absurd (let z : ⊥ = omega arith in z)
  old_all x b (inl s) = go (edge t x s)
    where
      go : Edge t x → Old m D (inside_moves m t) x
      go (e0 q) = moves (mv (3 * t) (3 * t)) here (sym q)
      go (e1 q) = moves (mv (3 * t + 1) (3 * N)) (there here) (sym q)
      go (e2 q) = moves (mv (3 * t + 2) (3 * (N + 1))) (there (there here)) (sym q)

  -- the three new pairs
  pairs : (x y : ℕ) → y < 3 * (N + 2) → D (y / 3) → (u : ℕ) → r.adj x ≡ suc y → r.adj y ≡ suc x → r.org y ≡ u → dst r x ≡ u → r.con y ≡ 0 → r.con x ≡ 0 → New S r D (inside_moves m t) x
  pairs x y b d u e f i j c c' = paired y (lowr y b) d e f (i ∙ sym j) (c ∙ sym c')

  new_in : (x : ℕ) → (x / 3 ≡ t) ⊎ ((x / 3 ≡ N) ⊎ (x / 3 ≡ N + 1)) → New S r D (inside_moves m t) x
  unfolding inside_moves D
  new_in x (inl s) = go (edge t x s)
    where
      go : Edge t x → New S r D (inside_moves m t) x
      go (e0 q) = moved (mv (3 * t) (3 * t)) here (sym q)
      go (e1 q) = subst (New S r D (inside_moves m t)) (sym q)
          (pairs (3 * t + 1) (3 * N + 2) (omega arith) (inr (let z : N ≤ (3 * N + 2) / 3 = omega arith in z)) p r_a.a1 r_b.a2 r_b.o2 r_a.d1 r_b.c2 r_a.c1)
      go (e2 q) = subst (New S r D (inside_moves m t)) (sym q)
          (pairs (3 * t + 2) (3 * (N + 1) + 1) (omega arith) (inr (let z : N ≤ (3 * (N + 1) + 1) / 3 = omega arith in z)) (m.org (3 * t)) r_a.a2
          r_c.a1 r_c.o1 r_a.d2 r_c.c1 r_a.c2)
  new_in x (inr (inl s)) = go (edge N x s)
    where
      go : Edge N x → New S r D (inside_moves m t) x
      go (e0 q) = moved (mv (3 * t + 1) (3 * N)) (there here) (sym q)
      go (e1 q) = subst (New S r D (inside_moves m t)) (sym q)
          (pairs (3 * N + 1) (3 * (N + 1) + 2) (omega arith) (inr (let z : N ≤ (3 * (N + 1) + 2) / 3 = omega arith in z)) p r_b.a1 r_c.a2 r_c.o2 r_b.d1 r_c.c2 r_b.c1)
      go (e2 q) = subst (New S r D (inside_moves m t)) (sym q) (pairs (3 * N + 2) (3 * t + 1) (omega arith) (inl (slot1 t)) (m.org (3 * t + 1)) r_b.a2 r_a.a1 r_a.o1 r_b.d2 r_a.c1 r_b.c2)
  new_in x (inr (inr s)) = go (edge (N + 1) x s)
    where
      go : Edge (N + 1) x → New S r D (inside_moves m t) x
      go (e0 q) = moved (mv (3 * t + 2) (3 * (N + 1))) (there (there here)) (sym q)
      go (e1 q) = subst (New S r D (inside_moves m t)) (sym q) (pairs (3 * (N + 1) + 1) (3 * t + 2) (omega arith) (inl (slot2 t)) p r_c.a1 r_a.a2 r_a.o2 r_c.d1 r_a.c2 r_c.c1)
      go (e2 q) = subst (New S r D (inside_moves m t)) (sym q)
          (pairs (3 * (N + 1) + 2) (3 * N + 1) (omega arith) (inr (let z : N ≤ (3 * N + 1) / 3 = omega arith in z)) (m.org (3 * t + 2)) r_c.a2
          r_b.a1 r_b.o1 r_c.d2 r_b.c1 r_c.c2)

  new_all : (x : ℕ) → x < 3 * r.tris → D (x / 3) → New S r D (inside_moves m t) x
  unfolding D
  new_all x b (inl s) = new_in x (inl s)
  new_all x b (inr q) = go (ℕ_discrete (x / 3) N)
    where
      low : x < 3 * (N + 2)
      low = rw tris' at b

      go : Dec (x / 3 ≡ N) → New S r D (inside_moves m t) x
      go (yes e) = new_in x (inr (inl e))
      go (no n) = new_in x (inr (inr (let k = low in let z : x / 3 ≡ N + 1 = omega arith in z)))

  dec : (s : ℕ) → Dec (D s)
  unfolding D
  dec s = go (ℕ_discrete s t) (dec_le N s)
    where
      go : Dec (s ≡ t) → Dec (N ≤ s) → Dec ((s ≡ t) ⊎ (N ≤ s))
      go (yes e) k = yes (inl e)
      go (no i) (yes e) = yes (inr e)
      go (no i) (no j) = no (λ d. elim d [ inl e ↦ i e | inr e ↦ j e ])

  surgery : Surgery S m r D (inside_moves m t)
  unfolding D
  surgery = record {
    dec = dec;
    off_in = λ x k b. (let j : ¬ (N ≤ x / 3) = λ q. k (inr q) in let z : x < 3 * N = omega arith in z);
    grow = rw tris' (let z : N ≤ N + 2 = omega arith in z);
    off_org = λ h k. (off h k).org;
    off_adj = λ h k. (off h k).adj;
    off_con = λ h k. (off h k).con;
    all_moved = all_moved;
    ren_at = ren_at;
    old_all = old_all;
    new_all = new_all;
  }

  pub inside_linked : Linked S (inside m t p)
  unfolding inside r
  inside_linked = sewn l surgery

  -- the corners after it
  pub inside_tris : (inside m t p).tris ≡ m.tris + 2
  unfolding inside after r
  inside_tris = tris'

  pub inside_t : Corner (inside m t p).org t (in_a m t p).v0 (in_a m t p).v1 (in_a m t p).v2
  unfolding inside after r
  inside_t = corner_of r t (in_a m t p) r_a

  pub inside_b : Corner (inside m t p).org m.tris (in_b m t p).v0 (in_b m t p).v1 (in_b m t p).v2
  unfolding inside after r
  inside_b = corner_of r N (in_b m t p) r_b

  pub inside_c : Corner (inside m t p).org (m.tris + 1) (in_c m t p).v0 (in_c m t p).v1 (in_c m t p).v2
  unfolding inside after r
  inside_c = corner_of r (N + 1) (in_c m t p) r_c

  pub inside_off : (x : ℕ) → x < 3 * m.tris → ¬ (x / 3 ≡ t) → (inside m t p).org x ≡ m.org x
  unfolding inside after r D
  inside_off x b i = (off x (λ d. elim d [ inl e ↦ i e | inr e ↦ absurd (let z : ⊥ = omega arith in z) ])).org

  pub inside_surgery : Surgery S m (inside_raw m t p) (OneMore t m.tris) (inside_moves m t)
  unfolding r D
  inside_surgery = surgery
