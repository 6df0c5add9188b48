-- A split of an inner edge, half-edge h from a to b and its partner g, at a point of it keeps a net linked: t = (a, b, c) becomes
-- (a, p, c) in slot t and (p, b, c), appended; n = (b, a, d) becomes (b, p, d) in slot n and (p, a, d), appended. Assumes nothing.
use mathlib.Core.Bool.{true}
use mathlib.Core.Logic.{◌⊎◌, inl, inr}
use mathlib.Core.Path.{◌≡◌, refl, sym, ap, ◌∙◌, subst}
use Prim.Native.Nat.{ℕ, suc, ◌+◌, ◌*◌, ◌/◌, ◌<◌, ◌≤◌}
use native.Mathlib.Decide.{ℕ_discrete, dec_le}
use native.Mathlib.Omega.{arith}
use lib.Dec.{eqb}
use Rattle.algebra.proofs.Sum.{eqb_no, eqb_yes}
use Rattle.plane.specs.Halfedges.{nxt}
use Rattle.nets.specs.Moves.{after, mv}
use Rattle.nets.specs.Nets.{Net, dst, Linked, prv}
use Rattle.nets.specs.Slots.{Rec, write, grow}
use Rattle.nets.specs.Steps.{edge_moves, edge_a, edge_b, edge_c, edge_e, edge_raw, edge_split}
use Rattle.nets.proofs.Flip.{Apart, outer_h, outer_g, two_slots}
use Rattle.nets.proofs.Net.{to}
use Rattle.nets.proofs.Slot.{slot0, slot1, slot2, nxt_slot, nxt_slot2, nxt_in, nxt_three, nxt_not, nxt_not2, Turn, it, one, two, turn, Edge, e0, e1, e2, edge}
use Rattle.nets.proofs.Surgery.{TwoMore, ren, All, here, there, Moved, New, moved, paired, Old, moves, gone, Surgery, sewn}
use Rattle.nets.proofs.Write.{Reads, Off, write_off, off_off, off_grow, reads_here, reads_there, reads_grow, Corner, corner_of}

module _ {S : ℕ → ℕ → Type 0} {m : Net} (l : Linked S m) (ap' : Apart m) (h g : ℕ) (hb : h < 3 * m.tris) (pair : m.adj h ≡ suc g) (cd : ¬ (m.org (prv h) ≡ m.org (prv g))) (p : ℕ) where
  abbrev N : ℕ
  N = m.tris

  abbrev t : ℕ
  t = h / 3

  abbrev n : ℕ
  n = g / 3

  D : ℕ → Type 0
  D s = (s ≡ t) ⊎ ((s ≡ n) ⊎ (N ≤ s))

  r : Net
  r = edge_raw m h g p

  tris' : r.tris ≡ N + 2
  unfolding r edge_raw grow write
  tris' = refl

  gb : g < 3 * N
  gb = l.low h g hb pair

  tn : ¬ (n ≡ t)
  tn = two_slots l ap' h g hb pair cd

  t_n : t < N
  t_n = omega arith

  n_n : n < N
  n_n = let k = gb in omega arith

  A : Rec
  A = edge_a m h g p

  B : Rec
  B = edge_b m h g p

  C : Rec
  C = edge_c m h g p

  E : Rec
  E = edge_e m h g p

  w1 : Net
  w1 = write m t A

  w2 : Net
  w2 = write w1 N B

  w3 : Net
  w3 = write w2 n C

  w4 : Net
  w4 = write w3 (N + 1) E

  r_a : Reads r t (edge_a m h g p)
  unfolding r edge_raw A B C E w1 w2 w3 w4
  r_a = reads_grow w4 2 t A (reads_there w3 (N + 1) t E A (let k = t_n in omega arith) (reads_there w2 n t C A (λ e. tn (sym e)) (reads_there w1 N t B A (let k = t_n in omega arith) (reads_here m t A))))

  r_b : Reads r N (edge_b m h g p)
  unfolding r edge_raw A B C E w1 w2 w3 w4
  r_b = reads_grow w4 2 N B (reads_there w3 (N + 1) N E B (omega arith) (reads_there w2 n N C B (let k = n_n in omega arith) (reads_here w1 N B)))

  r_c : Reads r n (edge_c m h g p)
  unfolding r edge_raw A B C E w1 w2 w3 w4
  r_c = reads_grow w4 2 n C (reads_there w3 (N + 1) n E C (let k = n_n in omega arith) (reads_here w2 n C))

  r_e : Reads r (N + 1) (edge_e m h g p)
  unfolding r edge_raw A B C E w1 w2 w3 w4
  r_e = reads_grow w4 2 (N + 1) E (reads_here w3 (N + 1) E)

  off : (x : ℕ) → ¬ D (x / 3) → Off r m x
  unfolding r edge_raw D A B C E w1 w2 w3 w4
  off x k =
      off_off r w4 m x (off_grow w4 2 x)
      (off_off w4 w3 m x (write_off w3 (N + 1) E x (λ e. k (inr (inr (let q : N ≤ x / 3 = omega arith in q)))))
      (off_off w3 w2 m x (write_off w2 n C x (λ e. k (inr (inl e))))
      (off_off w2 w1 m x (write_off w1 N B x (λ e. k (inr (inr (let q : N ≤ x / 3 = omega arith in q)))))
      (write_off m t A x (λ e. k (inl e))))))

  out_h : (x o : ℕ) → x < 3 * N → x / 3 ≡ t → ¬ (x ≡ h) → m.adj x ≡ suc o → ¬ D (o / 3)
  unfolding D
  out_h x o b s k e (inl q) = (outer_h l ap' h g hb pair cd x o b s k e).0 q
  out_h x o b s k e (inr (inl q)) = (outer_h l ap' h g hb pair cd x o b s k e).1 q
  out_h x o b s k e (inr (inr q)) = let z = l.low x o b e in omega arith

  out_g : (x o : ℕ) → x < 3 * N → x / 3 ≡ n → ¬ (x ≡ g) → m.adj x ≡ suc o → ¬ D (o / 3)
  unfolding D
  out_g x o b s k e (inl q) = (outer_g l ap' h g hb pair cd x o b s k e).0 q
  out_g x o b s k e (inr (inl q)) = (outer_g l ap' h g hb pair cd x o b s k e).1 q
  out_g x o b s k e (inr (inr q)) = let z = l.low x o b e in omega arith

  nh : nxt h < 3 * N
  nh = nxt_in h N hb

  ph : prv h < 3 * N
  ph = nxt_in (nxt h) N nh

  ng : nxt g < 3 * N
  ng = nxt_in g N gb

  pg : prv g < 3 * N
  pg = nxt_in (nxt g) N ng

  lowr : (x : ℕ) → x < 3 * (N + 2) → x < 3 * r.tris
  lowr x b = rw tris' b

  -- where a touched slot's half-edges are
  low_t : (s k : ℕ) → s < N → k < 3 → 3 * s + k < 3 * (N + 2)
  low_t s k b j = omega arith

  high : (s k : ℕ) → N ≤ s → N ≤ (3 * s + k) / 3
  high s k b = omega arith

  all_moved : All (Moved m r D) (edge_moves m h g)
  unfolding edge_moves D
  all_moved = (
    record {
      old_in = ph;
      new_in = lowr (3 * t + 2) (omega arith);
      old_d = inl (nxt_slot2 h);
      new_d = inl (slot2 t);
      adj_is = r_a.a2;
      org_is = r_a.o2;
      dst_is = r_a.d2 ∙ ap m.org (sym (nxt_three h));
      con_is = r_a.c2;
      out = λ o e. out_h (prv h) o ph (nxt_slot2 h) (nxt_not2 h) e;
    },
    (
      record {
        old_in = nh;
        new_in = lowr (3 * N + 1) (omega arith);
        old_d = inl (nxt_slot h);
        new_d = inr (inr (let q : N ≤ (3 * N + 1) / 3 = omega arith in q));
        adj_is = r_b.a1;
        org_is = r_b.o1;
        dst_is = r_b.d1;
        con_is = r_b.c1;
        out = λ o e. out_h (nxt h) o nh (nxt_slot h) (nxt_not h) e;
      },
      (
        record {
          old_in = pg;
          new_in = lowr (3 * n + 2) (let k = gb in omega arith);
          old_d = inr (inl (nxt_slot2 g));
          new_d = inr (inl (slot2 n));
          adj_is = r_c.a2;
          org_is = r_c.o2;
          dst_is = r_c.d2 ∙ sym (l.from h g hb pair) ∙ ap m.org (sym (nxt_three g));
          con_is = r_c.c2;
          out = λ o e. out_g (prv g) o pg (nxt_slot2 g) (nxt_not2 g) e;
        },
        (
          record {
            old_in = ng;
            new_in = lowr (3 * (N + 1) + 1) (omega arith);
            old_d = inr (inl (nxt_slot g));
            new_d = inr (inr (let q : N ≤ (3 * (N + 1) + 1) / 3 = omega arith in q));
            adj_is = r_e.a1;
            org_is = r_e.o1 ∙ sym (to l h g hb pair);
            dst_is = r_e.d1;
            con_is = r_e.c1;
            out = λ o e. out_g (nxt g) o ng (nxt_slot g) (nxt_not g) e;
          },
          tt,
        ),
      ),
    ),
  )

  en : (x y : ℕ) → x / 3 ≡ t → y / 3 ≡ n → ¬ (x ≡ y)
  en x y a b e = tn (sym b ∙ ap (λ (z : ℕ). z / 3) (sym e) ∙ a)

  self : (x : ℕ) → eqb x x ≡ true
  self x = eqb_yes x x refl

  ren_at : All (λ v. ren (edge_moves m h g) v.old ≡ v.new) (edge_moves m h g)
  unfolding edge_moves ren
  ren_at = (
    rw (self (prv h)),
    (
      rw (eqb_no (prv h) (nxt h) (nxt_not (nxt h)), self (nxt h)),
      (
        rw (eqb_no (prv h) (prv g) (en (prv h) (prv g) (nxt_slot2 h) (nxt_slot2 g)), eqb_no (nxt h) (prv g) (en (nxt h) (prv g) (nxt_slot h) (nxt_slot2 g)), self (prv g)),
        (
          rw (
            eqb_no (prv h) (nxt g) (en (prv h) (nxt g) (nxt_slot2 h) (nxt_slot g)),
            eqb_no (nxt h) (nxt g) (en (nxt h) (nxt g) (nxt_slot h) (nxt_slot g)),
            eqb_no (prv g) (nxt g) (nxt_not (nxt g)),
            self (nxt g),
          ),
          tt,
        ),
      ),
    ),
  )

  suc_inj : (a b : ℕ) → suc a ≡ suc b → a ≡ b
  suc_inj a b e = omega arith

  old_all : (x : ℕ) → x < 3 * N → D (x / 3) → Old m D (edge_moves m h g) x
  unfolding edge_moves D
  old_all x b (inr (inr q)) = absurd (let z : ⊥ = omega arith in z)
  old_all x b (inl s) = go (turn h x s)
    where
      go : Turn h x → Old m D (edge_moves m h g) x
      go (it q) = gone (λ o e. inr (inl (ap (λ (z : ℕ). z / 3) (suc_inj o g (sym e ∙ ap m.adj q ∙ pair)))))
      go (one q) = moves (mv (nxt h) (3 * N + 1)) (there here) (sym q)
      go (two q) = moves (mv (prv h) (3 * t + 2)) here (sym q)
  old_all x b (inr (inl s)) = go (turn g x s)
    where
      go : Turn g x → Old m D (edge_moves m h g) x
      go (it q) = gone (λ o e. inl (ap (λ (z : ℕ). z / 3) (suc_inj o h (sym e ∙ ap m.adj q ∙ l.back h g hb pair))))
      go (one q) = moves (mv (nxt g) (3 * (N + 1) + 1)) (there (there (there here))) (sym q)
      go (two q) = moves (mv (prv g) (3 * n + 2)) (there (there here)) (sym q)

  pairs : (x y : ℕ) → y < 3 * (N + 2) → D (y / 3) → (u c : ℕ) → r.adj x ≡ suc y → r.adj y ≡ suc x → r.org y ≡ u → dst r x ≡ u → r.con y ≡ c → r.con x ≡ c → New S r D (edge_moves m h g) x
  pairs x y b d u c e f i j k k' = paired y (lowr y b) d e f (i ∙ sym j) (k ∙ sym k')

  new_in : (x : ℕ) → (x / 3 ≡ t) ⊎ ((x / 3 ≡ n) ⊎ ((x / 3 ≡ N) ⊎ (x / 3 ≡ N + 1))) → New S r D (edge_moves m h g) x
  unfolding edge_moves D
  new_in x (inl s) = go (edge t x s)
    where
      go : Edge t x → New S r D (edge_moves m h g) x
      go (e0 q) = subst (New S r D (edge_moves m h g)) (sym q)
          (pairs (3 * t) (3 * (N + 1)) (omega arith) (inr (inr (let z : N ≤ 3 * (N + 1) / 3 = omega arith in z))) p (m.con h) r_a.a0 r_e.a0
          r_e.o0 r_a.d0 r_e.c0 r_a.c0)
      go (e1 q) = subst (New S r D (edge_moves m h g)) (sym q)
          (pairs (3 * t + 1) (3 * N + 2) (omega arith) (inr (inr (let z : N ≤ (3 * N + 2) / 3 = omega arith in z))) (m.org (prv h)) 0 r_a.a1
          r_b.a2 r_b.o2 r_a.d1 r_b.c2 r_a.c1)
      go (e2 q) = moved (mv (prv h) (3 * t + 2)) here (sym q)
  new_in x (inr (inl s)) = go (edge n x s)
    where
      go : Edge n x → New S r D (edge_moves m h g) x
      go (e0 q) = subst (New S r D (edge_moves m h g)) (sym q)
          (pairs (3 * n) (3 * N) (omega arith) (inr (inr (let z : N ≤ 3 * N / 3 = omega arith in z))) p (m.con h) r_c.a0 r_b.a0 r_b.o0 r_c.d0 r_b.c0 r_c.c0)
      go (e1 q) = subst (New S r D (edge_moves m h g)) (sym q)
          (pairs (3 * n + 1) (3 * (N + 1) + 2) (omega arith) (inr (inr (let z : N ≤ (3 * (N + 1) + 2) / 3 = omega arith in z))) (m.org (prv g)) 0
          r_c.a1 r_e.a2 r_e.o2 r_c.d1 r_e.c2 r_c.c1)
      go (e2 q) = moved (mv (prv g) (3 * n + 2)) (there (there here)) (sym q)
  new_in x (inr (inr (inl s))) = go (edge N x s)
    where
      go : Edge N x → New S r D (edge_moves m h g) x
      go (e0 q) = subst (New S r D (edge_moves m h g)) (sym q)
          (pairs (3 * N) (3 * n) (let k = n_n in omega arith) (inr (inl (slot0 n))) (m.org (nxt h)) (m.con h) r_b.a0 r_c.a0 r_c.o0 r_b.d0 r_c.c0 r_b.c0)
      go (e1 q) = moved (mv (nxt h) (3 * N + 1)) (there here) (sym q)
      go (e2 q) = subst (New S r D (edge_moves m h g)) (sym q) (pairs (3 * N + 2) (3 * t + 1) (omega arith) (inl (slot1 t)) p 0 r_b.a2 r_a.a1 r_a.o1 r_b.d2 r_a.c1 r_b.c2)
  new_in x (inr (inr (inr s))) = go (edge (N + 1) x s)
    where
      go : Edge (N + 1) x → New S r D (edge_moves m h g) x
      go (e0 q) = subst (New S r D (edge_moves m h g)) (sym q) (pairs (3 * (N + 1)) (3 * t) (omega arith) (inl (slot0 t)) (m.org h) (m.con h) r_e.a0 r_a.a0 r_a.o0 r_e.d0 r_a.c0 r_e.c0)
      go (e1 q) = moved (mv (nxt g) (3 * (N + 1) + 1)) (there (there (there here))) (sym q)
      go (e2 q) = subst (New S r D (edge_moves m h g)) (sym q)
          (pairs (3 * (N + 1) + 2) (3 * n + 1) (let k = n_n in omega arith) (inr (inl (slot1 n))) p 0 r_e.a2 r_c.a1 r_c.o1 r_e.d2 r_c.c1 r_e.c2)

  new_all : (x : ℕ) → x < 3 * r.tris → D (x / 3) → New S r D (edge_moves m h g) x
  unfolding D
  new_all x b (inl s) = new_in x (inl s)
  new_all x b (inr (inl s)) = new_in x (inr (inl s))
  new_all x b (inr (inr q)) = go (ℕ_discrete (x / 3) N)
    where
      low : x < 3 * (N + 2)
      low = rw tris' at b

      go : Dec (x / 3 ≡ N) → New S r D (edge_moves m h g) x
      go (yes e) = new_in x (inr (inr (inl e)))
      go (no k) = new_in x (inr (inr (inr (let j = low in let z : x / 3 ≡ N + 1 = omega arith in z))))

  dec : (s : ℕ) → Dec (D s)
  unfolding D
  dec s = go (ℕ_discrete s t) (ℕ_discrete s n) (dec_le N s)
    where
      go : Dec (s ≡ t) → Dec (s ≡ n) → Dec (N ≤ s) → Dec ((s ≡ t) ⊎ ((s ≡ n) ⊎ (N ≤ s)))
      go (yes e) u k = yes (inl e)
      go (no i) (yes e) k = yes (inr (inl e))
      go (no i) (no u) (yes e) = yes (inr (inr e))
      go (no i) (no u) (no j) = no (λ d. elim d [ inl e ↦ i e | inr d' ↦ elim d' [ inl e ↦ u e | inr e ↦ j e ] ])

  surgery : Surgery S m r D (edge_moves m h g)
  unfolding D
  surgery = record {
    dec = dec;
    off_in = λ x k b. (let j : ¬ (N ≤ x / 3) = λ q. k (inr (inr q)) in let z : x < 3 * N = omega arith in z);
    grow = rw tris' (let z : N ≤ N + 2 = omega arith in z);
    off_org = λ x k. (off x k).org;
    off_adj = λ x k. (off x k).adj;
    off_con = λ x k. (off x k).con;
    all_moved = all_moved;
    ren_at = ren_at;
    old_all = old_all;
    new_all = new_all;
  }

  pub edge_linked : Linked S (edge_split m h g p)
  unfolding edge_split r
  edge_linked = sewn l surgery

  -- the corners after it
  pub edge_tris : (edge_split m h g p).tris ≡ m.tris + 2
  unfolding edge_split after r
  edge_tris = tris'

  pub edge_t : Corner (edge_split m h g p).org t (edge_a m h g p).v0 (edge_a m h g p).v1 (edge_a m h g p).v2
  unfolding edge_split after r
  edge_t = corner_of r t (edge_a m h g p) r_a

  pub edge_b_lem : Corner (edge_split m h g p).org m.tris (edge_b m h g p).v0 (edge_b m h g p).v1 (edge_b m h g p).v2
  unfolding edge_split after r
  edge_b_lem = corner_of r N (edge_b m h g p) r_b

  pub edge_n : Corner (edge_split m h g p).org n (edge_c m h g p).v0 (edge_c m h g p).v1 (edge_c m h g p).v2
  unfolding edge_split after r
  edge_n = corner_of r n (edge_c m h g p) r_c

  pub edge_e_lem : Corner (edge_split m h g p).org (m.tris + 1) (edge_e m h g p).v0 (edge_e m h g p).v1 (edge_e m h g p).v2
  unfolding edge_split after r
  edge_e_lem = corner_of r (N + 1) (edge_e m h g p) r_e

  pub edge_off : (x : ℕ) → x < 3 * m.tris → ¬ (x / 3 ≡ t) → ¬ (x / 3 ≡ n) → (edge_split m h g p).org x ≡ m.org x
  unfolding edge_split after r D
  edge_off x b i j = (off x (λ d. elim d [ inl e ↦ i e | inr d' ↦ elim d' [ inl e ↦ j e | inr e ↦ absurd (let z : ⊥ = omega arith in z) ] ])).org

  pub edge_surgery : Surgery S m (edge_raw m h g p) (TwoMore (h / 3) (g / 3) m.tris) (edge_moves m h g)
  unfolding r D
  edge_surgery = surgery
