-- A split of a half-edge h along the base at a point of it keeps a net linked: t = (a, b, c) becomes (a, p, c) in slot t and (p, b, c),
-- appended. Assumes nothing.
use mathlib.Core.Bool.{true}
use mathlib.Core.Logic.{◌⊎◌, inl, inr}
use mathlib.Core.Path.{◌≡◌, refl, sym, ap, ◌∙◌, subst}
use Prim.Native.Nat.{ℕ, suc, ◌+◌, ◌*◌, ◌/◌, ◌<◌, ◌≤◌}
use native.Mathlib.Decide.{ℕ_discrete, dec_le}
use native.Mathlib.Omega.{arith}
use lib.Dec.{eqb}
use Rattle.algebra.proofs.Sum.{eqb_no, eqb_yes}
use Rattle.plane.specs.Halfedges.{nxt}
use Rattle.nets.specs.Moves.{after, mv}
use Rattle.nets.specs.Nets.{Net, dst, Linked, prv}
use Rattle.nets.specs.Slots.{write, grow}
use Rattle.nets.specs.Steps.{side_moves, side_a, side_b, side_raw, side_split}
use Rattle.nets.proofs.Flip.{Apart, same_slot}
use Rattle.nets.proofs.Slot.{slot1, slot2, nxt_slot, nxt_slot2, nxt_in, nxt_three, nxt_not, Turn, it, one, two, turn, Edge, e0, e1, e2, edge}
use Rattle.nets.proofs.Surgery.{OneMore, ren, All, here, there, Moved, New, moved, paired, bare, Old, moves, gone, Surgery, sewn}
use Rattle.nets.proofs.Write.{Reads, Off, write_off, off_off, off_grow, reads_here, reads_there, reads_grow, Corner, corner_of}

module _ {S : ℕ → ℕ → Type 0} {m : Net} (l : Linked S m) (ap' : Apart m) (h p : ℕ) (hb : h < 3 * m.tris) (lone : m.adj h ≡ 0) (ap-side : S (m.org h) p) (pb-side : S p (m.org (nxt h))) where
  abbrev N : ℕ
  N = m.tris

  abbrev t : ℕ
  t = h / 3

  D : ℕ → Type 0
  D s = (s ≡ t) ⊎ (N ≤ s)

  r : Net
  r = side_raw m h p

  tris' : r.tris ≡ N + 1
  unfolding r side_raw grow write
  tris' = refl

  t_n : ¬ (t ≡ N)
  t_n = omega arith

  r_a : Reads r t (side_a m h p)
  unfolding r side_raw
  r_a = reads_grow (write (write m t (side_a m h p)) N (side_b m h p)) 1 t (side_a m h p) (reads_there (write m t (side_a m h p)) N t (side_b m h p) (side_a m h p) t_n (reads_here m t (side_a m h p)))

  r_b : Reads r N (side_b m h p)
  unfolding r side_raw
  r_b = reads_grow (write (write m t (side_a m h p)) N (side_b m h p)) 1 N (side_b m h p) (reads_here (write m t (side_a m h p)) N (side_b m h p))

  off : (x : ℕ) → ¬ D (x / 3) → Off r m x
  unfolding r side_raw D
  off x k =
      off_off r w2 m x (off_grow w2 1 x)
      (off_off w2 w1 m x (write_off w1 N (side_b m h p) x (λ e. k (inr (let q : N ≤ x / 3 = omega arith in q))))
      (write_off m t (side_a m h p) x (λ e. k (inl e))))
    where
      w1 : Net
      w1 = write m t (side_a m h p)

      w2 : Net
      w2 = write w1 N (side_b m h p)

  out : (x o : ℕ) → x < 3 * N → x / 3 ≡ t → m.adj x ≡ suc o → ¬ D (o / 3)
  unfolding D
  out x o b s e (inl q) = same_slot l ap' x o b e (q ∙ sym s)
  out x o b s e (inr q) = let k = l.low x o b e in omega arith

  nb : nxt h < 3 * N
  nb = nxt_in h N hb

  pb : prv h < 3 * N
  pb = nxt_in (nxt h) N nb

  lowr : (x : ℕ) → x < 3 * (N + 1) → x < 3 * r.tris
  lowr x b = rw tris' b

  all_moved : All (Moved m r D) (side_moves m h)
  unfolding side_moves D
  all_moved = (
    record {
      old_in = pb;
      new_in = lowr (3 * t + 2) (omega arith);
      old_d = inl (nxt_slot2 h);
      new_d = inl (slot2 t);
      adj_is = r_a.a2;
      org_is = r_a.o2;
      dst_is = r_a.d2 ∙ ap m.org (sym (nxt_three h));
      con_is = r_a.c2;
      out = λ o e. out (prv h) o pb (nxt_slot2 h) e;
    },
    (
      record {
        old_in = nb;
        new_in = lowr (3 * N + 1) (omega arith);
        old_d = inl (nxt_slot h);
        new_d = inr (let q : N ≤ (3 * N + 1) / 3 = omega arith in q);
        adj_is = r_b.a1;
        org_is = r_b.o1;
        dst_is = r_b.d1;
        con_is = r_b.c1;
        out = λ o e. out (nxt h) o nb (nxt_slot h) e;
      },
      tt,
    ),
  )

  self : (x : ℕ) → eqb x x ≡ true
  self x = eqb_yes x x refl

  ren_at : All (λ v. ren (side_moves m h) v.old ≡ v.new) (side_moves m h)
  unfolding side_moves ren
  ren_at = (rw (self (prv h)), (rw (eqb_no (prv h) (nxt h) (nxt_not (nxt h)), self (nxt h)), tt))

  no_suc : {X : Type 0} (a : ℕ) → 0 ≡ suc a → X
  no_suc a e = absurd (let z : ◌≡◌ {A = ℕ} 0 (suc a) = e in let f : ⊥ = omega arith in f)

  old_all : (x : ℕ) → x < 3 * N → D (x / 3) → Old m D (side_moves m h) x
  unfolding side_moves D
  old_all x b (inr q) = absurd (let z : ⊥ = omega arith in z)
  old_all x b (inl s) = go (turn h x s)
    where
      go : Turn h x → Old m D (side_moves m h) x
      go (it q) = gone (λ o e. no_suc o (sym lone ∙ sym (ap m.adj q) ∙ e))
      go (one q) = moves (mv (nxt h) (3 * N + 1)) (there here) (sym q)
      go (two q) = moves (mv (prv h) (3 * t + 2)) here (sym q)

  both : (x u v : ℕ) → r.org x ≡ u → dst r x ≡ v → S u v → S (r.org x) (dst r x)
  both x u v e f s = subst (λ (y : ℕ). S y (dst r x)) (sym e) (subst (λ (y : ℕ). S u y) (sym f) s)

  new_in : (x : ℕ) → (x / 3 ≡ t) ⊎ (x / 3 ≡ N) → New S r D (side_moves m h) x
  unfolding side_moves D
  new_in x (inl s) = go (edge t x s)
    where
      go : Edge t x → New S r D (side_moves m h) x
      go (e0 q) = subst (New S r D (side_moves m h)) (sym q) (bare r_a.a0 (both (3 * t) (m.org h) p r_a.o0 r_a.d0 ap-side))
      go (e1 q) = subst (New S r D (side_moves m h)) (sym q) (paired (3 * N + 2) (lowr (3 * N + 2) (omega arith))
          (inr (let z : N ≤ (3 * N + 2) / 3 = omega arith in z)) r_a.a1 r_b.a2 (r_b.o2 ∙ sym r_a.d1) (r_b.c2 ∙ sym r_a.c1))
      go (e2 q) = moved (mv (prv h) (3 * t + 2)) here (sym q)
  new_in x (inr s) = go (edge N x s)
    where
      go : Edge N x → New S r D (side_moves m h) x
      go (e0 q) = subst (New S r D (side_moves m h)) (sym q) (bare r_b.a0 (both (3 * N) p (m.org (nxt h)) r_b.o0 r_b.d0 pb-side))
      go (e1 q) = moved (mv (nxt h) (3 * N + 1)) (there here) (sym q)
      go (e2 q) = subst (New S r D (side_moves m h)) (sym q) (paired (3 * t + 1) (lowr (3 * t + 1) (omega arith)) (inl (slot1 t)) r_b.a2 r_a.a1 (r_a.o1 ∙ sym r_b.d2) (r_a.c1 ∙ sym r_b.c2))

  new_all : (x : ℕ) → x < 3 * r.tris → D (x / 3) → New S r D (side_moves m h) x
  unfolding D
  new_all x b (inl s) = new_in x (inl s)
  new_all x b (inr q) = new_in x (inr (let k = low in let z : x / 3 ≡ N = omega arith in z))
    where
      low : x < 3 * (N + 1)
      low = rw tris' at b

  dec : (s : ℕ) → Dec (D s)
  unfolding D
  dec s = go (ℕ_discrete s t) (dec_le N s)
    where
      go : Dec (s ≡ t) → Dec (N ≤ s) → Dec ((s ≡ t) ⊎ (N ≤ s))
      go (yes e) k = yes (inl e)
      go (no i) (yes e) = yes (inr e)
      go (no i) (no j) = no (λ d. elim d [ inl e ↦ i e | inr e ↦ j e ])

  surgery : Surgery S m r D (side_moves m h)
  unfolding D
  surgery = record {
    dec = dec;
    off_in = λ x k b. (let j : ¬ (N ≤ x / 3) = λ q. k (inr q) in let z : x < 3 * N = omega arith in z);
    grow = rw tris' (let z : N ≤ N + 1 = omega arith in z);
    off_org = λ x k. (off x k).org;
    off_adj = λ x k. (off x k).adj;
    off_con = λ x k. (off x k).con;
    all_moved = all_moved;
    ren_at = ren_at;
    old_all = old_all;
    new_all = new_all;
  }

  pub side_linked : Linked S (side_split m h p)
  unfolding side_split r
  side_linked = sewn l surgery

  -- the corners after it
  pub side_tris : (side_split m h p).tris ≡ m.tris + 1
  unfolding side_split after r
  side_tris = tris'

  pub side_t : Corner (side_split m h p).org t (side_a m h p).v0 (side_a m h p).v1 (side_a m h p).v2
  unfolding side_split after r
  side_t = corner_of r t (side_a m h p) r_a

  pub side_b_lem : Corner (side_split m h p).org m.tris (side_b m h p).v0 (side_b m h p).v1 (side_b m h p).v2
  unfolding side_split after r
  side_b_lem = corner_of r N (side_b m h p) r_b

  pub side_off : (x : ℕ) → x < 3 * m.tris → ¬ (x / 3 ≡ t) → (side_split m h p).org x ≡ m.org x
  unfolding side_split after r D
  side_off x b i = (off x (λ d. elim d [ inl e ↦ i e | inr e ↦ absurd (let z : ⊥ = omega arith in z) ])).org

  pub side_surgery : Surgery S m (side_raw m h p) (OneMore (h / 3) m.tris) (side_moves m h)
  unfolding r D
  side_surgery = surgery
